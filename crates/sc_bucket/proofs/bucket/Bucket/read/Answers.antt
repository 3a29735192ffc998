-- The leader that serves the id's hash has its last write.
use Rattle.std.proofs.Common.{◌∙◌, ap, arith}
use Rattle.std.specs.Int.{w32}
use Rattle.std.specs.Int.RustNames.{FitsSigned}
use Rattle.std.proofs.lemmas.Int.{to_z-of_z, ints}
use Rattle.sc_router.specs.Route.{route_hash}
use Rattle.sc_bucket.proofs.SoundLemmas.{leader_reads}
use Rattle.sc_bucket.proofs.bucket.Bucket.read.Goals as goal

pub returns : goal.returns
returns c =
    let b = c.args.self.now in
    let inv = c.route_hash.type_inv in
    let fits : FitsSigned w32 c.route_hash.result = grind (arith, ints) in
    let leader = simp to_z-of_z at c.leader-leader.ensures.leader in
    c.cell.ensures.value
    ∙ leader_reads b c.route_hash.result c.leader-leader.result c.get.result.now c.args.id.now c.requires leader c.get.ensures
    (c.route_hash.ensures ∙ ap route_hash c.as_str.ensures.value)
