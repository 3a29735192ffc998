-- The core is there, and so is its slice; its number is that of the core in its seat.
use Rattle.std.proofs.Common.{◌∙◌, ◌≤◌, ℕ, IsTrue, sym, ap, subst}
use Rattle.std.proofs.lemmas.Option.{slice_get_within}
use Rattle.sc_cluster.specs.Slices.{node_of}
use Rattle.sc_replicas.proofs.CoreLemmas.{core_is_found}
use Rattle.sc_bucket.proofs.DeliverLemmas.{place_of_core, named_at}
use Rattle.sc_bucket.proofs.TargetLemmas.{IsSliceFound, slice_is_found, number_from_one, node_by_seat, detached_where}
use Rattle.sc_bucket.proofs.bucket.Bucket.target.Goals as goal

pub unwrap-slice-requires : goal.unwrap-slice-requires
unwrap-slice-requires c =
    slice_is_found c.args.self.now c.args.core c.by_id.result c.requires.sound c.requires.there c.by_id.ensures.slice

pub unwrap-requires : goal.unwrap-requires
unwrap-requires c =
    core_is_found c.args.self.now.replicas c.args.core c.position.result c.requires.there c.position.ensures

pub get-replica-requires : goal.get-replica-requires
get-replica-requires c =
    let cores = c.args.self.now.replicas in
    let (core, there, named) = place_of_core cores c.args.core c.position.result c.unwrap.result c.position.ensures c.unwrap.ensures in
    slice_get_within cores c.unwrap.result core there

pub node_of-requires-clause-replica : goal.node_of-requires-clause-replica
node_of-requires-clause-replica c =
    subst (λ (n : ℕ). 1 ≤ n) (sym c.number.ensures.value)
    (number_from_one c.args.self.now c.unwrap.result c.get-replica.result.now c.requires.sound c.get-replica.ensures)

pub returns-clause-node : goal.returns-clause-node
returns-clause-node c =
    let b = c.args.self.now in
    let core = c.get-replica.result.now in
    let (other, there, named) = place_of_core b.replicas c.args.core c.position.result c.unwrap.result c.position.ensures c.unwrap.ensures in
    let (inside, own) = subst (IsSliceFound b.map c.args.core.slice) c.unwrap-slice.ensures c.by_id.ensures.slice in
    let slice = c.unwrap-slice.result.now in
    node_by_seat b c.args.core slice c.unwrap.result core c.args.nodes c.node_of.result c.requires.sound inside own c.get-replica.ensures
    (named_at b.replicas c.args.core c.unwrap.result core other c.get-replica.ensures there named)
    (c.node_of.ensures.node ∙ ap (λ (n : ℕ). node_of slice.node n c.args.nodes) c.number.ensures.value)

pub returns-clause-follows : goal.returns-clause-follows
returns-clause-follows c =
    let b = c.args.self.now in
    let (inside, own) = subst (IsSliceFound b.map c.args.core.slice) c.unwrap-slice.ensures c.by_id.ensures.slice in
    detached_where b c.args.core c.unwrap-slice.result.now (IsTrue c.may_be_down.result) c.requires.sound inside own c.requires.up
    c.may_be_down.ensures
