-- The core that has the name of the slice's leader is found.
use Rattle.std.proofs.Common.{◌≡◌, ◌∙◌, ℕ, map, true, Contains, sym, ap, subst}
use Rattle.std.proofs.lemmas.List.Elements.{All-contains}
use Rattle.std.proofs.lemmas.Option.{slice_get_within}
use Rattle.sc_record.specs.Names.{is_key, key_of_core, is_core}
use Rattle.sc_record.specs.declared.slice.SliceId.{SliceId}
use Rattle.sc_cluster.specs.declared.slice.Slice.{Slice}
use Rattle.sc_replica.specs.Cells.{CellsState}
use Rattle.sc_replicas.specs.Cores.{core_key}
use Rattle.sc_replicas.proofs.CoreLemmas.{AreApart-from_ascending, leader_is_found}
use Rattle.sc_bucket.proofs.DeliverLemmas.{place_of_core, named_at}
use Rattle.sc_bucket.proofs.ServingLemmas.{cells_are}
use Rattle.sc_bucket.proofs.bucket.Bucket.cells_of_leader.Goals as goal

pub unwrap-leader-requires : goal.unwrap-leader-requires
unwrap-leader-requires c =
    let b = c.args.self.now in
    let slice = c.args.slice.now in
    leader_is_found b.replicas slice.id c.leader.result c.position.result
    (All-contains (λ (one : Slice). Contains (map core_key b.replicas) (one.id.0, 1)) b.map slice c.requires.sound.cores.leaders c.requires.there)
    (sym c.leader.ensures.slice) c.leader.ensures.first c.position.ensures

pub get-requires : goal.get-requires
get-requires c =
    let cores = c.args.self.now.replicas in
    let (core, there, named) = place_of_core cores c.leader.result c.position.result c.unwrap-leader.result c.position.ensures c.unwrap-leader.ensures in
    slice_get_within cores c.unwrap-leader.result core there

pub returns : goal.returns
returns c =
    let b = c.args.self.now in
    let slice = c.args.slice.now in
    let core = c.get.result.now in
    let (other, there, named) = place_of_core b.replicas c.leader.result c.position.result c.unwrap-leader.result c.position.ensures c.unwrap-leader.ensures in
    let found : is_core c.leader.result core.core ≡ true =
    named_at b.replicas c.leader.result c.unwrap-leader.result core other c.get.ensures there named in
    let key : key_of_core c.leader.result ≡ (slice.id.0, 1) =
    ap (λ (id : SliceId). (id.0, c.leader.result.replica)) c.leader.ensures.slice ∙ ap (λ (n : ℕ). (slice.id.0, n)) c.leader.ensures.first in
    ap (λ (cells : CellsState). cells.writes) c.cells.ensures.value
    ∙ sym (cells_are b.replicas slice c.unwrap-leader.result core (AreApart-from_ascending b.replicas c.requires.sound.cores.ascend) c.get.ensures
    (subst (λ (name : ℕ × ℕ). is_key name (core_key core) ≡ true) key found))
