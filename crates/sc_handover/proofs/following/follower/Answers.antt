-- The leader and the slice are found, and the leader's cells may be rows.
use Rattle.std.proofs.Common.{◌∙◌, sym, ap, subst, arith}
use Rattle.std.proofs.lemmas.List.Elements.{All-contains}
use Rattle.std.proofs.lemmas.Option.{slice_get_within}
use Rattle.sc_cluster.specs.declared.slice.Slice.{Slice}
use Rattle.sc_snapshot.specs.Rows.{AreRows}
use Rattle.sc_replica.specs.Cells.{CellsState}
use Rattle.sc_replica.specs.Core.{Core}
use Rattle.sc_bucket.proofs.CommitLemmas.{AreRows-sound}
use Rattle.sc_bucket.proofs.DeliverLemmas.{place_of_core}
use Rattle.sc_handover.proofs.FollowerLemmas.{leader_of_slice_is_found, leader_of_slice_is, found_slice, taken_now, IsMade-fed}
use Rattle.sc_handover.proofs.following.follower.Goals as goal

pub unwrap-at-requires : goal.unwrap-at-requires
unwrap-at-requires c =
    leader_of_slice_is_found c.args.bucket.now c.args.core c.args.leader c.requires.can.0 c.position.result c.requires.sound
    c.requires.can.1 c.requires.leads c.position.ensures

pub get-requires : goal.get-requires
get-requires c =
    let b = c.args.bucket.now in
    let (core, there, named) = place_of_core b.replicas c.args.leader c.position.result c.unwrap-at.result c.position.ensures c.unwrap-at.ensures in
    slice_get_within b.replicas c.unwrap-at.result core there

pub from_list-requires : goal.from_list-requires
from_list-requires c =
    let b = c.args.bucket.now in
    let core = c.get.result.now in
    let there = (leader_of_slice_is b c.args.core c.args.leader c.requires.can.0 c.position.result c.unwrap-at.result core c.requires.can.1
    c.requires.leads c.position.ensures c.unwrap-at.ensures c.get.ensures).0 in
    let rows = All-contains (λ (one : Core). AreRows one.cells) b.replicas core (AreRows-sound b c.requires.sound) there in
    subst AreRows (sym (c.in_ok-cells.ensures.cells ∙ ap (λ (cells : CellsState). cells.writes) c.cells.ensures.value)) rows

pub returns : goal.returns
returns c =
    let b = c.args.bucket.now in
    let name = c.args.core in
    let core = c.get.result.now in
    IsMade-fed c.empty_fed.result b name _ _ c.empty_fed.ensures.core c.empty_fed.ensures.feed c.empty_fed.ensures.roomy (λ slice can.
    let leads = leader_of_slice_is b name c.args.leader slice c.position.result c.unwrap-at.result core can c.requires.leads c.position.ensures
    c.unwrap-at.ensures c.get.ensures in
    record {
      counted = omega arith;
      leader = core;
      leader_there = leads.0;
      leader_is = leads.1;
      last = can.led core leads.0 leads.1;
      snapshot_is = taken_now b core _ _ _ (c.in_ok-new.ensures.ok ∙ c.in_ok-snapshot.ensures) c.entries.ensures.count
          (c.in_ok-cells.ensures.cells ∙ ap (λ (cells : CellsState). cells.writes) c.cells.ensures.value);
      range_is = ap (λ (s : Slice). s.range) (found_slice b name slice c.by_id.result c.unwrap.result c.requires.sound can c.by_id.ensures.slice c.unwrap.ensures);
    })
