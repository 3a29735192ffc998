-- The parent has a searcher, whose snapshot has its leader's cells.
use Rattle.std.proofs.Common.{◌≡◌, ◌∙◌, ℕ, List, length, map, All, Contains, sym, ap, subst}
use Rattle.std.specs.Arc.{arc_value}
use Rattle.std.proofs.lemmas.List.Elements.{All-contains}
use Rattle.sc_record.specs.declared.slice.SliceId.{SliceId}
use Rattle.sc_record.specs.declared.slice.SubSlice.{SubSlice}
use Rattle.sc_snapshot.specs.Rows.{SnapshotState}
use Rattle.sc_cluster.specs.declared.slice.Slice.{Slice}
use Rattle.sc_cluster.specs.Plans.{IsPlan}
use Rattle.sc_cluster.specs.Changes.{Change, after}
use Rattle.sc_replica.specs.Core.{Core}
use Rattle.sc_bucket.specs.Kept.{FeedState}
use Rattle.sc_replicas.specs.Cores.{IsLeaderOf}
use Rattle.sc_bucket.specs.Searchers.{AreOfEachSlice, IsTaken, AreTaken}
use Rattle.sc_replicas.specs.declared.standing.Standing.{Standing}
use Rattle.sc_replicas.proofs.StandingLemmas.{slice_of}
use Rattle.sc_bucket.proofs.TakenLemmas.{has_searcher}
use Rattle.sc_handover.specs.Made.{first_feed}
use Rattle.sc_handover.proofs.MadeLemmas.{made_core}
use Rattle.sc_handover.proofs.beginning.prepare.Goals as goal

-- the parent of a plan has a searcher
parent_is_searched : (slices : List Slice) (parent : SliceId) (subs : List SubSlice) (searchers : List Standing)
    → IsPlan slices parent subs → AreOfEachSlice slices searchers → Contains (map slice_of searchers) parent
parent_is_searched slices parent subs searchers plan each =
    let cut = plan.cut.1 in
    subst (Contains (map slice_of searchers)) cut.named
    (has_searcher slices searchers plan.cut.0 each cut.there cut.active)

-- the snapshot of a searcher that was taken of a slice has the cells of the slice's leader
fed_from_leader : (slices : List Slice) (cores : List Core) (place : ℕ) (searchers : List Standing) (parent : SliceId)
    (snapshot : SnapshotState) (subs others : List SubSlice) (feeds : List FeedState)
    → All (IsTaken slices cores place) searchers
    → (searcher : Standing) × Contains searchers searcher × (searcher.slice ≡ parent)
    × (snapshot ≡ arc_value searcher.snapshot)
    → feeds ≡ map (first_feed snapshot) subs → subs ≡ others
    → (leader : Core) × Contains cores leader × IsLeaderOf parent leader
    × (feeds ≡ map (first_feed (record { place = place; rows = leader.cells })) others)
fed_from_leader slices cores place searchers parent snapshot subs others feeds taken
    (searcher, there, of_parent, same) are same_subs =
    let is = All-contains (IsTaken slices cores place) searchers searcher taken there in (
      is.core,
      is.core_there,
      (is.leader.0 ∙ sym is.slice_is ∙ of_parent, is.leader.1),
      are ∙ ap (λ (s : SnapshotState). map (first_feed s) subs) (same ∙ is.snapshot_is)
          ∙ ap (map (first_feed (record { place = place; rows = is.core.cells }))) same_subs,
    )

pub snapshot_of-requires : goal.snapshot_of-requires
snapshot_of-requires c =
    parent_is_searched c.args.bucket.now.map c.args.plan.now.parent c.args.plan.now.subs c.in_ok-searchers.searchers
    c.requires.can.plan c.in_ok-searchers.ensures.each_slice

pub hand_on-requires : goal.hand_on-requires
hand_on-requires c =
    parent_is_searched c.args.bucket.now.map c.args.plan.now.parent c.args.plan.now.subs c.in_ok-searchers.searchers
    c.requires.can.plan c.in_ok-searchers.ensures.each_slice

pub returns-clause-prepared : goal.returns-clause-prepared
returns-clause-prepared c =
    let b = c.args.bucket.now in
    let plan = c.args.plan.now in
    let same : c.as_slice.result.now ≡ c.in_ok-subs.subs = c.as_slice.ensures ∙ sym c.in_ok-subs.ensures in
    let taken : AreTaken b.map b.replicas (length b.journal.entries) c.in_ok-searchers.searchers =
    c.in_ok-searchers.ensures in
    let (leader, there, is, feeds) =
    fed_from_leader b.map b.replicas _ c.in_ok-searchers.searchers plan.parent (arc_value c.in_ok-snapshot.snapshot)
    c.as_slice.result.now c.in_ok-subs.subs c.in_ok-cores.feeds.items taken.taken c.in_ok-snapshot.ensures
    c.in_ok-cores.ensures.feeds same in
    record {
      slices_are = c.in_ok-begin.ensures.ok
          ∙ ap (λ (slices : List Slice). after slices (Change.Begun plan.parent plan.subs)) c.in_ok-slices.ensures
          ∙ ap (λ (subs : List SubSlice). after b.map (Change.Begun plan.parent subs)) (sym c.in_ok-subs.ensures);
      cores_are = c.in_ok-cores.ensures.cores ∙ ap (map made_core) same;
      leader = leader;
      leader_there = there;
      leader_is = is;
      feeds_are = feeds;
      roomy = c.in_ok-cores.ensures.roomy;
      taken = taken;
      handed = c.in_ok-spares.ensures;
    }
