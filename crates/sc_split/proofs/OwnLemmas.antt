-- One's own split is the one that runs on the board, and the entries that may come there next.
use Rattle.std.proofs.Common.{◌≡◌, ◌≤◌, Bool, true, false, List, [], ◌∷◌, ◌++◌, length, map, Some, sym, ap, ◌∙◌, subst, All, Contains}
use Rattle.std.proofs.lemmas.List.Elements.{All-contains, Contains-append_left}
use Rattle.sc_record.specs.declared.slice.SliceId.{SliceId}
use Rattle.sc_record.specs.declared.slice.SubSlice.{SubSlice}
use Rattle.sc_cluster.specs.declared.slice.Slice.{Slice}
use Rattle.sc_cluster.specs.declared.plan.SplitPlan.{SplitPlan}
use Rattle.sc_cluster.specs.Slices.{greatest_id}
use Rattle.sc_cluster.specs.Map.{IsSubOf}
use Rattle.sc_cluster.specs.Plans.{IsPlan}
use Rattle.sc_cluster.specs.Changes.{Change, MayChange, IsBeingSplit, after, begun_slice}
use Rattle.sc_cluster.proofs.IdLemmas.{id_of, greatest_id-bounds}
use Rattle.sc_cluster.proofs.StateLemmas.{forming-begun}
use Rattle.sc_cluster.proofs.SplitLemmas.{TileRangeOf, begun_are_subs, begun_tile}
use Rattle.sc_cluster.proofs.BegunLemmas.{All-forming_begun}
use Rattle.sc_journal.proofs.ListLemmas.{append-cons}
use Rattle.sc_seen.specs.declared.board.BoardEntry.{BoardEntry}
use Rattle.sc_seen.specs.declared.board.BoardEntry.TheVariants as board
use Rattle.sc_seen.specs.Board.{board_map, running_split, MayNote, IsLegalBoard}
use Rattle.sc_seen.specs.Seen.{Layout, Seen, AreLegal}
use Rattle.sc_seen.proofs.BoardLemmas.{board_map-push, running_split-push, MayNote_end, may_go_on_recovered}
use Rattle.sc_collection.specs.Desks.{OwnsSplit}
use Rattle.sc_split.specs.Driving.{recovering_entries}

-- the split that began after these entries is the one that runs, its slices being recovered or not
pub running-own : (entries : List BoardEntry) (plan : SplitPlan) (recovered : Bool)
    → running_split (entries ++ board.Begun plan ∷ recovering_entries plan.parent recovered) ≡ Some (length entries)
running-own entries plan false = running_split-push entries (board.Begun plan)
running-own entries plan true =
    let begun : List BoardEntry = entries ++ board.Begun plan ∷ [] in
    let recovering : BoardEntry = board.Recovering plan.parent in
    ap running_split (sym (append-cons entries (board.Begun plan) (recovering ∷ [])))
    ∙ running_split-push begun recovering ∙ running_split-push entries (board.Begun plan)

-- so it is one's own where its entry is
pub owns-split : (layout : Layout) (seen : Seen) (entries : List BoardEntry) (plan : SplitPlan) (recovered : Bool)
    → seen.board ≡ entries ++ board.Begun plan ∷ recovering_entries plan.parent recovered
    → Contains (seen.own layout.buckets) (length entries) → OwnsSplit layout seen
owns-split layout seen entries plan recovered is own = (length entries, ap running_split is ∙ running-own entries plan recovered, own)

-- a split is open once it has begun, whatever the slices are
pub open-once-begun : (slices : List Slice) (parent : SliceId) (subs : List SubSlice) → IsPlan slices parent subs
    → IsBeingSplit (after slices (Change.Begun parent subs)) parent
open-once-begun slices parent subs may =
    let slice : Slice = may.cut.0 in
    let may_cut = may.cut.1 in
    let greatest = greatest_id slices in
    let most = All-contains (λ other. id_of other ≤ greatest) slices slice (greatest_id-bounds slices) may_cut.there in
    let formed = sym (forming-begun slices subs may.idle) in (
      slice,
      may_cut.named,
      record {
        there = Contains-append_left slices (map begun_slice subs) slice may_cut.there;
        active = may_cut.active;
        subs = subst (All (IsSubOf slice)) formed (begun_are_subs slice greatest subs most may.cut.2);
        tile = subst (TileRangeOf slice) formed (begun_tile slice subs may_cut.tile);
      },
    )

-- its slices may be recovered then
recover-after : (first : List Slice) (entries : List BoardEntry) (plan : SplitPlan) → IsLegalBoard first (entries ++ board.Begun plan ∷ [])
    → MayNote first (entries ++ board.Begun plan ∷ []) (board.Recovering plan.parent)
recover-after first entries plan legal =
    let slices = board_map first entries in
    let may : IsPlan slices plan.parent plan.subs = MayNote_end first entries (board.Begun plan) legal in
    let next : MayChange (after slices (Change.Begun plan.parent plan.subs)) (Change.Recovering plan.parent) =
    (open-once-begun slices plan.parent plan.subs may, All-forming_begun slices plan.subs may.idle) in
    subst (λ s. MayChange s (Change.Recovering plan.parent)) (sym (board_map-push first entries (board.Begun plan))) next

-- and once they are, it may be done
done-after : (first : List Slice) (entries : List BoardEntry) (plan : SplitPlan)
    → IsLegalBoard first (entries ++ board.Begun plan ∷ board.Recovering plan.parent ∷ [])
    → MayNote first (entries ++ board.Begun plan ∷ board.Recovering plan.parent ∷ []) (board.Done plan.parent)
done-after first entries plan legal =
    let is = append-cons entries (board.Begun plan) (board.Recovering plan.parent ∷ []) in
    let may = may_go_on_recovered first (entries ++ board.Begun plan ∷ []) plan.parent (subst (IsLegalBoard first) (sym is) legal) in
    subst (λ j. MayNote first j (board.Done plan.parent)) is may

-- and it may fail at any time
fail-after : (first : List Slice) (entries : List BoardEntry) (plan : SplitPlan) (recovered : Bool)
    → IsLegalBoard first (entries ++ board.Begun plan ∷ recovering_entries plan.parent recovered)
    → MayNote first (entries ++ board.Begun plan ∷ recovering_entries plan.parent recovered) (board.Failed plan.parent)
fail-after first entries plan false legal = (recover-after first entries plan legal).0
fail-after first entries plan true legal = (done-after first entries plan legal).0

-- ---- the same of what was seen of the board
pub may-note-recovering : (layout : Layout) (seen : Seen) (entries : List BoardEntry) (plan : SplitPlan) → AreLegal layout seen
    → seen.board ≡ entries ++ board.Begun plan ∷ [] → MayNote layout.first seen.board (board.Recovering plan.parent)
may-note-recovering layout seen entries plan legal is =
    subst (λ j. MayNote layout.first j (board.Recovering plan.parent)) (sym is)
    (recover-after layout.first entries plan (subst (IsLegalBoard layout.first) is legal.board))

pub may-note-done : (layout : Layout) (seen : Seen) (entries : List BoardEntry) (plan : SplitPlan) → AreLegal layout seen
    → seen.board ≡ entries ++ board.Begun plan ∷ board.Recovering plan.parent ∷ []
    → MayNote layout.first seen.board (board.Done plan.parent)
may-note-done layout seen entries plan legal is =
    subst (λ j. MayNote layout.first j (board.Done plan.parent)) (sym is)
    (done-after layout.first entries plan (subst (IsLegalBoard layout.first) is legal.board))

pub may-note-failed : (layout : Layout) (seen : Seen) (entries : List BoardEntry) (plan : SplitPlan) (recovered : Bool) → AreLegal layout seen
    → seen.board ≡ entries ++ board.Begun plan ∷ recovering_entries plan.parent recovered
    → MayNote layout.first seen.board (board.Failed plan.parent)
may-note-failed layout seen entries plan recovered legal is =
    subst (λ j. MayNote layout.first j (board.Failed plan.parent)) (sym is)
    (fail-after layout.first entries plan recovered (subst (IsLegalBoard layout.first) is legal.board))
