-- The searchers of the active slices, one after another.
use Rattle.std.proofs.Common.{◌≡◌, ◌∙◌, ℕ, ◌+◌, ◌≤◌, ◌^◌, Global, length, length-take, arith, map, List, [], ◌∷◌, ◌++◌, filter, take, slice_get, Some, All, Contains, false, refl, sym, ap, subst}
use Rattle.std.specs.Arc.{arc_value}
use Rattle.std.specs.declared.sync.Arc.{Arc}
use Rattle.std.proofs.lemmas.List.{take_all, length-map}
use Rattle.std.proofs.lemmas.List.Elements.{All-nil, All-push}
use Rattle.sc_record.specs.Writes.{Write, AscendById}
use Rattle.sc_record.specs.declared.entry.Entry.{Entry}
use Rattle.sc_snapshot.specs.Rows.{SnapshotState, is_within}
use Rattle.sc_cluster.specs.declared.slice.State.TheVariants as states
use Rattle.sc_cluster.specs.declared.slice.Slice.{Slice}
use Rattle.sc_cluster.specs.Slices.{is_active}
use Rattle.sc_journal.specs.Journal.{writes}
use Rattle.sc_journal.specs.Committed.{committed, last_commit}
use Rattle.sc_journal.proofs.JournalLemmas.{length-writes}
use Rattle.sc_replicas.specs.Searchers.{standing_rows}
use Rattle.sc_replicas.specs.declared.standing.Standing.{Standing}
use Rattle.sc_bucket.specs.Searchers.{AreOfEachSlice}
use Rattle.sc_bucket.specs.Taking.{AreLastOf}
use Rattle.sc_bucket.proofs.TakenLemmas.{AreOfEachSlice-active, AreOfEachSlice-inactive}
use Rattle.sc_restored.specs.Restored.{IsShownBy, AreShown}

-- a searcher of such rows
pub shown_by : (place : ℕ) (these : List Write) (slice : Slice) (rows : List Write) (searcher : Standing) → searcher.slice ≡ slice.id
    → searcher.range ≡ slice.range → arc_value searcher.snapshot ≡ record { place = place; rows = rows } → AscendById rows
    → AreLastOf (filter (is_within slice.range) these) rows → IsShownBy place these slice searcher
shown_by place these slice rows searcher slice_is range_is snapshot_is ascend last =
    let rows_are : rows ≡ standing_rows searcher = sym (ap (λ (s : SnapshotState). s.rows) snapshot_is) in
    record {
      of_slice = slice_is;
      range_is = range_is;
      place_is = ap (λ (s : SnapshotState). s.place) snapshot_is;
      ascend = subst AscendById rows_are ascend;
      last = subst (AreLastOf (filter (is_within slice.range) these)) rows_are last;
    }

-- the searcher is of one of the slices
abbrev pub IsShownOf : List Slice → ℕ → List Write → Standing → Type 0
IsShownOf slices place these searcher = (slice : Slice) × Contains slices slice × IsShownBy place these slice searcher

-- each active one of the first slices has its searcher
pub record AreFirstShown (slices : List Slice) (at place : ℕ) (these : List Write) (searchers : List Standing) : Type 0 where
  pub each_slice : AreOfEachSlice (take at slices) searchers
  pub each : All (IsShownOf slices place these) searchers

pub shown_none : (slices : List Slice) (place : ℕ) (these : List Write) (searchers : List Standing) → searchers ≡ []
    → AreFirstShown slices 0 place these searchers
shown_none slices place these searchers none = record {
  each_slice = subst (AreOfEachSlice []) (sym none) refl;
  each = subst (All (IsShownOf slices place these)) (sym none) (All-nil (IsShownOf slices place these));
}

-- the next slice is active
pub shown_active : (slices : List Slice) (at place : ℕ) (slice : Slice) (these : List Write) (now next : List Standing) (searcher : Standing)
    → slice_get slices at ≡ Some slice → Contains slices slice → slice.state ≡ states.Active → IsShownBy place these slice searcher
    → next ≡ now ++ searcher ∷ [] → AreFirstShown slices at place these now → AreFirstShown slices (at + 1) place these next
shown_active slices at place slice these now next searcher there here active is next_is so_far = record {
  each_slice = subst (AreOfEachSlice (take (at + 1) slices)) (sym next_is)
      (AreOfEachSlice-active slices at slice now searcher there active is.of_slice so_far.each_slice);
  each = subst (All (IsShownOf slices place these)) (sym next_is)
      (All-push (IsShownOf slices place these) now searcher so_far.each (slice, here, is));
}

-- or it is not
pub shown_other : (slices : List Slice) (at place : ℕ) (slice : Slice) (these : List Write) (now next : List Standing)
    → slice_get slices at ≡ Some slice → is_active slice ≡ false → next ≡ now → AreFirstShown slices at place these now
    → AreFirstShown slices (at + 1) place these next
shown_other slices at place slice these now next there inactive same so_far = record {
  each_slice = subst (AreOfEachSlice (take (at + 1) slices)) (sym same)
      (AreOfEachSlice-inactive slices at slice now there inactive so_far.each_slice);
  each = subst (All (IsShownOf slices place these)) (sym same) so_far.each;
}

-- ---- of what was written before the last entry that commits
-- there are no more writes than entries
pub few_writes : (journal : List Entry) (cells : List (Arc Write Global)) (place : ℕ) (before : List Entry) → map arc_value cells ≡ writes before
    → before ≡ take place journal → length journal ≤ 2 ^ 24 → length cells ≤ 2 ^ 24
few_writes journal cells place before are before_is few =
    omega (
      arith,
      length-map cells arc_value,
      ap (λ (these : List Write). length these) are,
      length-writes before,
      ap (λ (entries : List Entry). length entries) before_is,
      length-take place journal,
      few,
    )

-- all slices have their searchers
pub all_shown : (slices : List Slice) (journal : List Entry) (at place : ℕ) (these : List Write) (now : List Standing) (before : List Entry)
    (found : List Standing) → length slices ≤ at → place ≡ last_commit journal → these ≡ writes before → before ≡ take place journal
    → found ≡ now → AreFirstShown slices at place these now → AreShown slices (last_commit journal) (writes (committed journal)) found
all_shown slices journal at place these now before found over place_is are before_is same is =
    let these_are : these ≡ writes (committed journal) =
    are ∙ ap (λ (entries : List Entry). writes entries) before_is ∙ ap (λ (n : ℕ). writes (take n journal)) place_is in
    subst (AreShown slices (last_commit journal) (writes (committed journal))) (sym same)
    (subst (λ (n : ℕ). AreShown slices n (writes (committed journal)) now) place_is
    (subst (λ (all : List Write). AreShown slices place all now) these_are (record {
      each_slice = subst (λ (first : List Slice). AreOfEachSlice first now) (take_all at slices over) is.each_slice;
      each = is.each;
    })))
