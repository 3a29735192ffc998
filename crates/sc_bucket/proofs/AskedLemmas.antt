-- Searchers are taken of the slices that a search looks at, one after another.
use Rattle.std.proofs.Common.{◌≡◌, ℕ, ◌+◌, ℤ, ◌≤ℤ◌, Bool, true, false, T, cond, ◌&&◌, List, [], ◌∷◌, ◌++◌, length, take, drop, slice_get, Option, Some, None, Bor, IsSome, Iter, Contains, Decides, refl, sym, ap, subst, ◌∙◌, append_assoc, arith}
use Rattle.std.specs.Prelude.{filter, int_le, map, ◌<◌, ◌≤◌}
use Rattle.std.specs.Arc.{arc_value}
use Rattle.std.specs.Option.{option_copied}
use Rattle.std.specs.Slice.Iter.{iter_rest, iter_steps}
use Rattle.std.proofs.lemmas.Bool.Decides.{Decides-and}
use Rattle.std.proofs.lemmas.List.{append-nil, drop_more, take_all, length-map}
use Rattle.std.proofs.lemmas.Option.{none-some, slice_get_within, get_or_from_slice_get}
use Rattle.std.proofs.lemmas.Int.{ints}
use Rattle.sc_hash.specs.Range.{Meets}
use Rattle.sc_hash.specs.declared.range.Range.{Range}
use Rattle.sc_hash.proofs.RangeLemmas.{Meets-overlap}
use Rattle.sc_record.specs.declared.slice.SliceId.{SliceId}
use Rattle.sc_record.specs.declared.entry.Entry.{Entry}
use Rattle.sc_snapshot.specs.Rows.{SnapshotState}
use Rattle.sc_cluster.specs.declared.slice.State.TheVariants as states
use Rattle.sc_cluster.specs.declared.slice.Slice.{Slice}
use Rattle.sc_cluster.specs.Slices.{is_active, is_active_state}
use Rattle.sc_replicas.specs.declared.standing.Searcher.{Searcher}
use Rattle.sc_replicas.specs.declared.standing.Standing.{Standing}
use Rattle.sc_replicas.proofs.FindLemmas.{some_at, filter_take-next}
use Rattle.sc_replicas.proofs.StandingLemmas.{slice_of}
use Rattle.sc_bucket.specs.Searchers.{AreOfEachSlice, ShowsCommitted}
use Rattle.sc_bucket.specs.Asked.{asks_for, is_asked, IsOfSlice, AreOfSlices, AddsSearchers}
use Rattle.sc_bucket.proofs.SearcherLemmas.{Show}

int_le-Decides : (a b : ℤ) → Decides (int_le a b) (a ≤ℤ b)
int_le-Decides a b = (λ is. record { le = rw is tt }, λ most. by (int_le a b) most.le) where
  by : (t : Bool) → T t → t ≡ true
  by true holds = refl
  by false holds = absurd holds

-- a search looks at the slices whose ranges meet that of its route
pub asks_for-Decides : (route range : Range) → Decides (asks_for (Some route) range) (Meets range.min range.max route.min route.max)
asks_for-Decides route range =
    let both = Decides-and (int_le range.min route.max) (int_le route.min range.max)
    (int_le-Decides range.min route.max) (int_le-Decides route.min range.max) in (
      λ is. let parts = both.0 is in Meets-overlap range.min range.max route.min route.max range.ordered route.ordered parts.0 parts.1,
      λ meets. both.1 (le_through range.min meets.0 route.max meets.1.0 meets.2.1, le_through route.min meets.0 range.max meets.2.0 meets.1.1),
    )
  where
    le_through : (a b c : ℤ) → a ≤ℤ b → b ≤ℤ c → a ≤ℤ c
    le_through a b c low high = omega (arith, ints)

-- one slice and its searcher more
AreOfSlices-push : (journal : List Entry) (slices : List Slice) (searchers : List Searcher) (slice : Slice) (searcher : Searcher)
    → AreOfSlices journal slices searchers → IsOfSlice journal slice searcher
    → AreOfSlices journal (slices ++ slice ∷ []) (searchers ++ searcher ∷ [])
AreOfSlices-push journal [] [] slice searcher are is = (is, tt)
AreOfSlices-push journal [] (s ∷ searchers) slice searcher are is = absurd are
AreOfSlices-push journal (s ∷ slices) [] slice searcher are is = absurd are
AreOfSlices-push journal (s ∷ slices) (t ∷ searchers) slice searcher are is =
    (are.0, AreOfSlices-push journal slices searchers slice searcher are.1 is)

-- a slice of the list is found at its place
pub slice_is_there : (slices : List Slice) (at : ℕ) (found : Option (Bor Slice)) → option_copied found ≡ slice_get slices at
    → at < length slices → IsSome found
slice_is_there slices at (Some slice) is within = refl
slice_is_there slices at None is within =
    let (slice, there) = some_at slices at within in
    absurd (none-some slice (is ∙ there))

-- the slices from a place on begin with the one that is there
from_there : (slices : List Slice) (at : ℕ) (slice : Slice) → slice_get slices at ≡ Some slice → drop at slices ≡ slice ∷ drop (at + 1) slices
from_there slices at slice there =
    drop_more slices at slice (slice_get_within slices at slice there)
    ∙ ap (λ (s : Slice). s ∷ drop (at + 1) slices) (get_or_from_slice_get slices at slice slice there)

-- the active ones of these
pub active_there : (slices : List Slice) (at : ℕ) (slice : Slice) (b : Bool) → slice_get slices at ≡ Some slice → is_active slice ≡ b
    → filter is_active (drop at slices) ≡ cond b (slice ∷ filter is_active (drop (at + 1) slices)) (filter is_active (drop (at + 1) slices))
active_there slices at slice b there is =
    ap (filter is_active) (from_there slices at slice there)
    ∙ ap (λ t. cond t (slice ∷ filter is_active (drop (at + 1) slices)) (filter is_active (drop (at + 1) slices))) is

-- where they are active, the first of the searchers that are left is that of this slice
pub next_searcher : (slices : List Slice) (at : ℕ) (slice : Slice) (rest others : List Standing) (searcher : Standing)
    → slice_get slices at ≡ Some slice → slice.state ≡ states.Active → rest ≡ searcher ∷ others
    → AreOfEachSlice (drop at slices) rest → (searcher.slice ≡ slice.id) × AreOfEachSlice (drop (at + 1) slices) others
next_searcher slices at slice rest others searcher there active is left =
    let id_of : Slice → SliceId = λ one. one.id in
    let after : List SliceId = map id_of (filter is_active (drop (at + 1) slices)) in
    let same : searcher.slice ∷ map slice_of others ≡ slice.id ∷ after =
    ap (map slice_of) (sym is) ∙ left
    ∙ ap (map id_of) (active_there slices at slice true there (ap is_active_state active)) in
    (cc, cc)

-- so there is one
pub searcher_left : (slices : List Slice) (at : ℕ) (slice : Slice) (rest later : Iter Standing) (found : Option (Bor Standing))
    → slice_get slices at ≡ Some slice → slice.state ≡ states.Active → AreOfEachSlice (drop at slices) (iter_rest rest)
    → iter_steps rest found later → IsSome found
searcher_left slices at slice rest later (Some searcher) there active left steps = refl
searcher_left slices at slice rest later None there active left (none, stays) =
    let id_of : Slice → SliceId = λ one. one.id in
    let count : length (map slice_of (iter_rest rest)) ≡ length (slice.id ∷ map id_of (filter is_active (drop (at + 1) slices))) =
    ap (λ (ids : List SliceId). length ids)
    (left ∙ ap (map id_of) (active_there slices at slice true there (ap is_active_state active))) in
    absurd (omega (arith, none, length-map (iter_rest rest) slice_of, count))

-- it shows what was committed of the slice
pub IsOfSlice-share : (slices : List Slice) (journal : List Entry) (slice : Slice) (standing : Standing) (searcher : Searcher)
    → Contains slices slice → standing.slice ≡ slice.id → Show slices journal standing → searcher.range ≡ standing.range
    → arc_value searcher.snapshot ≡ arc_value standing.snapshot → IsOfSlice journal slice searcher
IsOfSlice-share slices journal slice standing searcher there own show range snapshot =
    let shown = show slice there (sym own) in
    record {
      range_is = range ∙ shown.0;
      shows = subst (λ (one : SnapshotState). ShowsCommitted journal slice one.rows) (sym snapshot) shown.1;
    }

-- an active slice is looked at where the route asks for its range
pub asked_active : (route : Option Range) (slice : Slice) (b : Bool) → slice.state ≡ states.Active → asks_for route slice.range ≡ b
    → is_asked route slice ≡ b
asked_active route slice b active asks = ap (λ state. is_active_state state && asks_for route slice.range) active ∙ asks

-- and no other is
pub asked_inactive : (route : Option Range) (slice : Slice) → is_active slice ≡ false → is_asked route slice ≡ false
asked_inactive route slice inactive = ap (λ b. b && asks_for route slice.range) inactive

-- and where they are not, all that are left are of the slices after it
pub no_searcher : (slices : List Slice) (at : ℕ) (slice : Slice) (rest : List Standing) → slice_get slices at ≡ Some slice
    → is_active slice ≡ false → AreOfEachSlice (drop at slices) rest → AreOfEachSlice (drop (at + 1) slices) rest
no_searcher slices at slice rest there inactive left =
    left ∙ ap (map (λ (one : Slice). one.id)) (active_there slices at slice false there inactive)

-- the slices that the search looks at of the first ones and of the next
asked_more : (route : Option Range) (slices : List Slice) (at : ℕ) (slice : Slice) (b : Bool) → slice_get slices at ≡ Some slice
    → is_asked route slice ≡ b
    → filter (is_asked route) (take at slices) ++ cond b (slice ∷ []) [] ≡ filter (is_asked route) (take (at + 1) slices)
asked_more route slices at slice b there is =
    ap (λ t. filter (is_asked route) (take at slices) ++ cond t (slice ∷ []) []) (sym is)
    ∙ filter_take-next (is_asked route) slices at slice there

-- the searchers of the first slices that the search looks at were put after the old ones
abbrev pub AreAdded : List Entry → Option Range → List Slice → ℕ → (old new : List Searcher) → Type 0
AreAdded journal route slices at old new = AddsSearchers (AreOfSlices journal (filter (is_asked route) (take at slices))) old new

-- so with that of the next slice, where the search looks at it
pub added_one : (journal : List Entry) (route : Option Range) (slices : List Slice) (at : ℕ) (slice : Slice) (searcher : Searcher)
    (old now next : List Searcher) → slice_get slices at ≡ Some slice → is_asked route slice ≡ true → IsOfSlice journal slice searcher
    → next ≡ now ++ searcher ∷ [] → AreAdded journal route slices at old now → AreAdded journal route slices (at + 1) old next
added_one journal route slices at slice searcher old now next there asked is longer adds = record {
  more = adds.more ++ searcher ∷ [];
  added = longer ∙ ap (λ (these : List Searcher). these ++ searcher ∷ []) adds.added ∙ append_assoc old adds.more (searcher ∷ []);
  are = subst (λ (these : List Slice). AreOfSlices journal these (adds.more ++ searcher ∷ [])) (asked_more route slices at slice true there asked)
      (AreOfSlices-push journal (filter (is_asked route) (take at slices)) adds.more slice searcher adds.are is);
}

-- and without it, where it does not
pub added_none : (journal : List Entry) (route : Option Range) (slices : List Slice) (at : ℕ) (slice : Slice)
    (old now : List Searcher) → slice_get slices at ≡ Some slice → is_asked route slice ≡ false
    → AreAdded journal route slices at old now → AreAdded journal route slices (at + 1) old now
added_none journal route slices at slice old now there asked adds = record {
  more = adds.more;
  added = adds.added;
  are = subst (λ (these : List Slice). AreOfSlices journal these adds.more)
      (sym (append-nil (filter (is_asked route) (take at slices))) ∙ asked_more route slices at slice false there asked) adds.are;
}

-- all were put there once all slices were seen
pub added_all : (journal : List Entry) (route : Option Range) (slices : List Slice) (at : ℕ) (old new : List Searcher) → length slices ≤ at
    → AreAdded journal route slices at old new → AddsSearchers (AreOfSlices journal (filter (is_asked route) slices)) old new
added_all journal route slices at old new long adds = record {
  more = adds.more;
  added = adds.added;
  are = subst (λ (these : List Slice). AreOfSlices journal (filter (is_asked route) these) adds.more) (take_all at slices long) adds.are;
}
