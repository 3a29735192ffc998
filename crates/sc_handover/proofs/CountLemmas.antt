-- How many followers slices have, slice after slice, and how many of a slice's are not down, replica after replica.
use Rattle.std.proofs.Common.{◌≡◌, ℕ, ◌+◌, ◌-◌, ◌<◌, ◌≤◌, Bool, true, false, cond, not, List, [], ◌∷◌, ◌++◌, length, get_or, map, take, slice_get, Some, ap, ◌∙◌, arith, length-append}
use Rattle.std.specs.List.{count_by, flat_map, range_with_len}
use Rattle.std.proofs.lemmas.Grind.{flat_map-append}
use Rattle.std.proofs.lemmas.List.{append-nil, map_more, take_more}
use Rattle.std.proofs.lemmas.List.Elements.{filter-append}
use Rattle.std.proofs.lemmas.List.FromFn.{sum_by-map-range_with_len_more}
use Rattle.std.proofs.lemmas.Option.{slice_get_within, get_or_from_slice_get}
use Rattle.sc_record.specs.declared.slice.SliceId.{SliceId}
use Rattle.sc_record.specs.declared.slice.SubSlice.{SubSlice}
use Rattle.sc_record.specs.declared.entry.Entry.{Entry}
use Rattle.sc_cluster.specs.declared.slice.Slice.{Slice}
use Rattle.sc_cluster.specs.Slices.{is_forming, forming}
use Rattle.sc_cluster.specs.Changes.{begun_slice}
use Rattle.sc_journal.specs.Down.{is_down, follower_keys}
use Rattle.sc_journal.specs.Splits.{new_followers}
use Rattle.sc_bucket.proofs.CountLemmas.{length-follower_keys}

-- how many followers the slices have
abbrev pub count_followers : List Slice → ℕ
count_followers slices = length (flat_map follower_keys slices)

-- one slice more has its replicas above the first more
count_followers-push : (slices : List Slice) (slice : Slice)
    → count_followers (slices ++ slice ∷ []) ≡ count_followers slices + (slice.replicas - 1)
count_followers-push slices slice =
    ap length (flat_map-append follower_keys slices (slice ∷ []))
    ∙ length-append (flat_map follower_keys slices) (flat_map follower_keys (slice ∷ []))
    ∙ ap (λ n. count_followers slices + n) (ap length (append-nil (follower_keys slice))
    ∙ length-follower_keys slice)

-- so has one sub more of a split
pub new_followers-more : (subs : List SubSlice) (at : ℕ) (sub : SubSlice) → at < length subs → get_or subs at sub ≡ sub
    → new_followers (take (at + 1) subs) ≡ new_followers (take at subs) + (sub.replicas - 1)
new_followers-more subs at sub within here =
    ap count_followers (map_more begun_slice subs at sub within
    ∙ ap (λ (s : SubSlice). map begun_slice (take at subs) ++ begun_slice s ∷ []) here)
    ∙ count_followers-push (map begun_slice (take at subs)) (begun_slice sub)

-- and one slice more of a map, where a split is making it
pub forming_followers-more : (slices : List Slice) (at : ℕ) (slice : Slice) → slice_get slices at ≡ Some slice
    → count_followers (forming (take (at + 1) slices))
    ≡ count_followers (forming (take at slices)) + cond (is_forming slice) (slice.replicas - 1) 0
forming_followers-more slices at slice there =
    ap (λ these. count_followers (forming these)) (take_more slices at slice (slice_get_within slices at slice there)
    ∙ ap (λ (s : Slice). take at slices ++ s ∷ []) (get_or_from_slice_get slices at slice slice there))
    ∙ ap count_followers (filter-append is_forming (take at slices) (slice ∷ []))
    ∙ by (is_forming slice)
  where
    before : List Slice
    before = forming (take at slices)

    by : (t : Bool) → count_followers (before ++ cond t (slice ∷ []) []) ≡ count_followers before + cond t (slice.replicas - 1) 0
    by true = count_followers-push before slice
    by false = ap count_followers (append-nil before) ∙ omega arith

-- how many of the first followers of the slice of this id, so many of them, are not down
abbrev pub count_first_up : List Entry → SliceId → ℕ → ℕ
count_first_up journal slice n =
    count_by (λ (key : ℕ × ℕ). not (is_down journal key)) (map (λ (replica : ℕ). (slice.0, replica)) (range_with_len 2 n))

-- one more of them is the next replica
pub count_first_up-more : (journal : List Entry) (slice : SliceId) (below : ℕ) → 1 ≤ below
    → count_first_up journal slice (below + 1 - 1)
    ≡ count_first_up journal slice (below - 1) + cond (not (is_down journal (slice.0, below + 1))) 1 0
count_first_up-more journal slice below from =
    let next : below + 1 - 1 ≡ (below - 1) + 1 = omega (arith, from) in
    ap (count_first_up journal slice) next
    ∙ sum_by-map-range_with_len_more (λ (key : ℕ × ℕ). cond (not (is_down journal key)) 1 0)
    (λ (replica : ℕ). (slice.0, replica)) 2 (below - 1) (below + 1) (omega (arith, from))
