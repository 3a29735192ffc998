-- How many entries are owed of the first slices, and of the next.
use Rattle.std.proofs.Common.{◌≡◌, ◌∙◌, ℕ, ◌+◌, Bool, true, false, not, cond, List, [], ◌∷◌, ◌++◌, map, take, filter, slice_get, Some, count_by, refl, sym, ap, arith}
use Rattle.std.specs.List.{flat_map, range_with_len}
use Rattle.std.proofs.lemmas.List.{append-nil}
use Rattle.std.proofs.lemmas.List.Concat.{flat_map-append}
use Rattle.std.proofs.lemmas.List.Elements.{filter-append}
use Rattle.std.proofs.lemmas.List.FromFn.{map-range_with_len_more}
use Rattle.std.proofs.lemmas.List.Sums.{sum_by-append, sum_by-cons}
use Rattle.std.proofs.lemmas.Option.{slice_get_within, get_or_from_slice_get}
use Rattle.std.proofs.lemmas.List.{take_more}
use Rattle.sc_record.specs.declared.entry.Entry.{Entry}
use Rattle.sc_cluster.specs.declared.slice.Slice.{Slice}
use Rattle.sc_cluster.specs.Slices.{is_inactive}
use Rattle.sc_journal.specs.Down.{is_down, follower_keys, all_followers, count_up}

-- the follower of this name is not down
abbrev pub is_up : List Entry → ℕ × ℕ → Bool
is_up marks key = not (is_down marks key)

-- what is owed of slices in whose split none is open, beside what is owed of writes
abbrev pub owed_of_slices : List Slice → List Entry → ℕ
owed_of_slices slices marks = count_by is_inactive slices + count_up slices marks

-- what is owed of one
abbrev pub owed_of_one : Slice → List Entry → ℕ
owed_of_one slice marks = cond (is_inactive slice) 1 (count_by (is_up marks) (follower_keys slice))

count_by-append : {X : Type 0} (p : X → Bool) (xs ys : List X) → count_by p (xs ++ ys) ≡ count_by p xs + count_by p ys
count_by-append p xs ys = sum_by-append (λ y. cond (p y) 1 0) xs ys

plus_none : (n : ℕ) → n + 0 ≡ n
plus_none n = omega arith

count_by-one : {X : Type 0} (p : X → Bool) (x : X) → count_by p (x ∷ []) ≡ cond (p x) 1 0
count_by-one p x = sum_by-cons (λ y. cond (p y) 1 0) x [] ∙ plus_none (cond (p x) 1 0)

-- two counts with more
added : (i more u extra i2 u2 own : ℕ) → i2 ≡ i + more → u2 ≡ u + extra → more + extra ≡ own → i2 + u2 ≡ i + u + own
added i more u extra i2 u2 own one other both = omega (arith, one, other, both)

none_and : (n m : ℕ) → n ≡ m → 0 + n ≡ m
none_and n m same = omega (arith, same)

one_and : (n : ℕ) → n ≡ 0 → 1 + n ≡ 1
one_and n none = omega (arith, none)

-- of slices and one more
owed_with : (slices : List Slice) (slice : Slice) (marks : List Entry)
    → owed_of_slices (slices ++ slice ∷ []) marks ≡ owed_of_slices slices marks + owed_of_one slice marks
owed_with slices slice marks =
    added (count_by is_inactive slices) (count_by is_inactive (slice ∷ [])) (count_up slices marks) extra
    (count_by is_inactive (slices ++ slice ∷ [])) (count_up (slices ++ slice ∷ []) marks) (owed_of_one slice marks)
    (count_by-append is_inactive slices (slice ∷ [])) up
    (ap (λ (n : ℕ). n + extra) (count_by-one is_inactive slice) ∙ by (is_inactive slice))
  where
    takes : Slice → Bool
    takes one = not (is_inactive one)

    extra : ℕ
    extra = count_by (is_up marks) (flat_map follower_keys (filter takes (slice ∷ [])))

    up : count_up (slices ++ slice ∷ []) marks ≡ count_up slices marks + extra
    up = ap (λ (these : List Slice). count_by (is_up marks) (flat_map follower_keys these)) (filter-append takes slices (slice ∷ []))
        ∙ ap (count_by (is_up marks)) (flat_map-append follower_keys (filter takes slices) (filter takes (slice ∷ [])))
        ∙ count_by-append (is_up marks) (all_followers slices) (flat_map follower_keys (filter takes (slice ∷ [])))

    by : (b : Bool)
        → cond b 1 0 + count_by (is_up marks) (flat_map follower_keys (cond (not b) (slice ∷ []) []))
        ≡ cond b 1 (count_by (is_up marks) (follower_keys slice))
    by true = one_and (count_by (is_up marks) []) refl
    by false = none_and (count_by (is_up marks) (follower_keys slice ++ [])) (count_by (is_up marks) (follower_keys slice))
        (ap (count_by (is_up marks)) (append-nil (follower_keys slice)))

pub owed_next : (slices : List Slice) (at : ℕ) (slice : Slice) (marks : List Entry) → slice_get slices at ≡ Some slice
    → owed_of_slices (take (at + 1) slices) marks ≡ owed_of_slices (take at slices) marks + owed_of_one slice marks
owed_next slices at slice marks there =
    ap (λ (these : List Slice). owed_of_slices these marks)
    (take_more slices at slice (slice_get_within slices at slice there)
    ∙ ap (λ (s : Slice). take at slices ++ s ∷ []) (get_or_from_slice_get slices at slice slice there))
    ∙ owed_with (take at slices) slice marks

-- the names of the first followers of a slice
abbrev pub followers_to : ℕ → ℕ → List (ℕ × ℕ)
followers_to id n = map (λ (replica : ℕ). (id, replica)) (range_with_len 2 n)

-- the next follower is up, or is down
pub up_next : (id below : ℕ) (marks : List Entry) (up : ℕ) → up ≡ count_by (is_up marks) (followers_to id below)
    → up + cond (is_up marks (id, below + 2)) 1 0 ≡ count_by (is_up marks) (followers_to id (below + 1))
up_next id below marks up so_far =
    let before : List (ℕ × ℕ) = followers_to id below in
    let key : ℕ × ℕ = (id, below + 2) in
    ap (λ (n : ℕ). n + cond (is_up marks key) 1 0) so_far
    ∙ ap (λ (n : ℕ). count_by (is_up marks) before + n) (sym (count_by-one (is_up marks) key))
    ∙ sym (ap (count_by (is_up marks)) (map-range_with_len_more (λ (replica : ℕ). (id, replica)) 2 below (below + 2) (omega arith))
    ∙ count_by-append (is_up marks) before (key ∷ []))
