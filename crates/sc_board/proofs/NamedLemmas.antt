-- The slice of a name, which its id finds too.
use Rattle.std.proofs.Common.{◌≡◌, ◌≢◌, ◌∙◌, ℕ, zero, suc, ◌+◌, ℤ, Bool, true, false, cond, List, [], ◌∷◌, ◌++◌, length, length-append, take, slice_get, find, Option, Some, None, Bor, MatchOption, All, Contains, refl, sym, ap, subst, arith}
use Rattle.std.specs.Option.{option_copied, option_map}
use Rattle.std.specs.Str.{bytes_eq}
use Rattle.std.proofs.lemmas.Option.{none-some, same_Some, slice_get_within, get_or_from_slice_get}
use Rattle.std.proofs.lemmas.List.{take_more}
use Rattle.std.proofs.lemmas.List.Elements.{All-contains, All-push}
use Rattle.sc_record.specs.declared.slice.SliceId.{SliceId}
use Rattle.sc_cluster.specs.declared.slice.Slice.{Slice}
use Rattle.sc_cluster.specs.Cut.{part, first_parts}
use Rattle.sc_cluster.specs.Map.{IsMap}
use Rattle.sc_cluster.specs.Changes.{IsBeingSplit}
use Rattle.sc_cluster.proofs.IdLemmas.{id_of}
use Rattle.sc_cluster.proofs.OrderLemmas.{same_from_rising_key}
use Rattle.sc_board.specs.Splits.{slice_named, IsRunningOf}

-- what is found is in the list
found_there : {A : Type 0} (p : A → Bool) (xs : List A) (x : A) → find p xs ≡ Some x → Contains xs x
found_there p [] x found = absurd (none-some x found)
found_there {A} p (y ∷ ys) x found = by (p y) found (found_there p ys x) where
  by : (t : Bool) → cond {A = Option A} t (Some y) (find p ys) ≡ Some x → (find p ys ≡ Some x → Contains ys x) → Contains (y ∷ ys) x
  by true is rest = (0, omega arith, same_Some y x is)
  by false is rest = let later = rest is in (suc later.0, omega (arith, later.1), later.2)

pub named_there : (slices : List Slice) (name : List ℕ) (slice : Slice) → slice_named slices name ≡ Some slice → Contains slices slice
named_there slices name slice = found_there (λ (one : Slice). bytes_eq one.name name) slices slice

-- one more of the first slices hasn't the id either
pub none_more : (slices : List Slice) (id : SliceId) (at : ℕ) (slice : Slice) → slice_get slices at ≡ Some slice → slice.id ≢ id
    → All (λ (other : Slice). other.id ≢ id) (take at slices) → All (λ (other : Slice). other.id ≢ id) (take (at + 1) slices)
none_more slices id at slice is differs none =
    let P : Slice → Type 0 = λ other. other.id ≢ id in
    let longer : take (at + 1) slices ≡ take at slices ++ slice ∷ [] =
    take_more slices at slice (slice_get_within slices at slice is)
    ∙ ap (λ (s : Slice). take at slices ++ s ∷ []) (get_or_from_slice_get slices at slice slice is) in
    subst (All P) (sym longer) (All-push P (take at slices) slice none differs)

-- two slices of one id are one
pub same_by_id : (slices : List Slice) (one other : Slice) → IsMap slices → Contains slices one → Contains slices other
    → one.id ≡ other.id → one ≡ other
same_by_id slices one other is_map there other_there same =
    same_from_rising_key id_of slices one other is_map.ids there other_there (ap (λ (id : SliceId). id.0) same)

-- the slice that has the id of the named one is the named one
pub named_by_id : (slices : List Slice) (name : List ℕ) (id : SliceId) (found : Option (Bor Slice)) → IsMap slices
    → Some id ≡ option_map (λ (slice : Slice). slice.id) (slice_named slices name)
    → MatchOption found (All (λ (slice : Slice). slice.id ≢ id) slices) (λ slice. Contains slices slice.now × (slice.now.id ≡ id))
    → option_copied found ≡ slice_named slices name
named_by_id slices name id found is_map is ends = by (slice_named slices name) refl found ends where
  by : (named : Option Slice) → slice_named slices name ≡ named → (other : Option (Bor Slice))
      → MatchOption other (All (λ (slice : Slice). slice.id ≢ id) slices) (λ slice. Contains slices slice.now × (slice.now.id ≡ id))
      → option_copied other ≡ slice_named slices name
  by None none other ends = absurd (none-some id (sym (is ∙ ap (option_map (λ (slice : Slice). slice.id)) none)))
  by (Some slice) some None ends =
      let there = named_there slices name slice some in
      let same : slice.id ≡ id = sym (same_Some id slice.id (is ∙ ap (option_map (λ (one : Slice). one.id)) some)) in
      absurd (All-contains (λ (one : Slice). one.id ≢ id) slices slice ends there same)
  by (Some slice) some (Some one) (there, same) =
      let named : slice.id ≡ id = sym (same_Some id slice.id (is ∙ ap (option_map (λ (s : Slice). s.id)) some)) in
      let equal : one.now ≡ slice = same_by_id slices one.now slice is_map there (named_there slices name slice some) (same ∙ sym named) in
      ap (λ (s : Slice). Some s) equal ∙ sym some

-- a cut into n parts gives n ranges
pub parts_count : (min max : ℤ) (n k : ℕ) → length (first_parts min max n k) ≡ k
parts_count min max n zero = refl
parts_count min max n (suc k) =
    omega (arith, length-append (first_parts min max n k) (part min max n k ∷ []), parts_count min max n k)

-- the name of the slice of this id, whose split is open
pub named_running : (slices : List Slice) (id : SliceId) (slice : Slice) (name : List ℕ) → IsMap slices → IsBeingSplit slices id
    → Contains slices slice → slice.id ≡ id → slice.name ≡ name → IsRunningOf slices name
named_running slices id slice name is_map (parent, named, splitting) there same is =
    let equal : parent ≡ slice = same_by_id slices parent slice is_map splitting.there there (named ∙ sym same) in
    (parent, splitting, ap (λ (s : Slice). s.name) equal ∙ is)
