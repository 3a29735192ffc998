-- What a builder keeps, and what becomes of it when a row is added.
use Rattle.std.specs.Prelude.{◌≡◌, ◌≢◌, ℕ, ◌+◌, ◌-◌, ◌<◌, ◌≤◌, ◌==◌, true, if◌then◌else◌, List, [], ◌∷◌, ◌++◌, length, map, filter, slice_get, All, Option, None, Some, is_some, unwrap_or}
use Rattle.std.specs.declared.cmp.Ordering.{Ordering}
use Rattle.std.specs.List.{IsDistinct, list_any}
use Rattle.std.specs.List.Sorted.{IsStrictlyIncreasing}
use Rattle.std.specs.Map.{lookup}
use Rattle.std.specs.Ordering.{is_eq, is_gt}
use Rattle.sc_segment.specs.declared.tally.Posting.{Posting}
use Rattle.sc_segment.specs.declared.tally.Tally.{Tally}
use Rattle.sc_segment.specs.Index.{without_repeats}

-- a builder: its index of what was added, and the row that was added last, or 0
pub record BuilderState (K : Type 0) : Type 0 where
  pub index : List (K × List ℕ)
  pub last_row : ℕ

-- an entry is put before the first one whose key is not below its own
abbrev pub put_in_order : {K : Type 0} → (K → K → Ordering) → K × List ℕ → List (K × List ℕ) → List (K × List ℕ)
put_in_order order e [] = e ∷ []
put_in_order order e (f ∷ entries) = if is_gt (order e.0 f.0) then f ∷ put_in_order order e entries else e ∷ f ∷ entries

-- the entries in the order of their keys
abbrev pub sorted_entries : {K : Type 0} → (K → K → Ordering) → List (K × List ℕ) → List (K × List ℕ)
sorted_entries order [] = []
sorted_entries order (e ∷ entries) = put_in_order order e (sorted_entries order entries)

-- the rows of the key with this number, in the order in which they came
abbrev pub posting_rows : ℕ → List Posting → List ℕ
posting_rows number postings = map (λ p. p.row) (filter (λ p. number == p.number) postings)

-- the keys with their rows
abbrev pub filed_entries : {K : Type 0} → List (K × Tally) → List Posting → List (K × List ℕ)
filed_entries keys postings = map (λ e. (e.0, posting_rows e.1.number postings)) keys

-- the numbers of keys
abbrev pub tally_numbers : List Tally → List ℕ
tally_numbers tallies = map (λ t. t.number) tallies

-- a tally of these rows, which ascend
pub record IsTallyOf (rows : List ℕ) (tally : Tally) : Type 0 where
  pub count : tally.count ≡ length rows
  pub last : slice_get rows (length rows - 1) ≡ Some tally.last
  pub ascending : IsStrictlyIncreasing rows

-- keys are numbered from 0 up, in any order
pub record AreNumbered (tallies : List Tally) : Type 0 where
  pub distinct : IsDistinct (λ m n. m == n) (tally_numbers tallies)
  pub below : All (λ n. n < length tallies) (tally_numbers tallies)

-- each posting is one of these keys, whose tallies are those of their rows
pub record AreFiled (tallies : List Tally) (postings : List Posting) : Type 0 where
  pub numbered : AreNumbered tallies
  pub known : All (λ p. list_any (λ n. n == p.number) (tally_numbers tallies) ≡ true) postings
  pub counted : All (λ t. IsTallyOf (posting_rows t.number postings) t) tallies

-- no posting's row is above this one
abbrev pub NoRowAbove : ℕ → List Posting → Type 0
NoRowAbove row postings = All (λ p. p.row ≤ row) postings

-- what becomes of a key's tally when a row is added, and the key's number where it is a row more
abbrev pub Counts : ℕ → (old new : Tally) → Option ℕ → Type 0
Counts row old new None = (old.last ≡ row) × (new ≡ old)
Counts row old new (Some number) = (old.last ≢ row) × (number ≡ old.number) × (new.number ≡ old.number) × (new.count ≡ old.count + 1) × (new.last ≡ row)

-- the posting of a row at the key with this number, if there is one
abbrev pub posting_of : Option ℕ → ℕ → List Posting
posting_of None row = []
posting_of (Some number) row = record { number = number; row = row } ∷ []

-- a new index has one row more at a key, and at each other key what the old one has
pub record FilesRow {K : Type 0} (order : K → K → Ordering) (row : ℕ) (key : K) (old new : List (K × List ℕ)) : Type 0 where
  pub lists : (other : K) → lookup (λ k. is_eq (order other k)) new
      ≡ (if is_eq (order key other)
      then Some (without_repeats (unwrap_or (lookup (λ k. is_eq (order key k)) old) [] ++ row ∷ []))
      else lookup (λ k. is_eq (order other k)) old)
  pub size : length new ≡ length old + (if is_some (lookup (λ k. is_eq (order key k)) old) then 0 else 1)
