-- Which rows a criterion finds, by their numbers, and in how many steps.
use Rattle.std.specs.Prelude.{◌≡◌, ℕ, ◌+◌, ◌*◌, ◌^◌, ◌<◌, ◌≤◌, Bool, false, ◌&&◌, if◌then◌else◌, List, filter, length, take, Option, None, Some, slice_get}
use Rattle.std.specs.List.Sorted.{IsStrictlyIncreasing}
use Rattle.sc_hash.specs.Bounds.{bounds, contains}
use Rattle.sc_hash.specs.declared.range.Range.{Range}
use Rattle.sc_record.specs.Writes.{Write}
use Rattle.sc_rows.specs.Joining.{has_row}
use Rattle.sc_snapshot.specs.Postings.{term_count}
use Rattle.sc_eval.specs.Criteria.{Criterion}
use Rattle.sc_eval.specs.Matching.{matches, is_live, finds}
use Rattle.sc_eval.specs.declared.numbers.Matches.{Matches}
use Rattle.sc_eval.specs.declared.numbers.Numbers.{Numbers}
use Rattle.sc_eval.specs.declared.numbers.Numbers.TheVariants.{Lent, Made}

-- the numbers as a list, whoever keeps it
abbrev pub numbers_of : Numbers → List ℕ
numbers_of (Lent numbers) = numbers.now
numbers_of (Made numbers) = numbers.items

-- there is a row, and it passes the test
abbrev pub passes : (Write → Bool) → Option Write → Bool
passes test None = false
passes test (Some row) = test row

-- there is a row, and the criterion finds it in the range
abbrev pub finds_at : Range → Criterion → Option Write → Bool
finds_at range criterion = passes (finds range criterion)

-- the row is live and its document meets the criterion, whatever its hash
abbrev pub is_match : Criterion → Write → Bool
is_match criterion row = is_live row && matches criterion row

-- the row, where there is one and its hash is in the range
abbrev pub row_in : Range → Option Write → Option Write
row_in range None = None
row_in range (Some row) = if contains row.hash (bounds range) then Some row else None

-- the numbers of the rows that pass the test, counted from 0, ascending
pub record AreNumbersOf (test : Write → Bool) (rows : List Write) (numbers : List ℕ) : Type 0 where
  pub members : (number : ℕ) → has_row numbers number ≡ passes test (slice_get rows number)
  pub ascending : IsStrictlyIncreasing numbers

-- how many numbers there are, and the first of them, at most so many
pub record IsBeginning (most : ℕ) (numbers : List ℕ) (found : Matches) : Type 0 where
  pub count : found.count ≡ length numbers
  pub first : numbers_of found.first ≡ take most numbers

-- how many rows the criterion finds in the range, and the numbers of the first of them, at most so many
pub record AreMatches (range : Range) (criterion : Criterion) (rows : List Write) (most : ℕ) (found : Matches) : Type 0 where
  pub numbers : List ℕ
  pub members : (number : ℕ) → has_row numbers number ≡ finds_at range criterion (slice_get rows number)
  pub ascending : IsStrictlyIncreasing numbers
  pub beginning : IsBeginning most numbers found

-- how many leaves a criterion has
abbrev pub leaves : Criterion → ℕ
leaves Criterion.All = 0
leaves (Criterion.Leaf term) = 1
leaves (Criterion.Not operand) = leaves operand
leaves (Criterion.And left right) = leaves left + leaves right
leaves (Criterion.Or left right) = leaves left + leaves right

-- to look a term up among those of these rows takes at most so many comparisons, where each halves what is left of them
abbrev pub IsLookUp : List Write → ℕ → Type 0
IsLookUp rows most = 2 * term_count rows + 1 < 2 ^ (most + 1)

-- these are no more steps than a look-up for each leaf of the criterion
abbrev pub AreStepsOfLeaves : Criterion → List Write → ℕ → Type 0
AreStepsOfLeaves criterion rows steps = (most : ℕ) → IsLookUp rows most → steps ≤ leaves criterion * most

-- these are no more steps than a look-up for each leaf of the criterion, and one for each live row that matches
abbrev pub AreStepsOfSearch : Criterion → List Write → ℕ → Type 0
AreStepsOfSearch criterion rows steps = (most : ℕ) → IsLookUp rows most
    → steps ≤ leaves criterion * most + length (filter (is_match criterion) rows)
