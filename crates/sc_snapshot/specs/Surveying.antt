-- What a survey of the first rows has.
use Rattle.std.specs.Prelude.{◌≡◌, ◌≤ℤ◌, ℕ, ◌-◌, List, ◌++◌, map, filter, length, take, replicate, slice_get, is_some, true}
use Rattle.std.specs.List.{range_with_len}
use Rattle.sc_record.specs.Writes.{Write}
use Rattle.sc_snapshot.specs.Postings.{is_live_at}
use Rattle.sc_snapshot.specs.declared.survey.Survey.{Survey}

-- the live ones of so many first rows, by their numbers
abbrev pub live_numbers : List Write → ℕ → List ℕ
live_numbers rows count = filter (λ number. is_live_at (slice_get rows number)) (map (λ number. number) (range_with_len 0 count))

-- so many first rows are surveyed, and each row after them counts as live
pub record AreSurveyed (rows : List Write) (count : ℕ) (survey : Survey) : Type 0 where
  pub live_rows : survey.live_rows.items ≡ live_numbers rows count
  pub live_bits : survey.live_bits ≡ map (λ (row : Write). is_some row.doc) (take count rows) ++ replicate (length rows - count) true

-- the row's hash is within a survey's bounds
abbrev pub BoundsHashOf : Survey → Write → Type 0
BoundsHashOf survey row = (survey.least_hash ≤ℤ row.hash) × (row.hash ≤ℤ survey.greatest_hash)

-- what is within the bounds of one survey is within those of the other
abbrev pub HasBoundsOf : (one other : Survey) → Type 0
HasBoundsOf one other = (other.least_hash ≤ℤ one.least_hash) × (one.greatest_hash ≤ℤ other.greatest_hash)
