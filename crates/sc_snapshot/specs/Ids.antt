-- Where the row of an id stands among the live rows.
use Rattle.std.specs.Prelude.{◌≡◌, ℕ, true, false, slice_get, List, Option, None, Some}
use Rattle.sc_record.specs.Writes.{Write}
use Rattle.sc_snapshot.specs.Postings.{is_live_of}

-- the live row of the id has the number at this place; there is none, where there is no place
abbrev pub IsPlaceOfId : List Write → List ℕ → List ℕ → Option ℕ → Type 0
IsPlaceOfId rows live id None = (number : ℕ) → is_live_of id (slice_get rows number) ≡ false
IsPlaceOfId rows live id (Some at) = (number : ℕ) × (slice_get live at ≡ Some number) × (is_live_of id (slice_get rows number) ≡ true)
