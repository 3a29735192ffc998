-- Documents as requests give them.
use Rattle.std.specs.Prelude.{ℕ, List, map}
use Rattle.std.specs.Cmp.Lexicographic.{slice_cmp}
use Rattle.std.specs.List.Sorted.{IsStrictlySortedBy}
use Rattle.std.specs.Ordering.{nat_cmp}
use Rattle.sc_schema.specs.declared.raw.RawField.{RawField}

-- the names of fields, in order
abbrev pub raw_names : List RawField → List (List ℕ)
raw_names fields = map (λ (field : RawField). field.name) fields

-- the names ascend by their bytes, so that each stands once
abbrev pub AscendByName : List RawField → Type 0
AscendByName fields = IsStrictlySortedBy (slice_cmp nat_cmp) (raw_names fields)
