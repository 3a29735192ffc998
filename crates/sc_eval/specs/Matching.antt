-- Which writes a criterion finds.
use Rattle.std.specs.Prelude.{ℕ, Bool, true, not, ◌&&◌, ◌||◌, List, [], Option, Some, None, is_some, bytes_eq}
use Rattle.std.specs.List.{list_any}
use Rattle.sc_hash.specs.Bounds.{bounds, contains}
use Rattle.sc_hash.specs.declared.range.Range.{Range}
use Rattle.sc_values.specs.declared.field.Field.{Field}
use Rattle.sc_record.specs.declared.term.Term.{Term}
use Rattle.sc_record.specs.Writes.{Write}
use Rattle.sc_schema.specs.Terms.{found_by}
use Rattle.sc_eval.specs.Criteria.{Criterion}

-- the two terms have one field and one key
abbrev pub is_term : Term → Term → Bool
is_term one other = bytes_eq one.field other.field && bytes_eq one.key other.key

-- what the document of this id is found by: nothing where it was deleted
abbrev pub terms_in : List ℕ → Option (List Field) → List Term
terms_in id None = []
terms_in id (Some fields) = found_by id fields

-- what is found by these terms meets the criterion
abbrev pub matches_by : List Term → Criterion → Bool
matches_by terms Criterion.All = true
matches_by terms (Criterion.Leaf term) = list_any (is_term term) terms
matches_by terms (Criterion.Not operand) = not (matches_by terms operand)
matches_by terms (Criterion.And left right) = matches_by terms left && matches_by terms right
matches_by terms (Criterion.Or left right) = matches_by terms left || matches_by terms right

-- the write's document meets the criterion
abbrev pub matches : Criterion → Write → Bool
matches criterion write = matches_by (terms_in write.id write.doc) criterion

-- the write is of a document, and is no deletion
abbrev pub is_live : Write → Bool
is_live write = is_some write.doc

-- the criterion finds the write in the range: it is live, its hash is in the range, and its document meets the criterion
abbrev pub finds : Range → Criterion → Write → Bool
finds range criterion write = is_live write && contains write.hash (bounds range) && matches criterion write
