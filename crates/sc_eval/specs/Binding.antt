-- The criterion that a query is once its leaves are bound to fields, or the place of its first fault.
use Rattle.std.specs.Prelude.{ℕ, Bool, List, codes, Option, Some, None, option_map, ok_or, Result, Ok, Err, if◌then◌else◌}
use Rattle.std.specs.Str.{bytes_eq}
use Rattle.sc_values.specs.Fields.{kind_of}
use Rattle.sc_values.specs.declared.value.Kind.{Kind}
use Rattle.sc_record.specs.declared.term.Term.{Term}
use Rattle.sc_query.specs.Tree.{Tree}
use Rattle.sc_schema.specs.Terms.{key_of, term}
use Rattle.sc_eval.specs.Criteria.{Criterion}

-- the key that a value asks for in a field of this kind; None where there is no such field or the value can be no key in it
abbrev pub key_in : Option (Kind × Bool) → List ℕ → Option (List ℕ)
key_in None value = None
key_in (Some (kind, many)) value = key_of kind value

-- The term that a leaf asks for: of `id` the value as it is, of a dynamic field the key that the value writes. None where the
-- leaf is at fault.
abbrev pub leaf_term : (field value : List ℕ) → Option Term
leaf_term field value =
    if bytes_eq field (codes "id") then Some (term field value) else option_map (term field) (key_in (kind_of field) value)

-- a criterion made of one that was found; or its fault
abbrev pub made_of : (Criterion → Criterion) → Result Criterion ℕ → Result Criterion ℕ
made_of make (Ok one) = Ok (make one)
made_of make (Err at) = Err at

-- a criterion made of two that were found; or the fault of the first, or else of the second
abbrev pub made_of_both : (Criterion → Criterion → Criterion) → (left right : Result Criterion ℕ) → Result Criterion ℕ
made_of_both make (Ok left) right = made_of (make left) right
made_of_both make (Err at) right = Err at

-- the criterion that a query is; or the place of its first leaf, from left to right, that is at fault
abbrev pub bound : Tree → Result Criterion ℕ
bound Tree.All = Ok Criterion.All
bound (Tree.Leaf field value at) = ok_or (option_map Criterion.Leaf (leaf_term field value)) at
bound (Tree.Not t) = made_of Criterion.Not (bound t)
bound (Tree.And s t) = made_of_both Criterion.And (bound s) (bound t)
bound (Tree.Or s t) = made_of_both Criterion.Or (bound s) (bound t)
