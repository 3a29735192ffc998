-- A document as a whole is what the changes make that set all its fields.
use Rattle.std.proofs.Common.{◌≡◌, ℕ, Bool, true, false, List, [], ◌∷◌, length, Option, Some, None, refl, sym, ap, subst, inl, inr, arith}
use Rattle.std.specs.Bool.{IsTrue}
use Rattle.std.specs.Str.{bytes_eq}
use Rattle.std.specs.List.{list_all, AllByRecursion}
use Rattle.std.specs.List.Sorted.{IsStrictlySortedBy}
use Rattle.std.specs.Ordering.{nat_cmp}
use Rattle.std.specs.Cmp.Lexicographic.{slice_cmp}
use Rattle.std.proofs.lemmas.Bool.{cases_Bool, and_parts}
use Rattle.std.proofs.lemmas.Bool.Decides.{nat_tests}
use Rattle.sc_values.specs.Fields.{kind_of, fits_kind, fits_count, fits_name, IsField, values_of}
use Rattle.sc_record.specs.Orders.{fits_change, IsFieldChange}
use Rattle.sc_values.specs.declared.value.Kind.{Kind}
use Rattle.sc_values.specs.declared.value.Value.{Value}
use Rattle.sc_values.specs.declared.field.Field.{Field}
use Rattle.sc_record.specs.declared.order.How.TheVariants as hows
use Rattle.sc_values.proofs.FieldLemmas.{names-sorted}
use Rattle.sc_values.proofs.FieldLemmas as fields_of_documents
use Rattle.sc_partial.specs.Changed.{has_room}
use Rattle.sc_partial.specs.Resolved.{resolved, some_values, first_refused}
use Rattle.sc_partial.specs.Laws.{set_all, SetsAWhole}
use Rattle.sc_partial.proofs.NameLemmas.{names_of}
use Rattle.sc_partial.proofs.MergeLemmas.{some_values-is}

-- values that fit a field may be set
fits_set : (kind : Option (Kind × Bool)) (list : List Value) → IsTrue (fits_name kind list) → IsTrue (fits_change kind (hows.Set list))
fits_set None list fits = cc
fits_set (Some (kind, many)) list fits = (and_parts (list_all (fits_kind kind) list) (fits_count many (length list)) fits).0

fits_room : (kind : Option (Kind × Bool)) (list : List Value) → IsTrue (fits_name kind list) → has_room kind list ≡ true
fits_room None list fits = cc
fits_room (Some (kind, true)) list fits = refl
fits_room (Some (kind, false)) list fits =
    let one = (and_parts (list_all (fits_kind kind) list) (fits_count false (length list)) fits).1 in grind (arith, nat_tests)

each_set : (fields : List Field) → AllByRecursion IsField fields → AllByRecursion IsFieldChange (set_all fields)
each_set [] each = tt
each_set (f ∷ fields) each = (fits_set (kind_of f.name) f.values each.0, each_set fields each.1)

names_of-set_all : (fields : List Field) → fields_of_documents.names_of fields ≡ names_of (set_all fields)
names_of-set_all [] = refl
names_of-set_all (f ∷ fields) = ap (λ (names : List (List ℕ)). f.name ∷ names) (names_of-set_all fields)

none_refused : (fields : List Field) → AllByRecursion IsField fields → first_refused [] (set_all fields) ≡ None
none_refused [] each = refl
none_refused (f ∷ fields) each = rw (fits_room (kind_of f.name) f.values each.0) (none_refused fields each.1)

all_set : (fields : List Field) → AllByRecursion IsField fields → (name : List ℕ) → values_of fields name ≡ some_values (resolved [] (set_all fields) name)
all_set [] each name = refl
all_set (f ∷ fields) each name = elim (cases_Bool (bytes_eq f.name name)) [
  | inl same ↦ rw same (sym (some_values-is (kind_of f.name) f.values each.0))
  | inr differs ↦ rw differs (all_set fields each.1 name)
]

pub sets_a_whole : SetsAWhole
sets_a_whole fields document = (
  (each_set fields document.each, subst (IsStrictlySortedBy (slice_cmp nat_cmp)) (names_of-set_all fields) (names-sorted fields document.ascends)),
  none_refused fields document.each,
  record { document = document; values = all_set fields document.each },
)
