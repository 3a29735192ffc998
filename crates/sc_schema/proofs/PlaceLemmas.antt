-- The term of the id has its place among those of the fields, so that all are the terms of the document.
use Rattle.std.proofs.Common.{◌≡◌, ℕ, zero, suc, ⊎_elim, List, [], ◌∷◌, ◌++◌, map, take, drop, refl, sym, ap, subst, ◌∙◌, Contains, nat_cmp}
use mathlib.Core.Bool.{false≢true}
use Rattle.std.specs.Bool.{IsTrue}
use Rattle.std.specs.Cmp.Lexicographic.{slice_cmp, texts_ties}
use Rattle.std.specs.List.{AllByRecursion, slice_get}
use Rattle.std.specs.Option.{IfSome}
use Rattle.std.specs.Ordering.{is_eq, ordering_reverse}
use Rattle.std.specs.Prelude.{flat_map, codes}
use Rattle.std.specs.declared.cmp.Ordering.{Ordering}
use Rattle.std.specs.declared.cmp.Ordering.TheVariants.{Less, Equal, Greater}
use Rattle.std.proofs.lemmas.Cmp.{nat_list_cmp_total}
use Rattle.std.proofs.lemmas.List.{take-append-drop}
use Rattle.std.proofs.lemmas.List.Concat.{flat_map-append}
use Rattle.std.proofs.lemmas.List.Elements.{Contains-append_left, Contains-append_right, Contains-append_cases}
use Rattle.std.proofs.lemmas.List.Folds.{flat_map-map}
use Rattle.std.proofs.lemmas.Slice.Eq.{bytes_eq-Decides}
use Rattle.sc_values.specs.Fields.{IsDocument, IsField, Ascends, IsBelowFirst, kind_of, fits_name}
use Rattle.sc_values.specs.declared.field.Field.{Field}
use Rattle.sc_record.specs.declared.term.Term.{Term}
use Rattle.sc_schema.specs.Terms.{term, field_terms, AreTerms}
use Rattle.sc_schema.specs.Keys.{Found, found_in_field, AreTermsInOrder, IsBelowId}
use Rattle.sc_schema.proofs.KeyLemmas.{terms_in, IsBelow, AscendByField, all_ascend, all_same}

below_first : (name other : List ℕ) (fields : List Field) → slice_cmp nat_cmp name other ≡ Less → IsBelowFirst other fields → IsBelowFirst name fields
below_first name other [] h below = tt
below_first name other (f ∷ fields) h below = nat_list_cmp_total.trans name other f.name h below

below_all : (name : List ℕ) (fields : List Field) → IsBelowFirst name fields → Ascends fields → IsBelow name (map found_in_field fields)
below_all name [] below ascend = tt
below_all name (f ∷ fields) below ascend = (below, below_all name fields (below_first name f.name fields below ascend.0) ascend.1)

all_ascend_by : (fields : List Field) → Ascends fields → AscendByField (map found_in_field fields)
unfolding AscendByField
all_ascend_by [] ascend = tt
all_ascend_by (f ∷ fields) ascend = (below_all f.name fields ascend.0 ascend.1, all_ascend_by fields ascend.1)

-- no field has the name of the id
no_id : (field : Field) → IsField field → field.name ≡ codes "id" → ⊥
unfolding kind_of
no_id field fits h = false≢true (subst (λ name. IsTrue (fits_name (kind_of name) field.values)) h fits)

id_below : (field : Field) → IsField field → (IsBelowId field → ⊥) → slice_cmp nat_cmp (codes "id") field.name ≡ Less
id_below field fits h = by (slice_cmp nat_cmp field.name (codes "id")) refl
  where
    by : (o : Ordering) → slice_cmp nat_cmp field.name (codes "id") ≡ o → slice_cmp nat_cmp (codes "id") field.name ≡ Less
    by Less e = absurd (h e)
    by Equal e = absurd (no_id field fits ((bytes_eq-Decides field.name (codes "id")).0 (texts_ties field.name (codes "id") ∙ ap is_eq e)))
    by Greater e = nat_list_cmp_total.antisymm (codes "id") field.name ∙ ap ordering_reverse e

-- what was found in the fields, and the id at its place among them
abbrev pub with_id : List ℕ → ℕ → List Field → List Found
with_id id at fields = map found_in_field (take at fields) ++ (codes "id", id ∷ []) ∷ map found_in_field (drop at fields)

below_with : (name id : List ℕ) (at : ℕ) (fields : List Field) → slice_cmp nat_cmp name (codes "id") ≡ Less → IsBelow name (map found_in_field fields)
    → IsBelow name (with_id id at fields)
below_with name id zero fields h below = (h, below)
below_with name id (suc at) [] h below = (h, tt)
below_with name id (suc at) (f ∷ fields) h below = (below.0, below_with name id at fields h below.1)

with_id-ascends : (id : List ℕ) (at : ℕ) (fields : List Field) → AllByRecursion IsField fields → Ascends fields
    → AllByRecursion IsBelowId (take at fields) → IfSome (slice_get fields at) (λ field. IsBelowId field → ⊥)
    → AscendByField (with_id id at fields)
unfolding AscendByField
with_id-ascends id zero [] each ascend below next = (tt, tt)
with_id-ascends id zero (f ∷ fields) each ascend below next =
    (below_all (codes "id") (f ∷ fields) (id_below f each.0 next) ascend, all_ascend_by (f ∷ fields) ascend)
with_id-ascends id (suc at) [] each ascend below next = (tt, tt)
with_id-ascends id (suc at) (f ∷ fields) each ascend below next = (
  below_with f.name id at fields below.0 (below_all f.name fields ascend.0 ascend.1),
  with_id-ascends id at fields each.1 ascend.1 below.1 next,
)

-- what stands in the middle is moved to the front
to_front : (xs ys : List Term) (z t : Term) → Contains (xs ++ z ∷ ys) t → Contains (z ∷ (xs ++ ys)) t
to_front xs ys z t there =
    ⊎_elim (λ inside. Contains-append_right (z ∷ []) (xs ++ ys) t (Contains-append_left xs ys t inside))
    (λ inside. ⊎_elim (λ first. Contains-append_left (z ∷ []) (xs ++ ys) t first)
    (λ last. Contains-append_right (z ∷ []) (xs ++ ys) t (Contains-append_right xs ys t last))
    (Contains-append_cases (z ∷ []) ys t inside))
    (Contains-append_cases xs (z ∷ ys) t there)

from_front : (xs ys : List Term) (z t : Term) → Contains (z ∷ (xs ++ ys)) t → Contains (xs ++ z ∷ ys) t
from_front xs ys z t there =
    ⊎_elim (λ first. Contains-append_right xs (z ∷ ys) t (Contains-append_left (z ∷ []) ys t first))
    (λ inside. ⊎_elim (λ left. Contains-append_left xs (z ∷ ys) t left)
    (λ right. Contains-append_right xs (z ∷ ys) t (Contains-append_right (z ∷ []) ys t right))
    (Contains-append_cases xs ys t inside))
    (Contains-append_cases (z ∷ []) (xs ++ ys) t there)

-- terms in that order are those of the document
pub terms-with_id : (id : List ℕ) (at : ℕ) (fields : List Field) (terms : List Term) → IsDocument fields
    → AllByRecursion IsBelowId (take at fields) → IfSome (slice_get fields at) (λ field. IsBelowId field → ⊥)
    → AreTermsInOrder (with_id id at fields) terms → AreTerms id fields terms
terms-with_id id at fields terms document below next are =
    let before = flat_map field_terms (take at fields) in
    let after = flat_map field_terms (drop at fields) in
    let own = term (codes "id") id in
    let is : flat_map terms_in (with_id id at fields) ≡ before ++ own ∷ after =
    flat_map-append terms_in (map found_in_field (take at fields)) ((codes "id", id ∷ []) ∷ map found_in_field (drop at fields))
    ∙ ap (λ xs. xs ++ own ∷ flat_map terms_in (map found_in_field (drop at fields))) (flat_map-map terms_in found_in_field (take at fields))
    ∙ ap (λ xs. before ++ own ∷ xs) (flat_map-map terms_in found_in_field (drop at fields)) in
    let whole : before ++ after ≡ flat_map field_terms fields =
    sym (flat_map-append field_terms (take at fields) (drop at fields)) ∙ ap (flat_map field_terms) (take-append-drop at fields) in
    let same = all_same (with_id id at fields) terms are in
    record {
      ascend = all_ascend (with_id id at fields) terms (with_id-ascends id at fields document.each document.ascends below next) are;
      same = λ t. (
        λ there. subst (λ xs. Contains (own ∷ xs) t) whole (to_front before after own t (subst (λ xs. Contains xs t) is ((same t).0 there))),
        λ there. (same t).1 (subst (λ xs. Contains xs t) (sym is) (from_front before after own t (subst (λ xs. Contains (own ∷ xs) t) (sym whole) there))),
      );
    }
