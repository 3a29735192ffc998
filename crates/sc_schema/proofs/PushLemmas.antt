-- Of the values of a new document's field, and of the field that they make.
use Rattle.std.proofs.Common.{◌≡◌, ◌⊎◌, inl, inr, Bool, true, false, cond, ◌||◌, ℕ, suc, ◌<◌, ◌≤◌, List, [], ◌∷◌, ◌++◌, length, Option, Some, None, option_map, Result, Ok, Err, refl, sym, ap, subst, ◌∙◌, arith}
use Rattle.std.specs.Prelude.{IfOk}
use Rattle.std.specs.Bool.{nat_le}
use Rattle.std.specs.List.{flat_map}
use Rattle.std.specs.Option.{option_and_then}
use Rattle.std.proofs.lemmas.Bool.Decides.{nat_tests}
use Rattle.std.proofs.lemmas.Option.{option_and_then_some}
use Rattle.sc_values.specs.declared.value.Kind.{Kind}
use Rattle.sc_values.specs.declared.value.Value.{Value}
use Rattle.sc_spelling.specs.Spellings.{spelling_of_value}
use Rattle.sc_record.specs.DocParts.{DocParts, with_field, FitsBefore}
use Rattle.sc_record.proofs.DocPartsLemmas.{spelled_field}
use Rattle.sc_schema.specs.Values.{given, value_of, values_in, values_for, within_count}
use Rattle.sc_schema.specs.NewDocuments.{set_to, AddsFields, AddsValues, IfFit}
use Rattle.sc_schema.specs.declared.raw.RawOne.{RawOne}
use Rattle.sc_schema.specs.declared.raw.RawFlat.{RawFlat}
use Rattle.sc_schema.proofs.FitLemmas.{mapped}

-- a list that fits gives as many values as it has
as_many : (kind : Kind) (list : List RawOne) (values : List Value) → values_in kind list ≡ Some values → length values ≡ length list
as_many kind [] values h = let e : [] ≡ values = cc in ap length (sym e)
as_many kind (one ∷ list) values h =
    option_and_then_some (λ value. option_map (λ more. value ∷ more) (values_in kind list)) (value_of kind one) values h
    (λ value was e. mapped (λ more. value ∷ more) (values_in kind list) values e
    (λ more read same. ap length (sym same) ∙ ap suc (as_many kind list more read)))

-- more values than the field may have
beyond : (many few : Bool) (values : List Value) → many ≡ false → few ≡ false → cond (many || few) (Some values) None ≡ None
beyond true few values h g = cc
beyond false true values h g = cc
beyond false false values h g = refl

-- as many as it may have
within : (many few : Bool) (values : List Value) → (many ≡ true) ⊎ (few ≡ true) → cond (many || few) (Some values) None ≡ Some values
within true few values h = refl
within false true values h = refl
within false false values (inl h) = cc
within false false values (inr h) = cc

-- several values fit no field of one
pub too_many : (kind : Kind) (many : Bool) (flat : RawFlat) (list : List RawOne) (holds : List Value → Type 0) → list ≡ given flat → many ≡ false → 1 < length list
    → IfFit false (values_for kind many flat) holds
too_many kind many flat list holds is single several =
    subst (λ (l : List RawOne). IfFit false (option_and_then (within_count many) (values_in kind l)) holds) is (by_values (values_in kind list) refl)
  where
    by_values : (o : Option (List Value)) → values_in kind list ≡ o → IfFit false (option_and_then (within_count many) o) holds
    by_values None was = tt
    by_values (Some values) was =
        let several_values : 1 < length values = omega (arith, several, as_many kind list values was) in
        let few : nat_le (length values) 1 ≡ false = grind (arith, nat_tests) in
        subst (λ (o : Option (List Value)). IfFit false o holds) (sym (beyond many (nat_le (length values) 1) values single few)) tt

-- where the field has values, it is one field more
one_field : (name : List ℕ) (count : ℕ) (values : List Value) (old begun new : DocParts) → length values ≡ count → 0 < count → begun ≡ with_field name count old → FitsBefore name count
    → AddsValues values begun new → AddsFields (set_to name values ∷ []) old new
one_field name count [] old begun new same some is fits adds = absurd (omega (arith, same, some))
one_field name count (value ∷ values) old begun new same some is fits adds = record {
  adds = record {
    count = omega (arith, adds.count, ap (λ (p : DocParts). p.count) is);
    bytes = adds.bytes ∙ ap (λ (b : List ℕ). b ++ flat_map spelling_of_value (value ∷ values)) (ap (λ (p : DocParts). p.bytes) is ∙ ap (λ (n : ℕ). (with_field name n old).bytes) (sym same))
        ∙ spelled_field name (value ∷ values) old.bytes;
  };
  fits = (record { name = fits.short; text = fits.text; count = omega (arith, same, fits.few); each = adds.fits }, tt);
}

-- a field that was begun and the values put after it are one field more
pub field_added : {E : Type 0} (r : Result Bool E) (kind : Kind) (many : Bool) (flat : RawFlat) (list : List RawOne) (name : List ℕ) (old begun new : DocParts) → list ≡ given flat → 0 < length list
    → (many ≡ true) ⊎ (length list ≤ 1) → begun ≡ with_field name (length list) old → FitsBefore name (length list)
    → IfOk r (λ fit. IfFit fit (values_in kind list) (λ values. AddsValues values begun new))
    → IfOk r (λ fit. IfFit fit (values_for kind many flat) (λ values. AddsFields (set_to name values ∷ []) old new))
field_added (Err e) kind many flat list name old begun new is some enough begins fits adds = tt
field_added (Ok fit) kind many flat list name old begun new is some enough begins fits adds =
    subst (λ (l : List RawOne). IfFit fit (option_and_then (within_count many) (values_in kind l)) (λ values. AddsFields (set_to name values ∷ []) old new)) is
    (by_values fit (values_in kind list) refl adds)
  where
    few_values : (values : List Value) → length values ≡ length list → (many ≡ true) ⊎ (length list ≤ 1) → (many ≡ true) ⊎ (nat_le (length values) 1 ≡ true)
    few_values values same (inl h) = inl h
    few_values values same (inr h) = let few : length values ≤ 1 = omega (arith, h, same) in let test : nat_le (length values) 1 ≡ true = grind (arith, nat_tests) in inr test

    by_values : (fit : Bool) (o : Option (List Value)) → values_in kind list ≡ o → IfFit fit o (λ values. AddsValues values begun new)
        → IfFit fit (option_and_then (within_count many) o) (λ values. AddsFields (set_to name values ∷ []) old new)
    by_values true None was none = absurd none
    by_values false None was none = tt
    by_values false (Some values) was some_left = absurd some_left
    by_values true (Some values) was adds_values =
        let same : length values ≡ length list = as_many kind list values was in
        subst (λ (o : Option (List Value)). IfFit true o (λ values. AddsFields (set_to name values ∷ []) old new))
        (sym (within many (nat_le (length values) 1) values (few_values values same enough)))
        (one_field name (length list) values old begun new same some begins fits adds_values)
