-- Changes determine one document: there is no other, and there is one where no field refuses its change.
use Rattle.std.proofs.Common.{◌≡◌, ℕ, Bool, true, false, List, [], ◌∷◌, ◌++◌, Option, Some, None, refl, sym, ap, subst, ◌∙◌, inl, inr}
use Rattle.std.specs.Bool.{IsTrue, if◌then◌else◌}
use Rattle.std.specs.Str.{bytes_eq}
use Rattle.std.specs.Ordering.{nat_cmp, ordering_reverse}
use Rattle.std.specs.Cmp.Lexicographic.{slice_cmp}
use Rattle.std.specs.declared.cmp.Ordering.{Ordering}
use Rattle.std.specs.declared.cmp.Ordering.TheVariants.{Less, Equal, Greater}
use Rattle.std.proofs.lemmas.Bool.{cases_Bool}
use Rattle.std.proofs.lemmas.Cmp.{nat_list_cmp_total}
use Rattle.sc_values.specs.Fields.{Ascends, AreFields, values_of}
use Rattle.sc_record.specs.Orders.{AreFieldChanges}
use Rattle.sc_values.specs.declared.field.Field.{Field}
use Rattle.sc_record.specs.declared.order.FieldChange.{FieldChange}
use Rattle.sc_partial.specs.Changed.{can_change}
use Rattle.sc_partial.specs.Resolved.{IsChanged, first_refused}
use Rattle.sc_partial.proofs.NameLemmas.{IsBefore, same_itself, one_name, same_name, below_fields, below_fields_next, values_of-none}
use Rattle.sc_partial.proofs.StepLemmas.{IsMergedSoFar, first_refused-same, first_refused-missing, begun, done, kept, changed_same, changed_missing, below_first}

-- the field of a name comes first, or no field has the name
absent : (field : Field) (fields : List Field) (name : List ℕ) → Ascends (field ∷ fields) → IsBefore name field.name → values_of (field ∷ fields) name ≡ None
absent field fields name ascends before =
    values_of-none name (field ∷ fields) (before, below_fields_next name field.name fields before (below_fields field.name fields ascends.0 ascends.1))

here : (field : Field) (fields : List Field) → values_of (field ∷ fields) field.name ≡ Some field.values
here field fields = rw same_itself refl

one_field : (field other : Field) → field.name ≡ other.name → field.values ≡ other.values → field ≡ other
one_field field other name values = λ i. record { name = name i; values = values i }

-- fields that give the same values of all names begin with one name
first_names : (field : Field) (fields : List Field) (other : Field) (others : List Field) → Ascends (field ∷ fields) → Ascends (other ∷ others)
    → ((name : List ℕ) → values_of (field ∷ fields) name ≡ values_of (other ∷ others) name) → field.name ≡ other.name
first_names field fields other others a b same = by (slice_cmp nat_cmp field.name other.name) refl where
  by : (o : Ordering) → slice_cmp nat_cmp field.name other.name ≡ o → field.name ≡ other.name
  by Less is = let found = sym (here field fields) ∙ same field.name ∙ absent other others field.name b is in cc
  by Greater is =
      let before : IsBefore other.name field.name = nat_list_cmp_total.antisymm other.name field.name ∙ ap ordering_reverse is in
      let found = sym (here other others) ∙ sym (same other.name) ∙ absent field fields other.name a before in cc
  by Equal is = same_name field.name other.name is

-- and then they do without their first ones
others_same : (field : Field) (fields : List Field) (other : Field) (others : List Field) → Ascends (field ∷ fields) → Ascends (other ∷ others)
    → ((name : List ℕ) → values_of (field ∷ fields) name ≡ values_of (other ∷ others) name) → field.name ≡ other.name
    → (name : List ℕ) → values_of fields name ≡ values_of others name
others_same field fields other others a b same first name = elim (cases_Bool (bytes_eq field.name name)) [
  | inl is ↦
      let none : values_of fields field.name ≡ None = values_of-none field.name fields (below_fields field.name fields a.0 a.1) in
      let also : values_of others other.name ≡ None = values_of-none other.name others (below_fields other.name others b.0 b.1) in
      subst (λ (n : List ℕ). values_of fields n ≡ values_of others n) (one_name field.name name is)
      (none ∙ sym (subst (λ (n : List ℕ). values_of others n ≡ None) (sym first) also))
  | inr differs ↦
      let also : bytes_eq other.name name ≡ false = subst (λ (n : List ℕ). bytes_eq n name ≡ false) first differs in
      rw (differs, also) at (same name)
]

-- the values of all names determine fields whose names ascend
pub one_list : (fields others : List Field) → Ascends fields → Ascends others → ((name : List ℕ) → values_of fields name ≡ values_of others name) → fields ≡ others
one_list [] [] a b same = refl
one_list [] (other ∷ others) a b same = let found = same other.name ∙ here other others in cc
one_list (field ∷ fields) [] a b same = let found = sym (here field fields) ∙ same field.name in cc
one_list (field ∷ fields) (other ∷ others) a b same =
    let name = first_names field fields other others a b same in
    let there = subst (λ (n : List ℕ). values_of (other ∷ others) n ≡ Some other.values) (sym name) (here other others) in
    let found : Some field.values ≡ Some other.values = sym (here field fields) ∙ same field.name ∙ there in
    let first = one_field field other name cc in
    let rest = one_list fields others a.1 b.1 (others_same field fields other others a b same name) in
    cc

-- where no change is refused, the field can take the first one
can_first : (can : Bool) (later : Option (List ℕ)) (name : List ℕ) → (if can then later else Some name) ≡ None → IsTrue can
can_first true later name h = refl
can_first false later name h = cc

-- the document that fields and changes make
abbrev pub Makes : List Field → List FieldChange → Type 0
Makes old all = (new : List Field) × IsChanged old all new

-- what is left, with one change more
one_more : (old : List Field) (all : List FieldChange) (change : FieldChange) (changes : List FieldChange) → first_refused old all ≡ None
    → ((fields new : List Field) → IsMergedSoFar old all fields changes new → Makes old all)
    → (fields new : List Field) → IsMergedSoFar old all fields (change ∷ changes) new → Makes old all
one_more old all change changes none go_on [] new so_far =
    let can = can_first (can_change change.name [] change.how) (first_refused [] changes) change.name (sym so_far.refused ∙ none) in
    go_on [] _ (changed_missing old all [] change changes new so_far tt can)
one_more old all change changes none go_on (field ∷ fields) new so_far = by (slice_cmp nat_cmp field.name change.name) refl
    (λ rest more. one_more old all change changes none go_on fields rest more) where
      by : (o : Ordering) → slice_cmp nat_cmp field.name change.name ≡ o
          → ((rest : List Field) → IsMergedSoFar old all fields (change ∷ changes) rest → Makes old all) → Makes old all
      by Less is next = next _ (kept old all field fields change changes new so_far is)
      by Equal is next =
          let refused = sym (first_refused-same field fields change changes so_far.lawful (same_name field.name change.name is)) ∙ sym so_far.refused ∙ none in
          let can = can_first (can_change change.name field.values change.how) (first_refused fields changes) change.name refused in
          go_on fields _ (changed_same old all field fields change changes new so_far is can)
      by Greater is next =
          let below = below_first field fields change is in
          let refused = sym (first_refused-missing (field ∷ fields) change changes so_far.document below) ∙ sym so_far.refused ∙ none in
          let can = can_first (can_change change.name [] change.how) (first_refused (field ∷ fields) changes) change.name refused in
          go_on (field ∷ fields) _ (changed_missing old all (field ∷ fields) change changes new so_far below can)

all_make : (old : List Field) (all changes : List FieldChange) → first_refused old all ≡ None
    → (fields new : List Field) → IsMergedSoFar old all fields changes new → Makes old all
all_make old all [] none fields new so_far = (new ++ fields, (done old all fields new so_far).1)
all_make old all (change ∷ changes) none fields new so_far = one_more old all change changes none (all_make old all changes none) fields new so_far

pub makes_one : (old : List Field) (changes : List FieldChange) → AreFields old → AreFieldChanges changes → first_refused old changes ≡ None
    → (new : List Field) × IsChanged old changes new
makes_one old changes document lawful none = all_make old changes changes none old [] (begun old changes document lawful)
