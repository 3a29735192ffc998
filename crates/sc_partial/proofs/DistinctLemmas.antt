-- Which values are among others, and what adding and removing values makes of that.
use Rattle.std.proofs.Common.{◌≡◌, Bool, true, false, ◌||◌, List, [], ◌∷◌, ◌++◌, append-nil, refl, sym, ap, subst, ◌∙◌, inl, inr}
use Rattle.std.specs.Bool.{if◌then◌else◌}
use Rattle.std.specs.List.{list_all, AllByRecursion, IsDistinct}
use Rattle.std.proofs.lemmas.Bool.{cases_Bool, and_parts, and_from, or_left, or_right, or_parts, false_from_ne_true}
use Rattle.std.proofs.Math.Bool.{or-false, and-false, or_assoc}
use Rattle.std.proofs.lemmas.Bool.Decides.{Decides-int_eq}
use Rattle.std.proofs.lemmas.Cmp.{int_eq_equiv}
use Rattle.std.proofs.lemmas.List.Elements.{filter-append}
use Rattle.std.proofs.lemmas.List.Folds.{list_any-append}
use Rattle.sc_values.specs.declared.value.Value.{Value}
use Rattle.sc_values.specs.declared.value.Value.TheVariants as values
use Rattle.sc_partial.specs.Changed.{same_value, is_among, with_distinct, without}
use Rattle.sc_partial.specs.Laws.{AddsWhatIsMissing, AddsNoneTwice, RemovesAll}
use Rattle.sc_partial.proofs.NameLemmas.{same_itself, one_name}

-- a value equals itself
same_value-itself : (value : Value) → same_value value value ≡ true
same_value-itself (values.Text text) = same_itself text
same_value-itself (values.Int n) = int_eq_equiv.refl n
same_value-itself (values.Long n) = int_eq_equiv.refl n
same_value-itself (values.Flag true) = refl
same_value-itself (values.Flag false) = refl

-- what each value passes, each passes that asks for less
list_all-weaker : (p q : Value → Bool) → ((v : Value) → p v ≡ true → q v ≡ true) → (list : List Value) → list_all p list ≡ true → list_all q list ≡ true
list_all-weaker p q less [] h = refl
list_all-weaker p q less (v ∷ list) h =
    let (first, others) = and_parts (p v) (list_all p list) h in
    and_from (q v) (list_all q list) (less v first) (list_all-weaker p q less list others)

-- each value of a list is among them
pub all_among_themselves : (list : List Value) → list_all (λ v. is_among v list) list ≡ true
all_among_themselves [] = refl
all_among_themselves (value ∷ list) =
    and_from (is_among value (value ∷ list)) (list_all (λ v. is_among v (value ∷ list)) list) (or_left (same_value value value) (is_among value list) (same_value-itself value))
    (list_all-weaker (λ v. is_among v list) (λ v. is_among v (value ∷ list)) (λ v h. or_right (same_value v value) (is_among v list) h) list (all_among_themselves list))

-- a list with a value at its end, where it was not in it
with_value : Value → List Value → List Value
with_value value list = if is_among value list then list else list ++ value ∷ []

among_with : (value other : Value) (list : List Value) → is_among value list ≡ true → is_among value (with_value other list) ≡ true
unfolding with_value
among_with value other list h = elim (cases_Bool (is_among other list)) [
  | inl among ↦ rw among h
  | inr new ↦ rw (new, list_any-append) (or_left (is_among value list) (is_among value (other ∷ [])) h)
]

value_with : (value : Value) (list : List Value) → is_among value (with_value value list) ≡ true
unfolding with_value
value_with value list = elim (cases_Bool (is_among value list)) [
  | inl among ↦ rw among among
  | inr new ↦ rw (new, list_any-append) (or_right (is_among value list) (is_among value (value ∷ [])) (or_left (same_value value value) false (same_value-itself value)))
]

-- a value of the list stays when others are added
among_with_distinct : (value : Value) (list others : List Value) → is_among value list ≡ true → is_among value (with_distinct list others) ≡ true
unfolding with_value
among_with_distinct value list [] h = h
among_with_distinct value list (other ∷ others) h = among_with_distinct value (with_value other list) others (among_with value other list h)

-- each value that is added is among them then
pub all_among_with_distinct : (list others : List Value) → list_all (λ v. is_among v (with_distinct list others)) others ≡ true
unfolding with_value
all_among_with_distinct list [] = refl
all_among_with_distinct list (other ∷ others) =
    and_from _ _ (among_with_distinct other (with_value other list) others (value_with other list)) (all_among_with_distinct (with_value other list) others)

-- where all are in the list, none is added
pub with_distinct-none : (list others : List Value) → list_all (λ v. is_among v list) others ≡ true → with_distinct list others ≡ list
with_distinct-none list [] h = refl
with_distinct-none list (other ∷ others) h =
    let (first, rest) = and_parts (is_among other list) (list_all (λ v. is_among v list) others) h in
    rw first (with_distinct-none list others rest)

-- values that are removed anyway may be added before
pub without-with_distinct : (list others gone : List Value) → list_all (λ v. is_among v gone) others ≡ true → without (with_distinct list others) gone ≡ without list gone
unfolding with_value
without-with_distinct list [] gone h = refl
without-with_distinct list (other ∷ others) gone h =
    let (first, rest) = and_parts (is_among other gone) (list_all (λ v. is_among v gone) others) h in
    without-with_distinct (with_value other list) others gone rest ∙ elim (cases_Bool (is_among other list)) [
      | inl among ↦ rw among refl
      | inr new ↦ rw (new, filter-append, first, append-nil) refl
    ]

-- values that the test takes for equal are one
one_value : (value other : Value) → same_value value other ≡ true → value ≡ other
one_value (values.Text text) (values.Text other) h = ap values.Text (one_name text other h)
one_value (values.Int n) (values.Int other) h = ap values.Int ((Decides-int_eq n other).0 h)
one_value (values.Long n) (values.Long other) h = ap values.Long ((Decides-int_eq n other).0 h)
one_value (values.Flag true) (values.Flag true) h = refl
one_value (values.Flag false) (values.Flag false) h = refl
one_value value other h = cc

other_value : (value other : Value) → same_value value other ≡ false → same_value other value ≡ false
other_value value other h = false_from_ne_true (same_value other value) (λ same.
    let itself = subst (λ (v : Value). same_value value v ≡ true) (sym (one_value other value same)) (same_value-itself value) in
    cc)

-- what is among a list with a value at its end
among_either : (value other : Value) (list : List Value) → is_among value (with_value other list) ≡ (is_among value list || same_value value other)
unfolding with_value
among_either value other list = elim (cases_Bool (is_among other list)) [
  | inl among ↦ rw among (elim (cases_Bool (same_value value other)) [
    | inl same ↦
        let here = subst (λ (v : Value). is_among v list ≡ true) (sym (one_value value other same)) among in
        here ∙ sym (or_left (is_among value list) (same_value value other) here)
    | inr differs ↦ rw differs (sym (or-false (is_among value list)))
  ])
  | inr new ↦ rw (new, list_any-append, or-false) refl
]

pub adds_what_is_missing : AddsWhatIsMissing
unfolding with_value
adds_what_is_missing list [] value = sym (or-false (is_among value list))
adds_what_is_missing list (other ∷ others) value =
    adds_what_is_missing (with_value other list) others value ∙ ap (λ b. b || is_among value others) (among_either value other list)
    ∙ or_assoc (is_among value list) (same_value value other) (is_among value others)

-- a value at the end of a list that it is not among
distinct_push : (list : List Value) (value : Value) → IsDistinct same_value list → is_among value list ≡ false → IsDistinct same_value (list ++ value ∷ [])
unfolding IsDistinct
distinct_push [] value distinct new = (tt, tt)
distinct_push (first ∷ list) value distinct new =
    let (differs, others) = or_parts (same_value value first) (is_among value list) new in
    (differ_push first list value distinct.0 (other_value value first differs), distinct_push list value distinct.1 others)
  where
    differ_push : (first : Value) (list : List Value) (value : Value) → AllByRecursion (λ v. same_value first v ≡ false) list → same_value first value ≡ false
        → AllByRecursion (λ v. same_value first v ≡ false) (list ++ value ∷ [])
    differ_push first [] value all differs = (differs, tt)
    differ_push first (v ∷ list) value all differs = (all.0, differ_push first list value all.1 differs)

pub adds_none_twice : AddsNoneTwice
adds_none_twice list [] distinct = distinct
adds_none_twice list (other ∷ others) distinct = adds_none_twice (if is_among other list then list else list ++ other ∷ []) others
    (elim (cases_Bool (is_among other list)) [ inl among ↦ rw among distinct | inr new ↦ rw new (distinct_push list other distinct new) ])

pub removes_all : RemovesAll
removes_all [] gone value = refl
removes_all (first ∷ list) gone value = elim (cases_Bool (is_among first gone)) [
  | inl is ↦ rw is (removes_all list gone value ∙ elim (cases_Bool (same_value value first)) [
    | inl same ↦
        let here = subst (λ (v : Value). is_among v gone ≡ true) (sym (one_value value first same)) is in
        rw (here, same) (and-false (is_among value list))
    | inr differs ↦ rw differs refl
  ])
  | inr stays ↦ rw stays (elim (cases_Bool (same_value value first)) [
    | inl same ↦
        let here = subst (λ (v : Value). is_among v gone ≡ false) (sym (one_value value first same)) stays in
        rw (here, same) refl
    | inr differs ↦ rw differs (removes_all list gone value)
  ])
]
