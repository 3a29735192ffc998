-- Values and fields one after another, as an iterator lends them and as a loop goes over them.
use Rattle.std.proofs.Common.{◌≡◌, ℕ, zero, suc, ◌+◌, ◌-◌, ◌<◌, ◌≤◌, true, List, [], ◌∷◌, length, Option, Some, None, refl, sym, ap, subst, ◌∙◌, arith}
use Rattle.std.specs.Prelude.{is_some}
use Rattle.sc_values.specs.declared.value.Kind.{Kind}
use Rattle.sc_values.specs.declared.value.Value.{Value}
use Rattle.sc_values.specs.declared.field.Field.{Field}
use Rattle.sc_spelling.specs.Reading.{◌>>=◌, value_at, values_at, field_after, fields_at, read_of, rest_of}
use Rattle.sc_spelling.proofs.NumberLemmas.{bind_some}

-- what was read with one before it
abbrev pub one_more : {A : Type 0} → A → Option (List A × List ℕ) → Option (List A × List ℕ)
one_more first others = others >>= λ others. Some (first ∷ others.0, others.1)

rest_of-more : {A : Type 0} (first : A) (others : Option (List A × List ℕ)) → rest_of (one_more first others) ≡ rest_of others
rest_of-more first None = refl
rest_of-more first (Some x) = refl

pub read_of-more : {A : Type 0} (first : A) (others : Option (List A × List ℕ)) → is_some (one_more first others) ≡ true → (read_of (one_more first others) ≡ first ∷ read_of others) × (is_some others ≡ true)
read_of-more first None h = absurd cc
read_of-more first (Some x) h = (refl, refl)

-- ---- values

values_open : (kind : Kind) (n : ℕ) (bytes : List ℕ) (x : Value × List ℕ) → value_at kind bytes ≡ Some x → values_at kind (suc n) bytes ≡ one_more x.0 (values_at kind n x.1)
unfolding values_at
values_open kind n bytes x h = rw h refl

values_shut : (kind : Kind) (n : ℕ) (bytes : List ℕ) → value_at kind bytes ≡ None → values_at kind (suc n) bytes ≡ None
unfolding values_at
values_shut kind n bytes h = rw h refl

pub values_over : (kind : Kind) (bytes : List ℕ) → read_of (values_at kind 0 bytes) ≡ []
unfolding values_at
values_over kind bytes = refl

pub values_next : (kind : Kind) (n : ℕ) (bytes : List ℕ) (x : Value × List ℕ) → 0 < n → value_at kind bytes ≡ Some x → is_some (values_at kind n bytes) ≡ true
    → (read_of (values_at kind n bytes) ≡ x.0 ∷ read_of (values_at kind (n - 1) x.1)) × (is_some (values_at kind (n - 1) x.1) ≡ true)
values_next kind zero bytes x some h is = absurd (omega arith)
values_next kind (suc n) bytes x some h is =
    let k : n ≡ suc n - 1 = omega arith in
    let opened = values_open kind n bytes x h in
    let both = read_of-more x.0 (values_at kind n x.1) (subst (λ (o : Option (List Value × List ℕ)). is_some o ≡ true) opened is) in
    (ap read_of opened ∙ both.0 ∙ ap (λ (j : ℕ). x.0 ∷ read_of (values_at kind j x.1)) k, subst (λ (j : ℕ). is_some (values_at kind j x.1) ≡ true) k both.1)

pub values_end : (kind : Kind) (n : ℕ) (bytes : List ℕ) → 0 < n → value_at kind bytes ≡ None → is_some (values_at kind n bytes) ≡ true → ⊥
values_end kind zero bytes some h is = omega arith
values_end kind (suc n) bytes some h is = let shut = values_shut kind n bytes h in absurd (cc (subst (λ (o : Option (List Value × List ℕ)). is_some o ≡ true) shut is))

pub values_on : (kind : Kind) (count i : ℕ) (bytes : List ℕ) (x : Value × List ℕ) (total : Option (List ℕ)) → i < count → value_at kind bytes ≡ Some x
    → rest_of (values_at kind (count - i) bytes) ≡ total → rest_of (values_at kind (count - (i + 1)) x.1) ≡ total
values_on kind count i bytes x total lt h so_far =
    let k : count - i ≡ suc (count - (i + 1)) = omega arith in
    let one : rest_of (values_at kind (count - i) bytes) ≡ rest_of (values_at kind (count - (i + 1)) x.1) =
    ap (λ (n : ℕ). rest_of (values_at kind n bytes)) k ∙ ap rest_of (values_open kind (count - (i + 1)) bytes x h) ∙ rest_of-more x.0 (values_at kind (count - (i + 1)) x.1) in
    sym one ∙ so_far

pub values_off : (kind : Kind) (count i : ℕ) (bytes : List ℕ) (total : Option (List ℕ)) → i < count → value_at kind bytes ≡ None
    → rest_of (values_at kind (count - i) bytes) ≡ total → total ≡ None
values_off kind count i bytes total lt h so_far =
    let k : count - i ≡ suc (count - (i + 1)) = omega arith in
    sym so_far ∙ ap (λ (n : ℕ). rest_of (values_at kind n bytes)) k ∙ ap rest_of (values_shut kind (count - (i + 1)) bytes h)

pub values_done : (kind : Kind) (count i : ℕ) (bytes : List ℕ) (total : Option (List ℕ)) → count ≤ i → rest_of (values_at kind (count - i) bytes) ≡ total → total ≡ Some bytes
unfolding values_at
values_done kind count i bytes total le so_far =
    let k : count - i ≡ 0 = omega arith in
    sym so_far ∙ ap (λ (n : ℕ). rest_of (values_at kind n bytes)) k

-- ---- fields

fields_open : (before : List ℕ) (n : ℕ) (bytes : List ℕ) (x : Field × List ℕ) → field_after before bytes ≡ Some x → fields_at before (suc n) bytes ≡ one_more x.0 (fields_at x.0.name n x.1)
unfolding fields_at
fields_open before n bytes x h = rw h refl

fields_shut : (before : List ℕ) (n : ℕ) (bytes : List ℕ) → field_after before bytes ≡ None → fields_at before (suc n) bytes ≡ None
unfolding fields_at
fields_shut before n bytes h = rw h refl

pub fields_over : (before bytes : List ℕ) → read_of (fields_at before 0 bytes) ≡ []
unfolding fields_at
fields_over before bytes = refl

pub fields_next : (before : List ℕ) (n : ℕ) (bytes : List ℕ) (x : Field × List ℕ) → 0 < n → field_after before bytes ≡ Some x → is_some (fields_at before n bytes) ≡ true
    → (read_of (fields_at before n bytes) ≡ x.0 ∷ read_of (fields_at x.0.name (n - 1) x.1)) × (is_some (fields_at x.0.name (n - 1) x.1) ≡ true)
fields_next before zero bytes x some h is = absurd (omega arith)
fields_next before (suc n) bytes x some h is =
    let k : n ≡ suc n - 1 = omega arith in
    let opened = fields_open before n bytes x h in
    let both = read_of-more x.0 (fields_at x.0.name n x.1) (subst (λ (o : Option (List Field × List ℕ)). is_some o ≡ true) opened is) in
    (ap read_of opened ∙ both.0 ∙ ap (λ (j : ℕ). x.0 ∷ read_of (fields_at x.0.name j x.1)) k, subst (λ (j : ℕ). is_some (fields_at x.0.name j x.1) ≡ true) k both.1)

pub fields_end : (before : List ℕ) (n : ℕ) (bytes : List ℕ) → 0 < n → field_after before bytes ≡ None → is_some (fields_at before n bytes) ≡ true → ⊥
fields_end before zero bytes some h is = omega arith
fields_end before (suc n) bytes some h is = let shut = fields_shut before n bytes h in absurd (cc (subst (λ (o : Option (List Field × List ℕ)). is_some o ≡ true) shut is))

pub fields_on : (before : List ℕ) (count i : ℕ) (bytes : List ℕ) (x : Field × List ℕ) (total : Option (List ℕ)) → i < count → field_after before bytes ≡ Some x
    → rest_of (fields_at before (count - i) bytes) ≡ total → rest_of (fields_at x.0.name (count - (i + 1)) x.1) ≡ total
fields_on before count i bytes x total lt h so_far =
    let k : count - i ≡ suc (count - (i + 1)) = omega arith in
    let one : rest_of (fields_at before (count - i) bytes) ≡ rest_of (fields_at x.0.name (count - (i + 1)) x.1) =
    ap (λ (n : ℕ). rest_of (fields_at before n bytes)) k ∙ ap rest_of (fields_open before (count - (i + 1)) bytes x h) ∙ rest_of-more x.0 (fields_at x.0.name (count - (i + 1)) x.1) in
    sym one ∙ so_far

pub fields_off : (before : List ℕ) (count i : ℕ) (bytes : List ℕ) (total : Option (List ℕ)) → i < count → field_after before bytes ≡ None
    → rest_of (fields_at before (count - i) bytes) ≡ total → total ≡ None
fields_off before count i bytes total lt h so_far =
    let k : count - i ≡ suc (count - (i + 1)) = omega arith in
    sym so_far ∙ ap (λ (n : ℕ). rest_of (fields_at before n bytes)) k ∙ ap rest_of (fields_shut before (count - (i + 1)) bytes h)

pub fields_done : (before : List ℕ) (count i : ℕ) (bytes : List ℕ) (total : Option (List ℕ)) → count ≤ i → rest_of (fields_at before (count - i) bytes) ≡ total → total ≡ Some bytes
unfolding fields_at
fields_done before count i bytes total le so_far =
    let k : count - i ≡ 0 = omega arith in
    sym so_far ∙ ap (λ (n : ℕ). rest_of (fields_at before n bytes)) k

-- ---- how many

pub some_from : {A : Type 0} (o : Option A) → is_some o ≡ true → (x : A) × (o ≡ Some x)
some_from None is = absurd cc
some_from (Some x) is = (x, refl)

-- as many values are lent as were to be read
pub values_count : (kind : Kind) (n : ℕ) (bytes : List ℕ) → is_some (values_at kind n bytes) ≡ true → length (read_of (values_at kind n bytes)) ≡ n
unfolding values_at
values_count kind zero bytes is = refl
values_count kind (suc n) bytes is =
    let y = some_from (values_at kind (suc n) bytes) is in
    let a = bind_some (value_at kind bytes) (λ first. values_at kind n first.1 >>= λ others. Some (first.0 ∷ others.0, others.1)) y.0 y.1 in
    let opened = values_open kind n bytes a.0 a.1 in
    let both = read_of-more a.0.0 (values_at kind n a.0.1) (subst (λ (o : Option (List Value × List ℕ)). is_some o ≡ true) opened is) in
    ap (λ (o : Option (List Value × List ℕ)). length (read_of o)) opened ∙ ap length both.0 ∙ ap suc (values_count kind n a.0.1 both.1)

-- as many fields are lent as were to be read
pub fields_count : (before : List ℕ) (n : ℕ) (bytes : List ℕ) → is_some (fields_at before n bytes) ≡ true → length (read_of (fields_at before n bytes)) ≡ n
unfolding fields_at
fields_count before zero bytes is = refl
fields_count before (suc n) bytes is =
    let y = some_from (fields_at before (suc n) bytes) is in
    let a = bind_some (field_after before bytes) (λ first. fields_at first.0.name n first.1 >>= λ others. Some (first.0 ∷ others.0, others.1)) y.0 y.1 in
    let opened = fields_open before n bytes a.0 a.1 in
    let both = read_of-more a.0.0 (fields_at a.0.0.name n a.0.1) (subst (λ (o : Option (List Field × List ℕ)). is_some o ≡ true) opened is) in
    ap (λ (o : Option (List Field × List ℕ)). length (read_of o)) opened ∙ ap length both.0 ∙ ap suc (fields_count a.0.0.name n a.0.1 both.1)
