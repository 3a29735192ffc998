-- What is known of bytes that are known to be right: the texts in them are texts, and what is read of them is there.
use Rattle.std.proofs.Common.{◌≡◌, ℕ, zero, suc, ◌+◌, ◌-◌, ◌<◌, ◌≤◌, Bool, true, false, cond, ltb, List, ◌∷◌, length, take, drop, Option, Some, None, refl, subst, ◌∙◌, arith}
use Rattle.std.specs.Prelude.{is_some}
use Rattle.std.specs.Int.{w16, w32}
use Rattle.std.specs.Str.{is_utf8, IsUtf8}
use Rattle.std.specs.Ordering.{nat_cmp, is_lt}
use Rattle.std.specs.Cmp.Lexicographic.{slice_cmp}
use Rattle.std.proofs.lemmas.Bool.{le-ltb}
use Rattle.std.proofs.lemmas.Str.{IsUtf8-from_is_utf8}
use Rattle.sc_values.specs.declared.value.Kind.{Kind}
use Rattle.sc_values.specs.declared.value.Value.{Value}
use Rattle.sc_values.specs.declared.field.Field.{Field}
use Rattle.sc_values.specs.Fields.{kind_of, fits_count}
use Rattle.sc_spelling.specs.Reading.{◌>>=◌, number_at, cut_text, text_at, value_at, values_at, field_at, field_after, fields_at}
use Rattle.sc_spelling.proofs.LoopLemmas.{values_next}

-- a test that let something pass holds
tested : {A : Type 0} (b : Bool) (x : A) → is_some (cond b (Some x) None) ≡ true → b ≡ true
tested true x h = refl
tested false x h = absurd cc

-- a first part of what was read was read
pub part_known : {A B : Type 0} (o : Option A) (f : A → Option B) → is_some (o >>= f) ≡ true → is_some o ≡ true
part_known None f h = absurd cc
part_known (Some x) f h = refl

-- what was cut off is a text
pub cut_utf8 : (n : ℕ) (bytes : List ℕ) → n ≤ length bytes → is_some (cut_text n bytes) ≡ true → IsUtf8 (take n bytes)
cut_utf8 n bytes le some =
    let long : ltb (length bytes) n ≡ false = le-ltb _ _ le in
    IsUtf8-from_is_utf8 (take n bytes) (tested (is_utf8 (take n bytes)) (take n bytes, drop n bytes)
    (subst (λ (b : Bool). is_some {T = List ℕ × List ℕ} (cond b None (cond (is_utf8 (take n bytes)) (Some (take n bytes, drop n bytes)) None)) ≡ true) long some))

-- of values that are known to be there the first is
pub value_known : (kind : Kind) (n : ℕ) (bytes : List ℕ) → 0 < n → is_some (values_at kind n bytes) ≡ true → is_some (value_at kind bytes) ≡ true
unfolding values_at
value_known kind zero bytes some is = absurd (omega arith)
value_known kind (suc n) bytes some is =
    part_known (value_at kind bytes) (λ first. values_at kind n first.1 >>= λ others. Some (first.0 ∷ others.0, others.1)) is

-- and after it the others are
pub values_known : (kind : Kind) (count i : ℕ) (bytes : List ℕ) (x : Value × List ℕ) → i < count → value_at kind bytes ≡ Some x
    → is_some (values_at kind (count - i) bytes) ≡ true → is_some (values_at kind (count - (i + 1)) x.1) ≡ true
values_known kind count i bytes x lt h is =
    let k : (count - i) - 1 ≡ count - (i + 1) = omega arith in
    subst (λ (j : ℕ). is_some (values_at kind j x.1) ≡ true) k (values_next kind (count - i) bytes x (omega arith) h is).1

-- of fields that are known to be there the first is
pub field_known : (before : List ℕ) (n : ℕ) (bytes : List ℕ) → 0 < n → is_some (fields_at before n bytes) ≡ true → is_some (field_after before bytes) ≡ true
unfolding fields_at
field_known before zero bytes some is = absurd (omega arith)
field_known before (suc n) bytes some is =
    part_known (field_after before bytes) (λ first. fields_at first.0.name n first.1 >>= λ others. Some (first.0 ∷ others.0, others.1)) is

-- a field that comes after a name is a field
pub after_known : (before bytes : List ℕ) → is_some (field_after before bytes) ≡ true → is_some (field_at bytes) ≡ true
unfolding field_after
after_known before bytes is = part_known (field_at bytes) (λ field. cond (is_lt (slice_cmp nat_cmp before field.0.name)) (Some field) None) is

passed_is : {A : Type 0} (b : Bool) (x : A) → is_some (cond b (Some x) None) ≡ true → cond b (Some x) None ≡ Some x
passed_is true x h = refl
passed_is false x h = absurd cc

-- and is read as one
pub after_same : (before bytes : List ℕ) (x : Field × List ℕ) → is_some (field_after before bytes) ≡ true → field_at bytes ≡ Some x → field_after before bytes ≡ Some x
unfolding field_after
after_same before bytes x is h =
    let opened : field_after before bytes ≡ cond (is_lt (slice_cmp nat_cmp before x.0.name)) (Some x) None = rw h refl in
    opened ∙ passed_is (is_lt (slice_cmp nat_cmp before x.0.name)) x (subst (λ (o : Option (Field × List ℕ)). is_some o ≡ true) opened is)

-- the name of a field is there
pub name_known : (bytes : List ℕ) → is_some (field_at bytes) ≡ true → is_some (text_at w16 bytes) ≡ true
unfolding field_at
name_known bytes is =
    part_known (text_at w16 bytes) (λ name. kind_of name.0 >>= λ kind. number_at w32 name.1 >>= λ count.
    cond (fits_count kind.1 count.0) (values_at kind.0 count.0 count.1) None >>= λ values. Some (record { name = name.0; values = values.0 }, values.1)) is

kept_both : {A B : Type 0} (b : Bool) (o : Option A) (f : A → B) → is_some (cond b o None >>= λ x. Some (f x)) ≡ true → (b ≡ true) × (is_some o ≡ true)
kept_both true (Some x) f h = (refl, refl)
kept_both true None f h = absurd cc
kept_both false o f h = absurd cc

-- its values are there, as many as it may have
pub field_values_known : (bytes : List ℕ) (name : List ℕ × List ℕ) (kind : Kind × Bool) (count : ℕ × List ℕ) → is_some (field_at bytes) ≡ true
    → text_at w16 bytes ≡ Some name → kind_of name.0 ≡ Some kind → number_at w32 name.1 ≡ Some count
    → (fits_count kind.1 count.0 ≡ true) × (is_some (values_at kind.0 count.0 count.1) ≡ true)
unfolding field_at
field_values_known bytes name kind count is n k c =
    let opened : field_at bytes ≡ (cond (fits_count kind.1 count.0) (values_at kind.0 count.0 count.1) None >>= λ values. Some (record { name = name.0; values = values.0 }, values.1)) = rw (n, k, c) refl in
    kept_both (fits_count kind.1 count.0) (values_at kind.0 count.0 count.1) (λ (values : List Value × List ℕ). (record { name = name.0; values = values.0 }, values.1))
    (subst (λ (o : Option (Field × List ℕ)). is_some o ≡ true) opened is)
