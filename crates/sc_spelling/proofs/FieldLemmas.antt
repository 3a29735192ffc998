-- A field that is read is spelled so, and what is spelled so is read again, whatever follows it.
use Rattle.std.proofs.Common.{◌≡◌, ℕ, zero, suc, ◌^◌, Bool, true, cond, List, [], ◌∷◌, ◌++◌, length, Option, Some, None, refl, sym, ap, subst, ◌∙◌, append_assoc, arith}
use Rattle.std.specs.Int.{w16, w32, to_le_bytes}
use Rattle.std.specs.List.{flat_map, list_all, AllByRecursion}
use Rattle.std.specs.Ordering.{nat_cmp, is_lt}
use Rattle.std.specs.declared.cmp.Ordering.{Ordering}
use Rattle.std.specs.declared.cmp.Ordering.TheVariants.{Less, Equal, Greater}
use Rattle.std.specs.Cmp.Lexicographic.{slice_cmp}
use Rattle.std.proofs.lemmas.List.Concat.{flat_map-cons}
use Rattle.sc_values.specs.declared.value.Kind.{Kind}
use Rattle.sc_values.specs.declared.value.Value.{Value}
use Rattle.sc_values.specs.declared.field.Field.{Field}
use Rattle.sc_values.specs.Fields.{kind_of, fits_kind, fits_count, fits_name, IsField, IsBelowFirst, Ascends, FitsField}
use Rattle.sc_spelling.specs.Spellings.{spelling_of_value, spelling_of_field}
use Rattle.sc_spelling.specs.Reading.{◌>>=◌, number_at, text_at, values_at, field_at, field_after, fields_at}
use Rattle.sc_spelling.proofs.NumberLemmas.{IsBytes, bind_some, kept_some, some_is, Takes, Takes-then, wide16, wide32, number_takes, number_again, text_takes, text_again}
use Rattle.sc_spelling.proofs.ValueLemmas.{both_of, of_both, values_take, values_again}

-- of a field that was read: its spelling is in front, it is a field, and it fits
pub record IsFieldRead (bytes : List ℕ) (f : Field) (rest : List ℕ) : Type 0 where
  pub takes : Takes bytes (spelling_of_field f) rest
  pub is : IsField f
  pub fits : FitsField f

-- values of the kind that the name stands for, as many as it may have
fits_name-from_kind : (name : List ℕ) (vs : List Value) (k : Kind × Bool) → kind_of name ≡ Some k → list_all (fits_kind k.0) vs ≡ true → fits_count k.1 (length vs) ≡ true → fits_name (kind_of name) vs ≡ true
fits_name-from_kind name vs k h all count = rw h (of_both (list_all (fits_kind k.0) vs) (fits_count k.1 (length vs)) all count)

-- the name of a field has a kind, and its values are of it
record HasKind (o : Option (Kind × Bool)) (vs : List Value) : Type 0 where
  pub kind : Kind × Bool
  pub is : o ≡ Some kind
  pub all : list_all (fits_kind kind.0) vs ≡ true
  pub count : fits_count kind.1 (length vs) ≡ true

kind_from_field : (o : Option (Kind × Bool)) (vs : List Value) → fits_name o vs ≡ true → HasKind o vs
kind_from_field None vs h = absurd cc
kind_from_field (Some (kind, many)) vs h =
    let both = both_of (list_all (fits_kind kind) vs) (fits_count many (length vs)) h in
    record { kind = (kind, many); is = refl; all = both.0; count = both.1 }

field_takes : (bytes : List ℕ) (x : Field × List ℕ) → IsBytes bytes → field_at bytes ≡ Some x → IsFieldRead bytes x.0 x.1
unfolding field_at
field_takes bytes x fits e =
    let a = bind_some (text_at w16 bytes) (λ name. kind_of name.0 >>= λ kind. number_at w32 name.1 >>= λ count.
    cond (fits_count kind.1 count.0) (values_at kind.0 count.0 count.1) None >>= λ values. Some (record { name = name.0; values = values.0 }, values.1)) x e in
    let b = bind_some (kind_of a.0.0) (λ kind. number_at w32 a.0.1 >>= λ count.
    cond (fits_count kind.1 count.0) (values_at kind.0 count.0 count.1) None >>= λ values. Some (record { name = a.0.0; values = values.0 }, values.1)) x a.2 in
    let c = bind_some (number_at w32 a.0.1) (λ count.
    cond (fits_count b.0.1 count.0) (values_at b.0.0 count.0 count.1) None >>= λ values. Some (record { name = a.0.0; values = values.0 }, values.1)) x b.2 in
    let d = bind_some (cond (fits_count b.0.1 c.0.0) (values_at b.0.0 c.0.0 c.0.1) None) (λ values. Some (record { name = a.0.0; values = values.0 }, values.1)) x c.2 in
    let g = kept_some (fits_count b.0.1 c.0.0) (values_at b.0.0 c.0.0 c.0.1) d.0 d.1 in
    let t0 = text_takes w16 (2 ^ 16) wide16 bytes a.0 fits a.1 in
    let t1 = number_takes w32 (2 ^ 32) wide32 a.0.1 c.0.0 c.0.1 t0.takes.rest_fits c.1 in
    let t2 = values_take b.0.0 c.0.0 c.0.1 d.0 t1.0.rest_fits g.1 in
    let name : List ℕ = a.0.0 in
    let vs : List Value = d.0.0 in
    let spelled : List ℕ = flat_map spelling_of_value vs in
    let e12 = Takes-then a.0.1 (to_le_bytes w32 c.0.0) c.0.1 spelled d.0.1 t1.0 t2.takes in
    let e02 = Takes-then bytes (to_le_bytes w16 (length name) ++ name) a.0.1 (to_le_bytes w32 c.0.0 ++ spelled) d.0.1 t0.takes e12 in
    let regrouped : (to_le_bytes w16 (length name) ++ name) ++ (to_le_bytes w32 c.0.0 ++ spelled) ≡ to_le_bytes w16 (length name) ++ (name ++ (to_le_bytes w32 (length vs) ++ spelled)) =
    append_assoc (to_le_bytes w16 (length name)) name (to_le_bytes w32 c.0.0 ++ spelled) ∙ ap (λ (k : ℕ). to_le_bytes w16 (length name) ++ (name ++ (to_le_bytes w32 k ++ spelled))) (sym t2.many) in
    let made : Field × List ℕ = (record { name = name; values = vs }, d.0.1) in
    subst (λ (y : Field × List ℕ). IsFieldRead bytes y.0 y.1) (some_is made x d.2)
    (record {
      takes = subst (λ (t : List ℕ). Takes bytes t d.0.1) regrouped e02;
      is = fits_name-from_kind name vs b.0 b.1 t2.kind_fits (subst (λ (k : ℕ). fits_count b.0.1 k ≡ true) (sym t2.many) g.0);
      fits = record { name = t0.short; text = t0.utf8; count = omega (arith, t1.1, t2.many); each = t2.fits };
    })

field_again : (f : Field) (rest : List ℕ) → IsField f → FitsField f → field_at (spelling_of_field f ++ rest) ≡ Some (f, rest)
unfolding field_at
field_again f rest is fits =
    let name : List ℕ = f.name in
    let vs : List Value = f.values in
    let spelled : List ℕ = flat_map spelling_of_value vs in
    let k = kind_from_field (kind_of name) vs is in
    let regrouped : spelling_of_field f ++ rest ≡ to_le_bytes w16 (length name) ++ (name ++ (to_le_bytes w32 (length vs) ++ (spelled ++ rest))) =
    append_assoc (to_le_bytes w16 (length name)) (name ++ (to_le_bytes w32 (length vs) ++ spelled)) rest
    ∙ ap (λ (x : List ℕ). to_le_bytes w16 (length name) ++ x) (append_assoc name (to_le_bytes w32 (length vs) ++ spelled) rest
    ∙ ap (λ (x : List ℕ). name ++ x) (append_assoc (to_le_bytes w32 (length vs)) spelled rest)) in
    ap field_at regrouped
    ∙ rw (
      text_again w16 (2 ^ 16) wide16 name (to_le_bytes w32 (length vs) ++ (spelled ++ rest)) fits.name fits.text,
      k.is,
      number_again w32 (2 ^ 32) wide32 (length vs) (spelled ++ rest) fits.count,
      k.count,
      values_again k.kind.0 vs rest k.all fits.each,
    ) refl

-- ---- several fields

lt_is : (o : Ordering) → is_lt o ≡ true → o ≡ Less
lt_is Less h = refl
lt_is Equal h = absurd cc
lt_is Greater h = absurd cc

after_takes : (before bytes : List ℕ) (x : Field × List ℕ) → IsBytes bytes → field_after before bytes ≡ Some x → IsFieldRead bytes x.0 x.1 × (slice_cmp nat_cmp before x.0.name ≡ Less)
unfolding field_after
after_takes before bytes x fits e =
    let a = bind_some (field_at bytes) (λ f. cond (is_lt (slice_cmp nat_cmp before f.0.name)) (Some f) None) x e in
    let g = kept_some (is_lt (slice_cmp nat_cmp before a.0.0.name)) (Some a.0) x a.2 in
    subst (λ (y : Field × List ℕ). IsFieldRead bytes y.0 y.1 × (slice_cmp nat_cmp before y.0.name ≡ Less)) (some_is a.0 x g.1)
    (field_takes bytes a.0 fits a.1, lt_is (slice_cmp nat_cmp before a.0.0.name) g.0)

after_again : (before : List ℕ) (f : Field) (rest : List ℕ) → IsField f → FitsField f → slice_cmp nat_cmp before f.name ≡ Less → field_after before (spelling_of_field f ++ rest) ≡ Some (f, rest)
unfolding field_after
after_again before f rest is fits below = rw (field_again f rest is fits, below) refl

-- of fields that were read: their spellings are in front, they are so many, each is a field and fits, and their names ascend from this one on
pub record AreFieldsRead (before : List ℕ) (n : ℕ) (bytes : List ℕ) (fs : List Field) (rest : List ℕ) : Type 0 where
  pub takes : Takes bytes (flat_map spelling_of_field fs) rest
  pub many : length fs ≡ n
  pub each : AllByRecursion IsField fs
  pub below : IsBelowFirst before fs
  pub ascends : Ascends fs
  pub fits : AllByRecursion FitsField fs

pub fields_take : (before : List ℕ) (n : ℕ) (bytes : List ℕ) (x : List Field × List ℕ) → IsBytes bytes → fields_at before n bytes ≡ Some x → AreFieldsRead before n bytes x.0 x.1
unfolding fields_at
fields_take before zero bytes x fits e =
    subst (λ (y : List Field × List ℕ). AreFieldsRead before 0 bytes y.0 y.1) (some_is ([], bytes) x e)
    (record { takes = record { parts = refl; rest_fits = fits }; many = refl; each = tt; below = tt; ascends = tt; fits = tt })
fields_take before (suc n) bytes x fits e =
    let a = bind_some (field_after before bytes) (λ first. fields_at first.0.name n first.1 >>= λ others. Some (first.0 ∷ others.0, others.1)) x e in
    let b = bind_some (fields_at a.0.0.name n a.0.1) (λ others. Some (a.0.0 ∷ others.0, others.1)) x a.2 in
    let first = after_takes before bytes a.0 fits a.1 in
    let others = fields_take a.0.0.name n a.0.1 b.0 first.0.takes.rest_fits b.1 in
    let both = Takes-then bytes (spelling_of_field a.0.0) a.0.1 (flat_map spelling_of_field b.0.0) b.0.1 first.0.takes others.takes in
    subst (λ (y : List Field × List ℕ). AreFieldsRead before (suc n) bytes y.0 y.1) (some_is (a.0.0 ∷ b.0.0, b.0.1) x b.2)
    (record {
      takes = rw flat_map-cons both;
      many = ap suc others.many;
      each = (first.0.is, others.each);
      below = first.1;
      ascends = (others.below, others.ascends);
      fits = (first.0.fits, others.fits);
    })

pub fields_again : (before : List ℕ) (fs : List Field) (rest : List ℕ) → AllByRecursion IsField fs → IsBelowFirst before fs → Ascends fs → AllByRecursion FitsField fs → fields_at before (length fs) (flat_map spelling_of_field fs ++ rest) ≡ Some (fs, rest)
unfolding fields_at
fields_again before [] rest each below ascends fits = refl
fields_again before (f ∷ fs) rest each below ascends fits =
    let regrouped : flat_map spelling_of_field (f ∷ fs) ++ rest ≡ spelling_of_field f ++ (flat_map spelling_of_field fs ++ rest) =
    ap (λ (x : List ℕ). x ++ rest) (flat_map-cons spelling_of_field f fs) ∙ append_assoc (spelling_of_field f) (flat_map spelling_of_field fs) rest in
    ap (fields_at before (suc (length fs))) regrouped
    ∙ rw (after_again before f (flat_map spelling_of_field fs ++ rest) each.0 fits.0 below, fields_again f.name fs rest each.1 ascends.0 ascends.1 fits.1) refl
