-- A value that is read is spelled so, and what is spelled so is read again, whatever follows it.
use Rattle.std.proofs.Common.{◌≡◌, ℕ, zero, suc, ◌^◌, ◌<◌, Bool, true, false, List, [], ◌∷◌, ◌++◌, length, Option, Some, refl, sym, ap, subst, ◌∙◌, append_assoc, arith}
use Rattle.std.specs.Prelude.{◌&&◌, ℤ, pos, negsuc, FitsSigned}
use Rattle.std.specs.Int.{w32, w64, to_le_bytes, cast_signed, cast_unsigned}
use Rattle.std.specs.List.{flat_map, list_all, AllByRecursion}
use Rattle.std.proofs.lemmas.Int.{to_z-of_z, of_z-to_z}
use Rattle.std.proofs.lemmas.List.Concat.{flat_map-cons}
use borrow.Author.Gap.{read_sfits}
use Rattle.sc_values.specs.declared.value.Kind.{Kind}
use Rattle.sc_values.specs.declared.value.Kind.TheVariants as kinds
use Rattle.sc_values.specs.declared.value.Value.{Value}
use Rattle.sc_values.specs.declared.value.Value.TheVariants as values
use Rattle.sc_values.specs.Fields.{fits_kind, FitsValue}
use Rattle.sc_spelling.specs.Spellings.{spelling_of_value}
use Rattle.sc_spelling.specs.Reading.{◌>>=◌, number_at, text_at, flag_at, text_value_at, value_at, values_at}
use Rattle.sc_spelling.proofs.NumberLemmas.{IsBytes, bind_some, some_is, Takes, Takes-then, wide32, wide64, number_takes, number_again, text_takes, text_again, flag_takes, flag_again}

-- of a value that was read: its spelling is in front, and it is of the kind and fits
pub record IsValueRead (kind : Kind) (bytes : List ℕ) (v : Value) (rest : List ℕ) : Type 0 where
  pub takes : Takes bytes (spelling_of_value v) rest
  pub kind_fits : fits_kind kind v ≡ true
  pub fits : FitsValue v

pub unsigned32 : (n : ℤ) → FitsSigned w32 n → cast_unsigned w32 n < 2 ^ 32
unsigned32 (pos n) f = omega arith
unsigned32 (negsuc n) f = omega arith

pub unsigned64 : (n : ℤ) → FitsSigned w64 n → cast_unsigned w64 n < 2 ^ 64
unsigned64 (pos n) f = omega arith
unsigned64 (negsuc n) f = omega arith

value_takes : (kind : Kind) (bytes : List ℕ) (x : Value × List ℕ) → IsBytes bytes → value_at kind bytes ≡ Some x → IsValueRead kind bytes x.0 x.1
unfolding value_at
value_takes kinds.Str bytes x fits e =
    let a = bind_some (text_at w32 bytes) (λ t. Some (values.Text t.0, t.1)) x e in
    let t = text_takes w32 (2 ^ 32) wide32 bytes a.0 fits a.1 in
    subst (λ (y : Value × List ℕ). IsValueRead kinds.Str bytes y.0 y.1) (some_is (values.Text a.0.0, a.0.1) x a.2)
    (record { takes = t.takes; kind_fits = refl; fits = (t.short, t.utf8) })
value_takes kinds.Words bytes x fits e =
    let a = bind_some (text_at w32 bytes) (λ t. Some (values.Text t.0, t.1)) x e in
    let t = text_takes w32 (2 ^ 32) wide32 bytes a.0 fits a.1 in
    subst (λ (y : Value × List ℕ). IsValueRead kinds.Words bytes y.0 y.1) (some_is (values.Text a.0.0, a.0.1) x a.2)
    (record { takes = t.takes; kind_fits = refl; fits = (t.short, t.utf8) })
value_takes kinds.Int bytes x fits e =
    let a = bind_some (number_at w32 bytes) (λ n. Some (values.Int (cast_signed w32 n.0), n.1)) x e in
    let t = number_takes w32 (2 ^ 32) wide32 bytes a.0.0 a.0.1 fits a.1 in
    let same : a.0.0 ≡ cast_unsigned w32 (cast_signed w32 a.0.0) = sym (of_z-to_z w32 a.0.0 t.1) in
    subst (λ (y : Value × List ℕ). IsValueRead kinds.Int bytes y.0 y.1) (some_is (values.Int (cast_signed w32 a.0.0), a.0.1) x a.2)
    (record { takes = subst (λ (k : ℕ). Takes bytes (to_le_bytes w32 k) a.0.1) same t.0; kind_fits = refl; fits = read_sfits w32 a.0.0 })
value_takes kinds.Long bytes x fits e =
    let a = bind_some (number_at w64 bytes) (λ n. Some (values.Long (cast_signed w64 n.0), n.1)) x e in
    let t = number_takes w64 (2 ^ 64) wide64 bytes a.0.0 a.0.1 fits a.1 in
    let same : a.0.0 ≡ cast_unsigned w64 (cast_signed w64 a.0.0) = sym (of_z-to_z w64 a.0.0 t.1) in
    subst (λ (y : Value × List ℕ). IsValueRead kinds.Long bytes y.0 y.1) (some_is (values.Long (cast_signed w64 a.0.0), a.0.1) x a.2)
    (record { takes = subst (λ (k : ℕ). Takes bytes (to_le_bytes w64 k) a.0.1) same t.0; kind_fits = refl; fits = read_sfits w64 a.0.0 })
value_takes kinds.Flag bytes x fits e =
    let a = bind_some (flag_at bytes) (λ f. Some (values.Flag f.0, f.1)) x e in
    subst (λ (y : Value × List ℕ). IsValueRead kinds.Flag bytes y.0 y.1) (some_is (values.Flag a.0.0, a.0.1) x a.2)
    (record { takes = flag_takes bytes a.0 fits a.1; kind_fits = refl; fits = tt })

text_value_again : (text rest : List ℕ) → FitsValue (values.Text text) → text_value_at (spelling_of_value (values.Text text) ++ rest) ≡ Some (values.Text text, rest)
text_value_again text rest fits =
    ap text_value_at (append_assoc (to_le_bytes w32 (length text)) text rest)
    ∙ ap (λ (t : Option (List ℕ × List ℕ)). t >>= λ t. Some (values.Text t.0, t.1)) (text_again w32 (2 ^ 32) wide32 text rest fits.0 fits.1)

value_again : (kind : Kind) (v : Value) (rest : List ℕ) → fits_kind kind v ≡ true → FitsValue v → value_at kind (spelling_of_value v ++ rest) ≡ Some (v, rest)
unfolding value_at
value_again kinds.Str (values.Text text) rest k fits = text_value_again text rest fits
value_again kinds.Words (values.Text text) rest k fits = text_value_again text rest fits
value_again kinds.Int (values.Int n) rest k fits =
    ap (λ (t : Option (ℕ × List ℕ)). t >>= λ t. Some (values.Int (cast_signed w32 t.0), t.1)) (number_again w32 (2 ^ 32) wide32 (cast_unsigned w32 n) rest (unsigned32 n fits))
    ∙ ap (λ (m : ℤ). Some (values.Int m, rest)) (to_z-of_z w32 n fits)
value_again kinds.Long (values.Long n) rest k fits =
    ap (λ (t : Option (ℕ × List ℕ)). t >>= λ t. Some (values.Long (cast_signed w64 t.0), t.1)) (number_again w64 (2 ^ 64) wide64 (cast_unsigned w64 n) rest (unsigned64 n fits))
    ∙ ap (λ (m : ℤ). Some (values.Long m, rest)) (to_z-of_z w64 n fits)
value_again kinds.Flag (values.Flag b) rest k fits =
    ap (λ (t : Option (Bool × List ℕ)). t >>= λ t. Some (values.Flag t.0, t.1)) (flag_again b rest)
value_again kind v rest k fits = absurd cc

-- ---- several values

-- both hold where their conjunction does
pub both_of : (a b : Bool) → (a && b) ≡ true → (a ≡ true) × (b ≡ true)
both_of true b h = (refl, h)
both_of false b h = absurd cc

pub of_both : (a b : Bool) → a ≡ true → b ≡ true → (a && b) ≡ true
of_both a b p q = rw (p, q) refl

-- of values that were read: their spellings are in front, they are so many, and each is of the kind and fits
pub record AreValuesRead (kind : Kind) (n : ℕ) (bytes : List ℕ) (vs : List Value) (rest : List ℕ) : Type 0 where
  pub takes : Takes bytes (flat_map spelling_of_value vs) rest
  pub many : length vs ≡ n
  pub kind_fits : list_all (fits_kind kind) vs ≡ true
  pub fits : AllByRecursion FitsValue vs

pub values_take : (kind : Kind) (n : ℕ) (bytes : List ℕ) (x : List Value × List ℕ) → IsBytes bytes → values_at kind n bytes ≡ Some x → AreValuesRead kind n bytes x.0 x.1
unfolding values_at
values_take kind zero bytes x fits e =
    subst (λ (y : List Value × List ℕ). AreValuesRead kind 0 bytes y.0 y.1) (some_is ([], bytes) x e) (record { takes = record { parts = refl; rest_fits = fits }; many = refl; kind_fits = refl; fits = tt })
values_take kind (suc n) bytes x fits e =
    let a = bind_some (value_at kind bytes) (λ first. values_at kind n first.1 >>= λ others. Some (first.0 ∷ others.0, others.1)) x e in
    let b = bind_some (values_at kind n a.0.1) (λ others. Some (a.0.0 ∷ others.0, others.1)) x a.2 in
    let first = value_takes kind bytes a.0 fits a.1 in
    let others = values_take kind n a.0.1 b.0 first.takes.rest_fits b.1 in
    let both = Takes-then bytes (spelling_of_value a.0.0) a.0.1 (flat_map spelling_of_value b.0.0) b.0.1 first.takes others.takes in
    subst (λ (y : List Value × List ℕ). AreValuesRead kind (suc n) bytes y.0 y.1) (some_is (a.0.0 ∷ b.0.0, b.0.1) x b.2)
    (record {
      takes = rw flat_map-cons both;
      many = ap suc others.many;
      kind_fits = of_both (fits_kind kind a.0.0) (list_all (fits_kind kind) b.0.0) first.kind_fits others.kind_fits;
      fits = (first.fits, others.fits);
    })

pub values_again : (kind : Kind) (vs : List Value) (rest : List ℕ) → list_all (fits_kind kind) vs ≡ true → AllByRecursion FitsValue vs → values_at kind (length vs) (flat_map spelling_of_value vs ++ rest) ≡ Some (vs, rest)
unfolding values_at
values_again kind [] rest kinds_fit fits = refl
values_again kind (v ∷ vs) rest kinds_fit fits =
    let k = both_of (fits_kind kind v) (list_all (fits_kind kind) vs) kinds_fit in
    let regrouped : flat_map spelling_of_value (v ∷ vs) ++ rest ≡ spelling_of_value v ++ (flat_map spelling_of_value vs ++ rest) =
    ap (λ (x : List ℕ). x ++ rest) (flat_map-cons spelling_of_value v vs) ∙ append_assoc (spelling_of_value v) (flat_map spelling_of_value vs) rest in
    ap (values_at kind (suc (length vs))) regrouped
    ∙ rw (value_again kind v (flat_map spelling_of_value vs ++ rest) k.0 fits.0, values_again kind vs rest k.1 fits.1) refl
