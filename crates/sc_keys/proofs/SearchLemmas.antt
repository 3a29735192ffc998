-- A search by halves among keys that ascend.
use Rattle.std.proofs.Common.{◌≡◌, ℕ, ◌+◌, ◌-◌, ◌*◌, ◌^◌, ◌<◌, ◌≤◌, zero, suc, Bool, List, [], ◌∷◌, length, slice_get, Some, refl, ap, sym, ◌∙◌, arith, mul-le-mul_left, pow-suc, ⊎_elim}
use Rattle.std.proofs.Math.Nat.{pow-le-pow_right}
use Rattle.std.proofs.lemmas.Bool.{cases_eq, cases_lt}
use Rattle.std.proofs.lemmas.Cmp.{eq_by_cmp_equiv}
use Rattle.std.proofs.lemmas.Nat.{pow-add}
use Rattle.std.proofs.lemmas.Map.Keys.{Less-from_sorted, IsDistinct-from_sorted}
use Rattle.std.proofs.lemmas.Map.Entries.{lookup_from_place}
use Rattle.std.proofs.lemmas.Option.{slice_get_within, get_or_from_slice_get}
use Rattle.std.specs.BTreeMap.{is_at}
use Rattle.std.specs.Cmp.{IsTotalOrder}
use Rattle.std.specs.declared.cmp.Ordering.{Ordering}
use Rattle.std.specs.declared.cmp.Ordering.TheVariants.{Less, Equal, Greater}
use Rattle.std.specs.List.Sorted.{IsStrictlySortedBy}
use Rattle.std.specs.Map.{keys_of, lookup}
use Rattle.std.specs.Ordering.{is_eq, ordering_reverse}
use Rattle.sc_keys.specs.Searching.{IsRangeFor}

module _ {K : Type 0} {R : K → K → Ordering} (o : IsTotalOrder R) where
  pub in_order : (ks : List K) (i j : ℕ) (k m : K) → IsStrictlySortedBy R ks → i < j → slice_get ks i ≡ Some k → slice_get ks j ≡ Some m → R k m ≡ Less
  in_order ks i j k m sorted before at_i at_j =
      let within : j < length ks = slice_get_within ks j m at_j in
      rw (get_or_from_slice_get ks i k k at_i, get_or_from_slice_get ks j m k at_j) at (Less-from_sorted R ks i j k sorted before within)

  -- where the key sought is below a key, it is below all later ones
  pub less_from : (q : K) (ks : List K) (i : ℕ) (k : K) → IsStrictlySortedBy R ks → slice_get ks i ≡ Some k → R q k ≡ Less
      → (j : ℕ) (m : K) → i ≤ j → slice_get ks j ≡ Some m → R q m ≡ Less
  less_from q ks i k sorted at_i less j m later at_j = ⊎_elim
      (λ (same : i ≡ j). let one : Some k ≡ Some m = sym at_i ∙ ap (slice_get ks) same ∙ at_j in
      let equal : k ≡ m = cc in rw equal at less)
      (λ differ. let before : i < j = omega arith in
      o.trans q k m less (in_order ks i j k m sorted before at_i at_j))
      (cases_eq i j)

  -- where the key sought is above a key, it is above all earlier ones
  pub greater_up_to : (q : K) (ks : List K) (i : ℕ) (k : K) → IsStrictlySortedBy R ks → slice_get ks i ≡ Some k → R q k ≡ Greater
      → (j : ℕ) (m : K) → j < i + 1 → slice_get ks j ≡ Some m → R q m ≡ Greater
  greater_up_to q ks i k sorted at_i greater j m earlier at_j = ⊎_elim
      (λ (same : i ≡ j). let one : Some k ≡ Some m = sym at_i ∙ ap (slice_get ks) same ∙ at_j in
      let equal : k ≡ m = cc in rw equal at greater)
      (λ differ. let before : j < i = omega arith in
      let back : R k q ≡ Less = o.antisymm k q ∙ ap ordering_reverse greater in
      o.antisymm q m ∙ ap ordering_reverse (o.trans m k q (in_order ks j i m k sorted before at_j at_i) back))
      (cases_eq i j)

  -- a key above the one sought leaves the keys before it
  pub range-before : (q : K) (ks : List K) (low high at : ℕ) (k : K) → IsStrictlySortedBy R ks → slice_get ks at ≡ Some k → Less ≡ R q k → IsRangeFor R ks q low high → IsRangeFor R ks q low at
  range-before q ks low high at k sorted found less range = record {
    before = range.before;
    after = less_from q ks at k sorted found (sym less);
  }

  -- a key below the one sought leaves the keys after it
  pub range-after : (q : K) (ks : List K) (low high at next : ℕ) (k : K) → IsStrictlySortedBy R ks → slice_get ks at ≡ Some k → Greater ≡ R q k → next ≤ at + 1 → IsRangeFor R ks q low high
      → IsRangeFor R ks q next high
  range-after q ks low high at next k sorted found greater within range = record {
    before = λ j m earlier at_j. greater_up_to q ks at k sorted found (sym greater) j m (omega arith) at_j;
    after = range.after;
  }

module _ {K X : Type 0} where
  -- tests that agree at each key find the same
  pub lookup_agree : (p q : K → Bool) → ((k : K) → p k ≡ q k) → (es : List (K × X)) → lookup p es ≡ lookup q es
  lookup_agree p q agree [] = refl
  lookup_agree p q agree (e ∷ es) = rw (agree e.0, lookup_agree p q agree es) refl

  -- an entry whose key compares equal to the key sought is what a look-up finds
  pub lookup-equal : {R : K → K → Ordering} (o : IsTotalOrder R) (q : K) (es : List (K × X)) (i : ℕ) (e : K × X) → IsStrictlySortedBy R (keys_of es) → slice_get es i ≡ Some e → R q e.0 ≡ Equal
      → lookup (is_at (R q)) es ≡ Some e.1
  lookup-equal {R} o q es i e sorted at_i equal =
      lookup_agree (is_at (R q)) (is_at (R e.0)) (λ k. ap is_eq (o.congr q e.0 k equal)) es
      ∙ lookup_from_place (eq_by_cmp_equiv o) es i e.0 e.1 (IsDistinct-from_sorted R (keys_of es) sorted) at_i

-- one step more doubles
pub pow-step : (before now : ℕ) → before ≤ now → 2 ^ (now + 1 - before) ≡ 2 ^ (now - before) * 2
pow-step before now rises =
    let more : now + 1 - before ≡ suc (now - before) = omega arith in
    ap (λ n. 2 ^ n) more ∙ pow-suc 2 (now - before)

-- a step that leaves at most half of what was to be searched
pub halved_more : (p w v n : ℕ) → p * w ≤ n → v + v ≤ w → p * 2 * v ≤ n
halved_more p w v n within half =
    let h = mul-le-mul_left p half in omega (arith, h)

-- a step is made only where something is to be searched
pub bound_more : (p w n : ℕ) → p * w ≤ n → 0 < w → p * 2 ≤ 2 * n + 1
bound_more p w n within some =
    let one : 1 ≤ w = omega arith in
    let h = mul-le-mul_left p one in omega (arith, h)

-- among less than 32 keys there are at most five steps
few_steps : (u w : ℕ) → 2 ^ u ≤ 2 * w + 1 → w < 32 → 2 ^ u ≤ 32
few_steps u w bound few =
    let two : 0 < 2 = omega arith in
    ⊎_elim
    (λ (below : u < 6). let most : u ≤ 5 = omega arith in
    pow-le-pow_right two most)
    (λ (many : 6 ≤ u). let power : 2 ^ 6 ≤ 2 ^ u = pow-le-pow_right two many in
    absurd (omega (arith, power)))
    (cases_lt u 6)

-- the steps among the tops and those among the keys between two of them
both_parts : (t u m w n : ℕ) → 2 ^ t ≤ 2 * m + 1 → 2 ^ u ≤ 2 * w + 1 → 32 * m ≤ n → w < 32 → w ≤ n → 2 ^ (t + u) ≤ 2 * n + 1
both_parts zero u m w n tops bound whole few within =
    let none : zero + u ≡ u = omega arith in
    let same = ap (λ (x : ℕ). 2 ^ x) none in
    omega (arith, same)
both_parts (suc t) u m w n tops bound whole few within =
    let double : 2 ^ (suc t) ≡ 2 ^ t * 2 = pow-suc 2 t in
    let even : 2 ^ (suc t) ≤ 2 * m = omega (arith, double) in
    let product = pow-add 2 (suc t) u in
    let most = mul-le-mul_left (2 ^ (suc t)) (few_steps u w bound few) in
    omega (arith, product, most, even)

pub bound_both : (before middle after m w n : ℕ) → before ≤ middle → middle ≤ after → 2 ^ (middle - before) ≤ 2 * m + 1 → 2 ^ (after - middle) ≤ 2 * w + 1 → 32 * m ≤ n → w < 32 → w ≤ n
    → 2 ^ (after - before) ≤ 2 * n + 1
bound_both before middle after m w n first second tops bound whole few within =
    let sum : after - before ≡ (middle - before) + (after - middle) = omega arith in
    rw sum (both_parts (middle - before) (after - middle) m w n tops bound whole few within)
