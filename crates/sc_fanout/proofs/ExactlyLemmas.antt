-- Lists whose writes are exactly those of which something is true, of each id one at most.
use Rattle.std.proofs.Common.{◌≡◌, ◌≢◌, ℕ, zero, suc, ◌+◌, ◌<◌, ◌≤◌, Bool, true, false, cond, true≢false, List, [], ◌∷◌, ◌++◌, map, Contains, count_by, refl, sym, ap, subst, ◌∙◌, ◌⊎◌, inl, inr, ⊎_elim, arith, Ordering, Less, Equal, Greater, is_le, is_eq, nat_cmp}
use Rattle.std.specs.Prelude.{◌↔◌}
use Rattle.std.specs.Cmp.Lexicographic.{slice_cmp, texts_ties}
use Rattle.std.specs.List.{AllByRecursion}
use Rattle.std.specs.List.Sorted.{IsStrictlySortedBy}
use Rattle.std.specs.Str.{bytes_eq}
use Rattle.std.proofs.lemmas.Bool.Decides.{same_from_decides}
use Rattle.std.proofs.lemmas.List.Elements.{All-contains, All-contains_itself, Contains-append_left, Contains-append_right, Contains-append_cases}
use Rattle.std.proofs.lemmas.List.Sorted.{All-permutation, sum_by-IsPermutation, IsPermutation-sym}
use Rattle.std.proofs.lemmas.List.Sums.{sum_by-cons, sum_by-append}
use Rattle.std.proofs.lemmas.Map.Keys.{sorted_head, sorted_tail}
use Rattle.std.proofs.lemmas.Slice.Eq.{bytes_eq-Decides}
use Rattle.sc_record.specs.Writes.{Write, is_of, AscendById}
use Rattle.sc_cluster.proofs.ItemLemmas.{find_from_count}
use Rattle.sc_journal.proofs.JournalLemmas.{is_of_own, id_from_is_of}
use Rattle.sc_finding.specs.Lists.{SortsById}
use Rattle.sc_finding.specs.Merging.{AscendsBy, goes_before}
use Rattle.sc_finding.proofs.AscendLemmas.{IsBelow}
use Rattle.sc_finding.proofs.OrderLemmas.{ascends-in_order}

-- the writes are exactly those of which this is true, and of each id there is one at most
pub record AreExactly (P : Write → Type 0) (ws : List Write) : Type 0 where
  pub exactly : (write : Write) → Contains ws write ↔ P write
  pub once : (id : List ℕ) → count_by (is_of id) ws ≤ 1

zero_or : (n : ℕ) → (n ≡ 0) ⊎ (0 < n)
zero_or zero = inl refl
zero_or (suc n) = inr (omega arith)

-- what a write adds to the count of an id
abbrev weight : List ℕ → Write → ℕ
weight id w = cond (is_of id w) 1 0

pub AreExactly-none : (P : Write → Type 0) → ((write : Write) → P write → ⊥) → AreExactly P []
AreExactly-none P none = record {
  exactly = λ write. (λ has. absurd (omega (arith, has.1)), λ is. absurd (none write is));
  once = λ id. omega arith;
}

pub AreExactly-same : (P Q : Write → Type 0) (ws : List Write) → ((write : Write) → P write → Q write) → ((write : Write) → Q write → P write)
    → AreExactly P ws → AreExactly Q ws
AreExactly-same P Q ws to back are = record {
  exactly = λ write. (λ has. to write ((are.exactly write).0 has), λ is. (are.exactly write).1 (back write is));
  once = are.once;
}

-- two lists that have no id in common
pub AreExactly-append : (P Q : Write → Type 0) (xs ys : List Write) → AreExactly P xs → AreExactly Q ys
    → ((one other : Write) → P one → Q other → one.id ≢ other.id)
    → AreExactly (λ write. P write ⊎ Q write) (xs ++ ys)
AreExactly-append P Q xs ys first second apart = record {
  exactly = λ write. (
    λ has. ⊎_elim (λ (h : Contains xs write). inl ((first.exactly write).0 h)) (λ (h : Contains ys write). inr ((second.exactly write).0 h))
        (Contains-append_cases xs ys write has),
    λ is. ⊎_elim (λ (h : P write). Contains-append_left xs ys write ((first.exactly write).1 h))
        (λ (h : Q write). Contains-append_right xs ys write ((second.exactly write).1 h)) is,
  );
  once = once;
}
  where
    both : (id : List ℕ) → count_by (is_of id) (xs ++ ys) ≡ count_by (is_of id) xs + count_by (is_of id) ys
    both id = sum_by-append (weight id) xs ys

    never : (id : List ℕ) → 0 < count_by (is_of id) xs → 0 < count_by (is_of id) ys → ⊥
    never id some more =
        let x = find_from_count (is_of id) xs some in
        let y = find_from_count (is_of id) ys more in
        apart x.0 y.0 ((first.exactly x.0).0 x.2) ((second.exactly y.0).0 y.2) (id_from_is_of id x.0 x.3 ∙ sym (id_from_is_of id y.0 y.3))

    once : (id : List ℕ) → count_by (is_of id) (xs ++ ys) ≤ 1
    once id =
        ⊎_elim
        (λ (none : count_by (is_of id) xs ≡ 0). omega (arith, none, second.once id, both id))
        (λ (some : 0 < count_by (is_of id) xs). ⊎_elim
        (λ (none : count_by (is_of id) ys ≡ 0). omega (arith, none, first.once id, both id))
        (λ (more : 0 < count_by (is_of id) ys). absurd (never id some more))
        (zero_or (count_by (is_of id) ys)))
        (zero_or (count_by (is_of id) xs))

other-id : (id : List ℕ) (w : Write) → bytes_eq id w.id ≡ false → is_of id w ≡ false
other-id id w is =
    let same = bytes_eq-Decides id w.id in
    same_from_decides (bytes_eq w.id id) (bytes_eq id w.id) (bytes_eq-Decides w.id id) (λ h. sym (same.0 h), λ e. same.1 (sym e)) ∙ is

none-below : (id : List ℕ) (ws : List Write) → AllByRecursion (IsBelow id) (map (λ (w : Write). w.id) ws) → count_by (is_of id) ws ≡ 0
none-below id [] all = refl
none-below id (w ∷ ws) all =
    let other : is_of id w ≡ false = other-id id w (texts_ties id w.id ∙ ap is_eq all.0) in
    omega (arith, sum_by-cons (weight id) w ws, ap {B = ℕ} (λ b. cond b 1 0) other, none-below id ws all.1)

-- where ids ascend each stands once
pub ascend-once : (ws : List Write) → AscendById ws → (id : List ℕ) → count_by (is_of id) ws ≤ 1
ascend-once [] ascend id = omega arith
ascend-once (w ∷ ws) ascend id =
    by (is_of id w) refl (ascend-once ws (sorted_tail (slice_cmp nat_cmp) w.id (map (λ (x : Write). x.id) ws) ascend) id)
  where
    by : (b : Bool) → is_of id w ≡ b → count_by (is_of id) ws ≤ 1 → count_by (is_of id) (w ∷ ws) ≤ 1
    by true is rest =
        let same : w.id ≡ id = id_from_is_of id w is in
        let none : count_by (is_of id) ws ≡ 0 =
        subst (λ (i : List ℕ). count_by (is_of i) ws ≡ 0) same
        (none-below w.id ws (sorted_head (slice_cmp nat_cmp) w.id (map (λ (x : Write). x.id) ws) ascend)) in
        omega (arith, sum_by-cons (weight id) w ws, ap {B = ℕ} (λ b. cond b 1 0) is, none)
    by false is rest = omega (arith, sum_by-cons (weight id) w ws, ap {B = ℕ} (λ b. cond b 1 0) is, rest)

less_from : (o : Ordering) → is_le o ≡ true → is_eq o ≡ false → o ≡ Less
less_from Less h k = refl
less_from Equal h k = absurd (true≢false k)
less_from Greater h k = absurd (true≢false (sym h))

-- an id that no write has is before those that it is not after
heads-strict : (id : List ℕ) (ws : List Write) → AllByRecursion (λ (w : Write). is_le (slice_cmp nat_cmp id w.id) ≡ true) ws
    → count_by (is_of id) ws ≡ 0 → AllByRecursion (IsBelow id) (map (λ (w : Write). w.id) ws)
heads-strict id [] all none = tt
heads-strict id (w ∷ ws) all none =
    let counts = sum_by-cons (weight id) w ws in (
      less_from (slice_cmp nat_cmp id w.id) all.0 (sym (texts_ties id w.id) ∙ by (bytes_eq id w.id) refl),
      heads-strict id ws all.1 (omega (arith, none, counts)),
    )
  where
    by : (b : Bool) → bytes_eq id w.id ≡ b → b ≡ false
    by true is =
        let same : is_of id w ≡ true = (bytes_eq-Decides w.id id).1 (sym ((bytes_eq-Decides id w.id).0 is)) in
        absurd (omega (arith, none, sum_by-cons (weight id) w ws, ap {B = ℕ} (λ b. cond b 1 0) same))
    by false is = refl

-- what is in order, with one write at most of each id, ascends
pub strictly : (ws : List Write) → AscendsBy goes_before ws → ((id : List ℕ) → count_by (is_of id) ws ≤ 1) → AscendById ws
unfolding IsStrictlySortedBy
strictly [] up once = tt
strictly (w ∷ ws) up once = (
  heads-strict w.id ws up.0 (omega (arith, once w.id, sum_by-cons (weight w.id) w ws, ap {B = ℕ} (λ b. cond b 1 0) (is_of_own w))),
  strictly ws up.1 (λ id. omega (arith, once id, sum_by-cons (weight id) w ws)),
)

-- all in order are exactly the same, and ascend
pub AreExactly-sorted : (P : Write → Type 0) (all sorted : List Write) → AreExactly P all → SortsById all sorted
    → AscendById sorted × ((write : Write) → Contains sorted write ↔ P write)
AreExactly-sorted P all sorted are order = (
  strictly sorted (ascends-in_order all sorted order)
      (λ id. omega (arith, are.once id, sum_by-IsPermutation (weight id) all sorted order.same)),
  λ write. (
    λ has. (are.exactly write).0
        (All-contains (Contains all) sorted write (All-permutation (Contains all) all sorted order.same (All-contains_itself all)) has),
    λ is. All-contains (Contains sorted) all write
        (All-permutation (Contains sorted) sorted all (IsPermutation-sym all sorted order.same) (All-contains_itself sorted))
        ((are.exactly write).1 is),
  ),
)
