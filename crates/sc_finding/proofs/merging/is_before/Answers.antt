-- The ids compare as the numbers of their first bytes do, where these differ.
use Rattle.std.proofs.Common.{◌≡◌, ◌^◌, ◌<◌, ◌≤◌, ⊎_elim, ℕ, List, not, sym, ap, ap₂, ◌∙◌, arith, nat_cmp, is_le, is_lt, Ordering, Less, Equal, Greater, refl}
use Rattle.std.specs.Cmp.Lexicographic.{slice_cmp}
use Rattle.std.specs.Ordering.{ordering_reverse, ordering_then}
use Rattle.std.proofs.lemmas.Bool.{cases_lt, le-ltb, lt-ltb}
use Rattle.std.proofs.lemmas.Cmp.{nat_list_cmp_total}
use Rattle.sc_record.specs.Writes.{Write}
use Rattle.sc_snapshot.specs.Rows.{lent}
use Rattle.sc_keys.specs.Heads.{front_number}
use Rattle.sc_keys.proofs.FrontLemmas.{front_number-first}
use Rattle.sc_finding.proofs.merging.is_before.Goals as goal

then-equal : (o : Ordering) → ordering_then o Equal ≡ o
then-equal Less = refl
then-equal Equal = refl
then-equal Greater = refl

lt-not_le : (o : Ordering) → is_lt o ≡ not (is_le (ordering_reverse o))
lt-not_le Less = refl
lt-not_le Equal = refl
lt-not_le Greater = refl

pub returns-then-one-other : goal.returns-then-one-other
returns-then-one-other c =
    let one = lent c.args.one.now.lead in
    let other = lent c.args.other.now.lead in
    c.lt.ensures
    ∙ ap₂ (λ (x y : List ℕ). is_lt (slice_cmp nat_cmp x y))
    (c.id.ensures ∙ ap (λ (w : Write). w.id) c.deref.ensures) (c.id-then-one-other.ensures ∙ ap (λ (w : Write). w.id) c.deref-then-one-other.ensures)
    ∙ lt-not_le (slice_cmp nat_cmp one.id other.id)
    ∙ ap (λ (o : Ordering). not (is_le o)) (sym (nat_list_cmp_total.antisymm other.id one.id))

is-less : (x y : List ℕ) (p q : ℕ) → p ≡ front_number 8 x → q ≡ front_number 8 y → q < 2 ^ 64 → p < q → slice_cmp nat_cmp x y ≡ Less
is-less x y p q is_p is_q fits less =
    sym (then-equal (slice_cmp nat_cmp x y))
    ∙ front_number-first 8 x y Equal (omega (arith, is_q, fits)) (omega (arith, is_p, is_q, less))

pub returns-else-one-other : goal.returns-else-one-other
returns-else-one-other c =
    let one = c.args.one.now in
    let other = c.args.other.now in
    let one_id = (lent one.lead).id in
    let other_id = (lent other.lead).id in
    ⊎_elim
    (λ (less : one.head < other.head).
    let cmp : slice_cmp nat_cmp one_id other_id ≡ Less = is-less one_id other_id one.head other.head one.is_head other.is_head c.type_inv.other.1.1.0.1 less in
    lt-ltb one.head other.head less
    ∙ sym (ap (λ (o : Ordering). not (is_le o)) (nat_list_cmp_total.antisymm other_id one_id ∙ ap ordering_reverse cmp)))
    (λ (more : other.head ≤ one.head).
    let cmp : slice_cmp nat_cmp other_id one_id ≡ Less =
    is-less other_id one_id other.head one.head other.is_head one.is_head c.type_inv.one.1.1.0.1 (omega (arith, more, c.if-one-other.false)) in
    le-ltb one.head other.head more ∙ sym (ap (λ (o : Ordering). not (is_le o)) cmp))
    (cases_lt one.head other.head)
