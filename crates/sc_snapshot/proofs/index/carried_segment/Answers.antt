-- What is kept of the old rows, and what is filed of the new ones, is the index of the new rows.
use Rattle.std.proofs.Common.{◌≡◌, List, ℕ, Result, length, map, refl, sym, subst, arith}
use Rattle.std.proofs.lemmas.Bool.Decides.{nat_tests}
use Rattle.std.proofs.lemmas.Result.{IfOk-weaker}
use Rattle.std.specs.Result.{IfOk}
use Rattle.sc_record.specs.Writes.{Write}
use Rattle.sc_segment.specs.Carrying.{IsCarried}
use Rattle.sc_segment.specs.Index.{IsIndexOf}
use Rattle.sc_snapshot.specs.Change.{IsChange}
use Rattle.sc_snapshot.specs.Postings.{key_order, keyed_rows, without_ids}
use Rattle.sc_snapshot.specs.declared.change.Change.{Change}
use Rattle.sc_snapshot.specs.declared.term_key.TermKey.{TermKey}
use Rattle.sc_snapshot.proofs.NextLemmas.{first_terms, carried_terms}
use Rattle.sc_snapshot.proofs.index.carried_segment.Goals as goal

pub returns-then-is_first : goal.returns-then-is_first
returns-then-is_first c = λ old new is terms.
    let change = c.args.change in
    let none : length change.moved ≡ 0 = grind (arith, nat_tests) in
    subst (λ (index : List (TermKey × List ℕ)). IsIndexOf key_order (keyed_rows 0 (map without_ids new)) index) (sym c.in_ok-added.ensures)
    (first_terms old new (length old) (length new) change is none refl)

-- what is carried, in place or not
of_carried : {E : Type 0} (change : Change) (segment added : List (TermKey × List ℕ)) (result : Result (List (TermKey × List ℕ)) E) → added ≡ change.added.index
    → IfOk result (λ carried. IsCarried key_order change.moved segment added carried)
    → IfOk result (λ carried. (old new : List Write) → IsChange old new (length old) (length new) change
    → IsIndexOf key_order (keyed_rows 0 (map without_ids old)) segment → IsIndexOf key_order (keyed_rows 0 (map without_ids new)) carried)
of_carried change segment added result same = IfOk-weaker result
    (λ carried. IsCarried key_order change.moved segment added carried)
    (λ carried. (old new : List Write) → IsChange old new (length old) (length new) change
    → IsIndexOf key_order (keyed_rows 0 (map without_ids old)) segment → IsIndexOf key_order (keyed_rows 0 (map without_ids new)) carried)
    (λ carried moves old new is terms. carried_terms old new (length old) (length new) change is segment carried refl terms
    (subst (λ (index : List (TermKey × List ℕ)). IsCarried key_order change.moved segment index carried) same moves))

pub returns : goal.returns
returns c = of_carried c.args.change c.args.segment.now c.in_ok-added.added c.carried_beside.result c.in_ok-added.ensures c.carried_beside.ensures
