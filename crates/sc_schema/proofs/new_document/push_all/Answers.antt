-- The first of the values that are left comes after those so far.
use Rattle.std.proofs.Common.{◌≡◌, ◌∙◌, ℕ, ◌+◌, Bool, true, List, [], ◌∷◌, drop, sym, subst, add-one, drop-cons, arith, rules}
use Rattle.sc_schema.specs.Values.{value_of}
use Rattle.sc_schema.specs.NewDocuments.{IfFit, AddsValues}
use Rattle.sc_schema.specs.declared.raw.RawOne.{RawOne}
use Rattle.sc_schema.proofs.NewDocumentLemmas.{AreValuesSoFar, one_value_more}
use Rattle.sc_schema.proofs.new_document.push_all.Goals as goal

pub loop-one-preserved : goal.loop-one-preserved
loop-one-preserved c =
    let list : List RawOne = c.args.list.now in
    let one : RawOne = c.one-item.result in
    let at : ℕ = c.loop-one.one-index in
    let left : List RawOne = drop (at + 1) list in
    let front : drop at list ≡ one ∷ left = drop-cons list at one (omega arith) ∙ (λ i. sym c.one-item.is i ∷ drop (sym (add-one at) i) list) in
    let so_far = subst (λ (l : List RawOne). AreValuesSoFar c.args.kind list l c.args.made.now c.loop-one.made) front c.loop-one.invariant in
    let fits : c.in_ok-push_one.field-0 ≡ true = search rules in
    one_value_more c.args.kind list one left c.args.made.now c.loop-one.made c.push_one.new.made so_far
    (subst (λ (b : Bool). IfFit b (value_of c.args.kind one) (λ value. AddsValues (value ∷ []) c.loop-one.made c.push_one.new.made)) fits c.in_ok-push_one.ensures)
