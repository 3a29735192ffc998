-- Item by item the list is a beginning of what was done, or isn't.
use Rattle.std.proofs.Common.{◌≡◌, true, false, refl, sym, ◌∙◌, arith}
use Rattle.std.proofs.lemmas.Bool.{false≢true}
use mathlib.Core.List.{IsPrefix}
use Rattle.sc_opening.specs.Same.{same_change}
use Rattle.sc_opening.proofs.SameLemmas.{same_change-Decides}
use Rattle.sc_opening.proofs.PrefixLemmas.{prefix_step, prefix_apart, prefix_end}
use Rattle.sc_opening.proofs.together.is_beginning.Goals as goal

pub returns-then-not-is_same_change : goal.returns-then-not-is_same_change
returns-then-not-is_same_change c =
    let one = c.index-list-i.result in
    let other = c.index-done-i.result in
    let differ : same_change one other ≡ false = sym c.is_same_change.ensures ∙ c.if-not-is_same_change.true in (
      λ is. absurd (cc),
      λ all. absurd (prefix_apart (IsPrefix c.args.list.now c.args.done.now) c.args.list.now c.args.done.now c.loop-i.i one other (omega arith)
          (omega arith) c.index-list-i.is c.index-done-i.is (λ same. false≢true (sym differ ∙ (same_change-Decides one other).1 same))
          c.loop-i.invariant all),
    )

pub loop-i-preserved : goal.loop-i-preserved
loop-i-preserved c =
    let one = c.index-list-i.result in
    let other = c.index-done-i.result in
    let same : same_change one other ≡ true = sym c.is_same_change.ensures ∙ c.if-not-is_same_change.false in
    prefix_step (IsPrefix c.args.list.now c.args.done.now) c.args.list.now c.args.done.now c.loop-i.i one other (omega arith) (omega arith)
    c.index-list-i.is c.index-done-i.is ((same_change-Decides one other).0 same) c.loop-i.invariant

pub returns : goal.returns
returns c =
    let holds = prefix_end (IsPrefix c.args.list.now c.args.done.now) c.args.list.now c.args.done.now c.loop-i.i (omega arith) c.loop-i.invariant in
    (λ _. holds, λ _. refl)
