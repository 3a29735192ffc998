-- An ASCII text is folded letter by letter, and one with no capital letter stays as it is.
use Rattle.std.proofs.Common.{◌≡◌, ℕ, List, subst, sym, ◌∙◌}
use Rattle.std.specs.Result.{IfOk}
use Rattle.sc_schema.proofs.FoldLemmas.{folded-ascii, lower_text}
use Rattle.sc_schema.proofs.word.folded_ascii.Goals as goal

pub returns-then-has_capital : goal.returns-then-has_capital
returns-then-has_capital c =
    subst (λ (text : List ℕ). IfOk c.lowered.result (λ kept. kept ≡ text)) (sym (folded-ascii c.args.text.now c.requires)) c.lowered.ensures

pub returns : goal.returns
returns c =
    let same = folded-ascii c.args.text.now c.requires ∙ lower_text c.args.text.now (sym c.if-has_capital.ensures) in
    subst (λ (text : List ℕ). IfOk c.new.result (λ kept. kept ≡ text)) (sym same) c.new.ensures
