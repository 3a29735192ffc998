-- The value of a leaf begins between characters.
use Rattle.std.proofs.Common.{◌≡◌, ◌+◌, length, drop, true, sym, ap, ◌∙◌, subst}
use Rattle.std.proofs.Math.Seq.{take-length}
use Rattle.std.specs.Str.{IsCharBoundary}
use Rattle.sc_query.specs.Tokens.{opens_value}
use Rattle.sc_query.proofs.CutsLemmas.{value-boundary}
use Rattle.sc_query.proofs.lexeme.run_lexeme.Goals as goal

pub range_from-value-requires : goal.range_from-value-requires
range_from-value-requires c =
    let run = c.args.run.now in
    let opens : opens_value (drop (length c.args.field.now) run) ≡ true = ap (λ xs. opens_value (drop (length c.args.field.now) xs)) (sym c.as_bytes-2.ensures.value) ∙ (sym c.opens_value.ensures ∙ c.if-opens_value.true) in
    λ _. subst (λ xs. IsCharBoundary xs (length c.args.field.now + 1)) (sym (take-length run)) (value-boundary run (length c.args.field.now) c.utf8.run opens).1
