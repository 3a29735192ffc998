-- What was cut off is a text exactly where it is UTF-8.
use Rattle.std.proofs.Common.{sym, subst, ◌∙◌, arith}
use Rattle.std.specs.Str.{IsUtf8}
use Rattle.sc_spelling.proofs.NumberLemmas.{cut_text-some, cut_text-none}
use Rattle.sc_spelling.proofs.number.cut_text.Goals as goal

pub returns-in-Ok : goal.returns-in-Ok
returns-in-Ok c =
    let cases = c.in-Ok.ensures.cases in
    cut_text-some c.args.length c.args.bytes.now c.in-Ok.text.now c.split_at.result.1.now (omega arith)
    (cases.0 ∙ c.split_at.ensures.front) c.split_at.ensures.back (subst IsUtf8 (sym cases.0) cases.1)

pub returns-in-Err : goal.returns-in-Err
returns-in-Err c =
    cut_text-none c.args.length c.args.bytes.now (omega arith) (λ utf8. c.in-Err.ensures.cases.0 (subst IsUtf8 (sym c.split_at.ensures.front) utf8))
