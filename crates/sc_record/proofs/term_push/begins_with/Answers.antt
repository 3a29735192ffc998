-- What is in front is the text.
use Rattle.std.proofs.Common.{◌≡◌, ◌∙◌, sym, subst, drop, refl, rules, arith}
use Rattle.std.specs.Str.{IsUtf8}
use Rattle.sc_spelling.proofs.NumberLemmas.{cut_text-some}
use Rattle.sc_record.proofs.term_push.begins_with.Goals as goal

pub returns : goal.returns
returns c = λ is.
    let same : c.split_at.result.0.now ≡ c.args.text.now = search rules in
    cut_text-some c.args.length c.args.bytes.now c.args.text.now (drop c.args.length c.args.bytes.now) (omega arith) (sym same ∙ c.split_at.ensures.front) refl
    (subst IsUtf8 c.as_bytes.ensures.value c.as_bytes.ensures.utf8)
