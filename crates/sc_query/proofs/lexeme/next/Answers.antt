-- Spaces are passed over, and the token after them is the first.
use Rattle.std.proofs.Common.{◌≡◌, ◌<◌, length, get_or, true, sym, ap, ◌∙◌, arith}
use Rattle.std.proofs.lemmas.Str.{IsCharBoundary-after_ascii}
use Rattle.sc_query.specs.Tokens.{is_space}
use Rattle.sc_query.proofs.CutsLemmas.{space_ascii}
use Rattle.sc_query.proofs.TokensLemmas.{has_token, tokens-space, tokens-end}
use Rattle.sc_query.proofs.lexeme.next.Goals as goal

pub overflow_add-result : goal.overflow_add-result
overflow_add-result c =
    let first = has_token c.as_bytes-bytes.ensures.value c.loop-at-test.true c.is_space.ensures
    c.if-not-is_space.true c.range_from.ensures.value c.range_from.utf8 c.lexeme_at-len.ensures.token
    c.lexeme_at-len.ensures.len in
    omega (arith, first.boundary.0, c.requires.in_limit)

pub returns-then-not-is_space-clause-some : goal.returns-then-not-is_space-clause-some
returns-then-not-is_space-clause-some c =
    let first = has_token c.as_bytes-bytes.ensures.value c.loop-at-test.true c.is_space.ensures
    c.if-not-is_space.true c.range_from.ensures.value c.range_from.utf8 c.lexeme_at-len.ensures.token
    c.lexeme_at-len.ensures.len in
    sym c.loop-at.invariant.same ∙ first.tokens

pub returns-then-not-is_space-clause-forward : goal.returns-then-not-is_space-clause-forward
returns-then-not-is_space-clause-forward c =
    let first = has_token c.as_bytes-bytes.ensures.value c.loop-at-test.true c.is_space.ensures
    c.if-not-is_space.true c.range_from.ensures.value c.range_from.utf8 c.lexeme_at-len.ensures.token
    c.lexeme_at-len.ensures.len in
    omega (arith, first.some, c.loop-at.invariant.forward)

pub returns-then-not-is_space-clause-boundary : goal.returns-then-not-is_space-clause-boundary
returns-then-not-is_space-clause-boundary c =
    let first = has_token c.as_bytes-bytes.ensures.value c.loop-at-test.true c.is_space.ensures
    c.if-not-is_space.true c.range_from.ensures.value c.range_from.utf8 c.lexeme_at-len.ensures.token
    c.lexeme_at-len.ensures.len in
    first.boundary

pub loop-at-preserved : goal.loop-at-preserved
loop-at-preserved c =
    let text = c.args.text.now in
    let at = c.loop-at.at in
    let within : at < length text = omega (arith, ap length c.as_bytes-bytes.ensures.value, c.loop-at-test.true) in
    let space : is_space (get_or text at 0) ≡ true =
    ap (λ xs. is_space (get_or xs at 0)) (sym c.as_bytes-bytes.ensures.value)
    ∙ (sym c.is_space.ensures ∙ c.if-not-is_space.false) in
    record {
      forward = omega (arith, c.loop-at.invariant.forward);
      boundary = IsCharBoundary-after_ascii text at c.utf8.text within (space_ascii (get_or text at 0) space);
      same = sym (tokens-space text at within space) ∙ c.loop-at.invariant.same;
    }

pub returns-clause-none : goal.returns-clause-none
returns-clause-none c = sym c.loop-at.invariant.same
    ∙ tokens-end c.args.text.now c.loop-at.at (omega
    (arith, ap length c.as_bytes-bytes.ensures.value, c.loop-at-test.false))
