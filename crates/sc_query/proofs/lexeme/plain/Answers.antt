-- The text that is written is what the value stands for.
use Rattle.std.proofs.Common.{◌++◌, ◌-◌, take, drop, string_bytes, sym, ap, ◌∙◌, inl, inr, arith, rules}
use Rattle.std.proofs.lemmas.Str.{IsCharBoundary-start, IsCharBoundary-after_ascii}
use Rattle.sc_query.proofs.PlainLemmas.{piece_written, piece_longer, piece_last}
use Rattle.sc_query.specs.Tokens.{plain}
use Rattle.sc_query.proofs.lexeme.plain.Goals as goal
use Rattle.sc_query.proofs.lexeme.plain.Goals.{else-bytes-at-eq92-via-then-bytes-at-eq92+else-at-bytes, else-bytes-at-eq92-via-else-bytes-at-eq92}

pub loop-at-init : goal.loop-at-init
loop-at-init c = record {
  within = omega arith;
  passed = omega arith;
  boundary = IsCharBoundary-start c.as_bytes-bytes.result.now c.as_bytes-bytes.ensures.utf8;
  whole = ap (λ xs. xs ++ plain c.as_bytes-bytes.result.now) c.new-text.ensures.bytes;
}

pub loop-at-preserved-then-at-bytes : goal.loop-at-preserved-then-at-bytes
loop-at-preserved-then-at-bytes c =
    let bs = c.as_bytes-bytes.result.now in
    record {
      within = omega arith;
      passed = omega arith;
      boundary = IsCharBoundary-after_ascii bs c.loop-at.at c.as_bytes-bytes.ensures.utf8 (omega arith) (omega (arith, c.if-bytes-at-eq92.true));
      whole = piece_written (string_bytes c.loop-at.text) (string_bytes c.push_str.new.self) (take (c.loop-at.at - c.loop-at.from) (drop c.loop-at.from bs)) bs c.loop-at.at (c.in_ok-push_str.ensures.bytes ∙ ap (λ xs. string_bytes c.loop-at.text ++ xs) (c.range.ensures.value ∙ ap (λ xs. take (c.loop-at.at - c.loop-at.from) (drop c.loop-at.from xs)) (sym c.as_bytes-bytes.ensures.value))) c.if-at-bytes.true c.if-bytes-at-eq92.true c.loop-at.invariant.whole;
    }

pub loop-at-preserved : goal.loop-at-preserved
loop-at-preserved c =
    let bs = c.as_bytes-bytes.result.now in
    record {
      within = omega arith;
      passed = omega arith;
      boundary = c.loop-at.invariant.boundary;
      whole = piece_longer (string_bytes c.loop-at.text) bs c.loop-at.from c.loop-at.at c.loop-at.invariant.passed c.loop-at-test.true (elim c.else-bytes-at-eq92.branch [
        | else-bytes-at-eq92-via-then-bytes-at-eq92+else-at-bytes w ↦ inr w.if-at-bytes.false
        | else-bytes-at-eq92-via-else-bytes-at-eq92 w ↦ inl w.if-bytes-at-eq92.false
      ]) c.loop-at.invariant.whole;
    }

pub returns : goal.returns
returns c =
    let bs = c.as_bytes-bytes.result.now in
    piece_last (string_bytes c.loop-at.text) (string_bytes c.push_str-2.new.self) bs c.loop-at.from c.loop-at.at c.loop-at.invariant.passed (omega (arith, c.loop-at.invariant.within, c.loop-at-test.false)) (c.in_ok-push_str-2.ensures.bytes ∙ ap (λ xs. string_bytes c.loop-at.text ++ xs) (search rules)) c.loop-at.invariant.whole ∙ ap plain c.as_bytes-bytes.ensures.value
