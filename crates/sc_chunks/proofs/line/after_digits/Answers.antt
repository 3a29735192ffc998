-- A digit goes on with the size, and any other byte comes after it.
use Rattle.std.proofs.Common.{inl, arith, sym, refl}
use Rattle.sc_chunks.proofs.LineStepLemmas.{digit_too_many, no_digit_at_all, digit_taken, line_of_digits}
use Rattle.sc_chunks.proofs.line.after_digits.Goals as goal

pub returns-then-count-ge-MAX_DIGITS : goal.returns-then-count-ge-MAX_DIGITS
returns-then-count-ge-MAX_DIGITS c coded content d =
    digit_too_many coded content c.args.size c.args.count c.args.byte d (omega (arith, c.if-count-ge-MAX_DIGITS.true)) (sym c.in-Some.ensures.found)

pub returns-else-count-ge-MAX_DIGITS : goal.returns-else-count-ge-MAX_DIGITS
returns-else-count-ge-MAX_DIGITS c coded content d =
    digit_taken coded content c.args.size c.args.count c.push_digit.result c.args.byte d (omega (arith, c.if-count-ge-MAX_DIGITS.false)) (sym c.in-Some.ensures.found)
    (c.push_digit.ensures d.digits c.args.byte d.size_is c.in-Some.ensures.value.0)

pub returns-in-None : goal.returns-in-None
returns-in-None c coded content d = no_digit_at_all coded content c.args.size c.args.count c.args.byte d c.if-count-eq0.true (sym c.in-None.ensures.found)

pub returns-in-None-2 : goal.returns-in-None-2
returns-in-None-2 c coded content d =
    c.after_size.ensures coded content (line_of_digits coded content c.args.size c.args.count d (omega (arith, c.if-count-eq0.false))) refl (inl (sym c.in-None.ensures.found))
