-- One digit more.
use Rattle.std.proofs.Common.{◌≡◌, true, get_or, arith, refl}
use Rattle.std.specs.Char.{is_ascii_digit}
use Rattle.std.proofs.lemmas.List.Folds.{list_all_more}
use Rattle.std.proofs.lemmas.Int.Digits.{digits_value_more}
use Rattle.sc_http.proofs.framing.length_of.Goals as goal

pub loop-byte-preserved : goal.loop-byte-preserved
loop-byte-preserved c =
    let more = digits_value_more 10 c.args.value.now c.loop-byte.byte-index c.loop-byte-test.true in
    let digit : is_ascii_digit (get_or c.args.value.now c.loop-byte.byte-index 0) ≡ true = c.in-Some.ensures.variant.0 refl in
    record {
      digits = rw (list_all_more is_ascii_digit c.args.value.now c.loop-byte.byte-index 0 c.loop-byte-test.true, c.loop-byte.invariant.digits, digit) refl;
      number = omega (arith, more, c.loop-byte.invariant.number, c.in-Some.ensures.value, c.min-length.ensures);
    }
