-- Digits that are no number of 64 bits are refused.
use Rattle.std.proofs.Common.{◌^◌, arith}
use Rattle.std.specs.Prelude.{nat_lt}
use Rattle.std.specs.Str.Parse.{digits_value}
use Rattle.std.proofs.lemmas.Bool.Decides.{nat_tests}
use Rattle.sc_arguments.proofs.DigitLemmas.{not_below, none_chosen}
use Rattle.sc_arguments.proofs.numbers.parsed.Goals as goal

pub returns-in-Err : goal.returns-in-Err
returns-in-Err c =
    none_chosen (nat_lt (digits_value 10 c.args.text.now) (2 ^ 64)) (digits_value 10 c.args.text.now)
    (λ less. not_below c.args.text.now (2 ^ 64) c.requires.some c.requires.digits c.in-Err.ensures.value.0 (grind (arith, nat_tests)))
