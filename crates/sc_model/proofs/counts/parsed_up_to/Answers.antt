-- Digits that are no number of 32 bits are more than any.
use Rattle.std.proofs.Common.{◌<◌, ◌^◌, rules}
use Rattle.sc_model.proofs.DigitLemmas.{none_up_to}
use Rattle.sc_model.proofs.counts.parsed_up_to.Goals as goal

pub returns-in-Err : goal.returns-in-Err
returns-in-Err c =
    let few : c.args.most < 2 ^ 32 = search rules in
    none_up_to c.args.text.now c.args.most few c.requires.some c.requires.digits c.in-Err.ensures.value.0
