-- What is lent as a text is UTF-8.
use Rattle.std.proofs.Common.{◌≡◌, true, rules}
use Rattle.std.specs.Str.{is_utf8}
use Rattle.std.proofs.lemmas.Grind.{common_steps}
use Rattle.std.proofs.lemmas.Str.{is_utf8-from_IsUtf8}
use Rattle.std.proofs.Common.{arith}
use Rattle.sc_spelling.proofs.push.push_text.Goals as goal

pub returns-clause-text : goal.returns-clause-text
returns-clause-text c =
    let valid : is_utf8 c.args.text.now ≡ true = is_utf8-from_IsUtf8 c.args.text.now c.utf8.text in
    first_of (search rules, grind (arith, common_steps))
