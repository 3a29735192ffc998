-- A body that has too many documents is refused for that.
use Rattle.std.proofs.Common.{◌≡◌, length, Some, option_map, option_and_then, inr}
use Rattle.sc_json.specs.Bodies.{json_of}
use Rattle.sc_json.specs.Flat.{docs_of}
use Rattle.sc_commands.proofs.DocLemmas.{too_many_docs}
use Rattle.sc_commands.proofs.update.read_other.Goals as goal

pub returns-in-Ok-Some-clause-fault : goal.returns-in-Ok-Some-clause-fault
returns-in-Ok-Some-clause-fault c =
    let counted : option_map length (option_and_then docs_of (json_of c.args.body.now)) ≡ Some c.in-Ok-Some.count = rw c.in-Ok-Some.field-0-is at c.in-Ok-Some.ensures in
    inr (too_many_docs c.args.flags.now (json_of c.args.body.now) c.in-Ok-Some.count counted c.if-count-gt-MAX_ORDERS.true)
