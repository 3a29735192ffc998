-- There are as many orders as documents.
use Rattle.std.proofs.Common.{◌≤◌, length, arith}
use Rattle.sc_record.specs.Orders.{order_limit}
use Rattle.sc_commands.proofs.OrderLemmas.{few_docs}
use Rattle.sc_commands.proofs.update.read_docs.Goals as goal

pub returns-in-Ok-clause-few : goal.returns-in-Ok-clause-few
returns-in-Ok-clause-few c =
    let small : length c.args.docs ≤ order_limit = omega arith in
    few_docs c.args.docs c.in-Ok.orders order_limit c.in-Ok.ensures.ok small
