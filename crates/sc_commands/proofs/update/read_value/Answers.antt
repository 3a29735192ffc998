-- There are as many orders as commands.
use Rattle.std.proofs.Common.{◌≤◌, ◌+◌, length, arith}
use Rattle.sc_record.specs.Orders.{order_limit}
use Rattle.sc_commands.proofs.OrderLemmas.{few_orders}
use Rattle.sc_commands.proofs.update.read_value.Goals as goal

pub returns-after-flags-clause-few : goal.returns-after-flags-clause-few
returns-after-flags-clause-few c =
    let small : length c.in-Ok.commands.adds.items + length c.in-Ok.commands.deletes.items ≤ order_limit = omega arith in
    few_orders c.in-Ok.commands.adds.items c.in-Ok.commands.deletes.items c.in-Ok-orders_of.orders order_limit c.in-Ok-orders_of.ensures.ok small
