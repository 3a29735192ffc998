-- The orders of what is added come first, and so do their faults.
use Rattle.std.proofs.Common.{map, ◌∙◌}
use Rattle.std.proofs.lemmas.Result.{IfOk-weaker, IfErr-weaker, err_from_is_err_and}
use Rattle.sc_schema.specs.Documents.{content_of}
use Rattle.sc_commands.specs.Listed.{listed}
use Rattle.sc_commands.specs.declared.forms.Action.TheVariants as actions
use Rattle.sc_commands.proofs.OrderLemmas.{fault_before, read_both, fault_after}
use Rattle.sc_commands.proofs.orders.orders_of.Goals as goal

pub returns-in_err-orders-clause-fault : goal.returns-in_err-orders-clause-fault
returns-in_err-orders-clause-fault c =
    let p = err_from_is_err_and c.from_residual-in_err-orders.result c.from_residual-in_err-orders.ensures.1 in
    let adds = listed actions.Add c.args.commands.adds.items in
    let deletes = listed actions.Delete c.args.commands.deletes.items in
    rw (p.1, p.2) (fault_before adds deletes c.in_err-orders.field-0.0 c.in_err-orders.ensures.fault)

pub returns-clause-ok : goal.returns-clause-ok
returns-clause-ok c =
    let adds = listed actions.Add c.args.commands.adds.items in
    let deletes = listed actions.Delete c.args.commands.deletes.items in
    IfOk-weaker c.with_orders-2.result _ _
    (λ orders e. read_both adds deletes c.from_vec-none.result (map content_of c.in_ok-orders.orders) (map content_of orders) (c.from_vec-none.ensures ∙ c.in_ok-with_capacity.ensures.items) c.in_ok-orders.ensures.ok e) c.with_orders-2.ensures.ok

pub returns-clause-fault : goal.returns-clause-fault
returns-clause-fault c =
    let adds = listed actions.Add c.args.commands.adds.items in
    let deletes = listed actions.Delete c.args.commands.deletes.items in
    IfErr-weaker c.with_orders-2.result _ _
    (λ fault e. fault_after adds deletes c.from_vec-none.result (map content_of c.in_ok-orders.orders) fault (c.from_vec-none.ensures ∙ c.in_ok-with_capacity.ensures.items) c.in_ok-orders.ensures.ok e) c.with_orders-2.ensures.fault
