-- A batch is refused for the fault that it reports.
use Rattle.std.proofs.Common.{◌≡◌, ◌<◌, refl, sym, ap, ◌∙◌, subst, get_or, length, List, to_z, of_z, w64, rules}
use Rattle.std.proofs.lemmas.Option.{slice_get_read}
use Rattle.sc_record.specs.declared.order.Order.{Order}
use Rattle.sc_reply.specs.Refusals as refusals
use Rattle.sc_update.specs.declared.end.BatchFault.{BatchFault}
use Rattle.sc_session.specs.Answering.{IsOfOrder, RefusesFor}
use Rattle.sc_session.proofs.answer.cause_of.Goals as goal

pub returns-in-Conflict : goal.returns-in-Conflict
returns-in-Conflict c =
    let orders = c.args.batch.now.orders in
    let one : Order = c.index-as_slice-order.result in
    let less : c.in-Conflict.order < length orders = subst (IsOfOrder c.args.batch.now) c.in-Conflict.is c.requires in
    let there : one ≡ get_or orders c.in-Conflict.order one =
    c.index-as_slice-order.is ∙ ap (λ (xs : List Order). get_or xs c.in-Conflict.order one) c.as_slice.ensures in
    let condition : to_z w64 (of_z w64 one.condition) ≡ one.condition = search rules in
    let actual : to_z w64 (of_z w64 c.in-Conflict.actual) ≡ c.in-Conflict.actual = search rules in
    rw (c.as_str.ensures.value, condition, actual)
    (subst (λ (fault : BatchFault). RefusesFor c.args.batch.now fault (refusals.conflict one.id one.condition c.in-Conflict.actual)) (sym c.in-Conflict.is)
    (one, slice_get_read orders (length orders) c.in-Conflict.order one refl less there, refl))
