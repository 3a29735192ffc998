-- The fields fit their names, which ascend.
use Rattle.std.proofs.Common.{sym, subst, ◌∙◌}
use Rattle.sc_values.specs.Fields.{AreFields}
use Rattle.sc_workload.proofs.DocumentLemmas.{fields_fit}
use Rattle.sc_workload.proofs.order.change_at.Goals as goal

pub new-requires : goal.new-requires
new-requires c = subst AreFields (sym (c.as_slice.ensures ∙ c.in_ok-fields.ensures)) (fields_fit c.args.place)
