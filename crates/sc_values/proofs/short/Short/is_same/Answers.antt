use Rattle.std.proofs.Common.{◌∙◌, ap, is_eq}
use Rattle.std.proofs.lemmas.Map.Text.{is_eq-slice_cmp}
use Rattle.sc_values.proofs.short.Short.is_same.Goals as goal

pub returns : goal.returns
returns c = c.is_eq.ensures ∙ ap is_eq c.order.ensures ∙ is_eq-slice_cmp c.args.self.now c.args.other.now
