use Rattle.std.proofs.Common.{sym, subst}
use Rattle.sc_values.specs.Shorts.{IsShort}
use Rattle.sc_values.proofs.short.Short.copy.Goals as goal

pub invariant_of-result : goal.invariant_of-result
invariant_of-result c = subst (IsShort c.self.inside.length) (sym c.copy_of.ensures) c.self.invariant
