-- The keys that were passed are shared.
use Rattle.std.proofs.Common.{take}
use Rattle.sc_keys.specs.Storing.{AreAlike}
use Rattle.sc_keys.proofs.keys.Keys.renewed.Given as goal

abbrev pub invariant-loop-at : goal.invariant-loop-at
invariant-loop-at g l = AreAlike g.K.Key.order (take l.at l.self.keys) l.keys.items
