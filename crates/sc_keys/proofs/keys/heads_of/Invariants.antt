-- The heads that were put are those of the keys that were passed.
use Rattle.std.proofs.Common.{◌≡◌, map, take}
use Rattle.sc_keys.proofs.keys.heads_of.Given as goal

abbrev pub invariant-loop-key : goal.invariant-loop-key
invariant-loop-key g l = l.heads.items ≡ map g.K.Key.heading (take l.key-index l.keys)
