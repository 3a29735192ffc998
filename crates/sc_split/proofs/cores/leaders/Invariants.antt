-- The cores so far are those of the first subs.
use Rattle.std.proofs.Common.{◌≡◌, map, take}
use Rattle.sc_handover.specs.Made.{first_core}
use Rattle.sc_split.proofs.cores.leaders.Given as goal

abbrev pub invariant-loop-sub : goal.invariant-loop-sub
invariant-loop-sub l = l.cores.items ≡ map first_core (take l.sub-index l.subs)
