-- The cores so far are those before, and the first replicas.
use Rattle.std.proofs.Common.{◌≡◌, ◌++◌, map}
use Rattle.std.specs.List.{range_with_len}
use Rattle.sc_cores.specs.Cores.{core_at}
use Rattle.sc_cores.proofs.naming.push_cores.Given as goal

abbrev pub invariant-loop-before : goal.invariant-loop-before
invariant-loop-before l = l.cores.items ≡ l.fn.cores.items ++ map (core_at l.nodes l.slice.name l.slice.node) (range_with_len 1 l.before)
