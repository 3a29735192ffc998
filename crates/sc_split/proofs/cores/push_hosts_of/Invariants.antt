-- After the cores from before come the further ones so far.
use Rattle.std.proofs.Common.{◌≡◌, ◌++◌, ◌-◌, map}
use Rattle.std.specs.List.{range_with_len}
use Rattle.sc_split.specs.Outside.{sub_core_at}
use Rattle.sc_split.proofs.cores.push_hosts_of.Given as goal

abbrev pub invariant-loop-k : goal.invariant-loop-k
invariant-loop-k l = l.hosts.items ≡ l.initial.hosts.items ++ map (sub_core_at l.nodes l.sub) (range_with_len 2 (l.k - 1))
