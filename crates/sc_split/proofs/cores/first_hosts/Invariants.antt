-- The cores so far are those of the first subs.
use Rattle.std.proofs.Common.{◌≡◌, map, take}
use Rattle.sc_split.specs.Outside.{sub_core_at}
use Rattle.sc_split.proofs.cores.first_hosts.Given as goal

abbrev pub invariant-loop-sub : goal.invariant-loop-sub
invariant-loop-sub l = l.hosts.items ≡ map (λ sub. sub_core_at l.nodes sub 1) (take l.sub-index l.subs)
