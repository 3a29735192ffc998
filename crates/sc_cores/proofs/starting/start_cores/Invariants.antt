-- The cores so far are started, and none has failed.
use Rattle.std.proofs.Common.{◌≡◌, take, IfSome, Some}
use Rattle.sc_cores.specs.Cores.{with_cores}
use Rattle.sc_cores.proofs.starting.start_cores.Given as goal

abbrev pub invariant-loop-core : goal.invariant-loop-core
invariant-loop-core g l = record {
  started : IfSome (g.H.Hosts.started l.fn.hosts) (λ before. g.H.Hosts.started l.hosts ≡ Some (with_cores (take l.core-index l.cores) before));
  start_faults : g.H.Hosts.start_faults l.hosts ≡ g.H.Hosts.start_faults l.fn.hosts;
  stop_faults : g.H.Hosts.stop_faults l.hosts ≡ g.H.Hosts.stop_faults l.fn.hosts;
  reached : g.H.Hosts.reached l.hosts ≡ g.H.Hosts.reached l.fn.hosts;
}
