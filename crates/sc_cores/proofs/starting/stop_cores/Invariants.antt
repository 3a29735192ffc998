-- Of the cores so far each was stopped, or the first that failed is known.
use Rattle.std.proofs.Common.{◌≡◌, ◌<◌, ◌≤◌, ℕ, List, Some, None, length, take}
use Rattle.sc_io.specs.declared.hosts.Host.{Host}
use Rattle.sc_cores.specs.Cores.{without_cores, StopsEach}
use Rattle.sc_cores.proofs.starting.stop_cores.Given as goal

abbrev pub invariant-loop-at : goal.invariant-loop-at
invariant-loop-at g l = record {
  stopped : l.failed ≡ None → (all : List Host) → g.H.Hosts.started l.fn.hosts ≡ Some all
      → g.H.Hosts.started l.hosts ≡ Some (without_cores (take l.at l.cores) all);
  steady : l.failed ≡ None → g.H.Hosts.stop_faults l.hosts ≡ g.H.Hosts.stop_faults l.fn.hosts;
  cause : (at : ℕ) → l.failed ≡ Some at → (at < length l.cores) × (g.H.Hosts.stop_faults l.fn.hosts < g.H.Hosts.stop_faults l.hosts);
  each : StopsEach (take l.at l.cores) (g.H.Hosts.started l.fn.hosts) (g.H.Hosts.started l.hosts) (g.H.Hosts.stop_faults l.fn.hosts)
      (g.H.Hosts.stop_faults l.hosts) l.failed;
  no_fall : g.H.Hosts.stop_faults l.fn.hosts ≤ g.H.Hosts.stop_faults l.hosts;
  start_faults : g.H.Hosts.start_faults l.hosts ≡ g.H.Hosts.start_faults l.fn.hosts;
  reached : g.H.Hosts.reached l.hosts ≡ g.H.Hosts.reached l.fn.hosts;
}
