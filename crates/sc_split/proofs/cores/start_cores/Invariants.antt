-- The cores so far are started, and nothing has failed.
use Rattle.std.proofs.Common.{◌≡◌, ◌≤◌, List, Option}
use Rattle.sc_io.specs.declared.hosts.Host.{Host}
use Rattle.sc_cores.specs.Cores.{HasStarted}
use Rattle.sc_split.proofs.cores.start_cores.Given as goal

abbrev pub invariant-loop-at : goal.invariant-loop-at
invariant-loop-at g l = record {
  count : l.started ≡ l.at;
  from : l.fn.started ≤ l.at;
  started : (before : Option (List Host)) → HasStarted l.cores l.fn.started before (g.H.Hosts.started l.fn.hosts)
      → HasStarted l.cores l.at before (g.H.Hosts.started l.hosts);
  start_faults : g.H.Hosts.start_faults l.hosts ≡ g.H.Hosts.start_faults l.fn.hosts;
  stop_faults : g.H.Hosts.stop_faults l.hosts ≡ g.H.Hosts.stop_faults l.fn.hosts;
  reached : g.H.Hosts.reached l.hosts ≡ g.H.Hosts.reached l.fn.hosts;
  stops : g.P.Pace.stops l.pace ≡ g.P.Pace.stops l.fn.pace;
}
