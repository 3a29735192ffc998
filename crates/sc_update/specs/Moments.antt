-- What stands beside an update at one moment, and what it leaves of its hosts.
use Rattle.std.specs.Prelude.{◌≡◌}
use Rattle.sc_io.specs.declared.hosts.Hosts.{Ghosts as Hosts}
use Rattle.sc_collection.specs.declared.desk.Desk.{Ghosts as Desk}
use Rattle.sc_collection.specs.Kept.{Kept}
use Rattle.sc_update.specs.Updated.{UpdateMoment, update_moment}

-- what stands at one moment: what was seen at the desk, the stops that the trail keeps, the clock, and which nodes the hosts could not reach
abbrev pub moment_at : {D K C H : Type 0} → Desk D K → Hosts H → D → C → H → Kept → UpdateMoment C
moment_at desks of_hosts desk clock hosts trail = update_moment (desks.seen desk) trail.stops clock (of_hosts.reached hosts)

-- the cores that hosts started, and how often they failed to start or to stop one, are as before
pub record KeepsCores {H : Type 0} (hosts : Hosts H) (old new : H) : Type 0 where
  pub cores : hosts.started new ≡ hosts.started old
  pub start_faults : hosts.start_faults new ≡ hosts.start_faults old
  pub stop_faults : hosts.stop_faults new ≡ hosts.stop_faults old
