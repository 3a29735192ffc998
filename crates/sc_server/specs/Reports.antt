-- What a worker's crew reports.
use Rattle.std.specs.Prelude.{ℕ, List, Option}
use Rattle.sc_io.specs.declared.clock.Clock.{Ghosts as Clock}
use Rattle.sc_io.specs.declared.hosts.Hosts.{Ghosts as Hosts}
use Rattle.sc_io.specs.declared.pace.Pace.{Ghosts as Pace}
use Rattle.sc_io.specs.declared.source.Source.{Ghosts as Source}
use Rattle.sc_io.specs.declared.sink.Sink.{Ghosts as Sink}
use Rattle.sc_cores.specs.Cores.{Outside, outside_of}
use Rattle.sc_seen.specs.Seen.{Layout, Seen}
use Rattle.sc_gate.specs.Gates.{no_gate}
use Rattle.sc_session.specs.declared.listener.Link.{Link}
use Rattle.sc_session.specs.declared.listener.Listener.{Ghosts as Listener}
use Rattle.sc_session.specs.declared.listener.Taken.{Taken}
use Rattle.sc_session.specs.declared.station.Crew.{Crew}
use Rattle.sc_session.specs.Working.{LinkSetting, WorkState}
use Rattle.sc_server.specs.declared.clock.WorkerClock.{WorkerClock}
use Rattle.sc_server.specs.Clocks.{gives_at}

-- what the parts of a crew report: the clock its moments, hosts and pace what is outside of the collection, the listener its links
-- and faults, and the links' sources and sinks their bytes and faults
pub record Reports (C H P L S W : Type 0) : Type 1 where
  pub gives : C → ℕ → C → Type 0
  pub outside : H → P → Outside
  pub coming : L → Option (List (Link S W))
  pub taken : L → Option (List (Taken S W))
  pub faults : L → ℕ
  pub out : L → ℕ
  pub rest : S → Option (List ℕ)
  pub read_faults : S → ℕ
  pub written : W → Option (List ℕ)
  pub write_faults : W → ℕ

-- what is outside of the collection, as hosts and a pace report it
abbrev pub outside_by : {H P : Type 0} → Hosts H → Pace P → H → P → Outside
outside_by of_hosts of_pace hosts pace =
    outside_of (of_hosts.started hosts) (of_hosts.start_faults hosts) (of_hosts.stop_faults hosts) (of_pace.stops pace) (of_hosts.reached hosts)

-- what each part of a crew reports by itself
abbrev pub reports_of : {C H P L S W : Type 0} → Clock C → Hosts H → Pace P → Listener L S W → Source S → Sink W → Reports C H P L S W
reports_of of_clock of_hosts of_pace of_listener of_source of_sink = record {
  gives = of_clock.gives;
  outside = outside_by of_hosts of_pace;
  coming = of_listener.coming;
  taken = of_listener.taken;
  faults = of_listener.faults;
  out = of_listener.out;
  rest = of_source.rest;
  read_faults = of_source.faults;
  written = of_sink.written;
  write_faults = of_sink.faults;
}

-- a crew whose clock is that of a worker
abbrev pub WorkerCrew : (C H P L : Type 0) → Type 0
WorkerCrew C H P L = Crew (WorkerClock C) H P L

-- the crew of a station as a worker has it, whose clock stands still at a moment or not
abbrev pub with_moment : {C H P L : Type 0} → Option ℕ → Crew C H P L → WorkerCrew C H P L
with_moment moment crew = record {
  clock = record { clock = crew.clock; moment = moment };
  hosts = crew.hosts;
  pace = crew.pace;
  listener = crew.listener;
}

-- and as it is given back
abbrev pub without_moment : {C H P L : Type 0} → WorkerCrew C H P L → Crew C H P L
without_moment crew = record { clock = crew.clock.clock; hosts = crew.hosts; pace = crew.pace; listener = crew.listener }

module _ {C H P L S W : Type 0} (reports : Reports C H P L S W) where
  -- what the clock of a worker gives
  abbrev pub clock_gives : WorkerClock C → ℕ → WorkerClock C → Type 0
  clock_gives old now new = gives_at reports.gives old.moment old.clock now new.moment new.clock

  -- what the sources and sinks of a listener's links report, and how the collection is laid out
  abbrev pub setting : Layout → LinkSetting S W
  setting layout = record {
    layout = layout;
    rest = reports.rest;
    read_faults = reports.read_faults;
    written = reports.written;
    write_faults = reports.write_faults;
  }

  -- what stands beside a worker with this crew, whose passes have seen this
  abbrev pub beside : Seen → WorkerCrew C H P L → WorkState (WorkerClock C) S W
  beside seen crew = record {
    around = record { seen = seen; clock = crew.clock; outside = reports.outside crew.hosts crew.pace; gate = no_gate };
    coming = reports.coming crew.listener;
    taken = reports.taken crew.listener;
    faults = reports.faults crew.listener;
    out = reports.out crew.listener;
  }
