-- What a script leaves that crew 0 of a station runs.
use Rattle.std.specs.Prelude.{◌≡◌, ◌<◌, ◌⊎◌, ℕ, false, List, Option, Some, None, IfSome}
use Rattle.sc_io.specs.declared.clock.Clock.{Ghosts as Clock}
use Rattle.sc_io.specs.declared.hosts.Hosts.{Ghosts as Hosts}
use Rattle.sc_io.specs.declared.pace.Pace.{Ghosts as Pace}
use Rattle.sc_io.specs.declared.source.Source.{Ghosts as Source}
use Rattle.sc_io.specs.declared.sink.Sink.{Ghosts as Sink}
use Rattle.sc_cores.specs.Cores.{Outside}
use Rattle.sc_session.specs.declared.station.Crew.{Crew}
use Rattle.sc_session.specs.declared.station.Station.{Ghosts as Station}
use Rattle.sc_session.specs.Stations.{SetsAt, SetsReported, AreAsBefore}
use Rattle.sc_arguments.specs.declared.asked.Script.{Script}
use Rattle.sc_server.specs.Reports.{outside_by}
use Rattle.sc_server.specs.Serving.{Front, front_of}
use Rattle.solr_split.specs.Running.{Machine, RunsOrFails}

-- what a crew reports: its clock the timestamps that it gives, its hosts and its pace what is outside of the collection
pub record CrewReports (C H P : Type 0) : Type 1 where
  pub gives : C → ℕ → C → Type 0
  pub outside : H → P → Outside

-- what each part of a crew reports by itself
abbrev pub crew_reports : {C H P : Type 0} → Clock C → Hosts H → Pace P → CrewReports C H P
crew_reports of_clock of_hosts of_pace = record { gives = of_clock.gives; outside = outside_by of_hosts of_pace }

-- What stands beside a script: what its station and its sink report, the bytes that its source has still to give, and how often that has
-- failed.
pub record Beside (C H P L : Type 0) : Type 0 where
  pub front : Front C H P L
  pub unread : Option (List ℕ)
  pub read_faults : ℕ

-- what this station, this source and this sink report
abbrev pub beside_of : {T C H P L U V S W : Type 0} → Station T C H P L U V → Source S → Sink W → T → S → W → Beside C H P L
beside_of of_station of_source of_sink station source sink = record {
  front = front_of of_station of_sink station sink;
  unread = of_source.rest source;
  read_faults = of_source.faults source;
}

module _ {C H P L : Type 0} where
  -- the machine as a crew has it
  abbrev pub machine_by : CrewReports C H P → Beside C H P L → Crew C H P L → Machine C
  machine_by reports beside crew = record {
    clock = crew.clock;
    outside = reports.outside crew.hosts crew.pace;
    unread = beside.unread;
    written = beside.front.written;
    read_faults = beside.read_faults;
    write_faults = beside.front.write_faults;
  }

  -- Crew 0 was given, and is back as it is then; all else of the station is as it was.
  pub record LendsFirst (before after : Front C H P L) (given back : Crew C H P L) : Type 0 where
    pub given_is : IfSome before.crews (λ crews. crews 0 ≡ Some given)
    pub crews : SetsReported 0 None before.crews after.crews
    pub crews_back : SetsReported 0 (Some back) before.crews_back after.crews_back
    pub out : SetsAt 0 false before.out after.out
    pub listener : back.listener ≡ given.listener
    pub open_faults : after.open_faults ≡ before.open_faults
    pub opened : after.opened ≡ before.opened

  -- no crew was given, and all of the station is as it was
  pub record LendsNone (before after : Front C H P L) : Type 0 where
    pub crews : after.crews ≡ before.crews
    pub crews_back : after.crews_back ≡ before.crews_back
    pub out : AreAsBefore before.out after.out
    pub open_faults : after.open_faults ≡ before.open_faults
    pub opened : after.opened ≡ before.opened

  -- crew 0 of the station ran the script with this status, or failed to
  pub record RunsByFirst (script : Script) (reports : CrewReports C H P) (before after : Beside C H P L) (untouched : Type 0) (status : ℕ) : Type 0 where
    pub given : Crew C H P L
    pub back : Crew C H P L
    pub lends : LendsFirst before.front after.front given back
    pub runs : RunsOrFails script reports.gives (machine_by reports before given) (machine_by reports after back)
        (record { hosts = back.hosts ≡ given.hosts; others = untouched × (back.clock ≡ given.clock) × (back.pace ≡ given.pace) }) status
    pub host_fault : status ≡ 8
        → (reports.outside given.hosts given.pace).start_faults < (reports.outside back.hosts back.pace).start_faults

  -- crew 0 of the station ran the script, or failed to; or there was no memory for the crew, and all was left as it was
  abbrev pub EndsScript : Script → CrewReports C H P → (before after : Beside C H P L) → (untouched : Type 0) → ℕ → Type 0
  EndsScript script reports before after untouched status =
      RunsByFirst script reports before after untouched status ⊎ ((status ≡ 6) × untouched × LendsNone before.front after.front)
