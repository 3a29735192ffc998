-- What a server and its workers leave.
use Rattle.std.specs.Prelude.{◌≡◌, ◌≢◌, ◌⊎◌, ◌↔◌, ◌≤◌, ◌<◌, ◌++◌, ℕ, Bool, false, List, length, map, slice_get, if◌then◌else◌, Option, Some, None, IfSome}
use Rattle.std.specs.List.{list_any}
use Rattle.sc_cores.specs.Cores.{StartsFirst, FailsToStartFirst}
use Rattle.sc_io.specs.Pieces.{AddsPrefix}
use Rattle.sc_io.specs.declared.sink.Sink.{Ghosts as Sink}
use Rattle.sc_seen.specs.Seen.{nothing_opened, Layout, Seen, SeesMore, AreLegal}
use Rattle.sc_lock.specs.Journal.{AreDisjoint}
use Rattle.sc_session.specs.declared.station.Crew.{Crew}
use Rattle.sc_session.specs.declared.station.Station.{Ghosts as Station}
use Rattle.sc_session.specs.declared.worker.WorkEnd.{WorkEnd}
use Rattle.sc_session.specs.Working.{IsWorked}
use Rattle.sc_collection.specs.Shapes.{HasShape, SeesOpened}
use Rattle.sc_arguments.specs.declared.asked.Server.{Server}
use Rattle.sc_server.specs.Reports.{Reports, WorkerCrew, with_moment, without_moment, clock_gives, setting, beside}
use Rattle.sc_server.specs.Working.{has_failed}
use Rattle.sc_server.specs.Needs.{listening_line}
use Rattle.sc_server.specs.Crews.{SetsBelow, SetsReportedBelow}

-- What several have seen of one collection: beginnings of the same journals, which are legal; and no entry is of two of them.
pub record IsOneStory (layout : Layout) (parts : List Seen) (all : Seen) : Type 0 where
  pub legal : AreLegal layout all
  pub beginnings : (i : ℕ) (part : Seen) → slice_get parts i ≡ Some part → SeesMore part all
  pub apart : (i j : ℕ) (one other : Seen) → i ≢ j → slice_get parts i ≡ Some one → slice_get parts j ≡ Some other
      → (lock : ℕ) → AreDisjoint (one.own lock) (other.own lock)

-- What a station and a sink report: the crews that are still to be given, those that are back and those that are out, by the worker's
-- number; how often opening the port has failed, and the port that was opened last; the bytes that were written, and how often writing has
-- failed.
pub record Front (C H P L : Type 0) : Type 0 where
  pub crews : Option (ℕ → Option (Crew C H P L))
  pub crews_back : Option (ℕ → Option (Crew C H P L))
  pub out : ℕ → Bool
  pub open_faults : ℕ
  pub opened : Option (Option ℕ)
  pub written : Option (List ℕ)
  pub write_faults : ℕ

-- what this station and this sink report
abbrev pub front_of : {T C H P L S V W : Type 0} → Station T C H P L S V → Sink W → T → W → Front C H P L
front_of of_station of_sink station sink = record {
  crews = of_station.crews station;
  crews_back = of_station.crews_back station;
  out = of_station.out station;
  open_faults = of_station.faults station;
  opened = of_station.opened station;
  written = of_sink.written sink;
  write_faults = of_sink.faults sink;
}

module _ {C H P L : Type 0} (before after : Front C H P L) where
  -- the station gave this crew as the one of this number, and has it back as that one, where it reports them
  pub record IsGivenAndBack (number : ℕ) (given back : Crew C H P L) : Type 0 where
    pub given_is : IfSome before.crews (λ crews. crews number ≡ Some given)
    pub back_is : IfSome before.crews_back (λ none. (crews : ℕ → Option (Crew C H P L)) × (after.crews_back ≡ Some crews) × (crews number ≡ Some back))

  -- The crews of the first so many numbers were given, and none of them is out any more; those of all other numbers are where they were.
  pub record AreGivenAndBack (count : ℕ) : Type 0 where
    pub given : SetsReportedBelow count None before.crews after.crews
    pub out : SetsBelow count false before.out after.out
    pub others : IfSome before.crews_back (λ old. (crews : ℕ → Option (Crew C H P L)) × (after.crews_back ≡ Some crews)
        × ((number : ℕ) → count ≤ number → crews number ≡ old number))

  -- from this number to below that one each crew is back as it was given
  abbrev pub AreUnused : (first last : ℕ) → Type 0
  AreUnused first last = (number : ℕ) → first ≤ number → number < last → (crew : Crew C H P L) × IsGivenAndBack number crew crew

  -- the port that was opened last is the one of this number, where the station reports it
  abbrev pub HasOpened : (port : ℕ) → Type 0
  HasOpened port = IfSome before.opened (λ was. after.opened ≡ Some (Some port))

  -- nothing was written
  pub record WritesNothing : Type 0 where
    pub written : after.written ≡ before.written
    pub write_faults : after.write_faults ≡ before.write_faults

  -- The port was not opened: no crew was given, and nothing was written.
  pub record FailsToOpen : Type 0 where
    pub fault : before.open_faults < after.open_faults
    pub opened : after.opened ≡ before.opened
    pub crews : AreGivenAndBack 0
    pub silent : WritesNothing

  -- Memory ran out: each crew that was given is back as it was, and nothing was written. The port didn't fail.
  pub record RunsOut (server : Server) : Type 0 where
    pub count : ℕ
    pub at_most : count ≤ server.workers
    pub crews : AreGivenAndBack count
    pub unused : AreUnused 0 count
    pub open_faults : after.open_faults ≡ before.open_faults
    pub silent : WritesNothing

  -- The port was opened, and the hosts of crew 0 were to start the first cores, but no worker began: each crew is back, all but those hosts as
  -- it was given.
  pub record NoneBegins (server : Server) (given back : Crew C H P L) : Type 0 where
    pub crews : AreGivenAndBack server.workers
    pub first : IsGivenAndBack 0 given back
    pub first_is : back ≡ record given { hosts = back.hosts }
    pub unused : AreUnused 1 server.workers
    pub open_faults : after.open_faults ≡ before.open_faults
    pub port : HasOpened server.port

-- a worker that has worked: its crew as the station gave it, as it began to work, and as it was given back; what its passes had seen
-- before and after; and how it ended
pub record WorkerRun (C H P L : Type 0) : Type 0 where
  pub given : Crew C H P L
  pub began : WorkerCrew C H P L
  pub back : WorkerCrew C H P L
  pub before : Seen
  pub after : Seen
  pub end : WorkEnd

-- what the workers of one server have in common: what the parts of their crews report, and how the collection is laid out
pub record WorkerSetting (C H P L S W : Type 0) : Type 1 where
  pub reports : Reports C H P L S W
  pub layout : Layout

-- the status of a server whose workers have all ended
abbrev pub status_of : {C H P L : Type 0} → List (WorkerRun C H P L) → ℕ
status_of {C} {H} {P} {L} runs = if list_any (λ (run : WorkerRun C H P L). has_failed run.end) runs then 7 else 0

module _ {C H P L S W : Type 0} (common : WorkerSetting C H P L S W) where
  -- A worker of this number worked over the collection, from the beginning on: the station gave its crew, where it reports that; it did
  -- what every worker promises; and the station has its crew back. The first one's hosts had started the cores of the first map.
  pub record IsWorkerRun (server : Server) (before after : Front C H P L) (number : ℕ) (run : WorkerRun C H P L) : Type 0 where
    pub crew : IsGivenAndBack before after number run.given (without_moment run.back)
    pub first : number ≡ 0
        → StartsFirst common.layout.nodes common.layout.first (common.reports.outside run.given.hosts run.given.pace)
        (common.reports.outside run.began.hosts run.began.pace)
    pub hosts : number ≢ 0 → run.began.hosts ≡ run.given.hosts
    pub rest : run.began ≡ record (with_moment server.clock run.given) { hosts = run.began.hosts }
    pub new : SeesOpened common.layout.opened run.before
    pub worked : IsWorked (clock_gives common.reports) (setting common.reports common.layout) server.max_connections
        (beside common.reports run.before run.began) (beside common.reports run.after run.back) run.end

module _ {C H P L S W : Type 0} (reports : Reports C H P L S W) where
  -- Starting one of the cores of the first map failed, those before it were started, and nothing was written.
  pub record FailsToStart (server : Server) (before after : Front C H P L) : Type 0 where
    pub given : Crew C H P L
    pub back : Crew C H P L
    pub crews : NoneBegins before after server given back
    pub layout : Layout
    pub shape : HasShape server.shape layout
    pub cores : FailsToStartFirst layout.nodes layout.first (reports.outside given.hosts given.pace) (reports.outside back.hosts back.pace)
    pub silent : WritesNothing before after

  -- The cores of the first map were started, and writing the line failed: a prefix of it was written.
  pub record FailsToWrite (server : Server) (before after : Front C H P L) : Type 0 where
    pub given : Crew C H P L
    pub back : Crew C H P L
    pub crews : NoneBegins before after server given back
    pub layout : Layout
    pub shape : HasShape server.shape layout
    pub cores : StartsFirst layout.nodes layout.first (reports.outside given.hosts given.pace) (reports.outside back.hosts back.pace)
    pub fault : before.write_faults < after.write_faults
    pub part : IfSome before.written (λ old. AddsPrefix old (listening_line server.port) after.written)

  -- All workers of a server worked over one new collection of its shape, in which nothing had happened: what they have seen of each journal are
  -- beginnings of one, and no two of them made the same entry. The port that was asked for was opened before, and the line was written.
  pub record RunsServer (server : Server) (before after : Front C H P L) (runs : List (WorkerRun C H P L)) : Type 0 where
    pub layout : Layout
    pub shape : HasShape server.shape layout
    pub opened : layout.opened ≡ nothing_opened
    pub count : length runs ≡ server.workers
    pub each : (number : ℕ) (run : WorkerRun C H P L) → slice_get runs number ≡ Some run
        → IsWorkerRun (record { reports = reports; layout = layout }) server before after number run
    pub all : Seen
    pub story : IsOneStory layout (map (λ (run : WorkerRun C H P L). run.after) runs) all
    pub crews : AreGivenAndBack before after server.workers
    pub open_faults : after.open_faults ≡ before.open_faults
    pub port : HasOpened before after server.port
    pub line : IfSome before.written (λ old. after.written ≡ Some (old ++ listening_line server.port))
    pub write_faults : after.write_faults ≡ before.write_faults

  -- all workers worked, and the listener of one of them failed
  pub record ListenerFails (server : Server) (before after : Front C H P L) : Type 0 where
    pub runs : List (WorkerRun C H P L)
    pub are : RunsServer server before after runs
    pub number : ℕ
    pub run : WorkerRun C H P L
    pub is : slice_get runs number ≡ Some run
    pub fault : reports.faults run.began.listener < reports.faults run.back.listener

  -- how a server ended, with this status
  pub data IsEnd (server : Server) (before after : Front C H P L) : (status : ℕ) → Type 0 where
    no_memory : RunsOut before after server → IsEnd server before after 6
    port_fails : FailsToOpen before after → IsEnd server before after 7
    host_fails : FailsToStart server before after → IsEnd server before after 8
    line_fails : FailsToWrite server before after → IsEnd server before after 5
    runs : (all : List (WorkerRun C H P L)) → RunsServer server before after all → IsEnd server before after (status_of all)

  -- How a server ended, and the cause of each status: 5 comes exactly where writing failed, 8 only where starting a core did, and 7 only
  -- where opening the port or a listener did, and always where opening the port did.
  pub record EndsServer (server : Server) (before after : Front C H P L) (status : ℕ) : Type 0 where
    pub end : IsEnd server before after status
    pub write_fault : (status ≡ 5) ↔ (before.write_faults < after.write_faults)
    pub host_fault : status ≡ 8 → FailsToStart server before after
    pub accept_fault : status ≡ 7 → (before.open_faults < after.open_faults) ⊎ ListenerFails server before after
    pub open_fault : before.open_faults < after.open_faults → status ≡ 7
