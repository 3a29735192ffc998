-- What a run of the program leaves.
use Rattle.std.specs.Prelude.{◌≡◌, ◌⊎◌, ◌↔◌, ℕ, List, [], Option, Some, None, Contains}
use Rattle.sc_cluster.specs.declared.slice.Slice.{Slice}
use Rattle.sc_io.specs.declared.hosts.Host.{Host}
use Rattle.sc_cores.specs.Cores.{Outside, cores_of_map, StartsFirst, FailsToStartFirst}
use Rattle.sc_seen.specs.Board.{board_map}
use Rattle.sc_seen.specs.Seen.{nothing_opened, Layout, Seen}
use Rattle.sc_seen.specs.Moments.{moment_of}
use Rattle.sc_collection.specs.Kept.{Kept}
use Rattle.sc_collection.specs.Alone.{AloneState, seen_alone, keeping_alone}
use Rattle.sc_collection.specs.Desks.{AreAtRest}
use Rattle.sc_collection.specs.Shapes.{HasShape, SeesOpened}
use Rattle.sc_gate.specs.Gates.{no_gate}
use Rattle.sc_session.specs.declared.end.End.{End}
use Rattle.sc_session.specs.declared.end.End.TheVariants as ends
use Rattle.sc_session.specs.States.{ConnectionState}
use Rattle.sc_session.specs.Served.{IsServed}
use Rattle.sc_arguments.specs.declared.asked.Asked.{Asked}
use Rattle.sc_arguments.specs.declared.asked.Asked.TheVariants as asking
use Rattle.sc_arguments.specs.declared.asked.Script.{Script}
use Rattle.sc_arguments.specs.declared.asked.Server.{Server}
use Rattle.sc_arguments.specs.declared.asked.Demo.{Demo}
use Rattle.sc_arguments.specs.Arguments.{asked_of}

-- the script, where one is asked for
abbrev pub script_in : Option Asked → Option Script
script_in (Some (asking.Script script)) = Some script
script_in (Some (asking.Serve server)) = None
script_in (Some (asking.Demo demo)) = None
script_in None = None

-- the script that arguments ask for
abbrev pub script_asked : List (List ℕ) → Option Script
script_asked arguments = script_in (asked_of arguments)

-- the server, where one is asked for
abbrev pub server_in : Option Asked → Option Server
server_in (Some (asking.Serve server)) = Some server
server_in (Some (asking.Script script)) = None
server_in (Some (asking.Demo demo)) = None
server_in None = None

-- the server that arguments ask for
abbrev pub server_asked : List (List ℕ) → Option Server
server_asked arguments = server_in (asked_of arguments)

-- the workload, where one is asked for
abbrev pub demo_in : Option Asked → Option Demo
demo_in (Some (asking.Demo demo)) = Some demo
demo_in (Some (asking.Script script)) = None
demo_in (Some (asking.Serve server)) = None
demo_in None = None

-- the workload that arguments ask for
abbrev pub demo_asked : List (List ℕ) → Option Demo
demo_asked arguments = demo_in (asked_of arguments)

-- the exit status by how the connection ended
abbrev pub exit_status : End → ℕ
exit_status ends.Done = 0
exit_status ends.Closed = 0
exit_status ends.Limit = 0
exit_status ends.Cut = 3
exit_status ends.BadHead = 3
exit_status ends.TooLarge = 3
exit_status ends.ReadFault = 4
exit_status ends.WriteFault = 5
exit_status ends.Memory = 6
exit_status ends.LogFault = 10

-- the clock of a script: the one that was handed in, or one that stands still and leaves that as it was
abbrev pub clock_of : {C : Type 0} → Option ℕ → (C → ℕ → C → Type 0) → C → ℕ → C → Type 0
clock_of None gives = gives
clock_of (Some timestamp) gives = λ old now new. (now ≡ timestamp) × (new ≡ old)

-- The machine at one moment: the clock, the cores that are started and how often hosts and pace have failed or said stop, the bytes that
-- the source has still to give and those that the sink was given, where they report them, and how often each has failed.
pub record Machine (C : Type 0) : Type 0 where
  pub clock : C
  pub outside : Outside
  pub unread : Option (List ℕ)
  pub written : Option (List ℕ)
  pub read_faults : ℕ
  pub write_faults : ℕ

-- what stands beside a connection, by what was seen of its collection and what was kept of it
abbrev pub state_of : {C : Type 0} → Seen → Kept → Machine C → ConnectionState C
state_of seen kept machine = record {
  moment = moment_of seen kept.stops machine.clock;
  outside = machine.outside;
  requests = kept.requests;
  unread = machine.unread;
  written = machine.written;
  read_faults = machine.read_faults;
  write_faults = machine.write_faults;
  gate = no_gate;
}

-- nothing was kept yet
abbrev pub none_kept : Kept
none_kept = record { stops = []; requests = 0 }

-- The hosts report their cores, and those that are started are exactly those of these slices: each is among the ones where it is among
-- the others.
abbrev pub AreStarted : ℕ → List Slice → Outside → Type 0
AreStarted nodes slices outside =
    (cores : List Host) × (outside.started ≡ Some cores) × ((core : Host) → Contains cores core ↔ Contains (cores_of_map nodes slices) core)

-- The cores of a new collection of the script's shape, in which nothing had happened, were started, and one connection was served over it;
-- the status is that of its end. What was seen after it is all that happened: of a bucket's journal each entry was made at one of the
-- connection's stops, or its keeper made it, and each entry of the board was made by a command. Of the entries that keepers made all but those
-- that say of a core that it is up again or leads go with those of the board, of which those that say who leads are left out.
pub record RunsScript {C : Type 0} (script : Script) (gives : C → ℕ → C → Type 0) (before after : Machine C) (status : ℕ) : Type 0 where
  pub began : AloneState
  pub ended : AloneState
  pub hosted : Outside
  pub kept : Kept
  pub end : End
  pub shape : HasShape script.shape began.layout
  pub opened : began.layout.opened ≡ nothing_opened
  pub empty : SeesOpened began.layout.opened (seen_alone began)
  pub layout : ended.layout ≡ began.layout
  pub hosts : StartsFirst began.layout.nodes began.layout.first before.outside hosted
  pub served : IsServed (clock_of script.clock gives) began.layout (state_of (seen_alone began) none_kept (record before { outside = hosted }))
      (state_of (seen_alone ended) kept after) end
  pub rest : AreAtRest began.layout (seen_alone ended).board (keeping_alone ended)
  -- Where the hosts report their cores, none was started before and stopping one never failed, those that are started in the end are
  -- exactly those of the board's map.
  pub cores : before.outside.started ≡ Some [] → after.outside.stop_faults ≡ before.outside.stop_faults
      → AreStarted began.layout.nodes (board_map began.layout.first (seen_alone ended).board) after.outside
  pub status_is : status ≡ exit_status end

-- two facts of what a script was handed: that its hosts are as they were, and that all others are
pub record ScriptUntouched : Type 1 where
  pub hosts : Type 0
  pub others : Type 0

-- Starting one of the cores of the first map failed, those before it were started, and all but the hosts was left as it was.
pub record ScriptFailsToStart (script : Script) (before after : Outside) (untouched : Type 0) : Type 0 where
  pub untouched_is : untouched
  pub layout : Layout
  pub shape : HasShape script.shape layout
  pub cores : FailsToStartFirst layout.nodes layout.first before after

-- a script was run; or memory ran out before it began, and all was left as it was; or starting a core of the first map failed
abbrev pub RunsOrFails : {C : Type 0} → Script → (C → ℕ → C → Type 0) → (before after : Machine C) → ScriptUntouched → ℕ → Type 0
RunsOrFails script gives before after untouched status =
    RunsScript script gives before after status ⊎ ((status ≡ 6) × untouched.others × untouched.hosts)
    ⊎ ((status ≡ 8) × ScriptFailsToStart script before.outside after.outside untouched.others)
