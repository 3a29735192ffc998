-- What is asked of workers, and what they leave.
use Rattle.std.specs.Prelude.{◌≡◌, ◌≢◌, ◌<◌, ◌≤◌, ℕ, Bool, true, false, List, ◌++◌, length, slice_get, if◌then◌else◌, Option, Some, None, IfSome}
use Rattle.std.specs.List.{list_any}
use Rattle.sc_io.specs.declared.hosts.Host.{Host}
use Rattle.sc_io.specs.Pieces.{AddsPrefix}
use Rattle.sc_session.specs.declared.worker.WorkEnd.{WorkEnd}
use Rattle.sc_session.specs.declared.worker.WorkEnd.TheVariants as ends
use Rattle.sc_session.specs.Working.{IsWorked}
use Rattle.sc_shared.specs.declared.passes.Passes.{Passes}
use Rattle.sc_shared.specs.Passes.{seen_of}
use Rattle.sc_shared.specs.Collections.{Locks, layout_of}
use Rattle.sc_shared.specs.Sharing.{ArePasses}
use Rattle.sc_server.specs.declared.worker.Worker.{Worker}
use Rattle.sc_cores.specs.Cores.{StartsCores, FailsToStartCores}
use Rattle.sc_server.specs.Reports.{Reports, clock_gives, setting, beside}

-- its listener failed
abbrev pub has_failed : WorkEnd → Bool
has_failed ends.ListenerFault = true
has_failed _ = false

-- it has ended, since its listener failed
abbrev pub ended_by_fault : Option WorkEnd → Bool
ended_by_fault None = false
ended_by_fault (Some end) = has_failed end

module _ {R C H P L : Type 0} where
  -- the worker is at home over the collection: its passes are there, and of the collection, and it is to serve at least one connection
  pub record IsReady (collection : Locks) (worker : Worker R C H P L) : Type 0 where
    pub passes : Passes
    pub there : worker.passes ≡ Some passes
    pub are : ArePasses collection passes
    pub of_collection : worker.collection.now ≡ collection
    pub most : 1 ≤ worker.most

  -- the same over the collection that the worker itself has
  abbrev pub IsReadyToWork : Worker R C H P L → Type 0
  IsReadyToWork worker = IsReady worker.collection.now worker

  -- the worker with these hosts in its crew
  abbrev pub with_hosts : H → Worker R C H P L → Worker R C H P L
  with_hosts hosts worker = record worker { crew = record worker.crew { hosts = hosts } }

  -- the first of the workers has these hosts in its crew, and all else of them is as it was
  pub record HasFirstHosts (hosts : H) (first : Worker R C H P L) (old new : List (Worker R C H P L)) : Type 0 where
    pub count : length new ≡ length old
    pub old_is : slice_get old 0 ≡ Some first
    pub new_is : slice_get new 0 ≡ Some (with_hosts hosts first)
    pub rest : (number : ℕ) → number ≢ 0 → slice_get new number ≡ slice_get old number

  -- the status of a server whose workers are these, once each has ended
  abbrev pub status_after : List (Worker R C H P L) → ℕ
  status_after workers = if list_any (λ (worker : Worker R C H P L). ended_by_fault worker.end) workers then 7 else 0

-- what a sink reports: the bytes that were written, and how often writing has failed
pub record Told : Type 0 where
  pub written : Option (List ℕ)
  pub faults : ℕ

-- what stands beside a server at one moment: its workers, and what its sink reports
pub record ServerState (R C H P L : Type 0) : Type 0 where
  pub workers : List (Worker R C H P L)
  pub told : Told

-- the same, of these workers and of what is reported
abbrev pub serving : {R C H P L : Type 0} → List (Worker R C H P L) → Told → ServerState R C H P L
serving workers told = record { workers = workers; told = told }

module _ {R C H P L S W : Type 0} (reports : Reports C H P L S W) where
  -- The worker has worked: from what its passes had seen before, with its crew as it was, to what they have seen since, with its crew
  -- as it is then.
  pub record HasWorked (old new : Worker R C H P L) : Type 0 where
    pub before : Passes
    pub after : Passes
    pub end : WorkEnd
    pub before_is : old.passes ≡ Some before
    pub after_is : new.passes ≡ Some after
    pub end_is : new.end ≡ Some end
    pub worked : IsWorked (clock_gives reports) (setting reports (layout_of old.collection.now)) old.most
        (beside reports (seen_of before) old.crew) (beside reports (seen_of after) new.crew) end

  -- each of the workers has worked
  pub record HaveWorked (old new : List (Worker R C H P L)) : Type 0 where
    pub count : length new ≡ length old
    pub each : (number : ℕ) (before after : Worker R C H P L) → slice_get old number ≡ Some before → slice_get new number ≡ Some after
        → HasWorked before after

  -- starting one of these cores failed by the hosts of the first worker, and all else of the workers is as it was
  pub record FirstFails (cores : List Host) (old new : List (Worker R C H P L)) : Type 0 where
    pub first : Worker R C H P L
    pub hosts : H
    pub is : HasFirstHosts hosts first old new
    pub fails : FailsToStartCores cores (reports.outside first.crew.hosts first.crew.pace) (reports.outside hosts first.crew.pace)

  -- the hosts of the first worker have started these cores, and all else of the workers is as it was
  pub record FirstStarts (cores : List Host) (old new : List (Worker R C H P L)) : Type 0 where
    pub first : Worker R C H P L
    pub hosts : H
    pub is : HasFirstHosts hosts first old new
    pub starts : StartsCores cores (reports.outside first.crew.hosts first.crew.pace) (reports.outside hosts first.crew.pace)

  -- How workers ended that were to begin with these cores and to write this line, with this status: a core was not started, and nothing
  -- was written; the cores were started, and writing the line failed after a prefix of it; or the line was written as well, and each worker has worked from
  -- there.
  pub data ServesAll (cores : List Host) (line : List ℕ) (old new : ServerState R C H P L) : (status : ℕ) → Type 0 where
    host_fails : FirstFails cores old.workers new.workers → new.told ≡ old.told → ServesAll cores line old new 8
    line_fails : FirstStarts cores old.workers new.workers → old.told.faults < new.told.faults
        → IfSome old.told.written (λ bytes. AddsPrefix bytes line new.told.written) → ServesAll cores line old new 5
    works : (began : List (Worker R C H P L)) → FirstStarts cores old.workers began
        → IfSome old.told.written (λ bytes. new.told.written ≡ Some (bytes ++ line)) → new.told.faults ≡ old.told.faults
        → HaveWorked began new.workers → ServesAll cores line old new (status_after new.workers)
