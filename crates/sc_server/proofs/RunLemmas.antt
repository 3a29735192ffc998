-- What a server leaves, of what its workers leave.
use Rattle.std.proofs.Common.{◌≡◌, ◌≢◌, ◌⊎◌, inl, inr, ◌≤◌, ◌<◌, ℕ, Bool, cond, List, ◌++◌, length, map, Option, Some, IfSome, slice_get, sym, ap, subst, ◌∙◌, arith}
use Rattle.std.proofs.lemmas.Bool.{cases_eq}
use Rattle.std.proofs.lemmas.Option.{same_Some, slice_get_within}
use Rattle.sc_cores.specs.Cores.{cores_of_map, StartsCores, FailsToStartCores, StartsFirst}
use Rattle.sc_io.specs.declared.hosts.Host.{Host}
use Rattle.sc_seen.specs.Seen.{nothing_opened, Seen}
use Rattle.sc_collection.specs.Shapes.{HasShape, SeesOpened}
use Rattle.sc_session.specs.declared.station.Crew.{Crew}
use Rattle.sc_session.specs.Working.{IsWorked}
use Rattle.sc_shared.specs.declared.passes.Passes.{Passes}
use Rattle.sc_shared.specs.Passes.{seen_of}
use Rattle.sc_shared.specs.Collections.{Locks, layout_of}
use Rattle.sc_arguments.specs.declared.asked.Server.{Server}
use Rattle.sc_server.specs.declared.worker.Worker.{Worker}
use Rattle.sc_server.specs.Reports.{Reports, WorkerCrew, with_moment, without_moment, clock_gives, setting, beside}
use Rattle.sc_server.specs.Working.{IsReady, with_hosts, HasFirstHosts, ended_by_fault, has_failed, status_after, HasWorked, HaveWorked, FirstFails, FirstStarts, Told, ServesAll, serving}
use Rattle.sc_io.specs.Pieces.{AddsPrefix}
use Rattle.sc_server.specs.Needs.{listening_line}
use Rattle.sc_server.specs.Crews.{IsEnlisted, AreEnlisted, AreReportedBack, seen_with, seen_by_worker}
use Rattle.sc_server.specs.Serving.{IsOneStory, Front, AreGivenAndBack, HasOpened, WorkerRun, status_of, IsWorkerRun, RunsServer, WritesNothing, FailsToStart, FailsToWrite, IsEnd, EndsServer}
use Rattle.sc_server.proofs.FrontLemmas.{one_back, none_begins}
use Rattle.sc_server.proofs.CauseLemmas.{with_causes}
use Rattle.sc_server.proofs.MatchLemmas.{some_at, AreMatched, all_matched, same_map, same_any}

module _ {R C H P L : Type 0} where
  -- a worker that is enlisted is ready
  pub is_ready : (server : Server) (locks : Locks) (crews : Option (ℕ → Option (Crew C H P L))) (number : ℕ) (worker : Worker R C H P L)
      → 1 ≤ server.max_connections → IsEnlisted server locks crews number worker → IsReady locks worker
  is_ready server locks crews number worker most is = record {
    passes = is.passes;
    there = is.there;
    are = is.new.are;
    of_collection = is.over;
    most = omega (arith, is.most, most);
  }

  -- the worker of each number after its hosts may have changed is the one before with its hosts
  hosts_alone : (hosts : H) (first : Worker R C H P L) (old new : List (Worker R C H P L)) (number : ℕ) (one other : Worker R C H P L)
      → HasFirstHosts hosts first old new → slice_get old number ≡ Some one → slice_get new number ≡ Some other
      → other ≡ with_hosts other.crew.hosts one
  hosts_alone hosts first old new number one other is at at_other = by (cases_eq number 0) where
    by : (number ≡ 0) ⊎ (number ≢ 0) → other ≡ with_hosts other.crew.hosts one
    by (inl here) =
        let one_is : first ≡ one = same_Some first one (sym is.old_is ∙ ap (slice_get old) (sym here) ∙ at) in
        let other_is : with_hosts hosts one ≡ other =
        same_Some (with_hosts hosts one) other
        (ap (λ (w : Worker R C H P L). Some (with_hosts hosts w)) (sym one_is) ∙ sym is.new_is ∙ ap (slice_get new) (sym here) ∙ at_other) in
        sym other_is ∙ ap (λ (w : Worker R C H P L). with_hosts w.crew.hosts one) other_is
    by (inr different) =
        let same : one ≡ other = same_Some one other (sym at ∙ sym (is.rest number different) ∙ at_other) in
        sym same ∙ ap (λ (w : Worker R C H P L). with_hosts w.crew.hosts one) same

-- what a server and its station and sink are, and what its workers are as they were enlisted, as they began and as they came back
module _ {R C H P L S W : Type 0} (reports : Reports C H P L S W) (server : Server) (locks : Locks) (before after : Front C H P L)
    (enlisted new : List (Worker R C H P L)) (are : AreEnlisted server locks before.crews enlisted)
    (back : AreReportedBack new before.crews_back after.crews_back) where
  module _ (count : length enlisted ≡ server.workers) (crews : AreGivenAndBack before after server.workers)
      (open_faults : after.open_faults ≡ before.open_faults) (port : HasOpened before after server.port) where
    -- a core was not started by the first one's hosts
    pub fails_to_start : (cores : List Host) → FirstFails reports cores enlisted new → HasShape server.shape (layout_of locks)
        → cores ≡ cores_of_map server.shape.nodes (layout_of locks).first → WritesNothing before after → FailsToStart reports server before after
    fails_to_start cores fails shape cores_are silent =
        let crew = (are 0 fails.first fails.is.old_is).crew in
        let given = (are 0 fails.first fails.is.old_is).given in
        record {
          given = given;
          back = without_moment (with_hosts fails.hosts fails.first).crew;
          crews = none_begins before after server locks enlisted new are back fails.hosts fails.first fails.is count crews open_faults port;
          layout = layout_of locks;
          shape = shape;
          cores = subst (λ (nodes : ℕ). FailsToStartCores (cores_of_map nodes (layout_of locks).first)
              (reports.outside given.hosts given.pace) (reports.outside fails.hosts fails.first.crew.pace)) (sym shape.nodes)
              (subst (λ (ones : List Host). FailsToStartCores ones
              (reports.outside given.hosts given.pace) (reports.outside fails.hosts fails.first.crew.pace)) cores_are
              (subst (λ (one : WorkerCrew C H P L). FailsToStartCores cores
              (reports.outside one.hosts one.pace) (reports.outside fails.hosts fails.first.crew.pace)) crew fails.fails));
          silent = silent;
        }

    -- they were all started, and the line was not written
    pub fails_to_write : (cores : List Host) → FirstStarts reports cores enlisted new → HasShape server.shape (layout_of locks)
        → cores ≡ cores_of_map server.shape.nodes (layout_of locks).first → before.write_faults < after.write_faults
        → IfSome before.written (λ old. AddsPrefix old (listening_line server.port) after.written) → FailsToWrite reports server before after
    fails_to_write cores starts shape cores_are fault part =
        let crew = (are 0 starts.first starts.is.old_is).crew in
        let given = (are 0 starts.first starts.is.old_is).given in
        record {
          given = given;
          back = without_moment (with_hosts starts.hosts starts.first).crew;
          crews = none_begins before after server locks enlisted new are back starts.hosts starts.first starts.is count crews open_faults port;
          layout = layout_of locks;
          shape = shape;
          cores = subst (λ (nodes : ℕ). StartsCores (cores_of_map nodes (layout_of locks).first)
              (reports.outside given.hosts given.pace) (reports.outside starts.hosts starts.first.crew.pace)) (sym shape.nodes)
              (subst (λ (ones : List Host). StartsCores ones
              (reports.outside given.hosts given.pace) (reports.outside starts.hosts starts.first.crew.pace)) cores_are
              (subst (λ (one : WorkerCrew C H P L). StartsCores cores
              (reports.outside one.hosts one.pace) (reports.outside starts.hosts starts.first.crew.pace)) crew starts.starts));
          fault = fault;
          part = part;
        }

  module _ (began : List (Worker R C H P L)) (cores_nodes : ℕ) (nodes_are : (layout_of locks).nodes ≡ cores_nodes)
      (starts : FirstStarts reports (cores_of_map cores_nodes (layout_of locks).first) enlisted began) (have : HaveWorked reports began new) where
    -- it is a run of this worker
    record IsRunOf (number : ℕ) (worker : Worker R C H P L) (run : WorkerRun C H P L) : Type 0 where
      is : IsWorkerRun (record { reports = reports; layout = layout_of locks }) server before after number run
      after_is : seen_by_worker worker ≡ run.after
      end_is : worker.end ≡ Some run.end

    module _ (number : ℕ) (one other worker : Worker R C H P L) (at : slice_get enlisted number ≡ Some one) (at_other : slice_get began number ≡ Some other)
        (at_worker : slice_get new number ≡ Some worker) where
      is_enlisted : IsEnlisted server locks before.crews number one
      is_enlisted = are number one at

      has : HasWorked reports other worker
      has = have.each number other worker at_other at_worker

      begins : other ≡ with_hosts other.crew.hosts one
      begins = hosts_alone starts.hosts starts.first enlisted began number one other starts.is at at_other

      crew_is : other.crew ≡ record (with_moment server.clock is_enlisted.given) { hosts = other.crew.hosts }
      crew_is =
          ap (λ (w : Worker R C H P L). w.crew) begins
          ∙ ap (λ (crew : WorkerCrew C H P L). record crew { hosts = other.crew.hosts }) is_enlisted.crew

      passes_are : is_enlisted.passes ≡ has.before
      passes_are =
          same_Some is_enlisted.passes has.before (sym is_enlisted.there ∙ sym (ap (λ (w : Worker R C H P L). w.passes) begins) ∙ has.before_is)

      most_is : other.most ≡ server.max_connections
      most_is = ap (λ (w : Worker R C H P L). w.most) begins ∙ is_enlisted.most

      over : other.collection.now ≡ locks
      over = ap (λ (w : Worker R C H P L). w.collection.now) begins ∙ is_enlisted.over

      run : WorkerRun C H P L
      run = record {
        given = is_enlisted.given;
        began = other.crew;
        back = worker.crew;
        before = seen_of has.before;
        after = seen_of has.after;
        end = has.end;
      }

      starts_first : number ≡ 0 → StartsFirst (layout_of locks).nodes (layout_of locks).first
          (reports.outside is_enlisted.given.hosts is_enlisted.given.pace) (reports.outside other.crew.hosts other.crew.pace)
      starts_first here =
          let one_is : starts.first ≡ one = same_Some starts.first one (sym starts.is.old_is ∙ ap (slice_get enlisted) (sym here) ∙ at) in
          let other_is : with_hosts starts.hosts starts.first ≡ other =
          same_Some (with_hosts starts.hosts starts.first) other (sym starts.is.new_is ∙ ap (slice_get began) (sym here) ∙ at_other) in
          let given_is : starts.first.crew ≡ with_moment server.clock is_enlisted.given =
          ap (λ (w : Worker R C H P L). w.crew) one_is ∙ is_enlisted.crew in
          subst (λ (nodes : ℕ). StartsCores (cores_of_map nodes (layout_of locks).first)
          (reports.outside is_enlisted.given.hosts is_enlisted.given.pace) (reports.outside other.crew.hosts other.crew.pace)) (sym nodes_are)
          (subst (λ (crew : WorkerCrew C H P L). StartsCores (cores_of_map cores_nodes (layout_of locks).first)
          (reports.outside crew.hosts crew.pace) (reports.outside other.crew.hosts other.crew.pace)) given_is
          (subst (λ (w : Worker R C H P L). StartsCores (cores_of_map cores_nodes (layout_of locks).first)
          (reports.outside starts.first.crew.hosts starts.first.crew.pace) (reports.outside w.crew.hosts w.crew.pace)) other_is starts.starts))

      same_hosts : number ≢ 0 → other.crew.hosts ≡ is_enlisted.given.hosts
      same_hosts different =
          let same : other ≡ one = same_Some other one (sym at_other ∙ starts.is.rest number different ∙ at) in
          ap (λ (w : Worker R C H P L). w.crew.hosts) same ∙ ap (λ (crew : WorkerCrew C H P L). crew.hosts) is_enlisted.crew

      has_worked : IsWorked (clock_gives reports) (setting reports (layout_of locks)) server.max_connections
          (beside reports (seen_of has.before) other.crew) (beside reports (seen_of has.after) worker.crew) has.end
      has_worked =
          subst (λ (most : ℕ). IsWorked (clock_gives reports) (setting reports (layout_of locks)) most
          (beside reports (seen_of has.before) other.crew) (beside reports (seen_of has.after) worker.crew) has.end) most_is
          (subst (λ (ones : Locks). IsWorked (clock_gives reports) (setting reports (layout_of ones)) other.most
          (beside reports (seen_of has.before) other.crew) (beside reports (seen_of has.after) worker.crew) has.end) over has.worked)

      one_run : IsRunOf number worker run
      unfolding run is_enlisted
      one_run = record {
        is = record {
          crew = record {
            given_is = is_enlisted.given_is;
            back_is = one_back new before.crews_back after.crews_back number worker back at_worker;
          };
          first = starts_first;
          hosts = same_hosts;
          rest = crew_is;
          new = subst (λ (passes : Passes). SeesOpened (layout_of locks).opened (seen_of passes)) passes_are is_enlisted.new.seen;
          worked = has_worked;
        };
        after_is = ap seen_with has.after_is;
        end_is = has.end_is;
      }

    each_run : (number : ℕ) (worker : Worker R C H P L) → slice_get new number ≡ Some worker → (run : WorkerRun C H P L) × IsRunOf number worker run
    each_run number worker at =
        let within = slice_get_within new number worker at in
        let one = some_at enlisted number (omega (arith, within, have.count, starts.is.count)) in
        let other = some_at began number (omega (arith, within, have.count)) in
        (run number one.0 other.0 worker one.1 other.1 at, one_run number one.0 other.0 worker one.1 other.1 at)

    all_runs : (runs : List (WorkerRun C H P L)) × AreMatched IsRunOf new runs
    all_runs = all_matched IsRunOf new each_run

    pub runs : List (WorkerRun C H P L)
    runs = all_runs.0

    -- the status is that of the runs
    pub same_status : status_after new ≡ status_of runs
    unfolding runs all_runs
    same_status =
        ap (λ (b : Bool). cond b 7 0)
        (same_any (λ (worker : Worker R C H P L). ended_by_fault worker.end) (λ (run : WorkerRun C H P L). has_failed run.end) IsRunOf new runs
        all_runs.1 (λ number worker run is. ap ended_by_fault is.end_is))

    pub runs_server : (all : Seen) → HasShape server.shape (layout_of locks) → (layout_of locks).opened ≡ nothing_opened → length enlisted ≡ server.workers
        → IsOneStory (layout_of locks) (map seen_by_worker new) all → AreGivenAndBack before after server.workers → after.open_faults ≡ before.open_faults
        → HasOpened before after server.port
        → IfSome before.written (λ old. after.written ≡ Some (old ++ listening_line server.port)) → after.write_faults ≡ before.write_faults
        → RunsServer reports server before after runs
    unfolding runs all_runs
    runs_server all shape opened count story crews open_faults port line faults = record {
      layout = layout_of locks;
      shape = shape;
      opened = opened;
      count = all_runs.1.count ∙ have.count ∙ starts.is.count ∙ count;
      each = λ number run at.
          let within = slice_get_within runs number run at in
          let worker = some_at new number (omega (arith, within, all_runs.1.count)) in
          (all_runs.1.each number worker.0 run worker.1 at).is;
      all = all;
      story = subst (λ (parts : List Seen). IsOneStory (layout_of locks) parts all)
          (same_map seen_by_worker (λ (run : WorkerRun C H P L). run.after) IsRunOf new runs all_runs.1 (λ number worker run is. is.after_is)) story;
      crews = crews;
      open_faults = open_faults;
      port = port;
      line = line;
      write_faults = faults;
    }

  -- how the server ended, by how its workers ended
  module _ (cores : List Host) (line : List ℕ) (all : Seen) (shape : HasShape server.shape (layout_of locks))
      (opened : (layout_of locks).opened ≡ nothing_opened)
      (cores_are : cores ≡ cores_of_map server.shape.nodes (layout_of locks).first) (line_is : line ≡ listening_line server.port)
      (count : length enlisted ≡ server.workers) (story : IsOneStory (layout_of locks) (map seen_by_worker new) all)
      (crews : AreGivenAndBack before after server.workers) (open_faults : after.open_faults ≡ before.open_faults)
      (port : HasOpened before after server.port) where
    is_end : {status : ℕ} → ServesAll reports cores line (serving enlisted (record { written = before.written; faults = before.write_faults }))
        (serving new (record { written = after.written; faults = after.write_faults })) status → IsEnd reports server before after status
    is_end (ServesAll.host_fails fails same) =
        IsEnd.host_fails (fails_to_start count crews open_faults port cores fails shape cores_are
        (record { written = ap (λ (told : Told). told.written) same; write_faults = ap (λ (told : Told). told.faults) same }))
    is_end (ServesAll.line_fails starts fault part) =
        IsEnd.line_fails (fails_to_write count crews open_faults port cores starts shape cores_are fault
        (subst (λ (bytes : List ℕ). IfSome before.written (λ old. AddsPrefix old bytes after.written)) line_is part))
    is_end (ServesAll.works began starts told faults have) =
        let begins = subst (λ (ones : List Host). FirstStarts reports ones enlisted began) cores_are starts in
        let written = subst (λ (bytes : List ℕ). IfSome before.written (λ old. after.written ≡ Some (old ++ bytes))) line_is told in
        subst (IsEnd reports server before after) (sym (same_status began server.shape.nodes shape.nodes begins have))
        (IsEnd.runs (runs began server.shape.nodes shape.nodes begins have)
        (runs_server began server.shape.nodes shape.nodes begins have all shape opened count story crews open_faults port written faults))

    pub ends : {status : ℕ} → ServesAll reports cores line (serving enlisted (record { written = before.written; faults = before.write_faults }))
        (serving new (record { written = after.written; faults = after.write_faults })) status → EndsServer reports server before after status
    ends served = with_causes reports server before after (is_end served)
