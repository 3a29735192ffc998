-- Which statuses a server never ends with.
use Rattle.std.proofs.Common.{◌≢◌, ℕ, Bool, true, false, if◌then◌else◌, List, arith}
use Rattle.std.specs.List.{list_any}
use Rattle.sc_arguments.specs.declared.asked.Server.{Server}
use Rattle.sc_server.specs.Reports.{Reports}
use Rattle.sc_server.specs.Working.{has_failed}
use Rattle.sc_server.specs.Serving.{Front, WorkerRun, status_of, IsEnd}

-- 7 or 0 is no other number
seven_or_none : (failed : Bool) (other : ℕ) → 7 ≢ other → 0 ≢ other → (if failed then 7 else 0) ≢ other
seven_or_none true other seven none = seven
seven_or_none false other seven none = none

-- workers that have ended give no status but 7 and 0
no_other : {C H P L : Type 0} (all : List (WorkerRun C H P L)) (other : ℕ) → 7 ≢ other → 0 ≢ other → status_of all ≢ other
no_other {C} {H} {P} {L} all other seven none = seven_or_none (list_any (λ (run : WorkerRun C H P L). has_failed run.end) all) other seven none

module _ {C H P L S W : Type 0} (reports : Reports C H P L S W) (server : Server) (before after : Front C H P L) where
  -- a server's status is not that of arguments that ask for nothing
  pub not_refused : {status : ℕ} → IsEnd reports server before after status → status ≢ 2
  not_refused (IsEnd.no_memory runs_out) = omega arith
  not_refused (IsEnd.port_fails fails) = omega arith
  not_refused (IsEnd.host_fails fails) = omega arith
  not_refused (IsEnd.line_fails fails) = omega arith
  not_refused (IsEnd.runs all runs) = no_other all 2 (omega arith) (omega arith)

  -- nor that of a source that failed
  pub not_read_fault : {status : ℕ} → IsEnd reports server before after status → status ≢ 4
  not_read_fault (IsEnd.no_memory runs_out) = omega arith
  not_read_fault (IsEnd.port_fails fails) = omega arith
  not_read_fault (IsEnd.host_fails fails) = omega arith
  not_read_fault (IsEnd.line_fails fails) = omega arith
  not_read_fault (IsEnd.runs all runs) = no_other all 4 (omega arith) (omega arith)
