-- What a run of the program leaves, by what its arguments ask for.
use Rattle.std.specs.Prelude.{◌≡◌, ◌<◌, ◌⊎◌, ◌↔◌, ℕ, List, None, IfSome}
use Rattle.sc_arguments.specs.Arguments.{asked_of}
use Rattle.sc_server.specs.Reports.{Reports}
use Rattle.sc_server.specs.Serving.{EndsServer}
use Rattle.sc_demo.specs.Demos.{EndsDemo}
use Rattle.solr_split.specs.Running.{script_asked, server_asked, demo_asked}
use Rattle.solr_split.specs.Scripts.{Beside, EndsScript}

-- three facts of what a run was handed: that its source is as it was, that its sink is, and that its station is
pub record RunUntouched : Type 1 where
  pub source : Type 0
  pub sink : Type 0
  pub station : Type 0

module _ {C H P L S W : Type 0} (reports : Reports C H P L S W) where
  -- How a run ended, with this status, by what these arguments ask for.
  pub record EndsRun (arguments : List (List ℕ)) (before after : Beside C H P L) (same : RunUntouched) (status : ℕ) : Type 0 where
    -- The status is 2 only where nothing is asked for, and there it is 2, or 6 where reading the arguments found no memory.
    pub bad_arguments : status ≡ 2 → asked_of arguments ≡ None
    pub nothing_asked : asked_of arguments ≡ None → (status ≡ 2) ⊎ (status ≡ 6)
    -- Where nothing is asked for, nothing is read, written or opened.
    pub nothing_done : asked_of arguments ≡ None → same.source × same.sink × same.station
    -- A script serves one connection, unless memory ran out or a host failed before it began.
    pub script : IfSome (script_asked arguments) (λ script. EndsScript script (record { gives = reports.gives; outside = reports.outside })
        before after (same.source × same.sink) status)
    -- A server serves the connections to its port by all its workers, unless it fails before, and reads nothing.
    pub serve : IfSome (server_asked arguments) (λ server. EndsServer reports server before.front after.front status)
    pub server_reads : IfSome (server_asked arguments) (λ server. same.source)
    -- A demonstration makes its workload by all its makers, and tells what came of it, unless it fails before, and reads nothing.
    pub demo : IfSome (demo_asked arguments) (λ demo. EndsDemo (record { gives = reports.gives; outside = reports.outside })
        demo before.front after.front status)
    pub demo_reads : IfSome (demo_asked arguments) (λ demo. same.source)
    -- The status is 4 exactly where reading failed, and 5 exactly where writing did.
    pub read_fault : (status ≡ 4) ↔ (before.read_faults < after.read_faults)
    pub write_fault : (status ≡ 5) ↔ (before.front.write_faults < after.front.write_faults)
