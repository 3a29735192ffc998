-- What one maker makes: a worker its orders of the workload, and the last one the split.
use Rattle.std.specs.Prelude.{◌≡◌, ◌<◌, ◌≤◌, ℕ, Bool, true, false, nat_lt, List, if◌then◌else◌, Option, Some, None}
use Rattle.sc_io.specs.declared.clock.Clock.{Ghosts as Clock}
use Rattle.sc_io.specs.declared.hosts.Hosts.{Ghosts as Hosts}
use Rattle.sc_io.specs.declared.pace.Pace.{Ghosts as Pace}
use Rattle.sc_cores.specs.Cores.{Outside}
use Rattle.sc_seen.specs.Seen.{Layout, Seen}
use Rattle.sc_session.specs.declared.station.Crew.{Crew}
use Rattle.sc_session.specs.Commands.{situation}
use Rattle.sc_server.specs.Reports.{outside_by}
use Rattle.sc_split.specs.declared.end.SplitEnd.{SplitEnd}
use Rattle.sc_split.specs.declared.end.SplitEnd.TheVariants as splits
use Rattle.sc_arguments.specs.declared.asked.Demo.{Demo}
use Rattle.sc_workload.specs.Workload.{worker_orders}
use Rattle.sc_demo.specs.declared.made.Written.{Written}
use Rattle.sc_demo.specs.declared.task.Task.{Task}
use Rattle.sc_demo.specs.declared.task.Task.TheVariants as tasks
use Rattle.sc_demo.specs.declared.task.Made.{Made}
use Rattle.sc_demo.specs.declared.task.Made.TheVariants as makes
use Rattle.sc_demo.specs.Lines.{split_word}
use Rattle.sc_demo.specs.Splitting.{SplitsFirst}
use Rattle.sc_demo.specs.Writing.{MakesOrders, writing}
use Rattle.sc_demo.specs.Together.{workload_of}

-- what the maker of this number is to make: the workers come first, and then the one that splits
abbrev pub task_at : Demo → ℕ → Task
task_at demo number = if nat_lt number demo.workers then tasks.Write number else tasks.Split

-- the task is one of the workload: its worker is one of the workers
abbrev pub IsTaskOf : Demo → Task → Type 0
IsTaskOf demo (tasks.Write worker) = worker < demo.workers
IsTaskOf demo tasks.Split = Unit {0}

-- how many orders were accepted
abbrev pub accepted_by : Made → ℕ
accepted_by (makes.Orders written) = written.accepted
accepted_by (makes.Split end) = 0

-- memory ran out for a split that came to this
abbrev pub split_ran_out : SplitEnd → Bool
split_ran_out splits.Memory = true
split_ran_out _ = false

-- memory ran out
abbrev pub has_run_out : Made → Bool
has_run_out (makes.Orders written) = written.memory
has_run_out (makes.Split end) = split_ran_out end

-- the same of what a maker made, which is nothing before it has worked
abbrev pub accepted_in : Option Made → ℕ
accepted_in None = 0
accepted_in (Some made) = accepted_by made

abbrev pub ran_out_in : Option Made → Bool
ran_out_in None = false
ran_out_in (Some made) = has_run_out made

-- the word tells what the split came to that was made
abbrev pub TellsMade : Made → (word : List ℕ) → Type 0
TellsMade (makes.Orders written) word = ⊥
TellsMade (makes.Split end) word = split_word end ≡ Some word

abbrev pub TellsIn : Option Made → (word : List ℕ) → Type 0
TellsIn None word = ⊥
TellsIn (Some made) word = TellsMade made word

-- what a crew reports: its clock the timestamps that it gives, its hosts and its pace what is outside of the collection
pub record MakerReports (C H P : Type 0) : Type 1 where
  pub gives : C → ℕ → C → Type 0
  pub outside : H → P → Outside

-- what each part of a crew reports by itself
abbrev pub maker_reports : {C H P : Type 0} → Clock C → Hosts H → Pace P → MakerReports C H P
maker_reports of_clock of_hosts of_pace = record { gives = of_clock.gives; outside = outside_by of_hosts of_pace }

-- what the makers of one demonstration have in common: what their crews report, and how the collection is laid out
pub record MakerSetting (C H P : Type 0) : Type 1 where
  pub reports : MakerReports C H P
  pub layout : Layout

-- what stands beside a maker at one moment: what was seen of the collection, and its crew
pub record MakingState (C H P : Type 0) : Type 0 where
  pub seen : Seen
  pub clock : C
  pub hosts : H
  pub pace : P

-- the same, by its crew
abbrev pub making : {C H P L : Type 0} → Seen → Crew C H P L → MakingState C H P
making seen crew = record { seen = seen; clock = crew.clock; hosts = crew.hosts; pace = crew.pace }

module _ {C H P : Type 0} (common : MakerSetting C H P) where
  -- a worker of this number made its orders by its clock
  pub record IsWriter (demo : Demo) (worker : ℕ) (old new : MakingState C H P) (written : Written) : Type 0 where
    pub orders : MakesOrders common.reports.gives common.layout (writing old.seen old.clock) (writing new.seen new.clock)
        (worker_orders (workload_of demo) worker demo.workers) written
    pub few : written.accepted ≤ demo.count
    pub hosts : new.hosts ≡ old.hosts
    pub pace : new.pace ≡ old.pace

  -- the one that splits split `shard1` by its hosts and its pace
  pub record IsSplitter (old new : MakingState C H P) (end : SplitEnd) : Type 0 where
    pub split : SplitsFirst common.layout (situation old.seen (common.reports.outside old.hosts old.pace))
        (situation new.seen (common.reports.outside new.hosts new.pace)) end
    pub clock : new.clock ≡ old.clock

  -- who was to make this made it, and this came of it
  abbrev pub MakesTask : Demo → Task → (old new : MakingState C H P) → Made → Type 0
  MakesTask demo (tasks.Write worker) old new (makes.Orders written) = IsWriter demo worker old new written
  MakesTask demo tasks.Split old new (makes.Split end) = IsSplitter old new end
  MakesTask demo (tasks.Write worker) old new (makes.Split end) = ⊥
  MakesTask demo tasks.Split old new (makes.Orders written) = ⊥
