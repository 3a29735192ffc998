-- What a split leaves outside of the collection: which cores are started, and what was counted.
use Rattle.std.specs.Prelude.{◌≤◌, ℕ, ◌-◌, List, ◌++◌, length, map, take, Option}
use Rattle.std.specs.List.{flat_map, range_with_len}
use Rattle.std.specs.Option.{option_map}
use Rattle.sc_record.specs.declared.slice.SubSlice.{SubSlice}
use Rattle.sc_cluster.specs.declared.plan.SplitPlan.{SplitPlan}
use Rattle.sc_io.specs.declared.hosts.Host.{Host}
use Rattle.sc_cores.specs.Cores as cores
use Rattle.sc_cores.specs.Cores.{Outside, with_cores, StopsEach, StartsCores}

-- replica k of a sub, from 1, among so many nodes
abbrev pub sub_core_at : (nodes : ℕ) → SubSlice → (k : ℕ) → Host
sub_core_at nodes sub k = cores.core_at nodes sub.name sub.node k

-- a sub's further replicas, in order
abbrev pub further_cores : ℕ → SubSlice → List Host
further_cores nodes sub = map (sub_core_at nodes sub) (range_with_len 2 (sub.replicas - 1))

-- the cores that a split makes, in the order in which they are started: the first of each sub, and then the further ones, sub by sub
abbrev pub cores_of : ℕ → SplitPlan → List Host
cores_of nodes plan = map (λ sub. sub_core_at nodes sub 1) plan.subs ++ flat_map (further_cores nodes) plan.subs

-- All cores of the plan were started, no call failed, and none was stopped.
abbrev pub StartsCoresOfPlan : (nodes : ℕ) → SplitPlan → (old new : Outside) → Type 0
StartsCoresOfPlan nodes plan = StartsCores (cores_of nodes plan)

-- the first cores of the plan, so many of them
abbrev pub first_of : (nodes : ℕ) → SplitPlan → (count : ℕ) → List Host
first_of nodes plan count = take count (cores_of nodes plan)

-- What a split that was given up leaves of the cores. The first so many of the plan's were started, besides those from before, where the
-- hosts tell them; then each of these was stopped, or stopping it failed, and the others were stopped still.
pub record LeavesCores (nodes : ℕ) (plan : SplitPlan) (count : ℕ) (old new : Outside) : Type 0 where
  pub some : count ≤ length (cores_of nodes plan)
  pub failed : Option ℕ
  pub each : StopsEach (first_of nodes plan count) (option_map (with_cores (first_of nodes plan count)) old.started) new.started
      old.stop_faults new.stop_faults failed
