-- The cores of slices: what they are called and where they stand, and which of them are started.
use Rattle.std.specs.Prelude.{◌≡◌, ◌≤◌, ◌<◌, ℕ, ◌+◌, Bool, false, not, List, length, map, fold, take, count_by, Option, Some, IfSome, All}
use Rattle.std.specs.List.{flat_map, range_with_len, items_where_true, position}
use Rattle.sc_cluster.specs.declared.slice.Slice.{Slice}
use Rattle.sc_cluster.specs.Slices.{core_name, node_of}
use Rattle.sc_io.specs.declared.hosts.Host.{Host}
use Rattle.sc_io.specs.Hosts.{is_core_on, with_core, without_core, Reached}

-- replica k, from 1, of a slice of this name, whose replica 1 is on this node, among so many nodes
abbrev pub core_at : (nodes : ℕ) → (name : List ℕ) → (node k : ℕ) → Host
core_at nodes name node k = record { node = node_of node k nodes; core = core_name name k }

-- the cores of a slice, in order
abbrev pub cores_of_slice : ℕ → Slice → List Host
cores_of_slice nodes slice = map (core_at nodes slice.name slice.node) (range_with_len 1 slice.replicas)

-- the cores of slices, slice by slice
abbrev pub cores_of_map : ℕ → List Slice → List Host
cores_of_map nodes slices = flat_map (cores_of_slice nodes) slices

-- the cores that are started once each of these was too, in order
abbrev pub with_cores : List Host → List Host → List Host
with_cores more cores = fold (λ all (host : Host). with_core host.node host.core all) cores more

-- of these cores, so many are started besides those that were before, where the hosts tell them
abbrev pub HasStarted : List Host → ℕ → (before now : Option (List Host)) → Type 0
HasStarted cores count before now = IfSome before (λ all. now ≡ Some (with_cores (take count cores) all))

-- the cores that are started still, once each of these was stopped
abbrev pub without_cores : List Host → List Host → List Host
without_cores cores all = fold (λ left (host : Host). without_core host.node host.core left) all cores

-- What stopping each of these cores came to: those that are marked were stopped, and no other. Of the others there are no more than
-- faults were counted, and this is the place of the first, if there is one.
pub record StopsEach (cores : List Host) (before now : Option (List Host)) (faults_before faults_now : ℕ) (failed : Option ℕ) : Type 0 where
  pub stopped : List Bool
  pub each : length stopped ≡ length cores
  pub left : IfSome before (λ all. now ≡ Some (without_cores (items_where_true stopped cores) all))
  pub faults : faults_before + count_by not stopped ≤ faults_now
  pub first : failed ≡ position not stopped

-- the core is not among these
abbrev pub IsNew : List Host → Host → Type 0
IsNew cores core = All (λ host. is_core_on core.node core.core host ≡ false) cores

-- what stands outside of a collection: the cores that are started, where the hosts tell them, how often starting and stopping one
-- has failed, how often the pace has said stop, and which nodes weren't reached, and how often
pub record Outside : Type 0 where
  pub started : Option (List Host)
  pub start_faults : ℕ
  pub stop_faults : ℕ
  pub stops : ℕ
  pub reach : Reached

-- what stands outside, by these
abbrev pub outside_of : Option (List Host) → (start_faults stop_faults stops : ℕ) → Reached → Outside
outside_of started start_faults stop_faults stops reach =
    record { started = started; start_faults = start_faults; stop_faults = stop_faults; stops = stops; reach = reach }

-- no count of what stands outside falls
pub record CountsGoUp (old new : Outside) : Type 0 where
  pub starting : old.start_faults ≤ new.start_faults
  pub stopping : old.stop_faults ≤ new.stop_faults
  pub pace : old.stops ≤ new.stops
  pub reaching : old.reach.faults ≤ new.reach.faults

-- each of these cores was started, in order, no call failed, and none was stopped
pub record StartsCores (cores : List Host) (old new : Outside) : Type 0 where
  pub started : IfSome old.started (λ before. new.started ≡ Some (with_cores cores before))
  pub start_faults : new.start_faults ≡ old.start_faults
  pub stop_faults : new.stop_faults ≡ old.stop_faults
  pub stops : new.stops ≡ old.stops
  pub reach : new.reach ≡ old.reach

-- Starting one of these cores failed: those before it were started, in order, and no other; and none was stopped.
pub record FailsToStartCores (cores : List Host) (old new : Outside) : Type 0 where
  pub count : ℕ
  pub some : count < length cores
  pub started : HasStarted cores count old.started new.started
  pub start_faults : old.start_faults < new.start_faults
  pub stop_faults : new.stop_faults ≡ old.stop_faults
  pub stops : new.stops ≡ old.stops
  pub reach : new.reach ≡ old.reach

-- Each core of the first map was started, slice by slice, and no call failed.
abbrev pub StartsFirst : (nodes : ℕ) → List Slice → (old new : Outside) → Type 0
StartsFirst nodes first = StartsCores (cores_of_map nodes first)

-- Starting a core of the first map failed: those before it were started, slice by slice, and no other.
abbrev pub FailsToStartFirst : (nodes : ℕ) → List Slice → (old new : Outside) → Type 0
FailsToStartFirst nodes first = FailsToStartCores (cores_of_map nodes first)
