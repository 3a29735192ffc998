-- The cores of a bucket, by their names.
use Rattle.std.specs.Prelude.{◌≡◌, ◌<◌, ◌≤◌, Contains, ℕ, ◌+◌, ◌*◌, ◌^◌, ℤ, Bool, ◌&&◌, not, nat_eq, nat_lt, int_le, if◌then◌else◌, List, [], ◌∷◌, map, filter, max, pos, slice_get, Some, false}
use Rattle.std.specs.List.{flat_map, list_any, range_with_len}
use Rattle.std.specs.List.Sorted.{IsStrictlyIncreasing}
use Rattle.sc_record.specs.declared.slice.SliceId.{SliceId}
use Rattle.sc_record.specs.Names.{is_core}
use Rattle.sc_record.specs.declared.slice.CoreId.{CoreId}
use Rattle.sc_cluster.specs.declared.slice.Slice.{Slice}
use Rattle.sc_cluster.specs.Map.{Leads}
use Rattle.sc_ulog.specs.declared.mode.Mode.TheVariants.{Active}
use Rattle.sc_replica.specs.Core.{Core, IsCore}
use Rattle.sc_cluster.specs.Slices.{is_inactive}

-- the name of a core: its slice and its replica
abbrev pub core_key : Core → ℕ × ℕ
core_key core = (core.core.slice.0, core.core.replica)

-- the names of the cores of a slice: its replicas, from 1
abbrev pub slice_keys : Slice → List (ℕ × ℕ)
slice_keys slice = map (λ (replica : ℕ). (slice.id.0, replica)) (range_with_len 1 slice.replicas)

-- the names of the cores of a map: slice after slice, replica after replica
abbrev pub core_keys : List Slice → List (ℕ × ℕ)
core_keys slices = flat_map slice_keys slices

-- the number of a core's name: cores are in the order of the slices, and of each slice in that of its replicas
abbrev pub core_number : CoreId → ℕ
core_number core = core.slice.0 * 256 + core.replica

-- the cores ascend by their names, so that each stands once
abbrev pub CoresAscend : List Core → Type 0
CoresAscend cores = IsStrictlyIncreasing (map (λ (core : Core). core_number core.core) cores)

-- the cores with one more, before the first whose name comes later
abbrev pub put_by_name : Core → List Core → List Core
put_by_name core [] = core ∷ []
put_by_name core (other ∷ cores) =
    if nat_lt (core_number core.core) (core_number other.core) then core ∷ other ∷ cores
    else other ∷ put_by_name core cores

-- the slice of a core is one of these
abbrev pub is_of_one : List Slice → CoreId → Bool
is_of_one slices core = list_any (λ (slice : Slice). nat_eq slice.id.0 core.slice.0) slices

-- the core of the slice takes part in what is written: the slice is active, or a split is making it, and the core is not down
abbrev pub is_attached : Slice → Core → Bool
is_attached slice core = not (is_inactive slice) && not core.down

-- the hash is in the slice's range
abbrev pub has_hash : ℤ → Slice → Bool
has_hash hash slice = int_le slice.range.min hash && int_le hash slice.range.max

-- the core is one of the slice's, not the one that led, and not down
abbrev pub follows : CoreId → Slice → Core → Bool
follows leader slice core = nat_eq core.core.slice.0 slice.id.0 && not (is_core leader core.core) && not core.down

-- the cores that are sent a write of the hash which this core led: of each slice that is not inactive and has the hash, in the order
-- of the map, the other cores that are not down
abbrev pub followers : List Slice → List Core → ℤ → CoreId → List CoreId
followers slices cores hash leader =
    flat_map (λ (slice : Slice). map (λ (core : Core). core.core) (filter (follows leader slice) cores))
    (filter (λ (slice : Slice). not (is_inactive slice) && has_hash hash slice) slices)

-- the core leads the slice: it is its replica 1
abbrev pub IsLeaderOf : SliceId → Core → Type 0
IsLeaderOf slice core = (core.core.slice ≡ slice) × (core.core.replica ≡ 1)

-- the core at the place leads the slice that serves the hash
pub record IsLeaderAt (slices : List Slice) (cores : List Core) (hash : ℤ) (at : ℕ) : Type 0 where
  pub slice : Slice
  pub core : Core
  pub leads : Leads slices hash slice
  pub found : slice_get cores at ≡ Some core
  pub leader : IsLeaderOf slice.id core

-- the core's replica is a number of eight bits
abbrev pub IsCounted : Core → Type 0
IsCounted core = core.core.replica < 2 ^ 8

-- the core was made and nothing came to it yet
pub record IsNewCore (core : Core) : Type 0 where
  pub cells : core.cells ≡ []
  pub buffer : core.buffer ≡ []
  pub active : core.mode ≡ Active
  pub clock : core.clock ≡ pos 0
  pub up : core.down ≡ false
  pub number : core.number ≡ core.core.replica

-- the core once it sits in this seat, which is down or not
abbrev pub seated : CoreId → Bool → Core → Core
seated seat down core = record core { core = seat; down = down }

-- the core is the slice's core of this number
abbrev pub is_numbered : SliceId → ℕ → Core → Bool
is_numbered slice number core = nat_eq slice.0 core.core.slice.0 && nat_eq number core.number

-- the slice is there, and has a core of this number
abbrev pub HasCore : List Slice → SliceId → ℕ → Type 0
HasCore slices id number =
    (slice : Slice) × Contains slices slice × (slice.id ≡ id) × (0 < number) × (number ≤ slice.replicas)

-- the core with room for at least n more writes
abbrev pub with_room : ℕ → Core → Core
with_room n core = record core {
  cell_spare = max core.cell_spare n;
  buffer_spare = max core.buffer_spare n;
}

-- a core without its room
abbrev pub without_room : Core → Core
without_room core = record core { cell_spare = 0; buffer_spare = 0 }

-- what is true of every core, whatever room it has: its ids ascend, no cell is newer than its clock, and its buffer is empty where it
-- is active
abbrev pub IsCoreWithoutRoom : Core → Type 0
IsCoreWithoutRoom core = IsCore (without_room core)
