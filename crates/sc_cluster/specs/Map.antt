-- Which lists of slices are maps of a cluster.
use Rattle.std.specs.Prelude.{◌≡◌, ◌≤◌, ◌<◌, ℕ, ◌+◌, ◌*◌, ◌%◌, ◌^◌, ◌-◌, ◌⊎◌, IsTrue, List, [], length, map, All, Contains, ℤ, pos, negsuc, nat_eq, slice_get, Some}
use Rattle.std.specs.List.{starts_with, IsDistinct}
use Rattle.std.specs.List.Sorted.{IsStrictlyIncreasing}
use Rattle.std.specs.Str.{bytes_eq}
use Rattle.sc_hash.specs.Range.{IsWithin}
use Rattle.sc_cluster.specs.declared.slice.State.TheVariants as states
use Rattle.sc_cluster.specs.declared.slice.Slice.{Slice}
use Rattle.sc_cluster.specs.Limits.{most_slices}
use Rattle.sc_cluster.specs.Tiles.{Tiles}
use Rattle.sc_cluster.specs.Cut.{part}
use Rattle.sc_cluster.specs.Slices.{is_active, is_forming, forming, slice_bounds, active_ranges, first_name, sub_prefix, sub_name}

-- the least and the greatest hash
abbrev pub least_hash : ℤ
least_hash = negsuc (2 ^ 31 - 1)

abbrev pub greatest_hash : ℤ
greatest_hash = pos (2 ^ 31 - 1)

-- a split of the parent makes the slice
pub record IsSubOf (parent slice : Slice) : Type 0 where
  pub name : (i : ℕ) × (slice.name ≡ sub_name parent.name i)
  pub later : parent.id.0 < slice.id.0
  pub replicas : slice.replicas ≡ parent.replicas
  pub node : slice.node ≡ parent.node

-- a split of the parent is open: the slices that are being made are its subs
pub record IsSplitting (slices : List Slice) (parent : Slice) : Type 0 where
  pub there : Contains slices parent
  pub active : parent.state ≡ states.Active
  pub subs : All (IsSubOf parent) (forming slices)
  pub tile : Tiles (map slice_bounds (forming slices)) parent.range.min parent.range.max

-- the slices are those of a cluster, in order of creation
pub record IsMap (slices : List Slice) : Type 0 where
  pub few : length slices ≤ most_slices
  pub ids : IsStrictlyIncreasing (map (λ (slice : Slice). slice.id.0) slices)
  pub names : IsDistinct bytes_eq (map (λ (slice : Slice). slice.name) slices)
  -- the active slices share out all hashes
  pub tile : Tiles (active_ranges slices) least_hash greatest_hash
  -- at most one slice is being split
  pub split : (forming slices ≡ []) ⊎ ((parent : Slice) × IsSplitting slices parent)
  -- no name but that of a slice that is being made begins as those of an active slice's subs do
  pub apart : (parent slice : Slice) → Contains slices parent → Contains slices slice → IsTrue (is_active parent)
      → IsTrue (starts_with nat_eq slice.name (sub_prefix parent.name)) → IsTrue (is_forming slice)

-- the slice is the active one whose range has the hash
pub record Leads (slices : List Slice) (h : ℤ) (slice : Slice) : Type 0 where
  pub there : Contains slices slice
  pub active : slice.state ≡ states.Active
  pub within : IsWithin slice.range.min slice.range.max h

-- slice i, from 0, of a new collection
pub record IsFirst (shards replicas nodes i : ℕ) (slice : Slice) : Type 0 where
  pub id : slice.id.0 ≡ i
  pub name : slice.name ≡ first_name (i + 1)
  pub range : slice_bounds slice ≡ part least_hash greatest_hash shards i
  pub state : slice.state ≡ states.Active
  pub replicated : slice.replicas ≡ replicas
  pub placed : slice.node ≡ i * replicas % nodes + 1

-- the slices of a new collection
pub record AreFirst (shards replicas nodes : ℕ) (slices : List Slice) : Type 0 where
  pub count : length slices ≡ shards
  pub each : (i : ℕ) (slice : Slice) → slice_get slices i ≡ Some slice → IsFirst shards replicas nodes i slice
