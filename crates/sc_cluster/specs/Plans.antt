-- What a split of a slice is to make.
use Rattle.std.specs.Prelude.{◌≡◌, ◌≢◌, ◌≤◌, ℕ, ◌+◌, ℤ, List, [], length, map, Contains, slice_get, Some}
use Rattle.sc_record.specs.declared.slice.SliceId.{SliceId}
use Rattle.sc_record.specs.declared.slice.SubSlice.{SubSlice}
use Rattle.sc_cluster.specs.declared.slice.State.TheVariants as states
use Rattle.sc_cluster.specs.declared.slice.Slice.{Slice}
use Rattle.sc_cluster.specs.Limits.{most_slices}
use Rattle.sc_cluster.specs.Tiles.{Tiles}
use Rattle.sc_cluster.specs.Slices.{forming, greatest_id, sub_name}

-- a sub's range
abbrev pub sub_bounds : SubSlice → ℤ × ℤ
sub_bounds sub = (sub.min, sub.max)

-- the slice may be cut into the ranges: it is active, and they tile its range
pub record MayCut (slices : List Slice) (parent : SliceId) (ranges : List (ℤ × ℤ)) (slice : Slice) : Type 0 where
  pub there : Contains slices slice
  pub named : slice.id ≡ parent
  pub active : slice.state ≡ states.Active
  pub tile : Tiles ranges slice.range.min slice.range.max

-- sub i, from 0, of a split of the parent, where the greatest id is this
pub record IsPlanned (parent : Slice) (greatest i : ℕ) (sub : SubSlice) : Type 0 where
  pub id : sub.id.0 ≡ greatest + 1 + i
  pub name : sub.name ≡ sub_name parent.name i
  pub replicas : sub.replicas ≡ parent.replicas
  pub node : sub.node ≡ parent.node

-- a split of the parent may begin with these subs
pub record IsPlan (slices : List Slice) (parent : SliceId) (subs : List SubSlice) : Type 0 where
  pub idle : forming slices ≡ []
  pub cut : (slice : Slice) × MayCut slices parent (map sub_bounds subs) slice
      × ((i : ℕ) (sub : SubSlice) → slice_get subs i ≡ Some sub → IsPlanned slice (greatest_id slices) i sub)
  pub fresh : (slice : Slice) (sub : SubSlice) → Contains slices slice → Contains subs sub → slice.name ≢ sub.name
  pub few : length slices + length subs ≤ most_slices
