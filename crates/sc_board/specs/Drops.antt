-- Why a slice may not be dropped.
use Rattle.std.specs.Prelude.{◌≡◌, ◌≢◌, ◌<◌, ℕ, List, None, ⊤}
use Rattle.sc_cluster.specs.declared.slice.State.TheVariants as states
use Rattle.sc_cluster.specs.declared.slice.Slice.{Slice}
use Rattle.sc_board.specs.declared.fault.DropFault.{DropFault}
use Rattle.sc_board.specs.declared.fault.DropFault.TheVariants as faults
use Rattle.sc_board.specs.Splits.{slice_named, IsRunningOf, IsOfNamed}

-- why the slice of this name may not be dropped from the map, each cause by itself; want of memory is none
abbrev pub PreventsDrop : List Slice → List ℕ → DropFault → Type 0
PreventsDrop slices name faults.UnknownShard = slice_named slices name ≡ None
PreventsDrop slices name (faults.Running shard) = IsRunningOf slices shard
PreventsDrop slices name (faults.NotInactive state) =
    IsOfNamed slices name (λ slice. (slice.state ≡ state) × (state ≢ states.Inactive))
PreventsDrop slices name faults.Memory = ⊥

-- the order of the causes
abbrev pub drop_order_of : DropFault → ℕ
drop_order_of faults.UnknownShard = 0
drop_order_of (faults.Running shard) = 1
drop_order_of (faults.NotInactive state) = 2
drop_order_of faults.Memory = 3

-- the cause is the first that holds
pub record IsFirstDropCause (slices : List Slice) (name : List ℕ) (cause : DropFault) : Type 0 where
  pub holds : PreventsDrop slices name cause
  pub first : (other : DropFault) → drop_order_of other < drop_order_of cause → ¬ PreventsDrop slices name other

-- what a refusal says: the first cause that holds, or that memory is wanting, which nothing else tells
abbrev pub IsDropRefusal : List Slice → List ℕ → DropFault → Type 0
IsDropRefusal slices name faults.Memory = ⊤
IsDropRefusal slices name cause = IsFirstDropCause slices name cause
