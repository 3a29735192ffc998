-- Why a split may not begin, and what one begins with.
use Rattle.std.specs.Prelude.{◌≡◌, ◌≢◌, ◌≤◌, ◌<◌, ℕ, ◌+◌, ℤ, pos, ◌<ℤ◌, List, [], length, map, find, Option, Some, None, ⊤}
use Rattle.std.specs.Str.{bytes_eq}
use Rattle.sc_hash.specs.Range.{size_of}
use Rattle.sc_hash.specs.Bounds.{bounds}
use Rattle.sc_cluster.specs.declared.slice.State.TheVariants as states
use Rattle.sc_cluster.specs.declared.slice.Slice.{Slice}
use Rattle.sc_cluster.specs.declared.plan.SplitPlan.{SplitPlan}
use Rattle.sc_cluster.specs.Limits.{most_slices}
use Rattle.sc_cluster.specs.Cut.{cut}
use Rattle.sc_cluster.specs.Tiles.{Tiles}
use Rattle.sc_cluster.specs.Slices.{forming}
use Rattle.sc_cluster.specs.Map.{IsSplitting}
use Rattle.sc_cluster.specs.Plans.{sub_bounds, IsPlan}
use Rattle.sc_seen.specs.Board.{board_map, BoardIsFull}
use Rattle.sc_seen.specs.declared.board.BoardEntry.{BoardEntry}
use Rattle.sc_board.specs.declared.board.Board.{Board}
use Rattle.sc_board.specs.declared.cut.Cut.{Cut}
use Rattle.sc_board.specs.declared.cut.Cut.TheVariants as cuts
use Rattle.sc_board.specs.declared.fault.BoardFault.{BoardFault}
use Rattle.sc_board.specs.declared.fault.BoardFault.TheVariants as faults

-- how many ranges a cut is to give
abbrev pub parts_of : Cut → ℕ
parts_of (cuts.Parts n) = n
parts_of (cuts.Ranges list) = length list

-- the least and the most ranges of a cut
abbrev pub least_parts : ℕ
least_parts = 2

abbrev pub most_parts : ℕ
most_parts = 8

-- a cut gives as many ranges as it may
pub record IsCut (cut : Cut) : Type 0 where
  pub least : least_parts ≤ parts_of cut
  pub most : parts_of cut ≤ most_parts

-- the ranges of a slice that is cut so, where its range can be
abbrev pub cut_ranges : Cut → Slice → List (ℤ × ℤ)
cut_ranges (cuts.Parts n) slice = cut slice.range.min slice.range.max n
cut_ranges (cuts.Ranges list) slice = map bounds list

-- what is asked of a board: to split the slice of this name so
pub record AskedSplit : Type 0 where
  pub shard : List ℕ
  pub cut : Cut

abbrev pub asked_for : List ℕ → Cut → AskedSplit
asked_for shard cut = record { shard = shard; cut = cut }

-- the slice of this name, the first of them
abbrev pub slice_named : List Slice → List ℕ → Option Slice
slice_named slices name = find (λ (slice : Slice). bytes_eq slice.name name) slices

-- a split is open in the map, of the slice of this name
abbrev pub IsRunningOf : List Slice → List ℕ → Type 0
IsRunningOf slices name = (parent : Slice) × IsSplitting slices parent × (parent.name ≡ name)

-- the slice of this name is there, and it is so of it
abbrev pub IsOfNamed : List Slice → List ℕ → (Slice → Type 0) → Type 0
IsOfNamed slices name IsSo = (slice : Slice) × (slice_named slices name ≡ Some slice) × IsSo slice

-- the slice's range has fewer hashes than the cut is to give parts of it
abbrev pub IsTooSmallFor : Cut → Slice → Type 0
IsTooSmallFor (cuts.Parts n) slice = size_of slice.range.min slice.range.max <ℤ pos n
IsTooSmallFor (cuts.Ranges list) slice = ⊥

-- the ranges of the cut, where they are given, tile the slice's
abbrev pub AreOf : Cut → Slice → Type 0
AreOf (cuts.Parts n) slice = ⊤
AreOf (cuts.Ranges list) slice = Tiles (map bounds list) slice.range.min slice.range.max

-- they do not
abbrev pub AreNotOf : Cut → Slice → Type 0
AreNotOf cut slice = ¬ AreOf cut slice

-- the slice's range may be cut so
pub record MayBeCut (cut : Cut) (slice : Slice) : Type 0 where
  pub large : ¬ IsTooSmallFor cut slice
  pub tile : AreOf cut slice

-- why it may not
abbrev pub IsCutCause : Cut → Slice → BoardFault → Type 0
IsCutCause cut slice faults.RangeTooSmall = IsTooSmallFor cut slice
IsCutCause cut slice faults.BadRanges = AreNotOf cut slice
IsCutCause cut slice _ = ⊥

-- the slice of this name may be split: none runs, and it is active
pub record MaySplit (slices : List Slice) (name : List ℕ) (slice : Slice) : Type 0 where
  pub named : slice_named slices name ≡ Some slice
  pub idle : forming slices ≡ []
  pub active : slice.state ≡ states.Active

-- what a board's journal is based on: the first map and the limit
pub record BoardBasis : Type 0 where
  pub first : List Slice
  pub limit : ℕ

-- that of a board
abbrev pub board_basis : {K : Type 0} → Board K → BoardBasis
board_basis board = record { first = board.first; limit = board.limit }

-- why a split may not begin after these entries, each cause by itself; want of memory is none
abbrev pub Prevents : BoardBasis → List BoardEntry → AskedSplit → BoardFault → Type 0
Prevents basis entries asked faults.UnknownShard = slice_named (board_map basis.first entries) asked.shard ≡ None
Prevents basis entries asked (faults.Running shard) = IsRunningOf (board_map basis.first entries) shard
Prevents basis entries asked (faults.NotActive state) =
    IsOfNamed (board_map basis.first entries) asked.shard (λ slice. (slice.state ≡ state) × (state ≢ states.Active))
Prevents basis entries asked faults.RangeTooSmall =
    IsOfNamed (board_map basis.first entries) asked.shard (IsTooSmallFor asked.cut)
Prevents basis entries asked faults.BadRanges = IsOfNamed (board_map basis.first entries) asked.shard (AreNotOf asked.cut)
Prevents basis entries asked faults.TooManySlices = most_slices < length (board_map basis.first entries) + parts_of asked.cut
Prevents basis entries asked faults.LogFull = BoardIsFull 4 basis.limit basis.first entries
Prevents basis entries asked faults.Memory = ⊥

-- the order of the causes
abbrev pub fault_order : BoardFault → ℕ
fault_order faults.UnknownShard = 0
fault_order (faults.Running shard) = 1
fault_order (faults.NotActive state) = 2
fault_order faults.RangeTooSmall = 3
fault_order faults.BadRanges = 4
fault_order faults.TooManySlices = 5
fault_order faults.LogFull = 6
fault_order faults.Memory = 7

-- the cause is the first that holds
pub record IsFirstCause (basis : BoardBasis) (entries : List BoardEntry) (asked : AskedSplit) (cause : BoardFault) : Type 0 where
  pub holds : Prevents basis entries asked cause
  pub first : (other : BoardFault) → fault_order other < fault_order cause → ¬ Prevents basis entries asked other

-- what a refusal says: the first cause that holds, or that memory is wanting, which nothing else tells
abbrev pub IsRefusalBy : BoardBasis → List BoardEntry → AskedSplit → BoardFault → Type 0
IsRefusalBy basis entries asked faults.Memory = ⊤
IsRefusalBy basis entries asked cause = IsFirstCause basis entries asked cause

-- the same, where the first map and the limit are these
abbrev pub IsRefusal : List Slice → ℕ → List BoardEntry → AskedSplit → BoardFault → Type 0
IsRefusal first limit entries asked fault = IsRefusalBy (record { first = first; limit = limit }) entries asked fault

-- The plan is that of the split that is asked for, after these entries: of the slice of the name, cut so.
pub record IsPlanOf (first : List Slice) (entries : List BoardEntry) (asked : AskedSplit) (plan : SplitPlan) : Type 0 where
  pub parent : IsOfNamed (board_map first entries) asked.shard
      (λ slice. (plan.parent ≡ slice.id) × (map sub_bounds plan.subs ≡ cut_ranges asked.cut slice))
  pub plan_is : IsPlan (board_map first entries) plan.parent plan.subs
