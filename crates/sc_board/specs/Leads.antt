-- Why no other leader of a slice may be noted.
use Rattle.std.specs.Prelude.{◌≡◌, ◌≢◌, ◌≤◌, ◌<◌, ℕ, List, None, ⊤}
use Rattle.sc_record.specs.declared.slice.SliceId.{SliceId}
use Rattle.sc_cluster.specs.declared.slice.State.TheVariants as states
use Rattle.sc_cluster.specs.declared.slice.Slice.{Slice}
use Rattle.sc_seen.specs.Board.{board_map, BoardIsFull, MayNote}
use Rattle.sc_seen.specs.declared.board.BoardEntry.{BoardEntry}
use Rattle.sc_seen.specs.declared.board.BoardEntry.TheVariants as board
use Rattle.sc_board.specs.declared.fault.LeadFault.{LeadFault}
use Rattle.sc_board.specs.declared.fault.LeadFault.TheVariants as faults
use Rattle.sc_board.specs.Splits.{BoardBasis, slice_named, IsRunningOf, IsOfNamed}

-- why no other leader of the slice of this name may be noted after these entries, each cause by itself; want of memory is none
abbrev pub PreventsLead : BoardBasis → List BoardEntry → List ℕ → LeadFault → Type 0
PreventsLead basis entries name faults.UnknownShard = slice_named (board_map basis.first entries) name ≡ None
PreventsLead basis entries name (faults.Running shard) = IsRunningOf (board_map basis.first entries) shard
PreventsLead basis entries name (faults.NotActive state) =
    IsOfNamed (board_map basis.first entries) name (λ slice. (slice.state ≡ state) × (state ≢ states.Active))
PreventsLead basis entries name faults.LogFull = BoardIsFull 1 basis.limit basis.first entries
PreventsLead basis entries name faults.Memory = ⊥

-- the order of the causes
abbrev pub lead_order_of : LeadFault → ℕ
lead_order_of faults.UnknownShard = 0
lead_order_of (faults.Running shard) = 1
lead_order_of (faults.NotActive state) = 2
lead_order_of faults.LogFull = 3
lead_order_of faults.Memory = 4

-- the cause is the first that holds
pub record IsFirstLeadCause (basis : BoardBasis) (entries : List BoardEntry) (name : List ℕ) (cause : LeadFault) : Type 0 where
  pub holds : PreventsLead basis entries name cause
  pub first : (other : LeadFault) → lead_order_of other < lead_order_of cause → ¬ PreventsLead basis entries name other

-- what a refusal says: the first cause that holds, or that memory is wanting, which nothing else tells
abbrev pub IsLeadRefusal : BoardBasis → List BoardEntry → List ℕ → LeadFault → Type 0
IsLeadRefusal basis entries name faults.Memory = ⊤
IsLeadRefusal basis entries name cause = IsFirstLeadCause basis entries name cause

-- the slice of this name has the id, and each of its replicas may be noted as its leader
abbrev pub MayBeLed : List Slice → List BoardEntry → List ℕ → SliceId → Type 0
MayBeLed first entries name id =
    IsOfNamed (board_map first entries) name
    (λ slice. (slice.id ≡ id)
    × ((replica : ℕ) → 1 ≤ replica → replica ≤ slice.replicas → MayNote first entries (board.Led id replica)))
