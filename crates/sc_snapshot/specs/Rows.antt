-- The rows of a snapshot.
use Rattle.std.specs.Prelude.{◌≡◌, ℕ, ◌≤◌, ◌^◌, Bool, if◌then◌else◌, is_some, List, length}
use Rattle.std.proofs.Common.{Bor}
use Rattle.std.specs.Arc.{arc_value}
use Rattle.std.specs.declared.alloc.Global.{Global}
use Rattle.std.specs.declared.sync.Arc.{Arc}
use Rattle.sc_hash.specs.Bounds.{bounds, contains}
use Rattle.sc_hash.specs.declared.range.Range.{Range}
use Rattle.sc_record.specs.Writes.{Write, write_of, AscendById}

-- a snapshot as contracts see it: how many entries the journal had, and the committed write of each id
pub record SnapshotState : Type 0 where
  pub place : ℕ
  pub rows : List Write

-- the writes may be the rows of a snapshot: their ids ascend, and there are at most 2^24
pub record AreRows (rows : List Write) : Type 0 where
  pub ascend : AscendById rows
  pub bounded : length rows ≤ 2 ^ 24

-- the rows after these changes: of each id the change, where there is one, else the old row
abbrev pub AreChanged : (old changes new : List Write) → Type 0
AreChanged old changes new = (id : List ℕ) → write_of new id ≡ (if is_some (write_of changes id) then write_of changes id else write_of old id)

-- the row's hash is in the range
abbrev pub is_within : Range → Write → Bool
is_within range row = contains row.hash (bounds range)

-- the write of a cell that is lent
abbrev pub lent : Bor (Arc Write Global) → Write
lent cell = arc_value cell.now
