-- Which replica leads each slice, as the board has noted it.
use Rattle.std.specs.Prelude.{ℕ, ◌==◌, if◌then◌else◌, List, map, fold}
use Rattle.sc_record.specs.declared.slice.SliceId.{SliceId}
use Rattle.sc_cluster.specs.declared.slice.Slice.{Slice}
use Rattle.sc_seen.specs.Board.{board_map}
use Rattle.sc_seen.specs.declared.board.BoardEntry.{BoardEntry}
use Rattle.sc_seen.specs.declared.board.BoardEntry.TheVariants as board

-- the replica that leads the slice once this is noted, where the other led it before
abbrev pub leader_after : SliceId → ℕ → BoardEntry → ℕ
leader_after id before (board.Led slice replica) = if slice.0 == id.0 then replica else before
leader_after id before _ = before

-- the replica that leads the slice after these entries: that of the last of them which says who leads it, else the first one
abbrev pub leader_of : List BoardEntry → SliceId → ℕ
leader_of entries id = fold (leader_after id) 1 entries

-- those of all slices of the board's map after these entries, in its order
abbrev pub leaders_after : List Slice → List BoardEntry → List ℕ
leaders_after first entries = map (λ (slice : Slice). leader_of entries slice.id) (board_map first entries)
