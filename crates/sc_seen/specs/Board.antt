-- The journal of the board, which says how the splits of a collection went, and who leads: what it makes of the slices that an
-- administrator is shown, which journals can be, and the entries that one has still to get.
use Rattle.std.specs.Prelude.{◌≡◌, ◌≤◌, ◌<◌, ℕ, ◌+◌, List, [], ◌∷◌, ◌++◌, length, fold, filter_map, count_by, Option, Some, None, IfSome, All, Contains}
use Rattle.std.specs.List.{enumerate_from}
use Rattle.std.specs.Option.{option_map_or}
use Rattle.sc_record.specs.declared.slice.SliceId.{SliceId}
use Rattle.sc_cluster.specs.declared.slice.State.TheVariants as states
use Rattle.sc_cluster.specs.declared.slice.Slice.{Slice}
use Rattle.sc_cluster.specs.Slices.{forming, is_inactive}
use Rattle.sc_cluster.specs.Changes.{Change, after, IsBeingSplit, MayChange}
use Rattle.sc_cluster.specs.Histories.{after_all}
use Rattle.sc_seen.specs.declared.board.BoardEntry.{BoardEntry}
use Rattle.sc_seen.specs.declared.board.BoardEntry.TheVariants as board

-- how an entry changes the board's map of slices, if it does
abbrev pub board_change_of : BoardEntry → Option Change
board_change_of (board.Begun plan) = Some (Change.Begun plan.parent plan.subs)
board_change_of (board.Recovering parent) = Some (Change.Recovering parent)
board_change_of (board.Done parent) = Some (Change.Switched parent)
board_change_of (board.Failed parent) = Some (Change.Failed parent)
board_change_of (board.Dropped slice) = Some (Change.Dropped slice)
board_change_of (board.Led slice replica) = None

-- the slices after an entry
abbrev pub after_entry : List Slice → BoardEntry → List Slice
after_entry slices one = option_map_or (after slices) (board_change_of one) slices

-- the board's map after its journal, from the first map on
abbrev pub board_map : List Slice → List BoardEntry → List Slice
board_map first entries = after_all first (filter_map board_change_of entries)

-- the place of the entry that began the split that is running, once this entry at its place was looked at; the other is that before it
abbrev pub running_after : Option ℕ → ℕ × BoardEntry → Option ℕ
running_after before (place, board.Begun plan) = Some place
running_after before (place, board.Done parent) = None
running_after before (place, board.Failed parent) = None
running_after before (place, one) = before

-- the place of the entry that began the split that is running, if one is: of those that begin and end one, it is the last
abbrev pub running_split : List BoardEntry → Option ℕ
running_split entries = fold running_after None (enumerate_from 0 entries)

-- how many entries the board has still to get of the split that is running, once it was told this
abbrev pub owed_after : ℕ → BoardEntry → ℕ
-- that the followers of its slices are made, that it is done, and that its parent is dropped
owed_after before (board.Begun plan) = 3
owed_after before (board.Recovering parent) = 2
owed_after before (board.Done parent) = 0
owed_after before (board.Failed parent) = 0
owed_after before (board.Dropped slice) = before
owed_after before (board.Led slice replica) = before

-- How many entries the board has still to get at most: those of the split that is running, and one that drops each inactive slice.
abbrev pub board_owed : List Slice → List BoardEntry → ℕ
board_owed first entries = fold owed_after 0 entries + count_by is_inactive (board_map first entries)

-- the board has room for so many entries more, beside those that it owes
abbrev pub BoardHasRoom : ℕ → ℕ → List Slice → List BoardEntry → Type 0
BoardHasRoom wanted limit first entries = length entries + board_owed first entries + wanted ≤ limit

-- it has none for so many
abbrev pub BoardIsFull : ℕ → ℕ → List Slice → List BoardEntry → Type 0
BoardIsFull wanted limit first entries = limit < length entries + board_owed first entries + wanted

-- The slices of the split that is running are being recovered: their leaders have all documents.
pub record AreRecovering (slices : List Slice) : Type 0 where
  pub each : All (λ (slice : Slice). slice.state ≡ states.Recovery) (forming slices)

-- the replica may be noted as the slice's leader: no split is running, and the slice is active and has the replica
pub record MayLeadOnBoard (first : List Slice) (before : List BoardEntry) (id : SliceId) (replica : ℕ) : Type 0 where
  pub idle : forming (board_map first before) ≡ []
  pub slice : Slice
  pub there : Contains (board_map first before) slice
  pub named : slice.id ≡ id
  pub active : slice.state ≡ states.Active
  pub counted : 1 ≤ replica
  pub within : replica ≤ slice.replicas

-- The entry may come after these, where the first map is this: a split begins where none is running and the map allows it; then its
-- slices are recovered, and after that it is done, or at any time it failed; a slice is dropped where none is running; and a replica
-- leads its slice from then on, where none is running.
abbrev pub MayNote : List Slice → List BoardEntry → BoardEntry → Type 0
MayNote first before (board.Done parent) = IsBeingSplit (board_map first before) parent × AreRecovering (board_map first before)
MayNote first before (board.Led slice replica) = MayLeadOnBoard first before slice replica
MayNote first before one = IfSome (board_change_of one) (MayChange (board_map first before))

-- each entry may come after those before it
abbrev pub IsLegalBoard : List Slice → List BoardEntry → Type 0
IsLegalBoard first entries =
    (before : List BoardEntry) (one : BoardEntry) (after : List BoardEntry) → entries ≡ before ++ one ∷ after → MayNote first before one
