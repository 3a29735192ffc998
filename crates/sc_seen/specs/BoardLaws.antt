-- Laws of the board's journals, above their definitions.
use Rattle.std.specs.Prelude.{◌≡◌, ◌≤◌, ◌<◌, ◌↔◌, ℕ, ◌+◌, ◌*◌, ◌^◌, List, [], ◌∷◌, ◌++◌, length, Some, None}
use Rattle.sc_record.specs.declared.slice.SliceId.{SliceId}
use Rattle.sc_cluster.specs.declared.plan.SplitPlan.{SplitPlan}
use Rattle.sc_cluster.specs.declared.slice.Slice.{Slice}
use Rattle.sc_cluster.specs.Limits.{most_slices}
use Rattle.sc_cluster.specs.Slices.{forming, greatest_id}
use Rattle.sc_cluster.specs.Map.{IsMap}
use Rattle.sc_cluster.specs.Changes.{IsBeingSplit}
use Rattle.sc_journal.specs.Limits.{greatest_journal}
use Rattle.sc_seen.specs.declared.board.BoardEntry.{BoardEntry}
use Rattle.sc_seen.specs.declared.board.BoardEntry.TheVariants as board
use Rattle.sc_seen.specs.Board.{board_map, running_split, board_owed, MayNote, IsLegalBoard}

-- a journal with no entries is legal, and so is a legal one with an entry more that may come after it
abbrev pub BoardGrowsByWhatMayCome : Type 0
BoardGrowsByWhatMayCome = (first : List Slice) → IsLegalBoard first []
    × ((entries : List BoardEntry) (one : BoardEntry) → IsLegalBoard first entries → MayNote first entries one
    → IsLegalBoard first (entries ++ one ∷ []))

-- a prefix of a legal journal is legal
abbrev pub HasLegalBoardPrefixes : Type 0
HasLegalBoardPrefixes = (first : List Slice) (entries more : List BoardEntry) → IsLegalBoard first (entries ++ more)
    → IsLegalBoard first entries

-- the slices after a legal journal are those of a cluster, and some are being made exactly while a split runs
abbrev pub BoardsKeepAMap : Type 0
BoardsKeepAMap = (first : List Slice) (entries : List BoardEntry) → IsMap first → forming first ≡ [] → IsLegalBoard first entries
    → IsMap (board_map first entries) × ((running_split entries ≡ None) ↔ (forming (board_map first entries) ≡ []))

-- The split that runs after the entries is that of the plan, which began at the place: nothing came after that, or only that the
-- slices that it makes are recovered. Those are the subs of the plan's parent.
pub record IsRunningSplit (first : List Slice) (entries : List BoardEntry) (place : ℕ) (plan : SplitPlan) : Type 0 where
  pub before : List BoardEntry
  pub later : List BoardEntry
  pub entries_are : entries ≡ before ++ board.Begun plan ∷ later
  pub place_is : place ≡ length before
  pub few : length later ≤ 1
  pub split : IsBeingSplit (board_map first entries) plan.parent

-- where a split runs after a legal journal, it began by an entry at that place
abbrev pub BoardsRunOneSplit : Type 0
BoardsRunOneSplit = (first : List Slice) (entries : List BoardEntry) (place : ℕ) → IsMap first → forming first ≡ []
    → IsLegalBoard first entries → running_split entries ≡ Some place → (plan : SplitPlan) × IsRunningSplit first entries place plan

-- once a split has begun, its slices may be recovered, and it may fail; once they are recovered, it may be done, and it may fail
abbrev pub BoardsGoOn : Type 0
BoardsGoOn = (first : List Slice) (entries : List BoardEntry) (plan : SplitPlan) → IsMap first → forming first ≡ []
    → (let begun = entries ++ board.Begun plan ∷ [] in
    IsLegalBoard first begun
    → MayNote first begun (board.Recovering plan.parent) × MayNote first begun (board.Failed plan.parent))
    × (let recovered = entries ++ board.Begun plan ∷ board.Recovering plan.parent ∷ [] in
    IsLegalBoard first recovered
    → MayNote first recovered (board.Done plan.parent) × MayNote first recovered (board.Failed plan.parent))

-- no id is above the greatest at first by more than the most slices for each entry, so that each is below 2^32 while the journal may grow
abbrev pub BoardsCountIdsUp : Type 0
BoardsCountIdsUp = (first : List Slice) (entries : List BoardEntry) → IsMap first → forming first ≡ [] → IsLegalBoard first entries
    → (greatest_id (board_map first entries) ≤ greatest_id first + most_slices * length entries)
    × (greatest_id first < most_slices → length entries < greatest_journal → greatest_id (board_map first entries) < 2 ^ 32)

-- a split that failed leaves the slices as they were before it began, whether it came to recover them or not
abbrev pub FailedLeavesTheMap : Type 0
FailedLeavesTheMap = (first : List Slice) (entries : List BoardEntry) (plan : SplitPlan)
    → MayNote first entries (board.Begun plan)
    → (board_map first (entries ++ board.Begun plan ∷ board.Failed plan.parent ∷ []) ≡ board_map first entries)
    × (board_map first (entries ++ board.Begun plan ∷ board.Recovering plan.parent ∷ board.Failed plan.parent ∷ [])
    ≡ board_map first entries)

-- what a board owes after an entry: a split that begins makes it owe three entries more, each entry of it that comes takes one of
-- them off, and where it fails what is left of them; one that drops a slice takes one off; and one that says who leads owes as before
abbrev pub BoardsOweEntries : Type 0
BoardsOweEntries = (first : List Slice) (entries : List BoardEntry) (plan : SplitPlan) (slice : SliceId) (replica : ℕ)
    → IsMap first → forming first ≡ [] → IsLegalBoard first entries
    → (MayNote first entries (board.Begun plan)
    → board_owed first (entries ++ board.Begun plan ∷ []) ≡ board_owed first entries + 3)
    × (MayNote first entries (board.Recovering slice)
    → board_owed first (entries ++ board.Recovering slice ∷ []) + 1 ≡ board_owed first entries)
    × (MayNote first entries (board.Done slice)
    → board_owed first (entries ++ board.Done slice ∷ []) + 1 ≡ board_owed first entries)
    × (MayNote first entries (board.Failed slice)
    → board_owed first (entries ++ board.Failed slice ∷ []) + 2 ≤ board_owed first entries)
    × (MayNote first entries (board.Dropped slice)
    → board_owed first (entries ++ board.Dropped slice ∷ []) + 1 ≡ board_owed first entries)
    × (MayNote first entries (board.Led slice replica)
    → board_owed first (entries ++ board.Led slice replica ∷ []) ≡ board_owed first entries)
