-- How the entries that a bucket's keeper made go with those of the board.
use Rattle.std.specs.Prelude.{◌≡◌, Bool, true, false, not, List, [], ◌∷◌, filter}
use Rattle.std.specs.List.{flat_map}
use Rattle.sc_record.specs.declared.slice.SliceId.{SliceId}
use Rattle.sc_record.specs.declared.entry.Entry.{Entry}
use Rattle.sc_record.specs.declared.entry.Entry.TheVariants as entry
use Rattle.sc_cluster.specs.declared.plan.SplitPlan.{SplitPlan}
use Rattle.sc_seen.specs.declared.board.BoardEntry.{BoardEntry}
use Rattle.sc_seen.specs.declared.board.BoardEntry.TheVariants as board

-- what was done of a whole collection, and what came of it in one bucket
pub data Round : Type 0 where
  -- a split was done, and so it was in the bucket
  done : SplitPlan → Round
  -- a split failed, after its slices were recovered or before; in the bucket it had begun, and failed there too, or had not
  failed : SplitPlan → (recovered begun : Bool) → Round
  -- an inactive slice was dropped, and so it was in the bucket
  dropped : SliceId → Round

-- the entries of the board that say so
abbrev pub board_entries : Round → List BoardEntry
board_entries (done plan) = board.Begun plan ∷ board.Recovering plan.parent ∷ board.Done plan.parent ∷ []
board_entries (failed plan true begun) = board.Begun plan ∷ board.Recovering plan.parent ∷ board.Failed plan.parent ∷ []
board_entries (failed plan false begun) = board.Begun plan ∷ board.Failed plan.parent ∷ []
board_entries (dropped slice) = board.Dropped slice ∷ []

-- the entries of the bucket that its keeper made
abbrev pub bucket_entries : Round → List Entry
bucket_entries (done plan) = entry.Begun plan.parent plan.subs ∷ entry.Switched plan.parent ∷ []
bucket_entries (failed plan recovered true) = entry.Begun plan.parent plan.subs ∷ entry.Failed plan.parent ∷ []
bucket_entries (failed plan recovered false) = []
bucket_entries (dropped slice) = entry.Dropped slice ∷ []

-- the entry of a bucket says of a core that it is up again, or that it leads
abbrev pub changes_cores : Entry → Bool
changes_cores (entry.Up core) = true
changes_cores (entry.Led core) = true
changes_cores _ = false

-- the entry of a bucket goes with those of the board: it says nothing of who serves
abbrev pub is_of_rounds : Entry → Bool
is_of_rounds one = not (changes_cores one)

-- the entry of the board goes with those of the buckets: it doesn't say who leads
abbrev pub notes_rounds : BoardEntry → Bool
notes_rounds (board.Led slice replica) = false
notes_rounds _ = true

-- The entries that a bucket's keeper made are those that go with the board's, and no other but those that say of a core that it is up
-- again or leads: of each split that was done Begun and Switched, of each that failed Begun and Failed or nothing, and of each slice
-- that was dropped Dropped. Those of the board that say who leads go with none.
abbrev pub GoTogether : List BoardEntry → List Entry → Type 0
GoTogether entries own = (rounds : List Round) × (filter notes_rounds entries ≡ flat_map board_entries rounds)
    × (filter is_of_rounds own ≡ flat_map bucket_entries rounds)
