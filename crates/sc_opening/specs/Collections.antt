-- What was done of a collection, by the journals of its buckets, which journals are of one collection, and what its board has of it.
use Rattle.std.specs.Prelude.{◌≡◌, ℕ, nat_lt, if◌then◌else◌, List, [], length, map, fold, take, slice_get, Some, All}
use Rattle.std.specs.List.{flat_map}
use mathlib.Core.List.{IsPrefix}
use Rattle.sc_record.specs.declared.entry.Entry.{Entry}
use Rattle.sc_cluster.specs.declared.slice.Slice.{Slice}
use Rattle.sc_journal.specs.Legal.{IsLegal}
use Rattle.sc_seen.specs.declared.board.BoardEntry.{BoardEntry}
use Rattle.sc_seen.specs.Rounds.{board_entries}
use Rattle.sc_opening.specs.declared.change.Change.{Change}
use Rattle.sc_opening.specs.Changes.{changes, round_of}
use Rattle.sc_opening.specs.Closed.{entries_of}

-- the longer of two lists, and the first where they are as long
abbrev pub longer : List Change → List Change → List Change
longer one other = if nat_lt (length one) (length other) then other else one

-- the longest of several lists, and the first of those that are as long; none where there is none
abbrev pub longest : List (List Change) → List Change
longest lists = fold longer [] lists

-- what was done of a collection: the longest of what the journals of its buckets say was done
abbrev pub longest_changes : List (List Entry) → List Change
longest_changes journals = longest (map changes journals)

-- what the journal says was done is a beginning of this
abbrev pub GoesWith : List Change → List Entry → Type 0
GoesWith done journal = IsPrefix (changes journal) done

-- the list of this number is the first that is no beginning of this
pub record IsFirstApart (done : List Change) (said : List (List Change)) (number : ℕ) : Type 0 where
  pub before : All (λ (one : List Change). IsPrefix one done) (take number said)
  pub one : List Change
  pub there : slice_get said number ≡ Some one
  pub apart : IsPrefix one done → ⊥

-- all this can be done of a bucket with this first map
abbrev pub CanBeDone : List Slice → List Change → Type 0
CanBeDone first done = IsLegal first (entries_of done)

-- what the board notes of it
abbrev pub board_of : List Change → List BoardEntry
board_of done = flat_map (λ (one : Change). board_entries (round_of one)) done
