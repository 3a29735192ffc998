-- What the passes of a thread have seen.
use Rattle.std.specs.Prelude.{ℕ, ◌==◌, ◌≤◌, List, [], length, slice_get, if◌then◌else◌, Option, Some, None, All}
use Rattle.sc_record.specs.declared.entry.Entry.{Entry}
use Rattle.sc_seen.specs.declared.board.BoardEntry.{BoardEntry}
use Rattle.sc_seen.specs.Seen.{Seen}
use Rattle.sc_keeper.specs.declared.part.Part.{Part}
use Rattle.sc_lock.specs.declared.pass.Pass.{Pass}
use Rattle.sc_lock.specs.Tokens.{seen, own_places, splits_left}
use Rattle.sc_shared.specs.declared.numbered.Numbered.{Numbered}
use Rattle.sc_shared.specs.declared.board.KeptBoard.{KeptBoard}
use Rattle.sc_shared.specs.declared.passes.Passes.{Passes}

-- the pass of one bucket, and that of the board
abbrev pub BucketPass : Type 0
BucketPass = Pass Numbered Entry Part

abbrev pub BoardPass : Type 0
BoardPass = Pass KeptBoard BoardEntry (Unit {0})

-- what this pass has seen; none has seen nothing
abbrev pub seen_in : Option BucketPass → List Entry
seen_in None = []
seen_in (Some pass) = seen pass

-- the places of its own entries
abbrev pub own_in : Option BucketPass → List ℕ
own_in None = []
own_in (Some pass) = own_places pass

-- what these passes have seen: by lock the journals of the buckets, that of the board, and the places of their own entries
abbrev pub seen_by : List BucketPass → BoardPass → Seen
seen_by passes board = record {
  journals = λ lock. seen_in (slice_get passes lock);
  board = seen board;
  own = λ lock. if lock == length passes then own_places board else own_in (slice_get passes lock);
}

-- what a thread's passes have seen
abbrev pub seen_of : Passes → Seen
seen_of passes = seen_by passes.buckets.items passes.board

-- so many passes may still be split off each of them
pub record CanSplit (splits : ℕ) (passes : Passes) : Type 0 where
  pub buckets : All (λ (pass : BucketPass). splits ≤ splits_left pass) passes.buckets.items
  pub board : splits ≤ splits_left passes.board
