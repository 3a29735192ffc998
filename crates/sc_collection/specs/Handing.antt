-- What a desk leaves that handed out a bucket or the board, and that took the board back.
use Rattle.std.specs.Prelude.{◌≡◌, List, Some, None}
use mathlib.Core.List.{IsPrefix}
use Rattle.sc_seen.specs.declared.board.BoardEntry.{BoardEntry}
use Rattle.sc_seen.specs.Seen.{Layout, Seen, AreLegal}
use Rattle.sc_bucket.specs.Sound.{IsSound}
use Rattle.sc_board.specs.declared.board.Board.{Board}
use Rattle.sc_board.specs.Boards.{IsSoundBoard}
use Rattle.sc_collection.specs.Desks.{Out, Held, IsBucketOf, IsBoardOf, SeesBoardGiven, OwnsSplit}

-- a desk at one moment: how the collection is laid out, what was seen of it, and what is out
pub record DeskState : Type 0 where
  pub layout : Layout
  pub seen : Seen
  pub out : Out

-- a desk that reports these
abbrev pub desk_state : Layout → Seen → Out → DeskState
desk_state layout seen out = record { layout = layout; seen = seen; out = out }

-- a bucket was handed out: it is sound, is the one of its number and extends what was seen of it
pub record HandsOut (held : Held) (old new : DeskState) : Type 0 where
  pub sound : IsSound held.bucket
  pub is_of : IsBucketOf old.layout held.number held.bucket
  pub extends : IsPrefix (old.seen.journals held.number) held.bucket.journal.entries
  pub out : new.out ≡ record old.out { bucket = Some held }
  pub seen : new.seen ≡ old.seen
  pub legal : AreLegal new.layout new.seen
  pub layout : new.layout ≡ old.layout

-- The board was handed out: it is sound, is the collection's and extends what was seen of it. Whoever began the split that runs finds it as
-- he left it.
pub record HandsOutBoard {K : Type 0} (board : Board K) (old new : DeskState) : Type 0 where
  pub sound : IsSoundBoard board
  pub is_of : IsBoardOf old.layout board.first board.limit
  pub extends : IsPrefix old.seen.board board.journal.entries
  pub as_left : OwnsSplit old.layout old.seen → board.journal.entries ≡ old.seen.board
  pub out : new.out ≡ record old.out { board = Some board.journal.entries }
  pub seen : new.seen ≡ old.seen
  pub legal : AreLegal new.layout new.seen
  pub layout : new.layout ≡ old.layout

-- the board, which was out, was taken back with these entries
pub record TakesBackBoard (given : List BoardEntry) (old new : DeskState) : Type 0 where
  pub seen : (entries : List BoardEntry) → old.out.board ≡ Some entries → SeesBoardGiven old.layout entries given old.seen new.seen
  pub out : new.out ≡ record old.out { board = None }
  pub legal : AreLegal new.layout new.seen
  pub layout : new.layout ≡ old.layout
