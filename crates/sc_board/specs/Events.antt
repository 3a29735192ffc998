-- What a call changes of a board, and that all else stays.
use Rattle.std.specs.Prelude.{◌≡◌, [], ◌∷◌, ◌++◌, Some, None, Result, IfOk, IfErr, OnOk, OnErr}
use Rattle.sc_cluster.specs.declared.plan.SplitPlan.{SplitPlan}
use Rattle.sc_seen.specs.Board.{after_entry}
use Rattle.sc_seen.specs.declared.board.BoardEntry.{BoardEntry}
use Rattle.sc_seen.specs.declared.board.BoardEntry.TheVariants as board
use Rattle.sc_board.specs.declared.board.Board.{Board}
use Rattle.sc_board.specs.declared.fault.BoardFault.{BoardFault}
use Rattle.sc_board.specs.Boards.{IsSoundBoard}
use Rattle.sc_board.specs.Splits.{AskedSplit, Prevents, IsRefusal, IsPlanOf, board_basis}

-- the entry comes to the end of the journal, and changes the map where it stands for a change
pub record Notes {K : Type 0} (old : Board K) (one : BoardEntry) (new : Board K) : Type 0 where
  pub first_is : new.first ≡ old.first
  pub limit_is : new.limit ≡ old.limit
  pub entries : new.journal.entries ≡ old.journal.entries ++ one ∷ []
  pub map_is : new.map ≡ after_entry old.map one

-- nothing was changed but room in memory
pub record IsSameBoardButRoom {K : Type 0} (old new : Board K) : Type 0 where
  pub first_is : new.first ≡ old.first
  pub limit_is : new.limit ≡ old.limit
  pub entries : new.journal.entries ≡ old.journal.entries
  pub map_is : new.map ≡ old.map
  pub leaders_are : new.leaders ≡ old.leaders
  pub owed_is : new.owed ≡ old.owed
  pub keepers_are : new.keepers ≡ old.keepers

-- A split that was asked for was begun, and its plan and the keepers were handed out, or it was refused: where it was begun no cause
-- stood against it.
pub record BeginsSplit {K : Type 0} (asked : AskedSplit) (old new : Board K) (answer : Result (SplitPlan × K) BoardFault) : Type 0 where
  pub sound : IsSoundBoard new
  pub plan : IfOk answer (λ begun. IsPlanOf old.first old.journal.entries asked begun.0)
  pub begun : IfOk answer (λ begun. Notes old (board.Begun begun.0) new)
  pub keepers : IfOk answer (λ begun. old.keepers ≡ Some begun.1)
  pub handed_out : OnOk answer (new.keepers ≡ None)
  pub allowed : OnOk answer ((cause : BoardFault) → ¬ Prevents (board_basis old) old.journal.entries asked cause)
  pub refused : IfErr answer (IsRefusal old.first old.limit old.journal.entries asked)
  pub same : OnErr answer (IsSameBoardButRoom old new)
