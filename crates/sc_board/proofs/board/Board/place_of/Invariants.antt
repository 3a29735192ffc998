-- So far no slice has the id.
use Rattle.std.proofs.Common.{◌≢◌, take, All}
use Rattle.sc_cluster.specs.declared.slice.Slice.{Slice}
use Rattle.sc_board.proofs.board.Board.place_of.Given as goal

abbrev pub invariant-loop-at : goal.invariant-loop-at
invariant-loop-at g l = All (λ (slice : Slice). slice.id ≢ l.id) (take l.at l.self.map)
