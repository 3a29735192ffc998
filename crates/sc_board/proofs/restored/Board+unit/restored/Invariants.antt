-- The board follows the entries so far, and has room for those that are left.
use Rattle.std.proofs.Common.{◌≡◌, ◌≤◌, ◌++◌, length, Some}
use Rattle.std.specs.Vec.Iter.{into_iter_items, into_iter_len}
use Rattle.sc_board.specs.Restored.{IsFollowing}
use Rattle.sc_board.proofs.restored.Board+unit.restored.Given as goal

abbrev pub invariant-loop-one : goal.invariant-loop-one
invariant-loop-one l = record {
  follows : IsFollowing l.board;
  first_is : l.board.first ≡ l.fn.first;
  limit_is : l.board.limit ≡ l.limit;
  entries : l.board.journal.entries ++ into_iter_items l.one-iterator ≡ l.fn.journal;
  room : length (into_iter_items l.one-iterator) ≤ l.board.journal.room;
  left : into_iter_len l.one-iterator ≡ length (into_iter_items l.one-iterator);
  keepers : l.board.keepers ≡ Some tt;
}
