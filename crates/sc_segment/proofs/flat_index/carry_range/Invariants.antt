-- What is carried of the keys that were passed, the rows that stand ahead of their keys, and the room for those that are left.
use Rattle.std.proofs.Common.{ℕ, ◌+◌, ◌^◌, ◌<◌, ◌≤◌, List, ◌++◌, length, take, vec_len, vec_capacity}
use Rattle.sc_segment.proofs.AheadLemmas.{IsAhead}
use Rattle.sc_segment.specs.Carrying.{AreBefore}
use Rattle.sc_segment.specs.Flat.{IsLaidOut, AreAllClosed, entries_from, rows_among}
use Rattle.sc_segment.specs.Storing.{IsCarriedAt}
use Rattle.sc_segment.proofs.flat_index.carry_range.Given as goal

abbrev pub invariant-carrying : goal.invariant-carrying
invariant-carrying g l = record {
  ahead : IsAhead l.moved l.old_rows (rows_among (take l.at l.old.entries)) l.passed l.start l.rows.items;
  laid_out : IsLaidOut l.places.items l.ends.items (take l.start l.rows.items);
  none : AreAllClosed l.ends.items (take l.start l.rows.items);
  room_for_places : vec_len l.places + l.to ≤ vec_capacity l.places + l.at;
  room_for_ends : vec_len l.ends + l.to ≤ vec_capacity l.ends + l.at;
  room_for_rows : vec_len l.rows + length l.old_rows ≤ vec_capacity l.rows + l.passed;
  fits : vec_len l.rows + length l.old_rows < 2 ^ 32 + l.passed;
  carried : (more : List _) (before : List (_ × List ℕ)) → AreBefore g.K.Key.order before l.old.entries l.from
      → IsCarriedAt g.K.Key.order (l.old.stored ++ more) l.moved (take l.from l.old.entries) before (entries_from 0 l.fn.places.items l.fn.ends.items l.fn.rows.items)
      → IsCarriedAt g.K.Key.order (l.old.stored ++ more) l.moved (take l.at l.old.entries) before (entries_from 0 l.places.items l.ends.items (take l.start l.rows.items));
}
