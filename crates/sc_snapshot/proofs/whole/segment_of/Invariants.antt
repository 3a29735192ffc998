-- So far the terms of the first rows are filed.
use Rattle.std.proofs.Common.{◌≡◌, ◌≤◌, map, take}
use Rattle.std.specs.Arc.{arc_value}
use Rattle.sc_segment.specs.Index.{IsIndexOf}
use Rattle.sc_snapshot.specs.Postings.{key_order, keyed_rows}
use Rattle.sc_snapshot.proofs.whole.segment_of.Given as goal

abbrev pub invariant-loop-row : goal.invariant-loop-row
invariant-loop-row l = record {
  index : IsIndexOf key_order (keyed_rows 0 (map arc_value (take l.row-index l.rows))) l.builder.index;
  number : l.number ≡ l.row-index;
  last_row : l.builder.last_row ≤ l.number;
}
