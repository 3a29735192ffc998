-- No piece before the low place ends after the row, and the piece at the high place does.
use Rattle.std.proofs.Common.{◌+◌, ◌-◌, ◌<◌, ◌≤◌, length, take}
use Rattle.sc_snapshot.specs.Pieces.{rows_of}
use Rattle.sc_snapshot.proofs.pieces.place_near.Given as goal

abbrev pub invariant-seeking : goal.invariant-seeking
invariant-seeking l = record {
  order : l.low ≤ l.high;
  high : l.high ≤ length l.pieces;
  start : length (rows_of (take l.low l.pieces)) ≤ l.at;
  within : l.at < length (rows_of (take (l.high + 1) l.pieces));
}

abbrev pub decreases-seeking : goal.decreases-seeking
decreases-seeking l = l.high - l.low
