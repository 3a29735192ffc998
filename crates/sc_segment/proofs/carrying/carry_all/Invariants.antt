-- What is carried of the keys that were passed, of both indexes.
use Rattle.std.proofs.Common.{◌≡◌, ◌≤◌, [], ◌++◌, length, take}
use Rattle.sc_segment.specs.Carrying.{AreBefore}
use Rattle.sc_segment.specs.Storing.{IsCarriedAt}
use Rattle.sc_segment.proofs.carrying.carry_all.Given as goal

abbrev pub invariant-adding : goal.invariant-adding
invariant-adding g l = record {
  none : l.index.pending ≡ [];
  within : l.from ≤ length l.old.entries;
  before : AreBefore g.K.Key.order (take l.at l.added.entries) l.old.entries l.from;
  passed : AreBefore g.K.Key.order (take l.from l.old.entries) l.added.entries l.at;
  carried : IsCarriedAt g.K.Key.order (l.old.stored ++ l.added.stored) l.moved (take l.from l.old.entries) (take l.at l.added.entries) l.index.entries;
}
