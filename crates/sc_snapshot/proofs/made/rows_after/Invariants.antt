-- So far the rows up to the first edits are counted.
use Rattle.std.proofs.Common.{drop}
use Rattle.sc_snapshot.specs.Edits.{edited, IsRest}
use Rattle.sc_snapshot.proofs.made.rows_after.Given as goal

abbrev pub invariant-loop-edit : goal.invariant-loop-edit
invariant-loop-edit l = IsRest l.old (edited l.old 0 l.edits) l.from l.number (drop l.edit-index l.edits)
