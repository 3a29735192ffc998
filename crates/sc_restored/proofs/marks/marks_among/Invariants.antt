-- So far those of the first entries are taken.
use Rattle.std.proofs.Common.{◌≡◌, take, filter}
use Rattle.sc_restored.specs.Marks.{is_mark}
use Rattle.sc_restored.proofs.marks.marks_among.Given as goal

abbrev pub invariant-loop-entry : goal.invariant-loop-entry
invariant-loop-entry l = l.marks.items ≡ filter is_mark (take l.entry-index l.entries)
