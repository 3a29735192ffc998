-- So far the entries that were taken stand in the journal.
use Rattle.std.proofs.Common.{◌≡◌, ◌++◌, Some}
use Rattle.sc_restored.proofs.bucket.journal_of.Given as goal

abbrev pub invariant-loop-entry : goal.invariant-loop-entry
invariant-loop-entry l = record {
  entries : l.journal.entries ≡ l.yielded;
  left : l.yielded ++ l.entry-iterator.rest.items ≡ l.fn.entries;
  filed : l.journal.filed ≡ Some 0;
}
