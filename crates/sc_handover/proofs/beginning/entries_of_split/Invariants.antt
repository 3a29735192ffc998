-- So far the entries are those of the subs gone by.
use Rattle.std.proofs.Common.{◌≡◌, ◌+◌, ◌*◌, ◌≤◌, take}
use Rattle.sc_journal.specs.Splits.{entries_of_split}
use Rattle.sc_handover.proofs.beginning.entries_of_split.Given as goal

abbrev pub invariant-loop-sub : goal.invariant-loop-sub
invariant-loop-sub l = record {
  count : l.entries ≡ entries_of_split (take l.sub-index l.subs);
  most : l.entries ≤ 3 + 255 * l.sub-index;
}
