-- Of each place it is marked whether an entry so far settles it.
use Rattle.std.proofs.Common.{◌≡◌, ℕ, ◌<◌, false, length, get_or, take}
use Rattle.sc_journal.specs.Journal.{is_settled}
use Rattle.sc_restored.proofs.unsettled.settled_places.Given as goal

abbrev pub invariant-loop-entry : goal.invariant-loop-entry
invariant-loop-entry l = record {
  as_long : length l.marks.items ≡ length l.entries;
  marked : (k : ℕ) → k < length l.entries → get_or l.marks.items k false ≡ is_settled (take l.entry-index l.entries) k;
}
