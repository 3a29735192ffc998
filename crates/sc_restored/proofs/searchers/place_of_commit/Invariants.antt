-- So far it is the place of the last entry that commits.
use Rattle.std.proofs.Common.{◌≡◌, take}
use Rattle.sc_journal.specs.Committed.{last_commit}
use Rattle.sc_restored.proofs.searchers.place_of_commit.Given as goal

abbrev pub invariant-loop-place : goal.invariant-loop-place
invariant-loop-place l = l.last ≡ last_commit (take l.place l.entries)
