-- The entries so far have what is computed of them.
use Rattle.std.proofs.Common.{All}
use Rattle.sc_journal.specs.Computed.{HasComputed}
use Rattle.sc_tests.proofs.legal.entries_of.Given as goal

abbrev pub invariant-loop-text : goal.invariant-loop-text
invariant-loop-text l = All HasComputed l.entries.items
