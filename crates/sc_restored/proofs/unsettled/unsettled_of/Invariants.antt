-- The places so far, and those of the rest that no entry of the journal settles, are all that are not settled.
use Rattle.std.proofs.Common.{◌≡◌, ◌++◌, drop}
use Rattle.sc_journal.specs.Journal.{unsettled}
use Rattle.sc_restored.proofs.UnsettledLemmas.{unsettled_rest}
use Rattle.sc_restored.proofs.unsettled.unsettled_of.Given as goal

abbrev pub invariant-loop-i : goal.invariant-loop-i
invariant-loop-i l = l.places.places ++ unsettled_rest l.entries l.i (drop l.i l.entries) ≡ unsettled l.entries
