-- The first entries were passed, and are a legal journal.
use Rattle.std.proofs.Common.{◌≡◌, take}
use Rattle.sc_journal.specs.Legal.{IsLegal}
use Rattle.sc_legal.proofs.whole.check_all.Given as goal

abbrev pub invariant-loop-place : goal.invariant-loop-place
invariant-loop-place l =
    (l.checker.first ≡ l.map) × (l.checker.journal ≡ take l.place l.entries) × IsLegal l.map l.checker.journal
