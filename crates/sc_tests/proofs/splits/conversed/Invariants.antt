-- The home of the desk is the collection.
use Rattle.std.specs.Prelude.{Some}
use Rattle.sc_tests.proofs.splits.conversed.Given as goal

abbrev pub ghosts-conversed_at : goal.ghosts-conversed_at
ghosts-conversed_at g a = record { locks = Some a.collection.now }
