-- The passes are of the collection, which is the home of each desk.
use Rattle.std.specs.Prelude.{Some}
use Rattle.sc_shared.specs.Sharing.{ArePasses}
use Rattle.sc_tests.proofs.collections.commit_often.Given as goal

abbrev pub ghosts-commit : goal.ghosts-commit
ghosts-commit g a = record { locks = Some a.collection.now }

abbrev pub invariant-loop : goal.invariant-loop
invariant-loop g l = ArePasses l.collection l.passes
