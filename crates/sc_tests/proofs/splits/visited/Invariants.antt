-- The home of the desk is the collection.
use Rattle.std.specs.Prelude.{Some}
use Rattle.sc_tests.proofs.splits.visited.Given as goal

abbrev pub ghosts-visited_at : goal.ghosts-visited_at
ghosts-visited_at g a = record { locks = Some a.collection.now }
