-- The home of both desks is the collection of the test.
use Rattle.std.specs.Prelude.{Some}
use Rattle.sc_tests.proofs.collections.two_threads_lose_no_commit.Given as goal

abbrev pub ghosts-entries_by_two : goal.ghosts-entries_by_two
ghosts-entries_by_two g a = record { locks = Some a.collection.now }
