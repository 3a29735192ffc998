-- The home of both desks is the collection of the test.
use Rattle.std.specs.Prelude.{Some}
use Rattle.sc_tests.proofs.collections.each_bucket_has_a_lock_of_its_own.Given as goal

abbrev pub ghosts-entries_by_two : goal.ghosts-entries_by_two
ghosts-entries_by_two g a = record { locks = Some a.collection.now }
