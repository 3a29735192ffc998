-- The ledger of the test is its blank one.
use Rattle.sc_tests.proofs.heads.compares_at_most_three_keys_of_one_head.Given as goal

abbrev pub ghosts-finds_each : goal.ghosts-finds_each
ghosts-finds_each g a = record { name = a.blank.name; parts = a.blank.parts }
