-- The ledger of the test is its blank one.
use Rattle.sc_tests.proofs.segments.compares_at_most_ten_of_a_thousand_keys.Given as goal

abbrev pub ghosts-finds_among_many : goal.ghosts-finds_among_many
ghosts-finds_among_many g a = record { name = a.blank.name; parts = a.blank.parts }
