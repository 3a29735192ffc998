-- The count is a blank one.
use Rattle.sc_examples.proofs.state.put_searcher.Given as goal

abbrev pub ghosts-put_rows : goal.ghosts-put_rows
ghosts-put_rows a = record { name = a.blank.name; parts = a.blank.parts }
