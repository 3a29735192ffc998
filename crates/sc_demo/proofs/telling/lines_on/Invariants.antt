-- The home of the desk is the collection.
use Rattle.std.specs.Prelude.{Some}
use Rattle.sc_demo.proofs.telling.lines_on.Given as goal

-- the home is the collection
abbrev pub ghosts-count_at : goal.ghosts-count_at
ghosts-count_at g a = record { locks = Some a.collection.now }
