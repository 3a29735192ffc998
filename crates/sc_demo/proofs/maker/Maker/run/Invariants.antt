-- The home of the maker's desk is the maker's collection.
use Rattle.std.specs.Prelude.{Some}
use Rattle.sc_demo.proofs.maker.Maker.run.Given as goal

-- the home is the maker's collection
abbrev pub ghosts-run_at : goal.ghosts-run_at
ghosts-run_at g a = record { locks = Some a.maker.now.collection.now }
