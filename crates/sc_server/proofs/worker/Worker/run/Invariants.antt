-- The home of the worker's desk is the worker's collection.
use Rattle.std.specs.Prelude.{Some}
use Rattle.sc_server.proofs.worker.Worker.run.Given as goal

-- the home is the worker's collection
abbrev pub ghosts-run_at : goal.ghosts-run_at
ghosts-run_at g a = record { locks = Some a.worker.now.collection.now }
