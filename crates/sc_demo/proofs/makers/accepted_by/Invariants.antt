-- So far the accepted orders of the first makers are counted.
use Rattle.std.proofs.Common.{◌≡◌, ◌≤◌, ◌*◌, take}
use Rattle.std.specs.List.{sum_by}
use Rattle.sc_demo.specs.Making.{accepted_in}
use Rattle.sc_demo.specs.declared.maker.Maker.{Maker}
use Rattle.sc_demo.proofs.makers.accepted_by.Given as goal

abbrev pub invariant-loop-maker : goal.invariant-loop-maker
invariant-loop-maker g l = record {
  sum : l.accepted ≡ sum_by (λ maker. accepted_in maker.made) (take l.maker-index l.makers);
  few : l.accepted ≤ l.maker-index * 100000;
}
