-- The cores are filled in the buckets so far, and nothing was done of the others.
use Rattle.std.proofs.Common.{◌≡◌}
use Rattle.sc_collection.specs.Known.{OfBuckets, IsSameIn}
use Rattle.sc_split.specs.Leaving.{known, HoldsBuckets}
use Rattle.sc_split.specs.Stages.{OpenSplit, Stage, IsAtStage, filled}
use Rattle.sc_split.proofs.building.fill_all.Given as goal

abbrev pub invariant-loop-b : goal.invariant-loop-b
invariant-loop-b g l = record {
  leaves : HoldsBuckets g.D.Desk l.fn.desk l.fn.keepers l.desk l.keepers;
  filled : (split : OpenSplit) (stage : Stage) → stage.to_fill ≡ l.cores
      → OfBuckets 0 (g.D.Desk.layout l.fn.desk).buckets (IsAtStage split stage (known g.D.Desk l.fn.desk l.fn.keepers))
      → OfBuckets 0 l.b (IsAtStage split (filled stage) (known g.D.Desk l.desk l.keepers));
  same : OfBuckets l.b (g.D.Desk.layout l.fn.desk).buckets (IsSameIn (known g.D.Desk l.fn.desk l.fn.keepers)
      (known g.D.Desk l.desk l.keepers));
  stops : g.P.Pace.stops l.pace ≡ g.P.Pace.stops l.fn.pace;
}
