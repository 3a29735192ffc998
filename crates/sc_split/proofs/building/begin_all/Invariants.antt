-- The split has begun in the buckets so far, and nothing was done of the others.
use Rattle.std.proofs.Common.{◌≡◌}
use Rattle.sc_collection.specs.Known.{OfBuckets, IsSameIn}
use Rattle.sc_split.specs.Leaving.{known, begun_from, HoldsBuckets}
use Rattle.sc_split.specs.Stages.{IsAtStage, building}
use Rattle.sc_split.proofs.building.begin_all.Given as goal

abbrev pub invariant-loop-b : goal.invariant-loop-b
invariant-loop-b g l = record {
  leaves : HoldsBuckets g.D.Desk l.fn.desk l.fn.keepers l.desk l.keepers;
  begun : l.begun ≡ l.b;
  opened : OfBuckets 0 l.b (IsAtStage (begun_from g.D.Desk l.fn.desk l.fn.keepers l.plan)
      (building l.plan) (known g.D.Desk l.desk l.keepers));
  same : OfBuckets l.b (g.D.Desk.layout l.fn.desk).buckets (IsSameIn (known g.D.Desk l.fn.desk l.fn.keepers)
      (known g.D.Desk l.desk l.keepers));
  stops : g.P.Pace.stops l.pace ≡ g.P.Pace.stops l.fn.pace;
}
