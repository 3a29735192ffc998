-- The buckets so far are ready, and nothing was done of the others.
use Rattle.sc_collection.specs.Known.{OfBuckets, IsSameIn}
use Rattle.sc_split.specs.Leaving.{known, HoldsBuckets}
use Rattle.sc_split.specs.Stages.{OpenSplit, IsAtStage, leaders_filled, recovering}
use Rattle.sc_split.proofs.building.ready_all.Given as goal

abbrev pub invariant-loop-b : goal.invariant-loop-b
invariant-loop-b g l = record {
  leaves : HoldsBuckets g.D.Desk l.fn.desk l.fn.keepers l.desk l.keepers;
  ready : (split : OpenSplit)
      → OfBuckets 0 (g.D.Desk.layout l.fn.desk).buckets (IsAtStage split (leaders_filled split.plan) (known g.D.Desk l.fn.desk l.fn.keepers))
      → OfBuckets 0 l.b (IsAtStage split (recovering split.plan) (known g.D.Desk l.desk l.keepers));
  same : OfBuckets l.b (g.D.Desk.layout l.fn.desk).buckets (IsSameIn (known g.D.Desk l.fn.desk l.fn.keepers)
      (known g.D.Desk l.desk l.keepers));
}
