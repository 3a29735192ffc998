-- The buckets so far are switched, and nothing was done of the others.
use Rattle.std.proofs.Common.{ℕ}
use mathlib.Core.List.{IsPrefix}
use Rattle.sc_collection.specs.Known.{OfBuckets, IsSameIn}
use Rattle.sc_split.specs.Leaving.{known, HoldsBuckets}
use Rattle.sc_split.specs.Stages.{OpenSplit, IsAtStage, IsDoneIn, whole}
use Rattle.sc_split.proofs.ending.switch_all.Given as goal

abbrev pub invariant-loop-b : goal.invariant-loop-b
invariant-loop-b g l = record {
  leaves : HoldsBuckets g.D.Desk l.fn.desk l.fn.keepers l.desk l.keepers;
  went_on : (lock : ℕ) → IsPrefix ((g.D.Desk.seen l.fn.desk).journals lock) ((g.D.Desk.seen l.desk).journals lock);
  switched : (split : OpenSplit)
      → OfBuckets 0 (g.D.Desk.layout l.fn.desk).buckets (IsAtStage split (whole split.plan) (known g.D.Desk l.fn.desk l.fn.keepers))
      → OfBuckets 0 l.b (IsDoneIn split (known g.D.Desk l.desk l.keepers));
  same : OfBuckets l.b (g.D.Desk.layout l.fn.desk).buckets (IsSameIn (known g.D.Desk l.fn.desk l.fn.keepers)
      (known g.D.Desk l.desk l.keepers));
}
