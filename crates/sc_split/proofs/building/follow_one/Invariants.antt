-- The first of the further cores have joined, and are to be filled.
use Rattle.sc_split.specs.Leaving.{known, LeavesWith}
use Rattle.std.proofs.Common.{◌≡◌, take}
use Rattle.sc_split.specs.Buckets.{LeavesOthers}
use Rattle.sc_split.specs.Stages.{OpenSplit, IsOpenIn, IsAtStage, recovering, further_cores_of}
use Rattle.sc_split.proofs.FurtherLemmas.{joining}
use Rattle.sc_split.proofs.building.follow_one.Given as goal

abbrev pub invariant-loop-core : goal.invariant-loop-core
invariant-loop-core g l = record {
  leaves : LeavesWith g.D.Desk l.fn.desk l.desk l.keepers;
  others : LeavesOthers l.b (known g.D.Desk l.fn.desk l.fn.keepers)
      (known g.D.Desk l.desk l.keepers);
  opened : (split : OpenSplit) → IsOpenIn split (known g.D.Desk l.fn.desk l.fn.keepers) l.b
      → IsOpenIn split (known g.D.Desk l.desk l.keepers) l.b;
  joined : (split : OpenSplit) → further_cores_of split.plan ≡ l.cores
      → IsAtStage split (recovering split.plan) (known g.D.Desk l.fn.desk l.fn.keepers) l.b
      → IsAtStage split (joining split.plan (take l.core-index l.cores)) (known g.D.Desk l.desk l.keepers) l.b;
  stops : g.P.Pace.stops l.pace ≡ g.P.Pace.stops l.fn.pace;
}
