-- So far each event came, or was passed over, and the bucket is sound.
use Rattle.std.proofs.Common.{take}
use Rattle.sc_bucket.specs.Sound.{IsSound}
use Rattle.sc_world.proofs.StepLemmas.{HasRun}
use Rattle.sc_world.proofs.run.run_events.Given as goal

abbrev pub invariant-loop-event : goal.invariant-loop-event
invariant-loop-event l = IsSound l.bucket × HasRun l.fn.bucket (take l.event-index l.events) l.bucket
