-- The entries that were read are spelled in front of what is left.
use Rattle.std.proofs.Common.{◌<◌, map, length}
use Rattle.std.specs.Prelude.{All}
use Rattle.sc_frames.specs.Stored.{stored}
use Rattle.sc_journal.specs.Computed.{HasComputed}
use Rattle.sc_frames.proofs.BodyLemmas.{AreFirst}
use Rattle.sc_frames.proofs.read.read_body.Given as goal

abbrev pub invariant-loop-rest : goal.invariant-loop-rest
invariant-loop-rest l = (0 < length l.body) × AreFirst l.body (map stored l.entries) l.rest × All HasComputed l.entries

abbrev pub decreases-loop-rest : goal.decreases-loop-rest
decreases-loop-rest l = length l.rest
