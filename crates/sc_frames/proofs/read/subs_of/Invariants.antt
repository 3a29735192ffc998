-- The slices that were read, and those that are left, are all slices.
use Rattle.std.proofs.Common.{◌≡◌, ◌-◌, map}
use Rattle.sc_frames.specs.Stored.{stored_sub}
use Rattle.sc_frames.specs.Reading.{subs_at}
use Rattle.sc_frames.proofs.SubLemmas.{with_first}
use Rattle.sc_frames.proofs.read.subs_of.Given as goal

abbrev pub invariant-loop : goal.invariant-loop
invariant-loop l = with_first (map stored_sub l.subs) (subs_at (l.count - l.counter) l.rest) ≡ subs_at l.count l.bytes
