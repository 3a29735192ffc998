-- So far those were joined that were taken off the end, and those that are left are as they were.
use Rattle.std.proofs.Common.{◌≡◌, ◌<◌, ◌≤◌, ℕ, length, slice_get, vec_len}
use Rattle.sc_shared.specs.PassCalls.{ArePassesJoined}
use Rattle.sc_shared.proofs.passes.join_each.Given as goal

abbrev pub invariant-loop-pass : goal.invariant-loop-pass
invariant-loop-pass l = record {
  few : length l.from.items ≤ length l.locks.items;
  left : (number : ℕ) → number < length l.from.items → slice_get l.from.items number ≡ slice_get l.fn.from.items number;
  joined : ArePassesJoined (length l.from.items) l.locks.items l.fn.into.items l.fn.from.items l.into.items;
}

abbrev pub decreases-loop-pass : goal.decreases-loop-pass
decreases-loop-pass l = vec_len l.from
