-- No key that is told to stay compares equal to a lost key that was passed, and the lost keys that are left are above the keys that were passed.
use Rattle.std.proofs.Common.{◌≡◌, ℕ, ◌<◌, ◌≤◌, false, true, length, slice_get, Some}
use Rattle.std.specs.declared.cmp.Ordering.TheVariants.{Greater}
use Rattle.std.specs.Map.{keys_of}
use Rattle.std.specs.Ordering.{is_eq}
use Rattle.sc_segment.proofs.staying.leave_lost.Given as goal

abbrev pub invariant-seeking : goal.invariant-seeking
invariant-seeking g l = record {
  as_long : length l.stays ≡ length l.fn.stays;
  within : l.from ≤ length l.old.entries;
  passed : (i : ℕ) (k : _) → i < l.from → slice_get (keys_of l.old.entries) i ≡ Some k → (j : ℕ) (m : _) → l.at ≤ j → slice_get (keys_of l.lost.entries) j ≡ Some m → g.K.Key.order m k ≡ Greater;
  apart : (i : ℕ) (k : _) → slice_get (keys_of l.old.entries) i ≡ Some k → slice_get l.stays i ≡ Some true → (j : ℕ) (m : _) → j < l.at → slice_get (keys_of l.lost.entries) j ≡ Some m
      → is_eq (g.K.Key.order m k) ≡ false;
}
