-- The tops that were put are those of the blocks that were passed.
use Rattle.std.proofs.Common.{◌≡◌, ℕ, ◌+◌, ◌*◌, ◌<◌, length, slice_get}
use Rattle.sc_keys.proofs.keys.tops_of.Given as goal

abbrev pub invariant-loop-block : goal.invariant-loop-block
invariant-loop-block l = record {
  as_long : length l.tops.items ≡ l.block;
  each : (j : ℕ) → j < l.block → slice_get l.tops.items j ≡ slice_get l.heads (32 * j + 31);
}
