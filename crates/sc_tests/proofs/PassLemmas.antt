-- How many passes may still be split off those of a thread.
use Rattle.std.proofs.Common.{◌≤◌, ℕ, arith}
use Rattle.std.proofs.lemmas.List.Elements.{All-weaker}
use Rattle.sc_lock.specs.Tokens.{splits_left}
use Rattle.sc_shared.specs.declared.passes.Passes.{Passes}
use Rattle.sc_shared.specs.Passes.{BucketPass, CanSplit}

-- off which more can be split fewer can be split too
pub fewer_splits : (more fewer : ℕ) (passes : Passes) → fewer ≤ more → CanSplit more passes → CanSplit fewer passes
fewer_splits more fewer passes less can = record {
  buckets = All-weaker (λ (pass : BucketPass). more ≤ splits_left pass) (λ (pass : BucketPass). fewer ≤ splits_left pass)
      (λ pass enough. omega (arith, enough, less)) passes.buckets.items can.buckets;
  board = omega (arith, can.board, less);
}
