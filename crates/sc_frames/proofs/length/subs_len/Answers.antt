-- The sum goes on by the bytes of the next slice, and where the first slices are too long, so are all.
use Rattle.std.proofs.Common.{◌≡◌, ℕ, length, ap, arith}
use Rattle.sc_frames.specs.Stored.{stored_sub}
use Rattle.sc_frames.proofs.LengthLemmas.{length-sub, length-so_far, length-more}
use Rattle.sc_frames.proofs.length.subs_len.Goals as goal

pub returns-in_err-sum : goal.returns-in_err-sum
returns-in_err-sum c =
    let long = length-so_far c.args.subs.now c.loop-sub.sub-index _ _ c.loop-sub-test.true c.sub-item.is in
    let one = length-sub (stored_sub c.sub-item.result) in
    let named : length c.as_str.result.now ≡ length c.sub-item.result.name = ap (length {A = ℕ}) c.as_str.ensures in
    rw c.from_residual.ensures (omega (arith, long, one, c.loop-sub.invariant, named, c.in_err-sum.ensures))

pub loop-sub-preserved : goal.loop-sub-preserved
loop-sub-preserved c =
    let more = length-more c.args.subs.now c.loop-sub.sub-index _ _ c.loop-sub-test.true c.sub-item.is in
    let named : length c.as_str.result.now ≡ length c.sub-item.result.name = ap (length {A = ℕ}) c.as_str.ensures in
    omega (arith, more, c.loop-sub.invariant, named, c.in_ok-sum.ensures)
