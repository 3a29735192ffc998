-- One slice more stands at the end, and at last all of them.
use Rattle.std.proofs.Common.{arith, rules}
use Rattle.std.proofs.lemmas.Grind.{common_steps}
use Rattle.sc_spelling.specs.Spellings.{Extends}
use Rattle.sc_frames.proofs.PushLemmas.{extends_on, pushed_more, fits_more}
use Rattle.sc_frames.proofs.push.push_subs.Goals as goal

pub returns-in_err-push_sub-clause-err : goal.returns-in_err-push_sub-clause-err
returns-in_err-push_sub-clause-err c =
    let more : Extends c.args.out.now.items c.push_sub.new.out.items =
    extends_on c.args.out.now.items c.loop-sub.out.items c.push_sub.new.out.items _ c.loop-sub.invariant.0 c.in_err-push_sub.ensures.err in
    first_of (search rules, grind (arith, common_steps))

pub loop-sub-preserved : goal.loop-sub-preserved
loop-sub-preserved c = (
  pushed_more _ _ _ c.args.subs.now c.loop-sub.sub-index _ _ c.loop-sub-test.true c.sub-item.is c.loop-sub.invariant.0 c.in_ok-push_sub.ensures.bytes,
  fits_more c.args.subs.now c.loop-sub.sub-index _ _ c.loop-sub-test.true c.sub-item.is c.loop-sub.invariant.1 c.in_ok-push_sub.ensures.fits,
)
