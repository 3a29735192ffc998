-- proofs/cores/push_followers/Answers.antt
-- The core that comes next is the next further replica.
use Rattle.std.proofs.Common.{◌<◌, ◌+◌, ◌-◌, suc, ◌∙◌, ◌≡◌, refl, arith}
use Rattle.sc_split.specs.Stages.{follower_of}
use Rattle.sc_split.proofs.CoreListLemmas.{follower-is, range-pushed}
use Rattle.sc_split.proofs.cores.push_followers.Goals as goal

pub loop-k-preserved : goal.loop-k-preserved
loop-k-preserved c =
    let above : 0 < c.loop-k.k = omega arith in
    let next : c.loop-k.k + 1 ≡ suc ((0 + (c.loop-k.k - 1)) + 1) = omega arith in
    c.in_ok-push.ensures.items ∙ range-pushed (follower_of c.args.sub.now) 0 c.loop-k.k c.loop-k.cores.items c.args.cores.now.items _ above c.loop-k.invariant
    (follower-is c.args.sub.now _ (0 + (c.loop-k.k - 1)) refl next)
