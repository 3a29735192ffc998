-- proofs/cores/push_hosts_of/Answers.antt
-- The core that comes next is the next further replica.
use Rattle.std.proofs.Common.{◌<◌, ◌+◌, ◌-◌, ◌∙◌, ◌≡◌, ap, arith}
use Rattle.sc_split.specs.Outside.{sub_core_at}
use Rattle.sc_split.proofs.CoreListLemmas.{range-pushed}
use Rattle.sc_split.proofs.cores.push_hosts_of.Goals as goal

pub loop-k-preserved : goal.loop-k-preserved
loop-k-preserved c =
    let above : 0 < c.loop-k.k = omega arith in
    let next : c.loop-k.k + 1 ≡ 2 + (c.loop-k.k - 1) = omega arith in
    c.in_ok-push.ensures.items ∙ range-pushed (sub_core_at c.args.nodes c.args.sub.now) 2 c.loop-k.k c.loop-k.hosts.items c.args.hosts.now.items _ above c.loop-k.invariant
    (c.in_ok-host.ensures ∙ ap (sub_core_at c.args.nodes c.args.sub.now) next)
