-- Each sub has an entry for each of its followers.
use Rattle.std.proofs.Common.{◌<◌, length, sym, arith}
use Rattle.sc_handover.proofs.CountLemmas.{new_followers-more}
use Rattle.sc_handover.proofs.beginning.entries_of_split.Goals as goal

pub loop-sub-preserved : goal.loop-sub-preserved
loop-sub-preserved c =
    let subs = c.args.subs.now in
    let at = c.loop-sub.sub-index in
    let within : at < length subs = omega arith in
    let more = new_followers-more subs at c.sub-item.result within (sym c.sub-item.is) in
    record {
      count = omega (arith, more, c.loop-sub.invariant.count);
      most = omega (arith, c.loop-sub.invariant.most);
    }
