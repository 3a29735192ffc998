-- The next slice has one follower less than replicas.
use Rattle.std.proofs.Common.{◌∙◌, length, sym, ap, arith}
use Rattle.std.specs.List.{flat_map}
use Rattle.std.specs.Option.{option_copied}
use Rattle.std.proofs.lemmas.List.{take_all}
use Rattle.sc_journal.specs.Down.{follower_keys}
use Rattle.sc_bucket.proofs.CountLemmas.{followers-push, all_followers-active}
use Rattle.sc_bucket.proofs.bucket.followers.Goals as goal

pub loop-at-preserved : goal.loop-at-preserved
loop-at-preserved c =
    let slice = c.unwrap.result.now in
    let more = followers-push c.args.map.now c.loop-at.at slice (sym c.get.ensures.slice ∙ ap option_copied c.unwrap.ensures) in
    record {
      counted = omega (arith, c.loop-at.invariant.counted, more, c.followers_of-count.ensures.count);
      few = omega (arith, c.loop-at.invariant.few, c.followers_of-count.ensures.few);
    }

pub returns : goal.returns
returns c =
    c.loop-at.invariant.counted
    ∙ ap (λ slices. length (flat_map follower_keys slices))
    (take_all c.loop-at.at c.args.map.now (omega (arith, c.loop-at-test.false, c.len-at-end.ensures)))
    ∙ ap length (sym (all_followers-active c.args.map.now c.requires))
