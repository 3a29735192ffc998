-- A comparison leaves half of the tops, be it by heads or by the keys.
use Rattle.std.proofs.Common.{◌+◌, ◌-◌, ◌*◌, ◌^◌, ◌/◌, length, ap, ◌∙◌, arith}
use Rattle.sc_keys.proofs.SearchLemmas.{range-before, range-after, pow-step, halved_more, bound_more}
use Rattle.sc_keys.proofs.StoringLemmas.{found-within, stands}
use Rattle.sc_keys.proofs.searching.block_of.Goals as goal

pub halving-preserved-in-Less : goal.halving-preserved-in-Less
halving-preserved-in-Less g c =
    let i = c.halving.invariant in
    let block = c.halving.low + (c.halving.high - c.halving.low) / 2 in
    let here = found-within c.args.keys.now.keys (32 * block + 31) (omega (arith, i.within)) in
    let k = here.0 in
    let at_top = here.1 in
    let steps = ap (λ n. 2 ^ (n - c.args.steps.now)) c.in-Less.ensures.counted ∙ pow-step c.args.steps.now c.halving.steps i.counted in
    record {
      first = omega (arith, i.first);
      in_order = omega arith;
      within = omega (arith, i.within);
      range = range-before g.met.K.Key.total c.args.key.now c.args.keys.now.keys (32 * c.halving.low) (32 * c.halving.high + 31) (32 * block + 31) k c.requires.ascending at_top (c.in-Less.ensures.answer k at_top) i.range;
      counted = omega (arith, c.in-Less.ensures.counted);
      halved = rw steps (halved_more (2 ^ (c.halving.steps - c.args.steps.now)) (c.halving.high - c.halving.low) (block - c.halving.low) (length c.args.keys.now.keys / 32) i.halved (omega arith));
      bound = rw steps (bound_more _ _ _ i.halved (omega arith));
    }

pub halving-preserved : goal.halving-preserved
halving-preserved g c =
    let i = c.halving.invariant in
    let block = c.halving.low + (c.halving.high - c.halving.low) / 2 in
    let here = found-within c.args.keys.now.keys (32 * block + 31) (omega (arith, i.within)) in
    let k = here.0 in
    let at_top = here.1 in
    let steps = ap (λ n. 2 ^ (n - c.args.steps.now)) c.in-Greater.ensures.counted ∙ pow-step c.args.steps.now c.halving.steps i.counted in
    record {
      first = omega (arith, i.first);
      in_order = omega arith;
      within = i.within;
      range = range-after g.met.K.Key.total c.args.key.now c.args.keys.now.keys (32 * c.halving.low) (32 * c.halving.high + 31) (32 * block + 31) (32 * (block + 1)) k c.requires.ascending at_top (c.in-Greater.ensures.answer k at_top) (omega arith) i.range;
      counted = omega (arith, c.in-Greater.ensures.counted);
      halved = rw steps (halved_more (2 ^ (c.halving.steps - c.args.steps.now)) (c.halving.high - c.halving.low) (c.halving.high - (block + 1)) (length c.args.keys.now.keys / 32) i.halved (omega arith));
      bound = rw steps (bound_more _ _ _ i.halved (omega arith));
    }

pub returns-in-Equal-clause-place : goal.returns-in-Equal-clause-place
returns-in-Equal-clause-place g c =
    let i = c.halving.invariant in
    let block = c.halving.low + (c.halving.high - c.halving.low) / 2 in
    stands g.K.Key.order c.args.key.now c.args.keys.now.keys (32 * block + 31) (omega (arith, i.within)) c.in-Equal.ensures.answer

pub returns-in-Equal-clause-bound : goal.returns-in-Equal-clause-bound
returns-in-Equal-clause-bound g c =
    let i = c.halving.invariant in
    let steps = ap (λ n. 2 ^ (n - c.args.steps.now)) c.in-Equal.ensures.counted ∙ pow-step c.args.steps.now c.halving.steps i.counted in
    rw steps (bound_more _ _ _ i.halved (omega arith))

pub returns-clause-place : goal.returns-clause-place
returns-clause-place g c =
    let i = c.halving.invariant in
    record {
      before = i.range.before;
      after = λ j k later at. i.range.after j k (omega arith) at;
    }
