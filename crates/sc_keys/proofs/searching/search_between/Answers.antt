-- A comparison leaves half of the keys, be it by heads or by the keys.
use Rattle.std.proofs.Common.{◌+◌, ◌-◌, ◌^◌, ◌/◌, ap, ◌∙◌, arith}
use Rattle.sc_keys.proofs.SearchLemmas.{range-before, range-after, pow-step, halved_more, bound_more}
use Rattle.sc_keys.proofs.StoringLemmas.{found-within, stands}
use Rattle.sc_keys.proofs.searching.search_between.Goals as goal

pub halving-preserved-in-Less : goal.halving-preserved-in-Less
halving-preserved-in-Less g c =
    let i = c.halving.invariant in
    let middle = c.halving.low + (c.halving.high - c.halving.low) / 2 in
    let here = found-within c.args.keys.now.keys middle (omega (arith, i.within)) in
    let k = here.0 in
    let at_middle = here.1 in
    let steps = ap (λ n. 2 ^ (n - c.args.steps.now)) c.in-Less.ensures.counted ∙ pow-step c.args.steps.now c.halving.steps i.counted in
    record {
      from = omega (arith, i.from);
      in_order = omega arith;
      within = omega arith;
      range = range-before g.met.K.Key.total c.args.key.now c.args.keys.now.keys c.halving.low c.halving.high middle k c.requires.ascending at_middle (c.in-Less.ensures.answer k at_middle) i.range;
      counted = omega (arith, c.in-Less.ensures.counted);
      halved = rw steps (halved_more (2 ^ (c.halving.steps - c.args.steps.now)) (c.halving.high - c.halving.low) (middle - c.halving.low) (c.args.to - c.args.from) i.halved (omega arith));
      bound = rw steps (bound_more _ _ _ i.halved (omega arith));
    }

pub halving-preserved : goal.halving-preserved
halving-preserved g c =
    let i = c.halving.invariant in
    let middle = c.halving.low + (c.halving.high - c.halving.low) / 2 in
    let here = found-within c.args.keys.now.keys middle (omega (arith, i.within)) in
    let k = here.0 in
    let at_middle = here.1 in
    let steps = ap (λ n. 2 ^ (n - c.args.steps.now)) c.in-Greater.ensures.counted ∙ pow-step c.args.steps.now c.halving.steps i.counted in
    record {
      from = omega (arith, i.from);
      in_order = omega arith;
      within = i.within;
      range = range-after g.met.K.Key.total c.args.key.now c.args.keys.now.keys c.halving.low c.halving.high middle (middle + 1) k c.requires.ascending at_middle (c.in-Greater.ensures.answer k at_middle) (omega arith) i.range;
      counted = omega (arith, c.in-Greater.ensures.counted);
      halved = rw steps (halved_more (2 ^ (c.halving.steps - c.args.steps.now)) (c.halving.high - c.halving.low) (c.halving.high - (middle + 1)) (c.args.to - c.args.from) i.halved (omega arith));
      bound = rw steps (bound_more _ _ _ i.halved (omega arith));
    }

pub returns-in-Equal-clause-place : goal.returns-in-Equal-clause-place
returns-in-Equal-clause-place g c =
    let i = c.halving.invariant in
    let middle = c.halving.low + (c.halving.high - c.halving.low) / 2 in
    stands g.K.Key.order c.args.key.now c.args.keys.now.keys middle (omega (arith, i.within)) c.in-Equal.ensures.answer

pub returns-in-Equal-clause-bound : goal.returns-in-Equal-clause-bound
returns-in-Equal-clause-bound g c =
    let i = c.halving.invariant in
    let steps = ap (λ n. 2 ^ (n - c.args.steps.now)) c.in-Equal.ensures.counted ∙ pow-step c.args.steps.now c.halving.steps i.counted in
    rw steps (bound_more _ _ _ i.halved (omega arith))

pub returns-clause-place : goal.returns-clause-place
returns-clause-place g c =
    let i = c.halving.invariant in
    record {
      within = omega (arith, i.in_order, i.within);
      before = i.range.before;
      after = λ j k later at. i.range.after j k (omega arith) at;
    }
