-- One more was split off that of its number.
use Rattle.std.proofs.Common.{◌≡◌, ◌<◌, ◌∙◌, ℕ, length, subst, arith}
use Rattle.sc_shared.specs.PassCalls.{ArePassesSplit}
use Rattle.sc_shared.proofs.SplitPassLemmas.{next_split}
use Rattle.sc_shared.proofs.passes.split_each.Goals as goal

pub loop-b-preserved : goal.loop-b-preserved
loop-b-preserved c =
    let within : c.loop-b.b < length c.args.locks.now.items =
    omega (arith, c.loop-b-test.true, c.len-b-end.ensures, c.args.locks.now.ok.0) in
    record {
      room = c.push_reserved.ensures.capacity ∙ c.loop-b.invariant.room;
      split = rw c.push_reserved.ensures.items (next_split c.args.locks.now.items c.args.passes.now.items c.loop-b.passes.items
          c.loop-b.others.items c.loop-b.b c.index.result.now c.index_mut.result.now c.requires.passes c.loop-b.invariant.split within
          c.index.ensures c.index_mut.ensures.value c.split_pass.new.pass c.split_pass.result (record {
            is = c.split_pass.ensures.pass.0;
            free = c.split_pass.ensures.pass.1;
            seen_is = c.split_pass.ensures.seen;
            own_is = c.split_pass.ensures.places;
            splits = c.split_pass.ensures.splits;
            other_is = c.split_pass.ensures.new;
          }));
    }

pub returns-clause-split : goal.returns-clause-split
returns-clause-split c =
    let all : c.loop-b.b ≡ length c.args.locks.now.items =
    omega (arith, c.loop-b-test.false, c.loop-b.auto.b-end, c.len-b-end.ensures, c.args.locks.now.ok.0) in
    subst (λ (n : ℕ). ArePassesSplit n c.args.locks.now.items c.args.passes.now.items c.loop-b.passes.items c.loop-b.others.items) all
    c.loop-b.invariant.split
