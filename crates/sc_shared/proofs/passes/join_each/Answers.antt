-- The last of those that are left is joined to that of its number.
use Rattle.std.proofs.Common.{◌∙◌}
use Rattle.sc_shared.proofs.JoinPassLemmas.{into_is, from_is, one_less, rest_same, fewer}
use Rattle.sc_shared.proofs.passes.join_each.Goals as goal

pub join_pass-requires-clause-pass : goal.join_pass-requires-clause-pass
join_pass-requires-clause-pass c =
    into_is c.args.locks.now.items c.args.into.now.items c.args.from.items c.loop-pass.into.items c.loop-pass.from.items c.pop.new.self.items
    c.in-Some.pass c.len-b.result c.index.result.now c.index_mut.result.now c.requires.into c.requires.from c.loop-pass.invariant.joined
    c.loop-pass.invariant.left c.loop-pass.invariant.few c.in-Some.ensures.items (c.len-b.ensures ∙ c.pop.new.self.ok.0) c.index.ensures
    c.index_mut.ensures.value

pub join_pass-requires-clause-from : goal.join_pass-requires-clause-from
join_pass-requires-clause-from c =
    from_is c.args.locks.now.items c.args.into.now.items c.args.from.items c.loop-pass.into.items c.loop-pass.from.items c.pop.new.self.items
    c.in-Some.pass c.len-b.result c.index.result.now c.index_mut.result.now c.requires.into c.requires.from c.loop-pass.invariant.joined
    c.loop-pass.invariant.left c.loop-pass.invariant.few c.in-Some.ensures.items (c.len-b.ensures ∙ c.pop.new.self.ok.0) c.index.ensures
    c.index_mut.ensures.value

pub loop-pass-preserved : goal.loop-pass-preserved
loop-pass-preserved c = record {
  few = fewer c.args.locks.now.items c.args.into.now.items c.args.from.items c.loop-pass.into.items c.loop-pass.from.items c.pop.new.self.items
      c.in-Some.pass c.len-b.result c.index.result.now c.index_mut.result.now c.requires.into c.requires.from c.loop-pass.invariant.joined
      c.loop-pass.invariant.left c.loop-pass.invariant.few c.in-Some.ensures.items (c.len-b.ensures ∙ c.pop.new.self.ok.0) c.index.ensures
      c.index_mut.ensures.value;
  left = rest_same c.args.locks.now.items c.args.into.now.items c.args.from.items c.loop-pass.into.items c.loop-pass.from.items
      c.pop.new.self.items c.in-Some.pass c.len-b.result c.index.result.now c.index_mut.result.now c.requires.into c.requires.from
      c.loop-pass.invariant.joined c.loop-pass.invariant.left c.loop-pass.invariant.few c.in-Some.ensures.items
      (c.len-b.ensures ∙ c.pop.new.self.ok.0) c.index.ensures c.index_mut.ensures.value;
  joined = one_less c.args.locks.now.items c.args.into.now.items c.args.from.items c.loop-pass.into.items c.loop-pass.from.items
      c.pop.new.self.items c.in-Some.pass c.len-b.result c.index.result.now c.index_mut.result.now c.requires.into c.requires.from
      c.loop-pass.invariant.joined c.loop-pass.invariant.left c.loop-pass.invariant.few c.in-Some.ensures.items
      (c.len-b.ensures ∙ c.pop.new.self.ok.0) c.index.ensures c.index_mut.ensures.value c.join_pass.new.into (record {
        is = c.join_pass.ensures.pass.0;
        free = c.join_pass.ensures.pass.1;
        seen_is = c.join_pass.ensures.seen;
        disjoint = c.join_pass.ensures.disjoint;
        own_is = c.join_pass.ensures.places;
      });
}
