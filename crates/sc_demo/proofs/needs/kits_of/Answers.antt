-- One worker more has what it needs, off passes that are new still.
use Rattle.std.proofs.Common.{◌≡◌, ◌∙◌, ℕ, ◌+◌, ◌-◌, List, length, ap, sym, subst, arith}
use Rattle.std.specs.List.{All}
use Rattle.std.proofs.lemmas.List.{length_push}
use Rattle.std.proofs.lemmas.List.Elements.{All-push}
use Rattle.sc_shared.specs.Passes.{CanSplit}
use Rattle.sc_demo.specs.declared.needs.Kit.{Kit}
use Rattle.sc_demo.specs.Makers.{IsMakerKit}
use Rattle.sc_server.proofs.NeedsLemmas.{still_new, new_too}
use Rattle.sc_demo.proofs.needs.kits_of.Goals as goal

pub loop-preserved : goal.loop-preserved
loop-preserved c =
    let locks = c.args.collection.now in
    let split = c.in_ok-split_passes.ensures.new in
    let kit : Kit = record { passes = c.in_ok-split_passes.field-0; trail = c.in_ok-new.field-0 } in
    let left : c.args.makers - c.loop.counter ≡ c.args.makers - (c.loop.counter + 1) + 1 = omega (arith, c.loop-test.true) in
    record {
      room = c.push_reserved.ensures.capacity ∙ c.loop.invariant.room;
      count = ap length c.push_reserved.ensures.items ∙ length_push c.loop.kits.items kit ∙ ap (λ n. n + 1) c.loop.invariant.count;
      new = still_new locks c.loop.passes c.split_passes.new.passes c.loop.invariant.new c.split_passes.ensures.passes c.split_passes.ensures.same;
      splits = c.split_passes.ensures.splits (c.args.makers - (c.loop.counter + 1))
          (subst (λ (n : ℕ). CanSplit n c.loop.passes) left c.loop.invariant.splits);
      kits = subst (λ (kits : List Kit). All (IsMakerKit locks) kits) (sym c.push_reserved.ensures.items)
          (All-push (IsMakerKit locks) c.loop.kits.items kit c.loop.invariant.kits (record {
            passes = new_too locks c.loop.passes c.in_ok-split_passes.field-0 c.loop.invariant.new split.0 split.1;
            trail = c.in_ok-new.ensures;
          }));
    }
