-- The next slice's cores come to the end.
use Rattle.std.proofs.Common.{◌∙◌, ◌++◌, All, map, sym, ap, subst, arith}
use Rattle.std.specs.Option.{option_copied}
use Rattle.std.proofs.lemmas.List.{take_all}
use Rattle.std.proofs.lemmas.List.Elements.{All-nil}
use Rattle.sc_replicas.specs.Cores.{core_key, core_keys, slice_keys, IsCounted, IsNewCore}
use Rattle.sc_replicas.proofs.CoreLemmas.{keys-push}
use Rattle.sc_replicas.proofs.replicas.Replicas.new.Goals as goal

pub loop-at-init : goal.loop-at-init
loop-at-init c =
    let none = c.new-replicas.ensures.items in
    record {
      keys = ap (map core_key) none;
      new = subst (All IsNewCore) (sym none) (All-nil IsNewCore);
      counted = subst (All IsCounted) (sym none) (All-nil IsCounted);
    }

pub loop-at-preserved : goal.loop-at-preserved
loop-at-preserved c =
    let slice = c.unwrap-slice.result.now in
    let there = sym c.get.ensures.slice ∙ ap option_copied c.unwrap-slice.ensures in
    record {
      keys = c.in_ok-push_replicas.ensures.keys
          ∙ ap (λ keys. keys ++ slice_keys slice) c.loop-at.invariant.keys
          ∙ keys-push c.args.slices.now c.loop-at.at slice there;
      new = c.push_replicas.ensures.new c.loop-at.invariant.new;
      counted = c.push_replicas.ensures.counted c.loop-at.invariant.counted;
    }

pub returns-clause-keys : goal.returns-clause-keys
returns-clause-keys c =
    ap (map core_key) c.shrink_to_fit.ensures.items ∙ c.loop-at.invariant.keys
    ∙ ap core_keys (take_all c.loop-at.at c.args.slices.now (omega (arith, c.loop-at-test.false, c.len-at-end.ensures)))

pub returns-clause-new : goal.returns-clause-new
returns-clause-new c = subst (All IsNewCore) (sym c.shrink_to_fit.ensures.items) c.loop-at.invariant.new

pub returns-clause-counted : goal.returns-clause-counted
returns-clause-counted c = subst (All IsCounted) (sym c.shrink_to_fit.ensures.items) c.loop-at.invariant.counted
