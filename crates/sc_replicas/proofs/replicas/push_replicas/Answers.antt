-- One more core is the next replica of the slice.
use Rattle.std.proofs.Common.{◌∙◌, ◌++◌, ℕ, All, map, sym, ap, subst, arith}
use Rattle.std.specs.List.{range_with_len}
use Rattle.std.proofs.lemmas.Int.{ints}
use Rattle.std.proofs.lemmas.List.{append-nil}
use Rattle.std.proofs.lemmas.List.Elements.{All-push}
use Rattle.sc_replica.specs.Core.{Core}
use Rattle.sc_replicas.specs.Cores.{core_key, IsCounted, IsNewCore}
use Rattle.sc_replicas.proofs.CoreLemmas.{keys_more}
use Rattle.sc_replicas.proofs.replicas.push_replicas.Goals as goal

pub loop-below-init : goal.loop-below-init
loop-below-init c = record { keys = sym (append-nil (map core_key c.args.replicas.now.items)); new = λ all. all; counted = λ all. all }

pub loop-below-preserved : goal.loop-below-preserved
loop-below-preserved c =
    let core = c.new.result in
    let is_new : IsNewCore core = record {
      cells = ap (λ (core : Core). core.cells) c.new.ensures.value;
      buffer = ap (λ (core : Core). core.buffer) c.new.ensures.value;
      active = ap (λ (core : Core). core.mode) c.new.ensures.value;
      clock = ap (λ (core : Core). core.clock) c.new.ensures.value;
      up = ap (λ (core : Core). core.down) c.new.ensures.value;
      number = ap (λ (core : Core). core.number) c.new.ensures.value
          ∙ ap (λ (core : Core). core.core.replica) (sym c.new.ensures.value);
    } in
    let inv = c.new.type_inv in
    let named = c.new.ensures.core in
    let counted : IsCounted core = grind (arith, ints) in
    record {
      keys = ap (map core_key) c.in_ok-push.ensures.items
          ∙ keys_more c.args.slice.now.id.0 c.loop-below.below (map core_key c.args.replicas.now.items) c.loop-below.replicas.items core
          c.loop-below.invariant.keys (ap core_key c.new.ensures.value);
      new = λ all. subst (All IsNewCore) (sym c.in_ok-push.ensures.items)
          (All-push IsNewCore c.loop-below.replicas.items core (c.loop-below.invariant.new all) is_new);
      counted = λ all. subst (All IsCounted) (sym c.in_ok-push.ensures.items)
          (All-push IsCounted c.loop-below.replicas.items core (c.loop-below.invariant.counted all) counted);
    }

pub returns-clause-keys : goal.returns-clause-keys
returns-clause-keys c =
    c.loop-below.invariant.keys
    ∙ ap (λ n. map core_key c.args.replicas.now.items ++ map (λ (replica : ℕ). (c.args.slice.now.id.0, replica)) (range_with_len 1 n))
    (omega (arith, c.loop-below-test.false, c.loop-below.auto.below-end))

pub returns-clause-new : goal.returns-clause-new
returns-clause-new c = c.loop-below.invariant.new

pub returns-clause-counted : goal.returns-clause-counted
returns-clause-counted c = c.loop-below.invariant.counted
