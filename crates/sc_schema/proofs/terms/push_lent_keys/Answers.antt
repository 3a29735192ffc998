-- A key more, and its term after those before.
use Rattle.std.proofs.Common.{map, sym, arith}
use Rattle.std.proofs.lemmas.List.{length-map, get_or-map}
use Rattle.sc_schema.proofs.BuildLemmas.{with_keys-more}
use Rattle.sc_schema.proofs.terms.push_lent_keys.Goals as goal

pub loop-key-preserved : goal.loop-key-preserved
loop-key-preserved c =
    with_keys-more (map (λ k. k.now) c.args.keys.now) c.loop-key.key-index _ c.args.terms.now c.loop-key.terms c.push.new.self
    (omega (arith, c.loop-key-test.true, length-map c.args.keys.now (λ k. k.now)))
    (sym (get_or-map (λ k. k.now) c.args.keys.now c.loop-key.key-index _ _ c.loop-key-test.true)) c.loop-key.invariant c.in_ok-push.ensures.ok
