-- A key more, and its term after those before.
use Rattle.std.proofs.Common.{◌∙◌, ap}
use Rattle.sc_record.specs.TermsStates.{with_key}
use Rattle.sc_schema.proofs.BuildLemmas.{with_keys-more}
use Rattle.sc_schema.proofs.terms.push_keys.Goals as goal

pub loop-key-preserved : goal.loop-key-preserved
loop-key-preserved c =
    with_keys-more c.args.keys.now c.loop-key.key-index c.key-item.result c.args.terms.now c.loop-key.terms c.push.new.self c.loop-key-test.true c.key-item.is c.loop-key.invariant
    (c.in_ok-push.ensures.ok ∙ ap (λ k. with_key k c.loop-key.terms) c.as_str.ensures)
