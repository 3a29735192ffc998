use Rattle.std.proofs.Common.{◌∙◌, ap, arith}
use Rattle.std.specs.Int.{w64, from_le_bytes}
use Rattle.sc_tail.proofs.ReadLemmas.{spelt_after}
use Rattle.sc_tail.proofs.reading.told_in.Goals as goal

pub returns-clause-spelt : goal.returns-clause-spelt
returns-clause-spelt c =
    spelt_after c.args.head.now c.number_in.result c.requires (λ i. omega (arith, c.type_inv.head i)) (c.number_in.ensures ∙ ap (λ l. from_le_bytes w64 l) c.split_at.ensures.back)
