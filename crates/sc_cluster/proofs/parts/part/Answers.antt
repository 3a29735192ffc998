-- Borders ascend, each within the numbers of 32 bits or right after them.
use Rattle.std.proofs.Common.{ℤ, ap₂, arith}
use Rattle.std.proofs.lemmas.Int.{ints}
use Rattle.sc_cluster.proofs.CutLemmas.{border-lt}
use Rattle.sc_cluster.proofs.parts.part.Goals as goal

pub overflow_cast-result : goal.overflow_cast-result
overflow_cast-result c =
    let range = c.args.range.now in
    let next = border-lt range.min range.max _ _ c.requires.part c.requires.size in
    omega (arith, ints)

pub overflow_cast-result-2 : goal.overflow_cast-result-2
overflow_cast-result-2 c =
    let range = c.args.range.now in
    let next = border-lt range.min range.max _ _ c.requires.part c.requires.size in
    omega (arith, ints)

pub invariant_of-result : goal.invariant_of-result
invariant_of-result c =
    let range = c.args.range.now in
    let next = border-lt range.min range.max _ _ c.requires.part c.requires.size in
    record { ordered = omega (arith, ints) }

pub returns : goal.returns
returns c =
    let range = c.args.range.now in
    let next = border-lt range.min range.max _ _ c.requires.part c.requires.size in
    ap₂ (λ (a : ℤ) (b : ℤ). (a, b)) (omega (arith, ints)) (omega (arith, ints))
