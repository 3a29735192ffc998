-- A share begins within the size, which is 2 ^ 32 at most.
use Rattle.std.proofs.Common.{◌≡◌, ◌-◌, ◌*◌, ◌/◌, ◌^◌, ◌≤◌, ap, ◌∙◌, arith, unsigned_abs, mul-le-mul}
use Rattle.std.proofs.lemmas.Int.{ints}
use Rattle.sc_hash.specs.Range.{size_of}
use Rattle.sc_cluster.proofs.CutLemmas.{share-le}
use Rattle.sc_cluster.proofs.parts.share_start.Goals as goal

pub overflow_mul-result : goal.overflow_mul-result
overflow_mul-result c =
    let size : c.size.result ≤ 2 ^ 32 = omega (arith, ints) in
    let share : c.from-2.result ≤ 2 ^ 32 - 1 = omega arith in
    omega (arith, mul-le-mul share size)

pub overflow_cast-result : goal.overflow_cast-result
overflow_cast-result c =
    let size : c.size.result ≤ 2 ^ 32 = omega (arith, ints) in
    omega (arith, ints, share-le c.size.result c.from-3.result c.from-2.result (omega arith))

pub overflow_add-result : goal.overflow_add-result
overflow_add-result c =
    let size : c.size.result ≤ 2 ^ 32 = omega (arith, ints) in
    omega (arith, ints, share-le c.size.result c.from-3.result c.from-2.result (omega arith))

pub returns : goal.returns
returns c =
    let size : c.size.result ≤ 2 ^ 32 = omega (arith, ints) in
    let all = unsigned_abs (size_of c.args.range.min c.args.range.max) in
    let start : c.from-2.result * c.size.result / c.from-3.result ≡ c.args.i * all / c.args.n =
    ap (λ share. share * c.size.result / c.from-3.result) c.from-2.ensures
    ∙ ap (λ size. c.args.i * size / c.from-3.result) (ap unsigned_abs c.size.ensures)
    ∙ ap (λ shares. c.args.i * all / shares) c.from-3.ensures in
    omega (arith, ints, share-le c.size.result c.from-3.result c.from-2.result (omega arith))
