-- A look-up among 57 terms takes six steps.
use Rattle.std.proofs.Common.{◌≡◌, ℕ, ◌+◌, ◌*◌, ◌≤◌, arith, subst}
use Rattle.sc_eval.specs.Numbers.{IsLookUp}
use Rattle.sc_examples.proofs.searches.in_few_steps.Goals as goal

in_all : (steps leaf_count matching : ℕ) → leaf_count ≡ 2 → matching ≡ 20 → steps ≤ leaf_count * 6 + matching → steps ≤ 32
in_all steps leaf_count matching two twenty most =
    let plain : steps ≤ 2 * 6 + 20 = subst (λ n. steps ≤ 2 * 6 + n) twenty (subst (λ n. steps ≤ n * 6 + matching) two most) in
    omega (arith, plain)

pub returns : goal.returns
returns g c two terms matches =
    let six : IsLookUp c.args.snapshot.now.rows 6 = rw terms (omega arith) in
    in_all _ _ _ two matches (c.evaluate.ensures.bound 6 six)
