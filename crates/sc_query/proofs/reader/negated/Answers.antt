-- One NOT more is one fewer to come.
use Rattle.std.proofs.Common.{◌≡◌, ℕ, suc, ◌+◌, ◌-◌, ap, ◌∙◌, arith}
use Rattle.sc_query.specs.Tree.{Tree, tree_of, negated}
use Rattle.sc_query.specs.declared.query.Query.{Query}
use Rattle.sc_query.proofs.reader.negated.Goals as goal

pub loop-preserved : goal.loop-preserved
loop-preserved c =
    let one : suc (c.args.negations - (c.loop.counter + 1)) ≡ c.args.negations - c.loop.counter = omega arith in
    ap (λ (query : Query). negated (c.args.negations - (c.loop.counter + 1)) (Tree.Not (tree_of query))) c.in_ok-new.ensures.ok ∙ (ap (λ (n : ℕ). negated n (tree_of c.loop.query)) one ∙ c.loop.invariant)
