-- What one more waits, and that a fault of the leftmost operand is that of the whole.
use Rattle.std.proofs.Common.{◌≡◌, ◌≤◌, ℕ, ◌+◌, List, [], ◌∷◌, ◌++◌, Result, Err, refl, ap, sym, ◌∙◌, arith}
use Rattle.sc_query.specs.Tree.{Tree, tree_of}
use Rattle.sc_eval.specs.Criteria.{Criterion}
use Rattle.sc_eval.specs.Binding.{made_of_both, bound}
use Rattle.sc_eval.specs.Spine.{linked_by, bound_with, nodes, waiting_nodes}
use Rattle.sc_eval.specs.declared.binder.Waiting.{Waiting}

-- the innermost of what waits is joined first
pub bound_with-push : (waiting : List Waiting) (one : Waiting) (left : Result Criterion ℕ)
    → bound_with (waiting ++ one ∷ []) left ≡ bound_with waiting (made_of_both (linked_by one.link) left (bound (tree_of one.right.now)))
bound_with-push [] one left = refl
bound_with-push (first ∷ waiting) one left =
    ap (λ (r : Result Criterion ℕ). made_of_both (linked_by first.link) r (bound (tree_of first.right.now))) (bound_with-push waiting one left)

-- a fault of the leftmost operand is that of the whole
pub bound_with-fault : (waiting : List Waiting) (at : ℕ) → bound_with waiting (Err at) ≡ Err at
bound_with-fault [] at = refl
bound_with-fault (first ∷ waiting) at =
    ap (λ (r : Result Criterion ℕ). made_of_both (linked_by first.link) r (bound (tree_of first.right.now))) (bound_with-fault waiting at)

-- how many nodes wait with one more
pub waiting_nodes-push : (waiting : List Waiting) (one : Waiting)
    → waiting_nodes (waiting ++ one ∷ []) ≡ waiting_nodes waiting + nodes (tree_of one.right.now)
waiting_nodes-push [] one = omega arith
waiting_nodes-push (first ∷ waiting) one = omega (arith, waiting_nodes-push waiting one)

-- a tree has a node
pub nodes-some : (t : Tree) → 1 ≤ nodes t
nodes-some Tree.All = omega arith
nodes-some (Tree.Leaf field value at) = omega arith
nodes-some (Tree.Not t) = omega arith
nodes-some (Tree.And s t) = omega arith
nodes-some (Tree.Or s t) = omega arith

-- what waits and what is left are bound to the whole after a step to the left
pub bound_with-step : (waiting pushed : List Waiting) (one : Waiting) (whole left : Result Criterion ℕ) → pushed ≡ waiting ++ one ∷ []
    → whole ≡ bound_with waiting (made_of_both (linked_by one.link) left (bound (tree_of one.right.now))) → whole ≡ bound_with pushed left
bound_with-step waiting pushed one whole left pushes h =
    h ∙ sym (bound_with-push waiting one left) ∙ sym (ap (λ (ws : List Waiting). bound_with ws left) pushes)

-- and after a step back
pub bound_with-back : (waiting popped : List Waiting) (one : Waiting) (whole left : Result Criterion ℕ) → waiting ≡ popped ++ one ∷ []
    → whole ≡ bound_with waiting left → whole ≡ bound_with popped (made_of_both (linked_by one.link) left (bound (tree_of one.right.now)))
bound_with-back waiting popped one whole left pops h =
    h ∙ ap (λ (ws : List Waiting). bound_with ws left) pops ∙ bound_with-push popped one left

-- the whole is at fault where the leftmost operand is
pub fault-first : (waiting : List Waiting) (whole left : Result Criterion ℕ) (at : ℕ) → whole ≡ bound_with waiting left → left ≡ Err at
    → whole ≡ Err at
fault-first waiting whole left at h e = h ∙ ap (bound_with waiting) e ∙ bound_with-fault waiting at
