-- What is read is what the grammar says of the text.
use Rattle.std.proofs.Common.{◌≡◌, ℕ, ◌⊎◌, inl, inr, Result, Ok, Err, IfOk, IsOkAnd, List, refl, sym, ap, subst, arith}
use Rattle.sc_query.specs.declared.query.Query.{Query}
use Rattle.sc_query.specs.declared.fault.QueryFault.{QueryFault}
use Rattle.sc_query.specs.declared.fault.QueryFault.TheVariants.{At, Memory}
use Rattle.sc_query.specs.Tree.{Tree, tree_of}
use Rattle.sc_query.specs.Grammar.{HasTree, HasFault}
use Rattle.sc_query.proofs.OutcomeLemmas.{one_tree, one_fault, not_both, too_long_fault}
use Rattle.sc_query.proofs.parser.parse.Goals as goal

-- a text has one answer, so that what is read of a query is its tree
tree_given : (r : Result Query QueryFault) (text : List ℕ) (t : Tree) → IfOk r (λ query. HasTree text (tree_of query)) → ((at : ℕ) → r ≡ Err (At at) → HasFault text at) → HasTree text t → (r ≡ Err Memory) ⊎ IsOkAnd r (λ query. tree_of query ≡ t)
tree_given (Ok query) text t h f k = inr (one_tree text (tree_of query) t h k)
tree_given (Err Memory) text t h f k = inl refl
tree_given (Err (At place)) text t h f k = absurd (not_both text t place k (f place refl))

-- and what is read of any other text is its fault
fault_given : (r : Result Query QueryFault) (text : List ℕ) (at : ℕ) → IfOk r (λ query. HasTree text (tree_of query)) → ((place : ℕ) → r ≡ Err (At place) → HasFault text place) → HasFault text at → (r ≡ Err Memory) ⊎ (r ≡ Err (At at))
fault_given (Ok query) text at h f k = absurd (not_both text (tree_of query) at h k)
fault_given (Err Memory) text at h f k = inl refl
fault_given (Err (At place)) text at h f k = inr (ap (λ (x : ℕ). Err (At x)) (one_fault text place at (f place refl) k))

pub returns-then-text-gt-LONGEST-clause-fault : goal.returns-then-text-gt-LONGEST-clause-fault
returns-then-text-gt-LONGEST-clause-fault c = λ at e.
    let same : 4096 ≡ at = cc in
    subst (λ (x : ℕ). HasFault c.args.text.now x) same (HasFault.too_long c.if-text-gt-LONGEST.true)

pub returns-then-text-gt-LONGEST-clause-reads : goal.returns-then-text-gt-LONGEST-clause-reads
returns-then-text-gt-LONGEST-clause-reads c = λ t h. absurd (omega (arith, c.if-text-gt-LONGEST.true, h.in_limit))

pub returns-then-text-gt-LONGEST-clause-refuses : goal.returns-then-text-gt-LONGEST-clause-refuses
returns-then-text-gt-LONGEST-clause-refuses c = λ at h. inr (ap (λ (x : ℕ). Err (At x)) (sym (too_long_fault c.args.text.now at c.if-text-gt-LONGEST.true h)))

pub returns-clause-reads : goal.returns-clause-reads
returns-clause-reads c = λ t h. tree_given c.read.result c.args.text.now t c.read.ensures.tree c.read.ensures.fault h

pub returns-clause-refuses : goal.returns-clause-refuses
returns-clause-refuses c = λ at h. fault_given c.read.result c.args.text.now at c.read.ensures.tree c.read.ensures.fault h
