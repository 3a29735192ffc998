-- The criterion that the texts of a search's queries are, or the place of their fault.
use Rattle.std.specs.Prelude.{◌≡◌, ◌⊎◌, ℕ, List, [], ◌∷◌, ◌++◌, All, Option, Some, None, Ok, Err, ⊤}
use Rattle.std.specs.List.{AllZip}
use Rattle.sc_hash.specs.declared.range.Range.{Range}
use Rattle.sc_router.specs.Route.{least_under, greatest_under}
use Rattle.sc_query.specs.Tree.{Tree}
use Rattle.sc_query.specs.Grammar.{HasTree, HasFault}
use Rattle.sc_eval.specs.Criteria.{Criterion}
use Rattle.sc_eval.specs.Binding.{bound}

-- the trees, joined by AND in their order
abbrev pub all_joined : Tree → List Tree → Tree
all_joined first [] = first
all_joined first (tree ∷ trees) = all_joined (Tree.And first tree) trees

-- the texts are queries with these trees, in order
pub record HaveTrees (texts : List (List ℕ)) (first : Tree) (others : List Tree) : Type 0 where
  pub each : AllZip HasTree texts (first ∷ others)

-- the texts are queries, and joined by AND they are this tree
pub record HaveJoined (texts : List (List ℕ)) (tree : Tree) : Type 0 where
  pub first : Tree
  pub others : List Tree
  pub trees : HaveTrees texts first others
  pub joined : all_joined first others ≡ tree

-- the texts are queries, and joined by AND they are bound to the criterion
pub record HaveCriterion (texts : List (List ℕ)) (criterion : Criterion) : Type 0 where
  pub first : Tree
  pub others : List Tree
  pub trees : HaveTrees texts first others
  pub bound_is : bound (all_joined first others) ≡ Ok criterion

-- the first text that is no query has its fault there
pub record HasTextFault (texts : List (List ℕ)) (at : ℕ) : Type 0 where
  pub before : List (List ℕ)
  pub text : List ℕ
  pub after : List (List ℕ)
  pub texts_are : texts ≡ before ++ text ∷ after
  pub queries : All (λ (earlier : List ℕ). (tree : Tree) × HasTree earlier tree) before
  pub fault : HasFault text at

-- the texts are queries, and the first leaf that can't be bound stands there
pub record HasLeafFault (texts : List (List ℕ)) (at : ℕ) : Type 0 where
  pub first : Tree
  pub others : List Tree
  pub trees : HaveTrees texts first others
  pub bound_is : bound (all_joined first others) ≡ Err at

-- the place of the fault, in its own text: a text that is no query is told before a leaf that can't be bound
abbrev pub HaveFault : List (List ℕ) → ℕ → Type 0
HaveFault texts at = HasTextFault texts at ⊎ HasLeafFault texts at

-- the hashes of a route, where there is one
abbrev pub IsRouteOf : Option (List ℕ) → Option Range → Type 0
IsRouteOf None None = ⊤
IsRouteOf None (Some range) = ⊥
IsRouteOf (Some text) None = ⊥
IsRouteOf (Some text) (Some range) = (range.min ≡ least_under text) × (range.max ≡ greatest_under text)
