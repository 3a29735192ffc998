-- What a query means to its readers: a tree, whichever boxes hold it.
use Rattle.std.specs.Prelude.{ℕ, zero, suc, ◌+◌, List}
use Rattle.sc_query.specs.declared.query.Query.{Query}
use Rattle.sc_query.specs.declared.query.Query.TheVariants.{All as AllQuery, Leaf as LeafQuery, Not', And', Or'}

-- a query's tree; a leaf has the bytes of its field and its value, and the place of its first byte
pub data Tree : Type 0 where
  All : Tree
  Leaf : (field value : List ℕ) (at : ℕ) → Tree
  Not : Tree → Tree
  And : Tree → Tree → Tree
  Or : Tree → Tree → Tree

-- The tree that a query is. In a pattern a box has two parts: its pointer, and what it holds.
abbrev pub tree_of : Query → Tree
tree_of AllQuery = Tree.All
tree_of (LeafQuery field value at) = Tree.Leaf field value at
tree_of (Not' p operand) = Tree.Not (tree_of operand)
tree_of (And' p left q right) = Tree.And (tree_of left) (tree_of right)
tree_of (Or' p left q right) = Tree.Or (tree_of left) (tree_of right)

-- the tree under so many NOTs
abbrev pub negated : ℕ → Tree → Tree
negated zero t = t
negated (suc n) t = negated n (Tree.Not t)

-- the tree with each leaf a place further on
abbrev pub moved : Tree → Tree
moved Tree.All = Tree.All
moved (Tree.Leaf field value at) = Tree.Leaf field value (at + 1)
moved (Tree.Not t) = Tree.Not (moved t)
moved (Tree.And s t) = Tree.And (moved s) (moved t)
moved (Tree.Or s t) = Tree.Or (moved s) (moved t)
