-- How many steps it takes at most to drop a bound query.
use Rattle.std.proofs.Common.{ℕ, ◌+◌, ◌*◌, Option, Some, None, Box, Global}
use Rattle.sc_eval.specs.declared.bound.Bound.{Bound}
use Rattle.sc_eval.specs.declared.bound.Bound.TheVariants.{All, Leaf, Not', And', Or'}

-- a left side counts twice, since it is entered before the right side is moved
abbrev pub work : Bound → ℕ
work All = 1
work (Leaf term) = 1
work (Not' p operand) = work operand + 1
work (And' p left q right) = 2 * work left + work right + 1
work (Or' p left q right) = 2 * work left + work right + 1

-- the same of what is entered and what waits
abbrev pub work_left : Bound → Option (Box Bound Global) → ℕ
work_left query None = work query
work_left query (Some b) = 2 * work query + work b.value
