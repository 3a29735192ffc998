-- The reader as a machine: what a token makes of what was read before it.
use Rattle.std.proofs.Common.{ℕ, ◌+◌, ◌-◌, nat_lt, Option, Some, None, Result, Ok, Err, if◌then◌else◌, List, [], ◌∷◌, map, reverse, option_map}
use Rattle.sc_query.specs.declared.query.Query.{Query}
use Rattle.sc_query.specs.declared.reader.Level.{Level}
use Rattle.sc_query.specs.Tokens.{Token}
use Rattle.sc_query.specs.Tree.{Tree, tree_of, negated}

-- what stands before an operand, back to the parenthesis that is open: a left side of OR, one of AND, and NOTs
pub record Before : Type 0 where
  pub either : Option Tree
  pub both : Option Tree
  pub room : ℕ
  pub negations : ℕ

-- how far a query was read: an operand comes next, or something that follows one
pub data Reader : Type 0 where
  Operand : (outer : List Before) (before : Before) → Reader
  Operator : (outer : List Before) (either : Option Tree) (room : ℕ) (tree : Tree) → Reader

abbrev pub and_with : Option Tree → Tree → Tree
and_with None t = t
and_with (Some s) t = Tree.And s t

abbrev pub or_with : Option Tree → Tree → Tree
or_with None t = t
or_with (Some s) t = Tree.Or s t

-- nothing stands before the operand, and so many parentheses and NOTs may open
abbrev pub empty : ℕ → Before
empty room = record { either = None; both = None; room = room; negations = 0 }

-- an operand was read
abbrev pub with_operand : List Before → Before → Tree → Reader
with_operand outer before t = Operator outer before.either before.room (and_with before.both (negated before.negations t))

-- a level of the code, without where its queries lie in memory
abbrev pub before_of : Level → Before
before_of l = record { either = option_map tree_of l.either; both = option_map tree_of l.both; room = l.room; negations = l.negations }

-- the levels, the innermost first
abbrev pub outer_of : List Level → List Before
outer_of levels = reverse (map before_of levels)

-- how far the code has read: the levels that are open, the innermost, and the operand that was read last
abbrev pub reader_of : List Level → Level → Option Query → Reader
reader_of outer level None = Operand (outer_of outer) (before_of level)
reader_of outer level (Some operand) = with_operand (outer_of outer) (before_of level) (tree_of operand)

-- one parenthesis or NOT more, or the fault where too many are open
abbrev pub opened : Before → ℕ → Reader → Result Reader ℕ
opened before at next = if nat_lt before.negations before.room then Ok next else Err at

-- the operand in parentheses was read
abbrev pub closed : List Before → Tree → ℕ → Result Reader ℕ
closed [] t at = Err at
closed (before ∷ outer) t at = Ok (with_operand outer before t)

-- a token where an operand comes next
abbrev pub operand_step : List Before → Before → Token → ℕ → Result Reader ℕ
operand_step outer before Token.Open at = opened before at (Operand (before ∷ outer) (empty (before.room - (before.negations + 1))))
operand_step outer before Token.Not at = opened before at (Operand outer (record before { negations = before.negations + 1 }))
operand_step outer before Token.Every at = Ok (with_operand outer before Tree.All)
operand_step outer before (Token.Leaf field value) at = Ok (with_operand outer before (Tree.Leaf field value at))
operand_step outer before Token.Close at = Err at
operand_step outer before Token.And at = Err at
operand_step outer before Token.Or at = Err at
operand_step outer before Token.Broken at = Err at

-- a token after an operand
abbrev pub operator_step : List Before → Option Tree → ℕ → Tree → Token → ℕ → Result Reader ℕ
operator_step outer either room t Token.And at = Ok (Operand outer (record { either = either; both = Some t; room = room; negations = 0 }))
operator_step outer either room t Token.Or at = Ok (Operand outer (record { either = Some (or_with either t); both = None; room = room; negations = 0 }))
operator_step outer either room t Token.Close at = closed outer (or_with either t) at
operator_step outer either room t Token.Open at = Err at
operator_step outer either room t Token.Not at = Err at
operator_step outer either room t Token.Every at = Err at
operator_step outer either room t (Token.Leaf field value) at = Err at
operator_step outer either room t Token.Broken at = Err at

abbrev pub step : Reader → Token → ℕ → Result Reader ℕ
step (Operand outer before) token at = operand_step outer before token at
step (Operator outer either room t) token at = operator_step outer either room t token at

-- the text has ended here
abbrev pub finish : Reader → ℕ → Result Tree ℕ
finish (Operand outer before) end = Err end
finish (Operator [] either room t) end = Ok (or_with either t)
finish (Operator (before ∷ outer) either room t) end = Err end
