-- Which lists of tokens are queries, with their trees, and where the fault of every other list lies.
use Rattle.std.specs.Prelude.{◌≡◌, ℕ, ◌<◌, ◌≤◌, suc, List, [], ◌∷◌, ◌++◌, length}
use Rattle.sc_query.specs.Tokens.{Token, Placed, placed, tokens}
use Rattle.sc_query.specs.Tree.{Tree}

-- the longest text that is a query, in bytes
abbrev pub query_limit : ℕ
query_limit = 4096

-- how many parentheses and NOTs may be open at once
abbrev pub nesting_limit : ℕ
nesting_limit = 32

-- the three rules of the grammar, the loosest first
pub data Rule : Type 0 where
  Query : Rule
  Conjunction : Rule
  Negation : Rule

-- `Reads rule room ts t rest`: the tokens ts begin with what the rule reads as the tree t, and the rest comes after it.
-- At most `room` parentheses and NOTs are open in it at once. In the notation of grammars:
--
--     Query       = Conjunction | Query OR Conjunction
--     Conjunction = Negation | Conjunction AND Negation
--     Negation    = NOT Negation | ( Query ) | *:* | leaf
pub data Reads : Rule → ℕ → List Placed → Tree → List Placed → Type 0 where
  every : {room at : ℕ} {rest : List Placed} →
      Reads Negation room (placed at Token.Every ∷ rest) Tree.All rest
  leaf : {room at : ℕ} {field value : List ℕ} {rest : List Placed} →
      Reads Negation room (placed at (Token.Leaf field value) ∷ rest) (Tree.Leaf field value at) rest
  not : {room at : ℕ} {ts rest : List Placed} {t : Tree} →
      Reads Negation room ts t rest →
      Reads Negation (suc room) (placed at Token.Not ∷ ts) (Tree.Not t) rest
  parentheses : {room at close : ℕ} {ts rest : List Placed} {t : Tree} →
      Reads Query room ts t (placed close Token.Close ∷ rest) →
      Reads Negation (suc room) (placed at Token.Open ∷ ts) t rest
  one_negation : {room : ℕ} {ts rest : List Placed} {t : Tree} →
      Reads Negation room ts t rest →
      Reads Conjunction room ts t rest
  and : {room at : ℕ} {ts us rest : List Placed} {s t : Tree} →
      Reads Conjunction room ts s (placed at Token.And ∷ us) →
      Reads Negation room us t rest →
      Reads Conjunction room ts (Tree.And s t) rest
  one_conjunction : {room : ℕ} {ts rest : List Placed} {t : Tree} →
      Reads Conjunction room ts t rest →
      Reads Query room ts t rest
  or : {room at : ℕ} {ts us rest : List Placed} {s t : Tree} →
      Reads Query room ts s (placed at Token.Or ∷ us) →
      Reads Conjunction room us t rest →
      Reads Query room ts (Tree.Or s t) rest

-- the tokens are a query with this tree, in which at most so many parentheses and NOTs are open at once
abbrev pub IsQueryWithin : ℕ → List Placed → Tree → Type 0
IsQueryWithin room ts t = Reads Rule.Query room ts t []

-- the tokens are a query with this tree, within the language's limit
abbrev pub IsQuery : List Placed → Tree → Type 0
IsQuery ts t = IsQueryWithin nesting_limit ts t

-- some query begins with these tokens
abbrev pub BeginsQuery : List Placed → Type 0
BeginsQuery ts = (more : List Placed) × (t : Tree) × IsQuery (ts ++ more) t

-- The token at this place is the first that can't follow those before it.
pub record StopsAt (ts : List Placed) (at : ℕ) : Type 0 where
  pub before : List Placed
  pub stop : Placed
  pub after : List Placed
  pub whole : ts ≡ before ++ stop ∷ after
  pub place : stop.at ≡ at
  pub begins : BeginsQuery before
  pub stops : ¬ BeginsQuery (before ++ stop ∷ [])

-- The tokens could go on to be a query, and are none.
pub record EndsEarly (ts : List Placed) : Type 0 where
  pub begins : BeginsQuery ts
  pub no_query : (t : Tree) → ¬ IsQuery ts t

-- a text that is not too long is a query with this tree
pub record HasTree (text : List ℕ) (t : Tree) : Type 0 where
  pub in_limit : length text ≤ query_limit
  pub query : IsQuery (tokens text) t

-- A text's fault is at the first token that can't follow those before it, at the text's length where it ends too early,
-- and at the limit where the text is longer than that, whatever stands in it.
pub data HasFault (text : List ℕ) : ℕ → Type 0 where
  too_long : query_limit < length text → HasFault text query_limit
  stops : {at : ℕ} → length text ≤ query_limit → StopsAt (tokens text) at → HasFault text at
  ends : length text ≤ query_limit → EndsEarly (tokens text) → HasFault text (length text)
