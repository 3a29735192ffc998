-- The tokens of a query text, by cases on its bytes.
use Rattle.std.specs.Prelude.{ℕ, suc, zero, ◌+◌, ◌-◌, Bool, false, ◌&&◌, ◌||◌, ◌==◌, if◌then◌else◌, List, [], ◌∷◌, length, drop, codes}
use Rattle.std.specs.Str.{bytes_eq}
use Rattle.sc_query.specs.declared.lexeme.Lexeme.{Lexeme}
use Rattle.sc_query.specs.declared.lexeme.Lexeme.TheVariants as lexeme

-- a space of the language: SP, TAB, CR and LF
abbrev pub is_space : ℕ → Bool
is_space c = c == 32 || c == 9 || c == 13 || c == 10

-- what ends a run of bytes outside quotes: a space or a parenthesis
abbrev pub ends_run : ℕ → Bool
ends_run c = is_space c || c == 40 || c == 41

-- what ends a field's name: the colon, and what can't stand in a name
abbrev pub ends_field : ℕ → Bool
ends_field c = c == 58 || c == 34 || c == 92 || ends_run c

-- what ends a quoted value: the quote
abbrev pub ends_quoted : ℕ → Bool
ends_quoted c = c == 34

-- the bytes before the first that ends them, where a backslash takes along the byte after it
abbrev pub up_to : (ℕ → Bool) → List ℕ → List ℕ
up_to ends [] = []
up_to ends (c ∷ []) = if ends c then [] else c ∷ []
up_to ends (c ∷ d ∷ rest) =
    if ends c then [] else
    (if c == 92 then c ∷ d ∷ up_to ends rest else
    c ∷ up_to ends (d ∷ rest))

-- what bytes with backslashes stand for: each backslash for the byte after it
abbrev pub plain : List ℕ → List ℕ
plain [] = []
plain (c ∷ []) = c ∷ []
plain (c ∷ d ∷ rest) = if c == 92 then d ∷ plain rest else c ∷ plain (d ∷ rest)

-- the last byte is a backslash that no backslash stands for
abbrev pub is_cut_short : List ℕ → Bool
is_cut_short [] = false
is_cut_short (c ∷ []) = c == 92
is_cut_short (c ∷ d ∷ rest) = if c == 92 then is_cut_short rest else is_cut_short (d ∷ rest)

-- the tokens of the language; Broken is what is none of them
pub data Token : Type 0 where
  Open : Token
  Close : Token
  And : Token
  Or : Token
  Not : Token
  Every : Token
  Leaf : (field value : List ℕ) → Token
  Broken : Token

-- the token that a lexeme of the code is
abbrev pub token_of : Lexeme → Token
token_of lexeme.Open = Open
token_of lexeme.Close = Close
token_of lexeme.And = And
token_of lexeme.Or = Or
token_of lexeme.Not = Not
token_of lexeme.Every = Every
token_of (lexeme.Leaf field value) = Leaf field.now (plain value.now)
token_of lexeme.Broken = Broken

-- a colon and a quote stand here
abbrev pub opens_quoted : List ℕ → Bool
opens_quoted [] = false
opens_quoted (c ∷ []) = false
opens_quoted (c ∷ d ∷ rest) = c == 58 && d == 34

-- a colon and at least one byte more stand here
abbrev pub opens_value : List ℕ → Bool
opens_value [] = false
opens_value (c ∷ []) = false
opens_value (c ∷ d ∷ rest) = c == 58

-- A leaf whose value is quoted, and how many bytes it takes. The text begins after the quote, and `inside` is what
-- comes before the next. It is broken where it has no field, the quote stays open or nothing is inside.
abbrev pub quoted_leaf : (field inside text : List ℕ) → Token × ℕ
quoted_leaf field inside text =
    if length field == 0 || length inside == length text || length inside == 0
    then (Broken, length field + 2 + length text)
    else (Leaf field (plain inside), length field + 3 + length inside)

-- a run of bytes outside quotes: a word of the language, or a leaf
abbrev pub run_token : (field run : List ℕ) → Token
run_token field run =
    if bytes_eq run (codes "AND") then And else
    (if bytes_eq run (codes "OR") then Or else
    (if bytes_eq run (codes "NOT") then Not else
    (if bytes_eq run (codes "*:*") then Every else
    (if length field == 0 || is_cut_short run then Broken else
    (if opens_value (drop (length field) run) then Leaf field (plain (drop (length field + 1) run)) else
    Broken)))))

-- a token that is no parenthesis, and how many bytes it takes; the field is what stands before the first byte that ends one
abbrev pub word_at : (field text : List ℕ) → Token × ℕ
word_at field text =
    if opens_quoted (drop (length field) text)
    then quoted_leaf field (up_to ends_quoted (drop (length field + 2) text)) (drop (length field + 2) text)
    else (run_token field (up_to ends_run text), length (up_to ends_run text))

-- the token that begins with the first byte, which is no space, and how many bytes it takes
abbrev pub token_at : List ℕ → Token × ℕ
token_at [] = (Broken, 0)
token_at (c ∷ rest) =
    if c == 40 then (Open, 1) else
    (if c == 41 then (Close, 1) else
    word_at (up_to ends_field (c ∷ rest)) (c ∷ rest))

-- a token and the place of its first byte
pub record Placed : Type 0 where
  pub at : ℕ
  pub token : Token

abbrev pub placed : ℕ → Token → Placed
placed at token = record { at = at; token = token }

-- The tokens of a text whose first byte stands at the place `at`: spaces between them don't count, and the first `inside`
-- bytes belong to a token that began before.
unfoldable pub tokens_from : (inside at : ℕ) → List ℕ → List Placed
tokens_from inside at [] = []
tokens_from (suc inside) at (c ∷ rest) = tokens_from inside (at + 1) rest
tokens_from zero at (c ∷ rest) =
    if is_space c
    then tokens_from zero (at + 1) rest
    else placed at (token_at (c ∷ rest)).0 ∷ tokens_from ((token_at (c ∷ rest)).1 - 1) (at + 1) rest

-- the tokens of a whole text, each with its place
abbrev pub tokens : List ℕ → List Placed
tokens text = tokens_from 0 0 text
