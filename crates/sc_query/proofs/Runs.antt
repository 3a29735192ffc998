-- How the steps of the reader read a whole text.
use Rattle.std.proofs.Common.{ℕ, Result, Ok, Err, List, [], ◌∷◌, length}
use Rattle.sc_query.specs.Tokens.{Placed, tokens}
use Rattle.sc_query.specs.Tree.{Tree}
use Rattle.sc_query.proofs.Reading.{Reader, empty, step, finish}

-- a step, and what comes after it where it stops at no fault
abbrev pub goes_on : Result Reader ℕ → (Reader → Result Tree ℕ) → Result Tree ℕ
goes_on (Ok reader) next = next reader
goes_on (Err at) next = Err at

-- the tokens are read one by one, to the text's end or the first fault
unfoldable pub run : ℕ → Reader → List Placed → Result Tree ℕ
run end reader [] = finish reader end
run end reader (p ∷ ps) = goes_on (step reader p.token p.at) (λ next. run end next ps)

-- a whole text
abbrev pub reading : List ℕ → Result Tree ℕ
reading text = run (length text) (Reader.Operand [] (empty 32)) (tokens text)
