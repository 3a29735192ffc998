-- The words of a line.
use Rattle.std.proofs.Common.{ℕ, Bool, true, false, List, [], ◌∷◌}
use Rattle.std.specs.Prelude.{◌==◌}

-- the words of a byte and a text, by the words of the text: a space begins a word, and any other byte goes before the first one
abbrev with_byte : Bool → ℕ → List (List ℕ) → List (List ℕ)
with_byte true byte words = [] ∷ words
with_byte false byte [] = (byte ∷ []) ∷ []
with_byte false byte (word ∷ words) = (byte ∷ word) ∷ words

-- the words between the spaces of a text; after a space at its end comes an empty word
abbrev pub words_of : List ℕ → List (List ℕ)
words_of [] = [] ∷ []
words_of (byte ∷ text) = with_byte (byte == 32) byte (words_of text)
