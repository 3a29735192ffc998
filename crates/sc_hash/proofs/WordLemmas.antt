-- How MurmurHash3's recursion over a text goes on at a place of the text.
use Rattle.std.proofs.Common.{◌≡◌, ℕ, ◌+◌, ◌<◌, ◌≤◌, List, [], ◌∷◌, length, get_or, drop, refl, sym, arith, ap, ◌∙◌}
use Rattle.std.proofs.lemmas.List.{drop_more}
use Rattle.std.specs.Int.{w32, from_le_bytes}
use Rattle.sc_hash.specs.Hash.{after_word, after_text}

-- one whole word further
after_text-word : (hash a b c d : ℕ) (text : List ℕ) → after_text hash (a ∷ b ∷ c ∷ d ∷ text) ≡ after_text (after_word hash (from_le_bytes w32 (a ∷ b ∷ c ∷ d ∷ []))) text
unfolding after_text
after_text-word hash a b c d text = refl

-- the byte at a place, and what follows it
drop_byte : (text : List ℕ) (at next : ℕ) → next ≡ at + 1 → at < length text → drop at text ≡ get_or text at 0 ∷ drop next text
drop_byte text at next e h = drop_more text at 0 h ∙ ap (λ n. get_or text at 0 ∷ drop n text) (sym e)

-- the four bytes at a place, and what follows them
drop_word : (text : List ℕ) (at next : ℕ) → next ≡ at + 4 → next ≤ length text → drop at text ≡ get_or text at 0 ∷ get_or text (at + 1) 0 ∷ get_or text (at + 2) 0 ∷ get_or text (at + 3) 0 ∷ drop next text
drop_word text at next e h =
    drop_byte text at (at + 1) refl (omega arith)
    ∙ ap (λ rest. get_or text at 0 ∷ rest) (drop_byte text (at + 1) (at + 2) (omega arith) (omega arith)
    ∙ ap (λ rest. get_or text (at + 1) 0 ∷ rest) (drop_byte text (at + 2) (at + 3) (omega arith) (omega arith)
    ∙ ap (λ rest. get_or text (at + 2) 0 ∷ rest) (drop_byte text (at + 3) next (omega arith) (omega arith))))

-- the hash after the text from a place on, by way of the word there
pub after_text-drop : (hash : ℕ) (text : List ℕ) (at next : ℕ) → next ≡ at + 4 → next ≤ length text → after_text hash (drop at text) ≡ after_text (after_word hash (from_le_bytes w32 (get_or text at 0 ∷ get_or text (at + 1) 0 ∷ get_or text (at + 2) 0 ∷ get_or text (at + 3) 0 ∷ []))) (drop next text)
after_text-drop hash text at next e h = ap (after_text hash) (drop_word text at next e h) ∙ after_text-word hash _ _ _ _ _
