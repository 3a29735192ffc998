-- MurmurHash3 x86_32, the public standard by Austin Appleby (MurmurHash3.cpp of SMHasher).
-- A text is a list of bytes, and a hash, a seed and a word are numbers below 2 ^ 32.
use Rattle.std.specs.Prelude.{ℕ, ◌+◌, ◌*◌, ◌/◌, ◌%◌, ◌^◌, List, [], ◌∷◌, length, bit_xor}
use Rattle.std.specs.Int.{w32, rotate_left, from_le_bytes}

-- what a word adds to the hash, also the word that the last one to three bytes make with zeros above them
unfoldable pub word_mix : ℕ → ℕ
word_mix word = rotate_left w32 (word * 0xcc9e2d51 % 2 ^ 32) 15 * 0x1b873593 % 2 ^ 32

-- the hash after one more whole word
unfoldable pub after_word : ℕ → ℕ → ℕ
after_word hash word = (rotate_left w32 (bit_xor hash (word_mix word)) 13 * 5 % 2 ^ 32 + 0xe6546b64) % 2 ^ 32

-- the hash after a text, read in words of four bytes, the lowest byte first, and a rest of at most three
unfoldable pub after_text : ℕ → List ℕ → ℕ
after_text hash (a ∷ b ∷ c ∷ d ∷ text) = after_text (after_word hash (from_le_bytes w32 (a ∷ b ∷ c ∷ d ∷ []))) text
after_text hash (a ∷ b ∷ c ∷ []) = bit_xor hash (word_mix (from_le_bytes w32 (a ∷ b ∷ c ∷ 0 ∷ [])))
after_text hash (a ∷ b ∷ []) = bit_xor hash (word_mix (from_le_bytes w32 (a ∷ b ∷ 0 ∷ 0 ∷ [])))
after_text hash (a ∷ []) = bit_xor hash (word_mix (from_le_bytes w32 (a ∷ 0 ∷ 0 ∷ 0 ∷ [])))
after_text hash [] = hash

-- a number joined to itself moved down by some bits
abbrev pub xor_shifted : ℕ → ℕ → ℕ
xor_shifted by n = bit_xor n (n / 2 ^ by)

-- the last mixing of the hash (fmix32 of the standard)
unfoldable pub final_mix : ℕ → ℕ
final_mix hash = xor_shifted 16 (xor_shifted 13 (xor_shifted 16 hash * 0x85ebca6b % 2 ^ 32) * 0xc2b2ae35 % 2 ^ 32)

-- the MurmurHash3 of a text of fewer than 2 ^ 32 bytes, with a seed
unfoldable pub murmur3 : List ℕ → ℕ → ℕ
murmur3 text seed = final_mix (bit_xor (after_text seed text) (length text))
