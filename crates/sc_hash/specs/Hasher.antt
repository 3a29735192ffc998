-- How far MurmurHash3 x86_32 has come in a text whose bytes are read one by one.
use Rattle.std.specs.Prelude.{ℕ, ◌*◌, ◌/◌, ◌%◌, ◌^◌, List, length, take, drop}
use Rattle.std.specs.Int.{w32, from_le_bytes}
use Rattle.sc_hash.specs.Hash.{after_text}

-- how many bytes of a text stand in its whole words of four
abbrev pub word_bytes : List ℕ → ℕ
word_bytes text = length text / 4 * 4

-- what the hash of a longer text needs of the bytes so far: the hash after their whole words, the word that the bytes
-- after these make with zeros above them, and how many bytes there were, as a number of 32 bits
pub record Progress : Type 0 where
  pub hash : ℕ
  pub word : ℕ
  pub count : ℕ

-- the progress after a text that is read with a seed
unfoldable pub progress : ℕ → List ℕ → Progress
progress seed text = record {
  hash = after_text seed (take (word_bytes text) text);
  word = from_le_bytes w32 (drop (word_bytes text) text);
  count = length text % 2 ^ 32;
}
