-- What a hasher keeps of a text, when one more byte comes and when the text is over.
use Rattle.std.proofs.Common.{◌≡◌, ◌≢◌, ℕ, zero, suc, ◌+◌, ◌*◌, ◌/◌, ◌%◌, ◌^◌, ◌<◌, List, [], ◌∷◌, ◌++◌, length, get_or, take, drop, refl, sym, ap, ◌∙◌, arith, bit_xor, length-append, append_assoc, subst, ◌≤◌, lit<}
use Rattle.std.proofs.lemmas.List.{take-append-le, drop-append-le, take-append-drop, take_all, length-take-le, length-drop}
use Rattle.std.proofs.Math.ListN.{drop_of_length-le}
use Rattle.std.proofs.Math.Nat.{pow-le-pow_right}
use Rattle.std.proofs.lemmas.Nat.{mul-add-lt, pow-add}
use Rattle.std.specs.Int.{w32, from_le_bytes}
use Rattle.std.specs.Int.Bits.{xor_zero_r}
use Rattle.sc_hash.specs.Hash.{word_mix, after_word, after_text, final_mix, murmur3}
use Rattle.sc_hash.specs.Hasher.{word_bytes, Progress, progress}

-- whole words are read before what follows them
after_text-append : (n hash : ℕ) (words text : List ℕ) → length words ≡ 4 * n → after_text hash (words ++ text) ≡ after_text (after_text hash words) text
unfolding after_text
after_text-append zero hash [] text e = refl
after_text-append zero hash (a ∷ words) text e = absurd (omega arith)
after_text-append (suc n) hash [] text e = absurd (omega arith)
after_text-append (suc n) hash (a ∷ []) text e = absurd (omega arith)
after_text-append (suc n) hash (a ∷ b ∷ []) text e = absurd (omega arith)
after_text-append (suc n) hash (a ∷ b ∷ c ∷ []) text e = absurd (omega arith)
after_text-append (suc n) hash (a ∷ b ∷ c ∷ d ∷ words) text e = after_text-append n (after_word hash (from_le_bytes w32 (a ∷ b ∷ c ∷ d ∷ []))) words text (omega arith)

-- a text by its whole words and what waits after them
length-words : (text : List ℕ) → length (take (word_bytes text) text) ≡ 4 * (length text / 4)
length-words text = length-take-le (word_bytes text) text (omega arith) ∙ omega arith

length-waiting : (text : List ℕ) → length (drop (word_bytes text) text) ≡ length text % 4
length-waiting text = omega (arith, length-drop (word_bytes text) text)

after_text-words : (hash : ℕ) (text more : List ℕ) → after_text hash (text ++ more) ≡ after_text (after_text hash (take (word_bytes text) text)) (drop (word_bytes text) text ++ more)
after_text-words hash text more =
    let words = take (word_bytes text) text in
    let waiting = drop (word_bytes text) text in
    ap (λ t. after_text hash (t ++ more)) (sym (take-append-drop (word_bytes text) text))
    ∙ ap (after_text hash) (append_assoc words waiting more)
    ∙ after_text-append (length text / 4) hash words (waiting ++ more) (length-words text)

-- the number of a few bytes with one more after them
from_le_bytes-push : (bytes : List ℕ) (byte : ℕ) → length bytes < 4 → from_le_bytes w32 (bytes ++ byte ∷ []) ≡ from_le_bytes w32 bytes + byte * 2 ^ (8 * length bytes)
from_le_bytes-push [] byte h = omega arith
from_le_bytes-push (a ∷ []) byte h = omega arith
from_le_bytes-push (a ∷ b ∷ []) byte h = omega arith
from_le_bytes-push (a ∷ b ∷ c ∷ []) byte h = omega arith
from_le_bytes-push (a ∷ b ∷ c ∷ d ∷ bytes) byte h = absurd (omega arith)

-- the word of the bytes that wait, with one more byte above them
waiting-push : (word byte place : ℕ) (text : List ℕ) → word ≡ from_le_bytes w32 (drop (word_bytes text) text) → place ≡ length text % 4 → word + byte * 2 ^ (8 * place) ≡ from_le_bytes w32 (drop (word_bytes text) text ++ byte ∷ [])
waiting-push word byte place text e at =
    let waiting = drop (word_bytes text) text in
    ap (λ n. n + byte * 2 ^ (8 * place)) e
    ∙ ap (λ n. from_le_bytes w32 waiting + byte * 2 ^ (8 * n)) (at ∙ sym (length-waiting text))
    ∙ sym (from_le_bytes-push waiting byte (omega (arith, length-waiting text)))

-- a byte above a word
pub push_below : (word byte place : ℕ) → byte < 2 ^ 8 → word < 2 ^ (8 * place) → byte * 2 ^ (8 * place) + word < 2 ^ (8 * (place + 1))
push_below word byte place p q =
    let all : 8 + 8 * place ≡ 8 * (place + 1) = omega arith in
    subst (λ n. byte * 2 ^ (8 * place) + word < 2 ^ n) all (omega (arith, mul-add-lt byte (2 ^ (8 * place)) word (2 ^ 8) p q, pow-add 2 8 (8 * place)))

pub push_fits : (place : ℕ) → place < 4 → 2 ^ (8 * (place + 1)) ≤ 2 ^ 32
push_fits place h = let most : 8 * (place + 1) ≤ 32 = omega arith in pow-le-pow_right (lit< tt) most

-- one more byte that fills no word waits after the others
module _ (text : List ℕ) (byte : ℕ) (open_word : length text % 4 ≢ 3) where
  same_bytes : word_bytes (text ++ byte ∷ []) ≡ word_bytes text
  same_bytes = omega (arith, length-append text (byte ∷ []))

  words-push_waits : take (word_bytes (text ++ byte ∷ [])) (text ++ byte ∷ []) ≡ take (word_bytes text) text
  words-push_waits = ap (λ n. take n (text ++ byte ∷ [])) same_bytes ∙ take-append-le (word_bytes text) text (byte ∷ []) (omega arith)

  waiting-push_waits : drop (word_bytes (text ++ byte ∷ [])) (text ++ byte ∷ []) ≡ drop (word_bytes text) text ++ byte ∷ []
  waiting-push_waits = ap (λ n. drop n (text ++ byte ∷ [])) same_bytes ∙ drop-append-le (word_bytes text) text (byte ∷ []) (omega arith)

-- four bytes are a word
after_text-word : (hash : ℕ) (bytes : List ℕ) → length bytes ≡ 4 → after_text hash bytes ≡ after_word hash (from_le_bytes w32 bytes)
unfolding after_text
after_text-word hash [] h = absurd (omega arith)
after_text-word hash (a ∷ []) h = absurd (omega arith)
after_text-word hash (a ∷ b ∷ []) h = absurd (omega arith)
after_text-word hash (a ∷ b ∷ c ∷ []) h = absurd (omega arith)
after_text-word hash (a ∷ b ∷ c ∷ d ∷ []) h = refl
after_text-word hash (a ∷ b ∷ c ∷ d ∷ e ∷ bytes) h = absurd (omega arith)

-- one that fills a word leaves nothing waiting
module _ (text : List ℕ) (byte : ℕ) (full_word : length text % 4 ≡ 3) where
  all_bytes : length (text ++ byte ∷ []) ≡ word_bytes (text ++ byte ∷ [])
  all_bytes = omega (arith, length-append text (byte ∷ []))

  waiting-push_fills : drop (word_bytes (text ++ byte ∷ [])) (text ++ byte ∷ []) ≡ []
  waiting-push_fills = drop_of_length-le (text ++ byte ∷ []) (omega (arith, all_bytes))

  words-push_fills : (seed : ℕ) → after_text seed (take (word_bytes (text ++ byte ∷ [])) (text ++ byte ∷ [])) ≡ after_word (after_text seed (take (word_bytes text) text)) (from_le_bytes w32 (drop (word_bytes text) text ++ byte ∷ []))
  words-push_fills seed =
      ap (after_text seed) (take_all _ (text ++ byte ∷ []) (omega (arith, all_bytes)))
      ∙ after_text-words seed text (byte ∷ [])
      ∙ after_text-word _ (drop (word_bytes text) text ++ byte ∷ []) (omega (arith, length-append (drop (word_bytes text) text) (byte ∷ []), length-waiting text, full_word))

-- a whole word after whole words
module _ (text bytes : List ℕ) (whole : length text % 4 ≡ 0) (four : length bytes ≡ 4) where
  word_end : length (text ++ bytes) ≡ word_bytes (text ++ bytes)
  word_end = omega (arith, length-append text bytes)

  waiting-append_word : drop (word_bytes text) text ≡ drop (word_bytes (text ++ bytes)) (text ++ bytes)
  waiting-append_word = drop_of_length-le text (omega arith) ∙ sym (drop_of_length-le (text ++ bytes) (omega (arith, word_end)))

  words-append_word : (seed : ℕ) → after_text seed (take (word_bytes (text ++ bytes)) (text ++ bytes)) ≡ after_word (after_text seed (take (word_bytes text) text)) (from_le_bytes w32 bytes)
  words-append_word seed =
      ap (after_text seed) (take_all _ (text ++ bytes) (omega (arith, word_end)))
      ∙ after_text-words seed text bytes
      ∙ ap (λ waiting. after_text (after_text seed (take (word_bytes text) text)) (waiting ++ bytes)) (drop_of_length-le text (omega arith))
      ∙ after_text-word _ bytes four

-- the bytes that wait are mixed in as a word with zeros above them
after_rest : (hash : ℕ) (rest : List ℕ) → length rest < 4 → bit_xor hash (word_mix (from_le_bytes w32 rest)) ≡ after_text hash rest
unfolding after_text word_mix
after_rest hash [] h = xor_zero_r hash
after_rest hash (a ∷ []) h = refl
after_rest hash (a ∷ b ∷ []) h = refl
after_rest hash (a ∷ b ∷ c ∷ []) h = refl
after_rest hash (a ∷ b ∷ c ∷ d ∷ rest) h = absurd (omega arith)

after_text-waiting : (hash : ℕ) (text : List ℕ) → bit_xor (after_text hash (take (word_bytes text) text)) (word_mix (from_le_bytes w32 (drop (word_bytes text) text))) ≡ after_text hash text
after_text-waiting hash text =
    let words = take (word_bytes text) text in
    let waiting = drop (word_bytes text) text in
    after_rest (after_text hash words) waiting (omega (arith, length-waiting text))
    ∙ sym (after_text-append (length text / 4) hash words waiting (length-words text))
    ∙ ap (after_text hash) (take-append-drop (word_bytes text) text)

-- four bytes one by one
pub each_of_four : (bytes : List ℕ) → length bytes ≡ 4 → get_or bytes 0 0 ∷ get_or bytes 1 0 ∷ get_or bytes 2 0 ∷ get_or bytes 3 0 ∷ [] ≡ bytes
each_of_four [] h = absurd (omega arith)
each_of_four (a ∷ []) h = absurd (omega arith)
each_of_four (a ∷ b ∷ []) h = absurd (omega arith)
each_of_four (a ∷ b ∷ c ∷ []) h = absurd (omega arith)
each_of_four (a ∷ b ∷ c ∷ d ∷ []) h = refl
each_of_four (a ∷ b ∷ c ∷ d ∷ e ∷ bytes) h = absurd (omega arith)

-- ---- the progress in a text
-- a progress by its parts
abbrev pub progress_of : ℕ → ℕ → ℕ → Progress
progress_of hash word count = record { hash = hash; word = word; count = count }

same_parts : (a b c d e f : ℕ) → a ≡ d → b ≡ e → c ≡ f → progress_of a b c ≡ progress_of d e f
same_parts a b c d e f p q r =
    ap (λ n. progress_of n b c) p ∙ ap (λ n. progress_of d n c) q ∙ ap (progress_of d e) r

-- the parts of the progress in a text
record HasRead (hash word count seed : ℕ) (text : List ℕ) : Type 0 where
  hash_is : hash ≡ after_text seed (take (word_bytes text) text)
  word_is : word ≡ from_le_bytes w32 (drop (word_bytes text) text)
  count_is : count ≡ length text % 2 ^ 32

has_read : (hash word count seed : ℕ) (text : List ℕ) → progress_of hash word count ≡ progress seed text → HasRead hash word count seed text
unfolding progress
has_read hash word count seed text is = record {
  hash_is = ap (λ (p : Progress). p.hash) is;
  word_is = ap (λ (p : Progress). p.word) is;
  count_is = ap (λ (p : Progress). p.count) is;
}

from_parts : (hash word count seed : ℕ) (text : List ℕ) → HasRead hash word count seed text → progress_of hash word count ≡ progress seed text
unfolding progress
from_parts hash word count seed text h = same_parts hash word count _ _ _ h.hash_is h.word_is h.count_is

-- one more byte fills the last word
pub progress-fills : (hash word count byte seed : ℕ) (text : List ℕ) → progress_of hash word count ≡ progress seed text → count % 4 ≡ 3
    → progress_of (after_word hash (word + byte * 2 ^ (8 * (count % 4)))) 0 ((count + 1) % 2 ^ 32) ≡ progress seed (text ++ byte ∷ [])
progress-fills hash word count byte seed text is full_word =
    let h = has_read hash word count seed text is in
    let place : count % 4 ≡ length text % 4 = omega (arith, h.count_is) in
    let full : length text % 4 ≡ 3 = sym place ∙ full_word in
    from_parts _ _ _ seed (text ++ byte ∷ []) record {
      hash_is =
          ap (after_word hash) (waiting-push word byte (count % 4) text h.word_is place)
          ∙ ap (λ n. after_word n (from_le_bytes w32 (drop (word_bytes text) text ++ byte ∷ []))) h.hash_is
          ∙ sym (words-push_fills text byte full seed);
      word_is = sym (ap (from_le_bytes w32) (waiting-push_fills text byte full));
      count_is = omega (arith, h.count_is, length-append text (byte ∷ []));
    }

-- or waits after the others
pub progress-waits : (hash word count byte seed : ℕ) (text : List ℕ) → progress_of hash word count ≡ progress seed text → count % 4 ≢ 3
    → progress_of hash (word + byte * 2 ^ (8 * (count % 4))) ((count + 1) % 2 ^ 32) ≡ progress seed (text ++ byte ∷ [])
progress-waits hash word count byte seed text is not_full =
    let h = has_read hash word count seed text is in
    let place : count % 4 ≡ length text % 4 = omega (arith, h.count_is) in
    let open_word : length text % 4 ≢ 3 = λ full. not_full (place ∙ full) in
    from_parts _ _ _ seed (text ++ byte ∷ []) record {
      hash_is = h.hash_is ∙ ap (after_text seed) (sym (words-push_waits text byte open_word));
      word_is = waiting-push word byte (count % 4) text h.word_is place ∙ ap (from_le_bytes w32) (sym (waiting-push_waits text byte open_word));
      count_is = omega (arith, h.count_is, length-append text (byte ∷ []));
    }

-- four more bytes after whole words
pub progress-word : (hash word count seed : ℕ) (text bytes : List ℕ) → progress_of hash word count ≡ progress seed text → count % 4 ≡ 0
    → length bytes ≡ 4 → progress_of (after_word hash (from_le_bytes w32 bytes)) word ((count + 4) % 2 ^ 32) ≡ progress seed (text ++ bytes)
progress-word hash word count seed text bytes is none four =
    let h = has_read hash word count seed text is in
    let whole : length text % 4 ≡ 0 = omega (arith, h.count_is) in
    from_parts _ _ _ seed (text ++ bytes) record {
      hash_is = ap (λ n. after_word n (from_le_bytes w32 bytes)) h.hash_is ∙ sym (words-append_word text bytes whole four seed);
      word_is = h.word_is ∙ ap (from_le_bytes w32) (waiting-append_word text bytes whole four);
      count_is = omega (arith, h.count_is, length-append text bytes);
    }

-- the text's hash
pub progress-finish : (hash word count seed : ℕ) (text : List ℕ) → progress_of hash word count ≡ progress seed text → length text < 2 ^ 32
    → final_mix (bit_xor (bit_xor hash (word_mix word)) count) ≡ murmur3 text seed
unfolding murmur3
progress-finish hash word count seed text is few =
    let h = has_read hash word count seed text is in
    let whole : count ≡ length text = omega (arith, h.count_is) in
    ap (λ n. final_mix (bit_xor (bit_xor hash (word_mix n)) count)) h.word_is
    ∙ ap (λ n. final_mix (bit_xor (bit_xor n (word_mix (from_le_bytes w32 (drop (word_bytes text) text)))) count)) h.hash_is
    ∙ ap (λ n. final_mix (bit_xor n count)) (after_text-waiting seed text)
    ∙ ap (λ n. final_mix (bit_xor (after_text seed text) n)) whole
