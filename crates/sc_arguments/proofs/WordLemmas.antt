-- What clap and the definitions see of a word alike: an option, with its value or without.
use Rattle.std.proofs.Common.{◌≡◌, ◌∙◌, ◌+◌, ℕ, suc, Bool, true, false, ◌&&◌, ◌||◌, List, [], ◌∷◌, ◌++◌, map, length, drop, Option, Some, None, refl, sym, ap, subst, arith, eqb-true, eq-eqb, true≢false, ap₂, slice_index}
use Rattle.std.specs.Prelude.{◌==◌, ◌^◌, nat_lt, nat_le}
use Rattle.std.specs.Str.Parse.{digits_value}
use Rattle.std.specs.Char.{is_ascii_digit}
use Rattle.std.specs.List.{list_all, list_any, position_or_len, before_first, after_first}
use Rattle.std.specs.Str.{bytes_eq}
use Rattle.std.proofs.Math.ListN.{take-append-drop}
use Rattle.clap.specs.Lexer.{long_of, short_of}
use Rattle.clap.specs.Walk.{Text}
use Rattle.sc_arguments.specs.Options.{Setting, is_equals_sign, is_number, setting_of, settings}
use Rattle.sc_arguments.specs.Found.{option_name}
use Rattle.sc_arguments.proofs.RuleLemmas.{same_text}

-- the word that ends the options for clap
abbrev pub stop : Text
stop = 45 ∷ 45 ∷ []

-- ---- numbers

third : (a b c d : Bool) → (a && b && c && d) ≡ true → c ≡ true
third true true true d h = refl
third true true false d h = absurd (cc)
third true false c d h = absurd (cc)
third false b c d h = absurd (cc)

pub dash_no_number : (text : Text) → is_number (45 ∷ text) ≡ true → ⊥
dash_no_number text h = let bad : false ≡ true = third (nat_lt 0 (length (45 ∷ text))) (nat_le (length (45 ∷ text)) 20) (list_all is_ascii_digit (45 ∷ text)) (nat_lt (digits_value 10 (45 ∷ text)) (2 ^ 64)) h in absurd (cc)

pub short_no_number : (word flags : Text) → short_of word ≡ Some flags → is_number word ≡ true → ⊥
short_no_number [] flags e h = absurd (cc)
short_no_number (byte ∷ word) flags e h = by (byte == 45) refl where
  by : (t : Bool) → (byte == 45) ≡ t → ⊥
  by true f = dash_no_number word (subst (λ (b : ℕ). is_number (b ∷ word) ≡ true) (eqb-true byte 45 f) h)
  by false f = let none = rw f at e in cc

-- ---- the parts of a word

one_more : (k : ℕ) → 1 + k ≡ suc k
one_more k = omega arith

pub before_step : (byte : ℕ) (word : Text) → is_equals_sign byte ≡ false → before_first is_equals_sign (byte ∷ word) ≡ byte ∷ before_first is_equals_sign word
before_step byte word e = rw e (rw (one_more (position_or_len is_equals_sign word)) refl)

pub after_step : (byte : ℕ) (word : Text) → is_equals_sign byte ≡ false → after_first is_equals_sign (byte ∷ word) ≡ after_first is_equals_sign word
after_step byte word e =
    let k = position_or_len is_equals_sign word in
    let more : 1 + k + 1 ≡ suc (k + 1) = omega arith in
    rw e (rw more refl)

-- a word without `=` is whole before it, and nothing is after it
whole : (word : Text) → list_any is_equals_sign word ≡ false → (before_first is_equals_sign word ≡ word) × (after_first is_equals_sign word ≡ [])
whole [] e = (refl, refl)
whole (byte ∷ word) e = by (is_equals_sign byte) refl e (whole word) where
  by : (t : Bool) → is_equals_sign byte ≡ t → (t || list_any is_equals_sign word) ≡ false
      → (list_any is_equals_sign word ≡ false → (before_first is_equals_sign word ≡ word) × (after_first is_equals_sign word ≡ []))
      → (before_first is_equals_sign (byte ∷ word) ≡ byte ∷ word) × (after_first is_equals_sign (byte ∷ word) ≡ [])
  by true f g rest = absurd (cc)
  by false f g rest = (before_step byte word f ∙ ap (λ (t : Text). byte ∷ t) (rest g).0, after_step byte word f ∙ (rest g).1)

pub before_whole : (word : Text) → list_any is_equals_sign word ≡ false → before_first is_equals_sign word ≡ word
before_whole word e = (whole word e).0

-- what begins a part of a word begins the word
pub starts : (word name : Text) → before_first is_equals_sign word ≡ option_name name → (rest : Text) × (word ≡ 45 ∷ 45 ∷ rest)
starts word name e =
    let k = position_or_len is_equals_sign word in
    (name ++ drop k word, sym (take-append-drop k word) ∙ ap (λ (t : Text). t ++ drop k word) e)

-- ---- what a word is

pub data WordKind (word : Text) : Type 0 where
  -- an option with its value
  joined_word : (name value : Text) → long_of word ≡ Some (name, Some value) → setting_of word ≡ (option_name name, value) → list_any is_equals_sign word ≡ true → WordKind word
  -- an option
  alone_word : (name : Text) → long_of word ≡ Some (name, None) → word ≡ option_name name → list_any is_equals_sign word ≡ false → WordKind word
  -- no option
  other_word : long_of word ≡ None → ((rest : Text) → word ≡ 45 ∷ 45 ∷ rest → ⊥) → WordKind word

abbrev nothing : Option Text
nothing = None

of_long : (byte : ℕ) (text : Text) → WordKind (45 ∷ 45 ∷ byte ∷ text)
of_long byte text = by (list_any is_equals_sign (byte ∷ text)) refl where
  before : before_first is_equals_sign (45 ∷ 45 ∷ byte ∷ text) ≡ option_name (before_first is_equals_sign (byte ∷ text))
  before = before_step 45 (45 ∷ byte ∷ text) refl ∙ ap (λ (t : Text). 45 ∷ t) (before_step 45 (byte ∷ text) refl)

  after : after_first is_equals_sign (45 ∷ 45 ∷ byte ∷ text) ≡ after_first is_equals_sign (byte ∷ text)
  after = after_step 45 (45 ∷ byte ∷ text) refl ∙ after_step 45 (byte ∷ text) refl

  by : (t : Bool) → list_any is_equals_sign (byte ∷ text) ≡ t → WordKind (45 ∷ 45 ∷ byte ∷ text)
  by true e = joined_word (before_first is_equals_sign (byte ∷ text)) (after_first is_equals_sign (byte ∷ text)) (rw e refl) (ap₂ (λ (a b : Text). (a, b)) before after) e
  by false e = alone_word (byte ∷ text) (rw e (ap (λ (t : Text). Some (t, nothing)) (whole (byte ∷ text) e).0)) refl e

differs : {a b : ℕ} → (a == b) ≡ false → a ≡ b → ⊥
differs {a} {b} e f = let same = eq-eqb a b f in absurd (true≢false (sym same ∙ e))

pub kind_of_word : (word : Text) → bytes_eq word stop ≡ false → WordKind word
kind_of_word [] s = other_word refl (λ rest e. absurd (cc))
kind_of_word (a ∷ []) s = by (a == 45) refl where
  by : (t : Bool) → (a == 45) ≡ t → WordKind (a ∷ [])
  by true e = other_word (rw e refl) (λ rest f. absurd (cc))
  by false e = other_word (rw e refl) (λ rest f. absurd (cc))
kind_of_word (a ∷ b ∷ text) s = by (a == 45) (b == 45) refl refl where
  by : (t u : Bool) → (a == 45) ≡ t → (b == 45) ≡ u → WordKind (a ∷ b ∷ text)
  by false u e f = other_word (rw e refl) (λ rest g. absurd (differs e (ap (λ (t : Text). slice_index t 0) g)))
  by true false e f = other_word (rw e (rw f refl)) (λ rest g. absurd (differs f (ap (λ (t : Text). slice_index t 1) g)))
  by true true e f = subst WordKind (sym (ap₂ (λ (x y : ℕ). x ∷ y ∷ text) (eqb-true a 45 e) (eqb-true b 45 f))) (long text (subst (λ (t : Text). bytes_eq t stop ≡ false) (ap₂ (λ (x y : ℕ). x ∷ y ∷ text) (eqb-true a 45 e) (eqb-true b 45 f)) s)) where
    long : (text : Text) → bytes_eq (45 ∷ 45 ∷ text) stop ≡ false → WordKind (45 ∷ 45 ∷ text)
    long [] h = absurd (cc)
    long (byte ∷ rest) h = of_long byte rest

-- ---- the settings of words

-- a word with `=` is an option with its value
pub in_one_word : (word : List ℕ) (words : List (List ℕ)) → list_any is_equals_sign word ≡ true → settings (word ∷ words) ≡ setting_of word ∷ settings words
in_one_word word [] h = refl
in_one_word word (value ∷ words) h = rw h refl

-- a word without `=` is an option, and its value is the word after it
pub in_two_words : (word value : List ℕ) (words : List (List ℕ)) → list_any is_equals_sign word ≡ false → settings (word ∷ value ∷ words) ≡ (word, value) ∷ settings words
in_two_words word value words h = rw h refl

-- the first setting has what stands before `=` for its name
pub first_setting : (word : Text) (words : List Text) → (value : Text) × (more : List Setting) × (settings (word ∷ words) ≡ (before_first is_equals_sign word, value) ∷ more)
first_setting word [] = (after_first is_equals_sign word, [], refl)
first_setting word (next ∷ words) = by (list_any is_equals_sign word) refl where
  by : (t : Bool) → list_any is_equals_sign word ≡ t → (value : Text) × (more : List Setting) × (settings (word ∷ next ∷ words) ≡ (before_first is_equals_sign word, value) ∷ more)
  by true e = (after_first is_equals_sign word, settings (next ∷ words), in_one_word word (next ∷ words) e)
  by false e = (next, settings words, in_two_words word next words e ∙ ap (λ (t : Text). (t, next) ∷ settings words) (sym (whole word e).0))

pub joined_settings : (word name value : Text) (words : List Text) → setting_of word ≡ (option_name name, value) → list_any is_equals_sign word ≡ true → settings (word ∷ words) ≡ (option_name name, value) ∷ settings words
joined_settings word name value words is sign = in_one_word word words sign ∙ ap (λ (s : Setting). s ∷ settings words) is

pub open_settings : (word name value : Text) (words : List Text) → word ≡ option_name name → list_any is_equals_sign word ≡ false → settings (word ∷ value ∷ words) ≡ (option_name name, value) ∷ settings words
open_settings word name value words is none = in_two_words word value words none ∙ ap (λ (t : Text). (t, value) ∷ settings words) is

pub last_settings : (word name : Text) → word ≡ option_name name → list_any is_equals_sign word ≡ false → settings (word ∷ []) ≡ (option_name name, []) ∷ []
last_settings word name is none = ap₂ (λ (a b : Text). (a, b) ∷ []) ((whole word none).0 ∙ is) (whole word none).1

-- ---- the names of options

pub known_name : (names : List Text) (name : Text) → list_any (bytes_eq (option_name name)) (map option_name names) ≡ list_any (bytes_eq name) names
known_name [] name = refl
known_name (n ∷ names) name = ap (λ (t : Bool). bytes_eq name n || t) (known_name names name)

-- one of the names begins with two hyphens
pub known_begins : (names : List Text) (text : Text) → list_any (bytes_eq text) (map option_name names) ≡ true → (name : Text) × (text ≡ option_name name)
known_begins [] text h = absurd (true≢false (sym h))
known_begins (n ∷ names) text h = by (bytes_eq text (option_name n)) refl h (known_begins names text) where
  by : (t : Bool) → bytes_eq text (option_name n) ≡ t → (t || list_any (bytes_eq text) (map option_name names)) ≡ true
      → (list_any (bytes_eq text) (map option_name names) ≡ true → (name : Text) × (text ≡ option_name name)) → (name : Text) × (text ≡ option_name name)
  by true e k rest = (n, same_text text (option_name n) e)
  by false e k rest = rest k
