-- A number or a text that is read is spelled so, and what is spelled so is read again, whatever follows it.
use Rattle.std.proofs.Common.{◌≡◌, ℕ, zero, suc, ◌+◌, ◌^◌, ◌<◌, ◌≤◌, Bool, true, false, cond, ltb, List, [], ◌∷◌, ◌++◌, length, get_or, take, drop, Option, Some, None, refl, sym, ap, subst, ◌∙◌, append_assoc, arith, inl, inr}
use Rattle.std.specs.Int.{Width, w16, w32, w64, byte_len, from_le_bytes, to_le_bytes}
use Rattle.std.specs.Str.{is_utf8, IsUtf8}
use Rattle.std.proofs.lemmas.Str.{is_utf8-from_IsUtf8, IsUtf8-from_is_utf8}
use Rattle.std.proofs.lemmas.Bool.{cases_lt, ltb-false, le-ltb}
use Rattle.std.proofs.lemmas.List.{take_at, drop_at, take-append-drop, length-append, length-take, get_or-drop, get_or-take, get_or_past}
use Rattle.std.proofs.lemmas.Nat.{le_bytes_2, le_bytes_4, le_bytes_8, from_le_bytes-to_le_bytes_2, from_le_bytes-to_le_bytes_4, from_le_bytes-to_le_bytes_8}
use Rattle.sc_spelling.specs.Spellings.{flag_byte}
use Rattle.sc_spelling.specs.Reading.{◌>>=◌, number_at, cut_text, text_at, flag_at}

-- each is a byte
abbrev pub IsBytes : List ℕ → Type 0
IsBytes bytes = (i : ℕ) → get_or bytes i 0 < 256

pub IsBytes-drop : (n : ℕ) (bytes : List ℕ) → IsBytes bytes → IsBytes (drop n bytes)
IsBytes-drop n bytes h i = rw get_or-drop (h (n + i))

pub IsBytes-take : (n : ℕ) (bytes : List ℕ) → IsBytes bytes → IsBytes (take n bytes)
IsBytes-take n bytes h i =
    elim (cases_lt i n) [
      | inl lt ↦ rw (get_or-take n bytes i 0 lt) (h i)
      | inr le ↦ rw (get_or_past (take n bytes) i 0 (omega (arith, length-take n bytes))) (omega arith)
    ]

pub IsBytes-rest : (b : ℕ) (bytes : List ℕ) → IsBytes (b ∷ bytes) → IsBytes bytes
IsBytes-rest b bytes h i = h (suc i)

-- what was read, where something was
pub bind_some : {A B : Type 0} (r : Option A) (f : A → Option B) (y : B) → (r >>= f) ≡ Some y → (x : A) × (r ≡ Some x) × (f x ≡ Some y)
bind_some (Some x) f y e = (x, refl, e)
bind_some None f y e = absurd cc

-- a test that let something pass
pub kept_some : {A : Type 0} (b : Bool) (o : Option A) (y : A) → cond b o None ≡ Some y → (b ≡ true) × (o ≡ Some y)
kept_some true o y e = (refl, e)
kept_some false o y e = absurd cc

-- a test that stopped nothing
pub passed_some : {A : Type 0} (b : Bool) (o : Option A) (y : A) → cond b None o ≡ Some y → (b ≡ false) × (o ≡ Some y)
passed_some true o y e = absurd cc
passed_some false o y e = (refl, e)

abbrev pub found : {A : Type 0} → A → Option A
found x = Some x

pub some_is : {A : Type 0} (x y : A) → found x ≡ found y → x ≡ y
some_is x y e = cc

-- what a reader took from the front
pub record Takes (bytes text rest : List ℕ) : Type 0 where
  pub parts : bytes ≡ text ++ rest
  pub rest_fits : IsBytes rest

pub Takes-then : (a x b y c : List ℕ) → Takes a x b → Takes b y c → Takes a (x ++ y) c
Takes-then a x b y c p q = record { parts = p.parts ∙ ap (λ (t : List ℕ). x ++ t) q.parts ∙ sym (append_assoc x y c); rest_fits = q.rest_fits }

-- what is shown of numbers of each width
pub record IsWide (w : Width) (limit : ℕ) : Type 0 where
  pub len : (n : ℕ) → length (to_le_bytes w n) ≡ byte_len w
  pub back : (bytes : List ℕ) → length bytes ≡ byte_len w → IsBytes bytes → to_le_bytes w (from_le_bytes w bytes) ≡ bytes
  pub again : (n : ℕ) → n < limit → from_le_bytes w (to_le_bytes w n) ≡ n
  pub below : (bytes : List ℕ) → IsBytes bytes → from_le_bytes w bytes < limit

pub wide16 : IsWide w16 (2 ^ 16)
wide16 = record {
  len = λ n. refl;
  back = λ bytes len fits. le_bytes_2 bytes _ len fits refl;
  again = λ n lt. from_le_bytes-to_le_bytes_2 n lt;
  below = λ bytes fits. omega (arith, fits 0, fits 1);
}

pub wide32 : IsWide w32 (2 ^ 32)
wide32 = record {
  len = λ n. refl;
  back = λ bytes len fits. le_bytes_4 bytes _ len fits refl;
  again = λ n lt. from_le_bytes-to_le_bytes_4 n lt;
  below = λ bytes fits. omega (arith, fits 0, fits 1, fits 2, fits 3);
}

pub wide64 : IsWide w64 (2 ^ 64)
wide64 = record {
  len = λ n. refl;
  back = λ bytes len fits. le_bytes_8 bytes _ len fits refl;
  again = λ n lt. from_le_bytes-to_le_bytes_8 n lt;
  below = λ bytes fits. omega (arith, fits 0, fits 1, fits 2, fits 3, fits 4, fits 5, fits 6, fits 7);
}

pub number_takes : (w : Width) (limit : ℕ) (wide : IsWide w limit) (bytes : List ℕ) (n : ℕ) (rest : List ℕ) → IsBytes bytes → number_at w bytes ≡ Some (n, rest) → Takes bytes (to_le_bytes w n) rest × (n < limit)
number_takes w limit wide bytes n rest fits e =
    let g = passed_some (ltb (length bytes) (byte_len w)) (Some (from_le_bytes w (take (byte_len w) bytes), drop (byte_len w) bytes)) (n, rest) e in
    let p = some_is (from_le_bytes w (take (byte_len w) bytes), drop (byte_len w) bytes) (n, rest) g.1 in
    let long : byte_len w ≤ length bytes = ltb-false _ _ g.0 in
    let n-is : from_le_bytes w (take (byte_len w) bytes) ≡ n = ap (λ (p : ℕ × List ℕ). p.0) p in
    let rest-is : drop (byte_len w) bytes ≡ rest = ap (λ (p : ℕ × List ℕ). p.1) p in
    let front : to_le_bytes w n ≡ take (byte_len w) bytes = rw (← n-is) (wide.back (take (byte_len w) bytes) (omega (arith, length-take (byte_len w) bytes)) (IsBytes-take (byte_len w) bytes fits)) in
    (record { parts = rw (front, ← rest-is) (sym (take-append-drop (byte_len w) bytes)); rest_fits = rw (← rest-is) (IsBytes-drop (byte_len w) bytes fits) }, rw (← n-is) (wide.below (take (byte_len w) bytes) (IsBytes-take (byte_len w) bytes fits)))

pub number_again : (w : Width) (limit : ℕ) (wide : IsWide w limit) (n : ℕ) (rest : List ℕ) → n < limit → number_at w (to_le_bytes w n ++ rest) ≡ Some (n, rest)
number_again w limit wide n rest lt =
    let len = wide.len n in
    let long : ltb (length (to_le_bytes w n ++ rest)) (byte_len w) ≡ false = le-ltb _ _ (omega (arith, length-append (to_le_bytes w n) rest)) in
    rw (long, take_at (to_le_bytes w n) rest (byte_len w) len, drop_at (to_le_bytes w n) rest (byte_len w) len, wide.again n lt) refl

-- ---- texts

-- of what was cut off: it is in front, it is as long, and it is a text
pub record IsCut (n : ℕ) (bytes text rest : List ℕ) : Type 0 where
  pub takes : Takes bytes text rest
  pub long : length text ≡ n
  pub utf8 : is_utf8 text ≡ true

pub cut_takes : (n : ℕ) (bytes : List ℕ) (x : List ℕ × List ℕ) → IsBytes bytes → cut_text n bytes ≡ Some x → IsCut n bytes x.0 x.1
cut_takes n bytes x fits e =
    let a = passed_some (ltb (length bytes) n) (cond (is_utf8 (take n bytes)) (Some (take n bytes, drop n bytes)) None) x e in
    let b = kept_some (is_utf8 (take n bytes)) (Some (take n bytes, drop n bytes)) x a.1 in
    let enough : n ≤ length bytes = ltb-false _ _ a.0 in
    subst (λ (y : List ℕ × List ℕ). IsCut n bytes y.0 y.1) (some_is (take n bytes, drop n bytes) x b.1)
    (record {
      takes = record { parts = sym (take-append-drop n bytes); rest_fits = IsBytes-drop n bytes fits };
      long = omega (arith, length-take n bytes);
      utf8 = b.0;
    })

-- of a text that was read: its length and it are in front, its length fits, and it is a text
pub record IsTextRead (w : Width) (limit : ℕ) (bytes text rest : List ℕ) : Type 0 where
  pub takes : Takes bytes (to_le_bytes w (length text) ++ text) rest
  pub short : length text < limit
  pub utf8 : is_utf8 text ≡ true

pub text_takes : (w : Width) (limit : ℕ) (wide : IsWide w limit) (bytes : List ℕ) (x : List ℕ × List ℕ) → IsBytes bytes → text_at w bytes ≡ Some x → IsTextRead w limit bytes x.0 x.1
unfolding text_at
text_takes w limit wide bytes x fits e =
    let a = bind_some (number_at w bytes) (λ n. cut_text n.0 n.1) x e in
    let t = number_takes w limit wide bytes a.0.0 a.0.1 fits a.1 in
    let c = cut_takes a.0.0 a.0.1 x t.0.rest_fits a.2 in
    let both = Takes-then bytes (to_le_bytes w a.0.0) a.0.1 x.0 x.1 t.0 c.takes in
    record {
      takes = subst (λ (k : ℕ). Takes bytes (to_le_bytes w k ++ x.0) x.1) (sym c.long) both;
      short = omega (arith, t.1, c.long);
      utf8 = c.utf8;
    }

pub cut_again : (text rest : List ℕ) → is_utf8 text ≡ true → cut_text (length text) (text ++ rest) ≡ Some (text, rest)
cut_again text rest utf8 =
    let long : ltb (length (text ++ rest)) (length text) ≡ false = le-ltb _ _ (omega (arith, length-append text rest)) in
    rw (long, take_at text rest (length text) refl, drop_at text rest (length text) refl, utf8) refl

pub text_again : (w : Width) (limit : ℕ) (wide : IsWide w limit) (text rest : List ℕ) → length text < limit → is_utf8 text ≡ true → text_at w (to_le_bytes w (length text) ++ (text ++ rest)) ≡ Some (text, rest)
unfolding text_at
text_again w limit wide text rest lt utf8 =
    ap (λ (n : Option (ℕ × List ℕ)). n >>= λ n. cut_text n.0 n.1) (number_again w limit wide (length text) (text ++ rest) lt) ∙ cut_again text rest utf8

-- ---- truths

pub flag_takes : (bytes : List ℕ) (x : Bool × List ℕ) → IsBytes bytes → flag_at bytes ≡ Some x → Takes bytes (flag_byte x.0 ∷ []) x.1
unfolding flag_at
flag_takes [] x fits e = absurd cc
flag_takes (zero ∷ bytes) x fits e =
    subst (λ (y : Bool × List ℕ). Takes (0 ∷ bytes) (flag_byte y.0 ∷ []) y.1) (some_is (false, bytes) x e) (record { parts = refl; rest_fits = IsBytes-rest 0 bytes fits })
flag_takes (suc zero ∷ bytes) x fits e =
    subst (λ (y : Bool × List ℕ). Takes (1 ∷ bytes) (flag_byte y.0 ∷ []) y.1) (some_is (true, bytes) x e) (record { parts = refl; rest_fits = IsBytes-rest 1 bytes fits })
flag_takes (suc (suc b) ∷ bytes) x fits e = absurd cc

pub flag_again : (b : Bool) (rest : List ℕ) → flag_at (flag_byte b ∷ rest) ≡ Some (b, rest)
unfolding flag_at
flag_again true rest = refl
flag_again false rest = refl

-- ---- what is text, and what is not

pub cut_text-some : (n : ℕ) (bytes text rest : List ℕ) → n ≤ length bytes → text ≡ take n bytes → rest ≡ drop n bytes → IsUtf8 text → cut_text n bytes ≡ Some (text, rest)
cut_text-some n bytes text rest le front back utf8 =
    let long : ltb (length bytes) n ≡ false = le-ltb _ _ le in
    let valid : is_utf8 (take n bytes) ≡ true = subst (λ (t : List ℕ). is_utf8 t ≡ true) front (is_utf8-from_IsUtf8 text utf8) in
    rw (long, valid) (cc)

none_at : {A : Type 0} (bytes : List ℕ) (b : Bool) (o : Option A) → is_utf8 bytes ≡ b → (IsUtf8 bytes → ⊥) → cond b o None ≡ None
none_at bytes true o e not_text = absurd (not_text (IsUtf8-from_is_utf8 bytes e))
none_at bytes false o e not_text = refl

pub cut_text-none : (n : ℕ) (bytes : List ℕ) → n ≤ length bytes → (IsUtf8 (take n bytes) → ⊥) → cut_text n bytes ≡ None
cut_text-none n bytes le not_text =
    let long : ltb (length bytes) n ≡ false = le-ltb _ _ le in
    rw long (none_at (take n bytes) (is_utf8 (take n bytes)) (Some (take n bytes, drop n bytes)) refl not_text)
