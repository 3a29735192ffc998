-- What was read of a term is read whatever follows it, and what was pushed of a term is read again.
use Rattle.std.proofs.Common.{◌≡◌, ℕ, ◌^◌, ◌<◌, ◌≤◌, Bool, true, false, cond, ltb, eqb, List, [], ◌∷◌, ◌++◌, length, take, drop, Option, Some, None, refl, ap, subst, ◌∙◌, arith}
use Rattle.std.specs.Int.{Width, w16, w32, byte_len, from_le_bytes, to_le_bytes}
use Rattle.std.specs.Str.{is_utf8}
use Rattle.std.proofs.lemmas.Bool.{ltb-false, lt-ltb, le-ltb, ne_eqb}
use Rattle.std.proofs.lemmas.List.{take-append-le, drop-append-le, length-append}
use Rattle.sc_spelling.specs.Reading.{◌>>=◌, number_at, cut_text, text_at}
use Rattle.sc_spelling.proofs.NumberLemmas.{bind_some, kept_some, passed_some, some_is, wide16, wide32, number_again, text_again, cut_again}
use Rattle.sc_record.specs.TermRuns.{placed_at, key_at, name_or, field_term_at, term_at, term_in, Source, StandsAt}
use Rattle.sc_record.specs.declared.term.Term.{Term}

-- ---- whatever follows

-- what was read, and more bytes after it
abbrev pub followed : {A : Type 0} → List ℕ → A × List ℕ → A × List ℕ
followed more x = (x.0, x.1 ++ more)

-- what a choice gives is changed as each of its branches
choice : {A : Type 0} (b : Bool) (p q r s : Option A) (x y : A) → (p ≡ Some x → r ≡ Some y) → (q ≡ Some x → s ≡ Some y) → cond b p q ≡ Some x → cond b r s ≡ Some y
choice true p q r s x y f g e = f e
choice false p q r s x y f g e = g e

number_followed : (w : Width) (bytes more : List ℕ) (x : ℕ × List ℕ) → number_at w bytes ≡ Some x → number_at w (bytes ++ more) ≡ Some (followed more x)
number_followed w bytes more x e =
    let g = passed_some (ltb (length bytes) (byte_len w)) (Some (from_le_bytes w (take (byte_len w) bytes), drop (byte_len w) bytes)) x e in
    let enough : byte_len w ≤ length bytes = ltb-false _ _ g.0 in
    let long : ltb (length (bytes ++ more)) (byte_len w) ≡ false = le-ltb _ _ (omega (arith, length-append bytes more)) in
    rw (long, take-append-le (byte_len w) bytes more enough, drop-append-le (byte_len w) bytes more enough)
    (ap (λ (y : ℕ × List ℕ). Some (followed more y)) (some_is (from_le_bytes w (take (byte_len w) bytes), drop (byte_len w) bytes) x g.1))

cut_followed : (n : ℕ) (bytes more : List ℕ) (x : List ℕ × List ℕ) → cut_text n bytes ≡ Some x → cut_text n (bytes ++ more) ≡ Some (followed more x)
cut_followed n bytes more x e =
    let a = passed_some (ltb (length bytes) n) (cond (is_utf8 (take n bytes)) (Some (take n bytes, drop n bytes)) None) x e in
    let b = kept_some (is_utf8 (take n bytes)) (Some (take n bytes, drop n bytes)) x a.1 in
    let enough : n ≤ length bytes = ltb-false _ _ a.0 in
    let long : ltb (length (bytes ++ more)) n ≡ false = le-ltb _ _ (omega (arith, length-append bytes more)) in
    rw (long, take-append-le n bytes more enough, drop-append-le n bytes more enough, b.0)
    (ap (λ (y : List ℕ × List ℕ). Some (followed more y)) (some_is (take n bytes, drop n bytes) x b.1))

text_followed : (w : Width) (bytes more : List ℕ) (x : List ℕ × List ℕ) → text_at w bytes ≡ Some x → text_at w (bytes ++ more) ≡ Some (followed more x)
unfolding text_at
text_followed w bytes more x e =
    let a = bind_some (number_at w bytes) (λ n. cut_text n.0 n.1) x e in
    rw (number_followed w bytes more a.0 a.1) (cut_followed a.0.0 a.0.1 more x a.2)

placed_followed : (w : Width) (doc bytes more : List ℕ) (x : List ℕ × List ℕ) → placed_at w doc bytes ≡ Some x → placed_at w doc (bytes ++ more) ≡ Some (followed more x)
unfolding placed_at
placed_followed w doc bytes more x e =
    let a = bind_some (number_at w32 bytes) (λ place. text_at w (drop place.0 doc) >>= λ text. Some (text.0, place.1)) x e in
    let b = bind_some (text_at w (drop a.0.0 doc)) (λ text. Some (text.0, a.0.1)) x a.2 in
    rw (number_followed w32 bytes more a.0 a.1, b.1) (ap (λ (y : List ℕ × List ℕ). Some (followed more y)) (some_is (b.0.0, a.0.1) x b.2))

key_followed : (doc bytes more : List ℕ) (x : List ℕ × List ℕ) → key_at doc bytes ≡ Some x → key_at doc (bytes ++ more) ≡ Some (followed more x)
unfolding key_at
key_followed doc [] more x e = absurd cc
key_followed doc (mark ∷ rest) more x e =
    choice (ltb mark 251) _ _ _ _ x (followed more x) (cut_followed mark rest more x)
    (choice (eqb mark 251) _ _ _ _ x (followed more x) (text_followed w32 rest more x)
    (choice (eqb mark 252) _ _ _ _ x (followed more x) (placed_followed w32 doc rest more x) (λ none. absurd cc))) e

name_followed : (name doc bytes more : List ℕ) (x : List ℕ × List ℕ) → name_or name doc bytes ≡ Some x → name_or name doc (bytes ++ more) ≡ Some (followed more x)
unfolding name_or
name_followed name doc [] more x e = absurd cc
name_followed name doc (mark ∷ rest) more x e =
    choice (eqb mark 253) _ _ _ _ x (followed more x) (text_followed w16 rest more x)
    (choice (eqb mark 254) _ _ _ _ x (followed more x) (placed_followed w16 doc rest more x)
    (λ same. ap (λ (y : List ℕ × List ℕ). Some (followed more y)) (some_is (name, mark ∷ rest) x same))) e

field_term_followed : (name doc bytes more : List ℕ) (x : Term × List ℕ) → field_term_at name doc bytes ≡ Some x → field_term_at name doc (bytes ++ more) ≡ Some (followed more x)
unfolding field_term_at
field_term_followed name doc bytes more x e =
    let a = bind_some (name_or name doc bytes) (λ field. key_at doc field.1 >>= λ key. Some (term_in field.0 key.0, key.1)) x e in
    let b = bind_some (key_at doc a.0.1) (λ key. Some (term_in a.0.0 key.0, key.1)) x a.2 in
    rw (name_followed name doc bytes more a.0 a.1, key_followed doc a.0.1 more b.0 b.1)
    (ap (λ (y : Term × List ℕ). Some (followed more y)) (some_is (term_in a.0.0 b.0.0, b.0.1) x b.2))

pub term_followed : (name : List ℕ) (source : Source) (bytes more : List ℕ) (x : Term × List ℕ) → term_at name source bytes ≡ Some x → term_at name source (bytes ++ more) ≡ Some (followed more x)
unfolding term_at
term_followed name source [] more x e = absurd cc
term_followed name source (mark ∷ rest) more x e =
    choice (eqb mark 255) _ _ _ _ x (followed more x)
    (λ own. ap (λ (y : Term × List ℕ). Some (followed more y)) (some_is _ x own))
    (field_term_followed name source.doc (mark ∷ rest) more x) e

-- ---- what was pushed

placed_again : (w : Width) (doc text : List ℕ) (place : ℕ) (rest : List ℕ) → StandsAt w doc text place → placed_at w doc (to_le_bytes w32 place ++ rest) ≡ Some (text, rest)
unfolding placed_at
placed_again w doc text place rest h = rw (number_again w32 (2 ^ 32) wide32 place rest h.fits, h.reads) refl

-- a key with its length as its mark
pub short_key : (doc key rest : List ℕ) → length key < 251 → is_utf8 key ≡ true → key_at doc (length key ∷ (key ++ rest)) ≡ Some (key, rest)
unfolding key_at
short_key doc key rest lt utf8 = rw (lt-ltb (length key) 251 lt) (cut_again key rest utf8)

-- a key after its length
pub long_key : (doc key rest : List ℕ) → length key < 2 ^ 32 → is_utf8 key ≡ true → key_at doc (251 ∷ (to_le_bytes w32 (length key) ++ (key ++ rest))) ≡ Some (key, rest)
unfolding key_at
long_key doc key rest lt utf8 = text_again w32 (2 ^ 32) wide32 key rest lt utf8

-- a key's place in the document
pub placed_key : (doc key : List ℕ) (place : ℕ) (rest : List ℕ) → StandsAt w32 doc key place → key_at doc (252 ∷ (to_le_bytes w32 place ++ rest)) ≡ Some (key, rest)
unfolding key_at
placed_key doc key place rest h = placed_again w32 doc key place rest h

-- a name after its length
pub whole_name : (before doc name rest : List ℕ) → length name < 2 ^ 16 → is_utf8 name ≡ true → name_or before doc (253 ∷ (to_le_bytes w16 (length name) ++ (name ++ rest))) ≡ Some (name, rest)
unfolding name_or
whole_name before doc name rest lt utf8 = text_again w16 (2 ^ 16) wide16 name rest lt utf8

-- a name's place in the document
pub placed_name : (before doc name : List ℕ) (place : ℕ) (rest : List ℕ) → StandsAt w16 doc name place → name_or before doc (254 ∷ (to_le_bytes w32 place ++ rest)) ≡ Some (name, rest)
unfolding name_or
placed_name before doc name place rest h = placed_again w16 doc name place rest h

-- a test of a number that is another
other : {A : Type 0} (mark n : ℕ) (p q : A) → (mark ≡ n → ⊥) → cond (eqb mark n) p q ≡ q
other mark n p q differs = rw (ne_eqb mark n differs) refl

-- no name stands where a key does
key_alone : (name doc bytes : List ℕ) (x : List ℕ × List ℕ) → key_at doc bytes ≡ Some x → name_or name doc bytes ≡ Some (name, bytes)
unfolding key_at name_or
key_alone name doc [] x e = absurd cc
key_alone name doc (mark ∷ rest) x e =
    let no_name : mark ≡ 253 → ⊥ = λ is. let none : None ≡ Some x = subst (λ m. key_at doc (m ∷ rest) ≡ Some x) is e in absurd cc in
    let no_place : mark ≡ 254 → ⊥ = λ is. let none : None ≡ Some x = subst (λ m. key_at doc (m ∷ rest) ≡ Some x) is e in absurd cc in
    other mark 253 _ _ no_name ∙ other mark 254 _ _ no_place

-- a key of the field of the term before
pub key_of_same_field : (name doc bytes key : List ℕ) → key_at doc bytes ≡ Some (key, []) → field_term_at name doc bytes ≡ Some (term_in name key, [])
unfolding field_term_at
key_of_same_field name doc bytes key e = rw (key_alone name doc bytes (key, []) e, e) refl

-- a name and a key after it
pub key_of_named_field : (before doc name front key back : List ℕ) → ((b rest : List ℕ) → name_or b doc (front ++ rest) ≡ Some (name, rest)) → key_at doc back ≡ Some (key, [])
    → field_term_at before doc (front ++ back) ≡ Some (term_in name key, [])
unfolding field_term_at
key_of_named_field before doc name front key back reads e = rw (reads before back, e) refl

-- a term of a field is not that of the id
pub term_of_field : (name : List ℕ) (source : Source) (bytes : List ℕ) (x : Term × List ℕ) → field_term_at name source.doc bytes ≡ Some x → term_at name source bytes ≡ Some x
unfolding term_at field_term_at name_or key_at
term_of_field name source [] x e = absurd cc
term_of_field name source (mark ∷ rest) x e =
    let no_id : mark ≡ 255 → ⊥ = λ is. let none : None ≡ Some x = subst (λ m. field_term_at name source.doc (m ∷ rest) ≡ Some x) is e in absurd cc in
    other mark 255 _ _ no_id ∙ e
