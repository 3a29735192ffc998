-- Where a text is cut into a field, a value and a rest: between characters.
use Rattle.std.proofs.Common.{◌≡◌, ◌≢◌, ℕ, ◌+◌, ◌-◌, ◌<◌, ◌≤◌, Bool, true, false, ◌||◌, ◌&&◌, ◌⊎◌, inl, inr, cond, eqb, List, [], ◌∷◌, length, get_or, take, drop, slice_range, refl, sym, ap, ◌∙◌, subst, arith}
use Rattle.std.proofs.lemmas.Bool.{ne_eqb, eqb-true}
use Rattle.std.proofs.lemmas.Bool.Decides.{nat_tests}
use Rattle.std.proofs.lemmas.List.{length-drop, get_or-drop}
use Rattle.std.proofs.lemmas.Str.{IsCharBoundary-after_ascii}
use Rattle.std.specs.Str.{IsCharBoundary, IsUtf8}
use Rattle.sc_query.specs.Tokens.{Token, up_to, plain, is_space, ends_run, ends_field, ends_quoted, opens_quoted, opens_value, quoted_leaf, run_token, word_at}

-- what comes before the end is a prefix of the text
pub up_to-prefix : (ends : ℕ → Bool) (bs : List ℕ) → take (length (up_to ends bs)) bs ≡ up_to ends bs
up_to-prefix ends [] = refl
up_to-prefix ends (c ∷ []) = go (ends c)
  where
    go : (b : Bool) → take (length (cond b [] (c ∷ []))) (c ∷ []) ≡ cond b [] (c ∷ [])
    go true = refl
    go false = refl
up_to-prefix ends (c ∷ d ∷ rest) = go (ends c) (eqb c 92) (up_to-prefix ends rest) (up_to-prefix ends (d ∷ rest))
  where
    go : (b e : Bool) → take (length (up_to ends rest)) rest ≡ up_to ends rest → take (length (up_to ends (d ∷ rest))) (d ∷ rest) ≡ up_to ends (d ∷ rest) → take (length (cond b [] (cond e (c ∷ d ∷ up_to ends rest) (c ∷ up_to ends (d ∷ rest))))) (c ∷ d ∷ rest) ≡ cond b [] (cond e (c ∷ d ∷ up_to ends rest) (c ∷ up_to ends (d ∷ rest)))
    go true e h k = refl
    go false true h k = ap (λ (xs : List ℕ). c ∷ d ∷ xs) h
    go false false h k = ap (λ (xs : List ℕ). c ∷ xs) k

-- after it the text ends, or stands what ends it
abbrev pub StopsWell : (ends : ℕ → Bool) (bs run : List ℕ) → Type 0
StopsWell ends bs run = (length run ≤ length bs) × (length run < length bs → ends (get_or bs (length run) 0) ≡ true)

pub up_to-stops : (ends : ℕ → Bool) (bs : List ℕ) → StopsWell ends bs (up_to ends bs)
up_to-stops ends [] = (omega arith, λ l. absurd (omega (arith, l)))
up_to-stops ends (c ∷ []) = go (ends c) refl
  where
    go : (b : Bool) → ends c ≡ b → StopsWell ends (c ∷ []) (cond b [] (c ∷ []))
    go true e = (omega arith, λ l. e)
    go false e = (omega arith, λ l. absurd (omega (arith, l)))
up_to-stops ends (c ∷ d ∷ rest) = go (ends c) (eqb c 92) refl (up_to-stops ends rest) (up_to-stops ends (d ∷ rest))
  where
    go : (b e : Bool) → ends c ≡ b → StopsWell ends rest (up_to ends rest) → StopsWell ends (d ∷ rest) (up_to ends (d ∷ rest)) → StopsWell ends (c ∷ d ∷ rest) (cond b [] (cond e (c ∷ d ∷ up_to ends rest) (c ∷ up_to ends (d ∷ rest))))
    go true e f h k = (omega arith, λ l. f)
    go false true f h k = (omega (arith, h.0), λ l. h.1 (omega (arith, l)))
    go false false f h k = (omega (arith, k.0), λ l. k.1 (omega (arith, l)))

-- each byte that ends a part is ASCII
abbrev pub EndsInAscii : (ℕ → Bool) → Type 0
EndsInAscii ends = (c : ℕ) → ends c ≡ true → c < 128

either_true : (a b : Bool) → (a || b) ≡ true → (a ≡ true) ⊎ (b ≡ true)
either_true true b h = inl refl
either_true false b h = inr h

one_of : (c d : ℕ) (rest : Bool) → d < 128 → (rest ≡ true → c < 128) → (eqb c d || rest) ≡ true → c < 128
one_of c d rest l k h = go (either_true (eqb c d) rest h)
  where
    go : (eqb c d ≡ true) ⊎ (rest ≡ true) → c < 128
    go (inl e) = omega (arith, l, eqb-true c d e)
    go (inr e) = k e

pub quoted_ascii : EndsInAscii ends_quoted
quoted_ascii c h = omega (arith, eqb-true c 34 h)

pub space_ascii : EndsInAscii is_space
space_ascii c h = grind (arith, nat_tests)

pub run_ascii : EndsInAscii ends_run
run_ascii c h = grind (arith, nat_tests)

pub field_ascii : EndsInAscii ends_field
field_ascii c h = grind (arith, nat_tests)

-- a text may be cut where a part ends
pub up_to-boundary : (ends : ℕ → Bool) → EndsInAscii ends → (bs : List ℕ) → IsCharBoundary bs (length (up_to ends bs))
up_to-boundary ends ascii bs =
    let stops = up_to-stops ends bs in
    (stops.0, λ l h. absurd (omega (arith, h, ascii (get_or bs (length (up_to ends bs)) 0) (stops.1 l))))

both_true : (a b : Bool) → (a && b) ≡ true → (a ≡ true) × (b ≡ true)
both_true true b h = (refl, h)
both_true false b h = (h, absurd (let no : false ≡ true = h in cc))

pub quoted_start : (xs : List ℕ) → opens_quoted xs ≡ true → (1 < length xs) × (get_or xs 0 0 ≡ 58) × (get_or xs 1 0 ≡ 34)
quoted_start [] h = absurd (let no : false ≡ true = h in cc)
quoted_start (c ∷ []) h = absurd (let no : false ≡ true = h in cc)
quoted_start (c ∷ d ∷ rest) h = let both = both_true (eqb c 58) (eqb d 34) h in (omega arith, eqb-true c 58 both.0, eqb-true d 34 both.1)

value_start : (xs : List ℕ) → opens_value xs ≡ true → (1 < length xs) × (get_or xs 0 0 ≡ 58)
value_start [] h = absurd (let no : false ≡ true = h in cc)
value_start (c ∷ []) h = absurd (let no : false ≡ true = h in cc)
value_start (c ∷ d ∷ rest) h = (omega arith, eqb-true c 58 h)

-- after a colon and a quote a text may be cut
pub quoted-boundary : (bs : List ℕ) (i : ℕ) → IsUtf8 bs → opens_quoted (drop i bs) ≡ true → (i + 2 ≤ length bs) × IsCharBoundary bs (i + 2)
quoted-boundary bs i u h =
    let start = quoted_start (drop i bs) h in
    let inside : i + 1 < length bs = omega (arith, start.0, length-drop i bs) in
    let quote : get_or bs (i + 1) 0 ≡ 34 = sym (get_or-drop i bs 1 0) ∙ start.2 in
    let place : i + 1 + 1 ≡ i + 2 = omega arith in
    (omega (arith, inside), subst (λ (n : ℕ). IsCharBoundary bs n) place (IsCharBoundary-after_ascii bs (i + 1) u inside (omega (arith, quote))))

-- after the colon of a value a text may be cut
pub value-boundary : (bs : List ℕ) (i : ℕ) → IsUtf8 bs → opens_value (drop i bs) ≡ true → (i + 1 ≤ length bs) × IsCharBoundary bs (i + 1)
value-boundary bs i u h =
    let start = value_start (drop i bs) h in
    let inside : i < length bs = omega (arith, start.0, length-drop i bs) in
    let place : i + 0 ≡ i = omega arith in
    let colon : get_or bs i 0 ≡ 58 = ap (λ (n : ℕ). get_or bs n 0) (sym place) ∙ (sym (get_or-drop i bs 0 0) ∙ start.1) in
    (omega (arith, inside), IsCharBoundary-after_ascii bs i u inside (omega (arith, colon)))

-- a quoted value that is closed and not empty
pub quoted_leaf-whole : (field inside text : List ℕ) → length field ≢ 0 → length inside ≢ length text → length inside ≢ 0 → quoted_leaf field inside text ≡ (Token.Leaf field (plain inside), length field + 3 + length inside)
quoted_leaf-whole field inside text f o e =
    let whole : Token × ℕ = (Token.Leaf field (plain inside), length field + 3 + length inside) in
    let broken : Token × ℕ = (Token.Broken, length field + 2 + length text) in
    ap (λ (b : Bool). cond (b || eqb (length inside) (length text) || eqb (length inside) 0) broken whole) (ne_eqb (length field) 0 f)
    ∙ (ap (λ (b : Bool). cond (b || eqb (length inside) 0) broken whole) (ne_eqb (length inside) (length text) o)
    ∙ ap (λ (b : Bool). cond b broken whole) (ne_eqb (length inside) 0 e))

-- the prefix of a text that was cut where a part ends
pub prefix_is : (ends : ℕ → Bool) (bs xs : List ℕ) (n : ℕ) → n ≡ length (up_to ends bs) → xs ≡ slice_range bs 0 n → xs ≡ up_to ends bs
prefix_is ends bs xs n e h =
    let whole : n - 0 ≡ length (up_to ends bs) = omega (arith, e) in
    h ∙ (ap (λ (m : ℕ). take m bs) whole ∙ up_to-prefix ends bs)

pub word_at-quoted : (field text : List ℕ) → opens_quoted (drop (length field) text) ≡ true → word_at field text ≡ quoted_leaf field (up_to ends_quoted (drop (length field + 2) text)) (drop (length field + 2) text)
word_at-quoted field text h = ap (λ (b : Bool). cond b (quoted_leaf field (up_to ends_quoted (drop (length field + 2) text)) (drop (length field + 2) text)) (run_token field (up_to ends_run text), length (up_to ends_run text))) h

pub word_at-run : (field text : List ℕ) → opens_quoted (drop (length field) text) ≡ false → word_at field text ≡ (run_token field (up_to ends_run text), length (up_to ends_run text))
word_at-run field text h = ap (λ (b : Bool). cond b (quoted_leaf field (up_to ends_quoted (drop (length field + 2) text)) (drop (length field + 2) text)) (run_token field (up_to ends_run text), length (up_to ends_run text))) h

pub none_true : (a b : Bool) → (a || b) ≡ false → (a ≡ false) × (b ≡ false)
none_true true b h = let no : true ≡ false = h in absurd (cc)
none_true false b h = (refl, h)
