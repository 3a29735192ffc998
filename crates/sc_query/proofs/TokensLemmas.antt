-- How the tokens of a text begin.
use Rattle.std.proofs.Common.{◌≡◌, ◌≢◌, ℕ, suc, zero, ◌+◌, ◌-◌, ◌<◌, ◌≤◌, Bool, true, false, ◌||◌, ◌==◌, cond, eqb, Result, Ok, Err, List, [], ◌∷◌, length, get_or, drop, refl, sym, ap, ◌∙◌, subst, arith}
use Rattle.std.proofs.lemmas.Bool.{eqb-false, eqb-true}
use Rattle.std.proofs.lemmas.List.{length-drop, get_or-drop, drop-drop, drop_more, drop_all}
use Rattle.std.proofs.lemmas.Str.{IsCharBoundary-after_ascii, IsCharBoundary-end, IsCharBoundary-from_rest}
use Rattle.std.specs.Str.{IsCharBoundary, IsUtf8}
use Rattle.sc_query.specs.Tokens.{Token, Placed, placed, up_to, plain, is_space, ends_run, ends_field, ends_quoted, opens_quoted, quoted_leaf, run_token, word_at, token_at, tokens_from}
use Rattle.sc_query.proofs.Reading.{Reader, step, finish}
use Rattle.sc_query.proofs.Runs.{goes_on, run}
use Rattle.sc_query.proofs.CutsLemmas.{up_to-stops, up_to-boundary, quoted_ascii, run_ascii, quoted-boundary, none_true}

-- what belongs to an earlier token is passed over
tokens_from-inside : (k at : ℕ) (text : List ℕ) → k ≤ length text → tokens_from k at text ≡ tokens_from 0 (at + k) (drop k text)
unfolding tokens_from
tokens_from-inside zero at text l = ap (λ (n : ℕ). tokens_from 0 n text) (let same : at ≡ at + 0 = omega arith in same)
tokens_from-inside (suc k) at [] l = absurd (omega (arith, l))
tokens_from-inside (suc k) at (c ∷ rest) l =
    tokens_from-inside k (at + 1) rest (omega (arith, l)) ∙ ap (λ (n : ℕ). tokens_from 0 n (drop k rest)) (let same : at + 1 + k ≡ at + suc k = omega arith in same)

pub tokens_from-space : (at c : ℕ) (rest : List ℕ) → is_space c ≡ true → tokens_from 0 at (c ∷ rest) ≡ tokens_from 0 (at + 1) rest
unfolding tokens_from
tokens_from-space at c rest h = ap (λ (b : Bool). cond b (tokens_from 0 (at + 1) rest) (placed at (token_at (c ∷ rest)).0 ∷ tokens_from ((token_at (c ∷ rest)).1 - 1) (at + 1) rest)) h

pub tokens_from-token : (at c : ℕ) (rest : List ℕ) → is_space c ≡ false → 0 < (token_at (c ∷ rest)).1 → (token_at (c ∷ rest)).1 ≤ length (c ∷ rest) → tokens_from 0 at (c ∷ rest) ≡ placed at (token_at (c ∷ rest)).0 ∷ tokens_from 0 (at + (token_at (c ∷ rest)).1) (drop (token_at (c ∷ rest)).1 (c ∷ rest))
unfolding tokens_from
tokens_from-token at c rest h some within =
    ap (λ (b : Bool). cond b (tokens_from 0 (at + 1) rest) (placed at (token_at (c ∷ rest)).0 ∷ tokens_from ((token_at (c ∷ rest)).1 - 1) (at + 1) rest)) h
    ∙ ap (λ (ts : List Placed). placed at (token_at (c ∷ rest)).0 ∷ ts) (go (token_at (c ∷ rest)).1 some within)
  where
    go : (n : ℕ) → 0 < n → n ≤ length (c ∷ rest) → tokens_from (n - 1) (at + 1) rest ≡ tokens_from 0 (at + n) (drop n (c ∷ rest))
    go zero l k = absurd (omega (arith, l))
    go (suc n) l k =
        let one : suc n - 1 ≡ n = omega arith in
        ap (λ (m : ℕ). tokens_from m (at + 1) rest) one
        ∙ (tokens_from-inside n (at + 1) rest (omega (arith, k))
        ∙ ap (λ (m : ℕ). tokens_from 0 m (drop n rest)) (let same : at + 1 + n ≡ at + suc n = omega arith in same))

-- a text may be cut after a quoted leaf, which takes some of it
abbrev pub Cuts : List ℕ → ℕ → Type 0
Cuts text n = (0 < n) × IsCharBoundary text n

quoted_cut : (field text : List ℕ) → IsUtf8 text → opens_quoted (drop (length field) text) ≡ true → Cuts text (quoted_leaf field (up_to ends_quoted (drop (length field + 2) text)) (drop (length field + 2) text)).1
quoted_cut field text u h = go (length field == 0 || length inside == length rest || length inside == 0) refl
  where
    rest : List ℕ
    rest = drop (length field + 2) text

    inside : List ℕ
    inside = up_to ends_quoted rest

    within : length field + 2 ≤ length text
    within = (quoted-boundary text (length field) u h).0

    left : length rest ≡ length text - (length field + 2)
    left = length-drop (length field + 2) text

    go : (b : Bool) → (length field == 0 || length inside == length rest || length inside == 0) ≡ b → Cuts text (cond {A = Token × ℕ} b (Token.Broken, length field + 2 + length rest) (Token.Leaf field (plain inside), length field + 3 + length inside)).1
    go true e =
        let all : length text ≡ length field + 2 + length rest = omega (arith, left, within) in
        (omega arith, subst (λ (n : ℕ). IsCharBoundary text n) all (IsCharBoundary-end text))
    go false e =
        let closed : length inside ≢ length rest = eqb-false (length inside) (length rest) (none_true (length field == 0) (length inside == length rest) (none_true (length field == 0 || length inside == length rest) (length inside == 0) e).0).1 in
        let stops = up_to-stops ends_quoted rest in
        let shorter : length inside < length rest = omega (arith, stops.0, closed) in
        let quote : get_or text (length field + 2 + length inside) 0 < 128 = omega (arith, get_or-drop (length field + 2) text (length inside) 0, quoted_ascii (get_or rest (length inside) 0) (stops.1 shorter)) in
        let place : length field + 2 + length inside + 1 ≡ length field + 3 + length inside = omega arith in
        (omega arith, subst (λ (n : ℕ). IsCharBoundary text n) place (IsCharBoundary-after_ascii text (length field + 2 + length inside) u (omega (arith, left, shorter)) quote))

not_empty : (c : ℕ) (rest : List ℕ) → ends_run c ≡ false → 0 < length (up_to ends_run (c ∷ rest))
not_empty c [] h = go (ends_run c) h
  where
    go : (b : Bool) → b ≡ false → 0 < length (cond b [] (c ∷ []))
    go true e = let no : true ≡ false = e in absurd (cc)
    go false e = omega arith
not_empty c (d ∷ rest) h = go (ends_run c) (eqb c 92) h
  where
    go : (b e : Bool) → b ≡ false → 0 < length (cond b [] (cond e (c ∷ d ∷ up_to ends_run rest) (c ∷ up_to ends_run (d ∷ rest))))
    go true e k = let no : true ≡ false = k in absurd (cc)
    go false true k = omega arith
    go false false k = omega arith

word_cut : (field : List ℕ) (c : ℕ) (rest : List ℕ) → IsUtf8 (c ∷ rest) → ends_run c ≡ false → Cuts (c ∷ rest) (word_at field (c ∷ rest)).1
word_cut field c rest u h = go (opens_quoted (drop (length field) (c ∷ rest))) refl
  where
    go : (b : Bool) → opens_quoted (drop (length field) (c ∷ rest)) ≡ b → Cuts (c ∷ rest) (cond {A = Token × ℕ} b (quoted_leaf field (up_to ends_quoted (drop (length field + 2) (c ∷ rest))) (drop (length field + 2) (c ∷ rest))) (run_token field (up_to ends_run (c ∷ rest)), length (up_to ends_run (c ∷ rest)))).1
    go true e = quoted_cut field (c ∷ rest) u e
    go false e = (not_empty c rest h, up_to-boundary ends_run run_ascii (c ∷ rest))

-- the first token takes some of the text, which may be cut after it
token_cut : (c : ℕ) (rest : List ℕ) → IsUtf8 (c ∷ rest) → is_space c ≡ false → Cuts (c ∷ rest) (token_at (c ∷ rest)).1
token_cut c rest u s = go (eqb c 40) (eqb c 41) refl refl
  where
    first : c < 128 → Cuts (c ∷ rest) 1
    first l = (omega arith, IsCharBoundary-after_ascii (c ∷ rest) 0 u (omega arith) l)

    go : (a b : Bool) → eqb c 40 ≡ a → eqb c 41 ≡ b → Cuts (c ∷ rest) (cond {A = Token × ℕ} a (Token.Open, 1) (cond {A = Token × ℕ} b (Token.Close, 1) (word_at (up_to ends_field (c ∷ rest)) (c ∷ rest)))).1
    go true b e f = first (omega (arith, eqb-true c 40 e))
    go false true e f = first (omega (arith, eqb-true c 41 f))
    go false false e f = word_cut (up_to ends_field (c ∷ rest)) c rest u (ap (λ (x : Bool). x || eqb c 40 || eqb c 41) s ∙ (ap (λ (x : Bool). x || eqb c 41) e ∙ f))

-- the same of a text that is not written out
rest_cut : (rest : List ℕ) → 0 < length rest → IsUtf8 rest → is_space (get_or rest 0 0) ≡ false → Cuts rest (token_at rest).1
rest_cut [] l u s = absurd (omega (arith, l))
rest_cut (c ∷ rest) l u s = token_cut c rest u s

-- a space is passed over
pub tokens-space : (text : List ℕ) (at : ℕ) → at < length text → is_space (get_or text at 0) ≡ true → tokens_from 0 at (drop at text) ≡ tokens_from 0 (at + 1) (drop (at + 1) text)
tokens-space text at l s = ap (λ (xs : List ℕ). tokens_from 0 at xs) (drop_more text at 0 l) ∙ tokens_from-space at (get_or text at 0) (drop (at + 1) text) s

-- a token is read, and the rest after it
tokens-token : (at : ℕ) (rest : List ℕ) → 0 < length rest → IsUtf8 rest → is_space (get_or rest 0 0) ≡ false → tokens_from 0 at rest ≡ placed at (token_at rest).0 ∷ tokens_from 0 (at + (token_at rest).1) (drop (token_at rest).1 rest)
tokens-token at [] some u s = absurd (omega (arith, some))
tokens-token at (c ∷ rest) some u s =
    let cut = token_cut c rest u s in
    tokens_from-token at c rest s cut.0 cut.1.0

-- at a place of a text begins a token of so many bytes
pub record HasToken (text : List ℕ) (at len : ℕ) (token : Token) : Type 0 where
  pub some : 0 < len
  pub boundary : IsCharBoundary text (at + len)
  pub tokens : tokens_from 0 at (drop at text) ≡ placed at token ∷ tokens_from 0 (at + len) (drop (at + len) text)

-- a byte that is no space begins one
pub has_token : {text bytes rest : List ℕ} {at len : ℕ} {token : Token} {space : Bool} → bytes ≡ text → at < length bytes → space ≡ is_space (get_or bytes at 0) → space ≡ false → rest ≡ drop at text → IsUtf8 rest → token ≡ (token_at rest).0 → len ≡ (token_at rest).1 → HasToken text at len token
has_token {text} {bytes} {rest} {at} {len} {token} {space} same inside test no_space_is rest_is u token_is len_is =
    let k = (token_at rest).1 in
    let l : at < length text = omega (arith, ap length same, inside) in
    let begins : rest ≡ get_or text at 0 ∷ drop (at + 1) text = rest_is ∙ drop_more text at 0 l in
    let some : 0 < length rest = omega (arith, ap length begins) in
    let no_space : is_space (get_or rest 0 0) ≡ false = ap (λ (xs : List ℕ). is_space (get_or xs 0 0)) begins ∙ (ap (λ (xs : List ℕ). is_space (get_or xs at 0)) (sym same) ∙ (sym test ∙ no_space_is)) in
    let cut = rest_cut rest some u no_space in
    record {
      some = omega (arith, cut.0, len_is);
      boundary = IsCharBoundary-from_rest text at len (omega (arith, l)) (subst (λ (xs : List ℕ). IsCharBoundary xs len) rest_is (subst (λ (n : ℕ). IsCharBoundary rest n) (sym len_is) cut.1));
      tokens = ap (λ (xs : List ℕ). tokens_from 0 at xs) (sym rest_is)
          ∙ (tokens-token at rest some u no_space
          ∙ (ap (λ (xs : List ℕ). placed at (token_at rest).0 ∷ tokens_from 0 (at + k) xs) (ap (λ (xs : List ℕ). drop k xs) rest_is ∙ drop-drop k at text)
          ∙ (ap (λ (n : ℕ). placed at (token_at rest).0 ∷ tokens_from 0 (at + n) (drop (at + n) text)) (sym len_is)
          ∙ ap (λ (t : Token). placed at t ∷ tokens_from 0 (at + len) (drop (at + len) text)) (sym token_is))));
    }

pub tokens-end : (text : List ℕ) (at : ℕ) → length text ≤ at → tokens_from 0 at (drop at text) ≡ []
unfolding tokens_from
tokens-end text at l = ap (λ (xs : List ℕ). tokens_from 0 at xs) (drop_all at text l)

pub run-step : (end : ℕ) (reader next : Reader) (token : Token) (at : ℕ) (ts : List Placed) → step reader token at ≡ Ok next → run end reader (placed at token ∷ ts) ≡ run end next ts
unfolding run
run-step end reader next token at ts h = ap (λ (r : Result Reader ℕ). goes_on r (λ n. run end n ts)) h

pub run-stop : (end : ℕ) (reader : Reader) (token : Token) (at fault : ℕ) (ts : List Placed) → step reader token at ≡ Err fault → run end reader (placed at token ∷ ts) ≡ Err fault
unfolding run
run-stop end reader token at fault ts h = ap (λ (r : Result Reader ℕ). goes_on r (λ n. run end n ts)) h

pub run-end : (end : ℕ) (reader : Reader) → run end reader [] ≡ finish reader end
unfolding run
run-end end reader = refl
