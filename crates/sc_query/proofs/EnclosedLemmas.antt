-- A query in parentheses is that query, its leaves a place further on.
use Rattle.std.proofs.Common.{◌≡◌, ◌≢◌, ℕ, suc, zero, ◌+◌, ◌-◌, ◌<◌, ◌≤◌, Bool, true, false, ◌||◌, ◌&&◌, ◌==◌, ◌⊎◌, inl, inr, cond, eqb, List, [], ◌∷◌, ◌++◌, length, map, drop, codes, refl, sym, ap, ◌∙◌, subst, arith, length-append}
use Rattle.std.proofs.lemmas.Bool.{eqb-false}
use Rattle.std.proofs.lemmas.List.{drop-append-le, length-drop}
use Rattle.std.proofs.lemmas.Slice.Eq.{bytes_eq-Decides}
use Rattle.std.specs.Str.{bytes_eq}
use Rattle.sc_query.specs.Tokens.{Token, Placed, placed, up_to, plain, is_cut_short, is_space, ends_run, ends_field, ends_quoted, opens_quoted, opens_value, quoted_leaf, run_token, word_at, token_at, tokens_from, tokens}
use Rattle.sc_query.specs.Tree.{Tree, moved}
use Rattle.sc_query.specs.Grammar.{Rule, Reads, IsQueryWithin, HasTree}
use Rattle.sc_query.proofs.BytesLemmas.{cut-cons, up_to-stop}
use Rattle.sc_query.proofs.CutsLemmas.{up_to-stops, none_true, quoted_start, quoted_leaf-whole, word_at-quoted, word_at-run}

-- a token a place further on
abbrev further : Placed → Placed
further p = placed (p.at + 1) p.token

reads_further : {rule : Rule} {room : ℕ} {ts rest : List Placed} {t : Tree} → Reads rule room ts t rest → Reads rule room (map further ts) (moved t) (map further rest)
reads_further Reads.every = Reads.every
reads_further Reads.leaf = Reads.leaf
reads_further (Reads.not d) = Reads.not (reads_further d)
reads_further (Reads.parentheses d) = Reads.parentheses (reads_further d)
reads_further (Reads.one_negation d) = Reads.one_negation (reads_further d)
reads_further (Reads.and d e) = Reads.and (reads_further d) (reads_further e)
reads_further (Reads.one_conjunction d) = Reads.one_conjunction (reads_further d)
reads_further (Reads.or d e) = Reads.or (reads_further d) (reads_further e)

-- more tokens may follow
reads_before : {rule : Rule} {room : ℕ} {ts rest : List Placed} {t : Tree} (more : List Placed) → Reads rule room ts t rest → Reads rule room (ts ++ more) t (rest ++ more)
reads_before more Reads.every = Reads.every
reads_before more Reads.leaf = Reads.leaf
reads_before more (Reads.not d) = Reads.not (reads_before more d)
reads_before more (Reads.parentheses d) = Reads.parentheses (reads_before more d)
reads_before more (Reads.one_negation d) = Reads.one_negation (reads_before more d)
reads_before more (Reads.and d e) = Reads.and (reads_before more d) (reads_before more e)
reads_before more (Reads.one_conjunction d) = Reads.one_conjunction (reads_before more d)
reads_before more (Reads.or d e) = Reads.or (reads_before more d) (reads_before more e)

-- no token is broken
abbrev IsWhole : Token → Type 0
IsWhole token = token ≢ Token.Broken

abbrev AreWhole : List Placed → Type 0
AreWhole [] = Unit {0}
AreWhole (p ∷ ps) = IsWhole p.token × AreWhole ps

whole_query : {rule : Rule} {room : ℕ} {ts rest : List Placed} {t : Tree} → Reads rule room ts t rest → AreWhole rest → AreWhole ts
whole_query Reads.every h = (λ e. cc, h)
whole_query Reads.leaf h = (λ e. cc, h)
whole_query (Reads.not d) h = (λ e. cc, whole_query d h)
whole_query (Reads.parentheses d) h = (λ e. cc, whole_query d (λ e. cc, h))
whole_query (Reads.one_negation d) h = whole_query d h
whole_query (Reads.and d e) h = whole_query d (λ e. cc, whole_query e h)
whole_query (Reads.one_conjunction d) h = whole_query d h
whole_query (Reads.or d e) h = whole_query d (λ e. cc, whole_query e h)

tokens-further : (inside at : ℕ) (text : List ℕ) → tokens_from inside (at + 1) text ≡ map further (tokens_from inside at text)
unfolding tokens_from
tokens-further inside at [] = refl
tokens-further (suc inside) at (c ∷ rest) = tokens-further inside (at + 1) rest
tokens-further zero at (c ∷ rest) = go (is_space c) (tokens-further zero (at + 1) rest) (tokens-further ((token_at (c ∷ rest)).1 - 1) (at + 1) rest)
  where
    go : (b : Bool) → tokens_from 0 (at + 1 + 1) rest ≡ map further (tokens_from 0 (at + 1) rest) → tokens_from ((token_at (c ∷ rest)).1 - 1) (at + 1 + 1) rest ≡ map further (tokens_from ((token_at (c ∷ rest)).1 - 1) (at + 1) rest) → cond b (tokens_from 0 (at + 1 + 1) rest) (placed (at + 1) (token_at (c ∷ rest)).0 ∷ tokens_from ((token_at (c ∷ rest)).1 - 1) (at + 1 + 1) rest) ≡ map further (cond b (tokens_from 0 (at + 1) rest) (placed at (token_at (c ∷ rest)).0 ∷ tokens_from ((token_at (c ∷ rest)).1 - 1) (at + 1) rest))
    go true h k = h
    go false h k = ap (λ (ts : List Placed). placed (at + 1) (token_at (c ∷ rest)).0 ∷ ts) k

true_or_false : (b : Bool) → (b ≡ true) ⊎ (b ≡ false)
true_or_false true = inl refl
true_or_false false = inr refl

no_both : (b : Bool) → b ≡ true → b ≡ false → ⊥
no_both b h k = let no : true ≡ false = sym h ∙ k in cc

-- A parenthesis after the text ends what the text's end ended, but for a backslash at the end.
up_to-before : (ends : ℕ → Bool) (bs : List ℕ) → ends 41 ≡ true → is_cut_short (up_to ends bs) ≡ false → up_to ends (bs ++ 41 ∷ []) ≡ up_to ends bs
up_to-before ends [] e h = up_to-stop ends 41 [] e
up_to-before ends (c ∷ []) e h = go (ends c) (eqb c 92) refl h
  where
    go : (b x : Bool) → eqb c 92 ≡ x → is_cut_short (cond b [] (c ∷ [])) ≡ false → cond b [] (cond x (c ∷ 41 ∷ up_to ends []) (c ∷ up_to ends (41 ∷ []))) ≡ cond b [] (c ∷ [])
    go true x f k = refl
    go false true f k = absurd (no_both (eqb c 92) f k)
    go false false f k = ap (λ (xs : List ℕ). c ∷ xs) (up_to-stop ends 41 [] e)
up_to-before ends (c ∷ d ∷ rest) e h = go (ends c) (eqb c 92) refl h (λ k. up_to-before ends rest e k) (λ k. up_to-before ends (d ∷ rest) e k)
  where
    go : (b x : Bool) → eqb c 92 ≡ x → is_cut_short (cond b [] (cond x (c ∷ d ∷ up_to ends rest) (c ∷ up_to ends (d ∷ rest)))) ≡ false → (is_cut_short (up_to ends rest) ≡ false → up_to ends (rest ++ 41 ∷ []) ≡ up_to ends rest) → (is_cut_short (up_to ends (d ∷ rest)) ≡ false → up_to ends (d ∷ rest ++ 41 ∷ []) ≡ up_to ends (d ∷ rest)) → cond b [] (cond x (c ∷ d ∷ up_to ends (rest ++ 41 ∷ [])) (c ∷ up_to ends (d ∷ rest ++ 41 ∷ []))) ≡ cond b [] (cond x (c ∷ d ∷ up_to ends rest) (c ∷ up_to ends (d ∷ rest)))
    go true x f k i j = refl
    go false true f k i j = ap (λ (xs : List ℕ). c ∷ d ∷ xs) (i (sym (ap (λ (y : Bool). cond y (is_cut_short (up_to ends rest)) (is_cut_short (d ∷ up_to ends rest))) f) ∙ k))
    go false false f k i j = ap (λ (xs : List ℕ). c ∷ xs) (j (sym (cut-cons c (up_to ends (d ∷ rest)) (eqb-false c 92 f)) ∙ k))

-- what a backslash ends is not cut short by one
up_to-whole : (ends : ℕ → Bool) (bs : List ℕ) → ((c : ℕ) → eqb c 92 ≡ true → ends c ≡ true) → is_cut_short (up_to ends bs) ≡ false
up_to-whole ends [] e = refl
up_to-whole ends (c ∷ []) e = go (ends c) (eqb c 92) refl refl
  where
    go : (b x : Bool) → ends c ≡ b → eqb c 92 ≡ x → is_cut_short (cond b [] (c ∷ [])) ≡ false
    go true x f k = refl
    go false true f k = absurd (no_both (ends c) (e c k) f)
    go false false f k = k
up_to-whole ends (c ∷ d ∷ rest) e = go (ends c) (eqb c 92) refl refl (up_to-whole ends (d ∷ rest) e)
  where
    go : (b x : Bool) → ends c ≡ b → eqb c 92 ≡ x → is_cut_short (up_to ends (d ∷ rest)) ≡ false → is_cut_short (cond b [] (cond x (c ∷ d ∷ up_to ends rest) (c ∷ up_to ends (d ∷ rest)))) ≡ false
    go true x f k h = refl
    go false true f k h = absurd (no_both (ends c) (e c k) f)
    go false false f k h = cut-cons c (up_to ends (d ∷ rest)) (eqb-false c 92 k) ∙ h

-- what ended before the text did ends there whatever follows
up_to-closed : (ends : ℕ → Bool) (bs more : List ℕ) → length (up_to ends bs) < length bs → up_to ends (bs ++ more) ≡ up_to ends bs
up_to-closed ends [] more l = absurd (omega (arith, l))
up_to-closed ends (c ∷ []) more l = go (ends c) refl l
  where
    go : (b : Bool) → ends c ≡ b → length (cond b [] (c ∷ [])) < 1 → up_to ends (c ∷ more) ≡ cond b [] (c ∷ [])
    go true f k = up_to-stop ends c more f
    go false f k = absurd (omega (arith, k))
up_to-closed ends (c ∷ d ∷ rest) more l = go (ends c) (eqb c 92) l (λ k. up_to-closed ends rest more k) (λ k. up_to-closed ends (d ∷ rest) more k)
  where
    go : (b x : Bool) → length (cond b [] (cond x (c ∷ d ∷ up_to ends rest) (c ∷ up_to ends (d ∷ rest)))) < length (c ∷ d ∷ rest) → (length (up_to ends rest) < length rest → up_to ends (rest ++ more) ≡ up_to ends rest) → (length (up_to ends (d ∷ rest)) < length (d ∷ rest) → up_to ends (d ∷ rest ++ more) ≡ up_to ends (d ∷ rest)) → cond b [] (cond x (c ∷ d ∷ up_to ends (rest ++ more)) (c ∷ up_to ends (d ∷ rest ++ more))) ≡ cond b [] (cond x (c ∷ d ∷ up_to ends rest) (c ∷ up_to ends (d ∷ rest)))
    go true x k i j = refl
    go false true k i j = ap (λ (xs : List ℕ). c ∷ d ∷ xs) (i (omega (arith, k)))
    go false false k i j = ap (λ (xs : List ℕ). c ∷ xs) (j (omega (arith, k)))

opens_quoted-before : (xs : List ℕ) → opens_quoted (xs ++ 41 ∷ []) ≡ opens_quoted xs
opens_quoted-before [] = refl
opens_quoted-before (c ∷ []) = go (eqb c 58)
  where
    go : (b : Bool) → (b && false) ≡ false
    go true = refl
    go false = refl
opens_quoted-before (c ∷ d ∷ rest) = refl

field-before : (bs : List ℕ) → up_to ends_field (bs ++ 41 ∷ []) ≡ up_to ends_field bs
field-before bs = up_to-before ends_field bs refl (up_to-whole ends_field bs backslash)
  where
    backslash : (c : ℕ) → eqb c 92 ≡ true → ends_field c ≡ true
    backslash c h = go (eqb c 58) (eqb c 34) (eqb c 92) h
      where
        go : (a b x : Bool) → x ≡ true → (a || b || x || ends_run c) ≡ true
        go true b x k = refl
        go false true x k = refl
        go false false true k = refl
        go false false false k = absurd (no_both false k refl)

-- a word of the language has no backslash
run_whole : (field run : List ℕ) → IsWhole (run_token field run) → is_cut_short run ≡ false
run_whole field run h = go (true_or_false (is_cut_short run))
  where
    word : (xs : List ℕ) → bytes_eq run xs ≡ true → is_cut_short xs ≡ false → is_cut_short run ≡ false
    word xs e k = ap is_cut_short ((bytes_eq-Decides run xs).0 e) ∙ k

    last : (b : Bool) → is_cut_short run ≡ true → cond (b || is_cut_short run) Token.Broken (cond (opens_value (drop (length field) run)) (Token.Leaf field (plain (drop (length field + 1) run))) Token.Broken) ≡ Token.Broken
    last true c = refl
    last false c = ap (λ (y : Bool). cond y Token.Broken (cond (opens_value (drop (length field) run)) (Token.Leaf field (plain (drop (length field + 1) run))) Token.Broken)) c

    over : (a o n e : Bool) → bytes_eq run (codes "AND") ≡ a → bytes_eq run (codes "OR") ≡ o → bytes_eq run (codes "NOT") ≡ n → bytes_eq run (codes "*:*") ≡ e → is_cut_short run ≡ true → IsWhole (cond a Token.And (cond o Token.Or (cond n Token.Not (cond e Token.Every (cond (length field == 0 || is_cut_short run) Token.Broken (cond (opens_value (drop (length field) run)) (Token.Leaf field (plain (drop (length field + 1) run))) Token.Broken)))))) → is_cut_short run ≡ false
    over true o n e p q r t c k = word (codes "AND") p refl
    over false true n e p q r t c k = word (codes "OR") q refl
    over false false true e p q r t c k = word (codes "NOT") r refl
    over false false false true p q r t c k = word (codes "*:*") t refl
    over false false false false p q r t c k = absurd (k (last (length field == 0) c))

    go : (is_cut_short run ≡ true) ⊎ (is_cut_short run ≡ false) → is_cut_short run ≡ false
    go (inl c) = over (bytes_eq run (codes "AND")) (bytes_eq run (codes "OR")) (bytes_eq run (codes "NOT")) (bytes_eq run (codes "*:*")) refl refl refl refl c h
    go (inr c) = c

-- the token and its length are those that the text had without the parenthesis, and within it
abbrev Stays : Token × ℕ → Token × ℕ → List ℕ → Type 0
Stays longer token text = (longer ≡ token) × (token.1 ≤ length text)

run-before : (field text : List ℕ) → opens_quoted (drop (length field) text) ≡ false → length field ≤ length text → IsWhole (word_at field text).0 → Stays (word_at field (text ++ 41 ∷ [])) (word_at field text) text
run-before field text o l h =
    let here = word_at-run field text o in
    let there = word_at-run field (text ++ 41 ∷ []) (ap opens_quoted (drop-append-le (length field) text (41 ∷ []) l) ∙ (opens_quoted-before (drop (length field) text) ∙ o)) in
    let whole : IsWhole (run_token field (up_to ends_run text)) = subst (λ (x : Token × ℕ). IsWhole x.0) here h in
    let same : up_to ends_run (text ++ 41 ∷ []) ≡ up_to ends_run text = up_to-before ends_run text refl (run_whole field (up_to ends_run text) whole) in
    (there ∙ (ap (λ (xs : List ℕ). (run_token field xs, length xs)) same ∙ sym here), subst (λ (x : Token × ℕ). x.1 ≤ length text) (sym here) (up_to-stops ends_run text).0)

quoted-before : (field text : List ℕ) → opens_quoted (drop (length field) text) ≡ true → length field ≤ length text → IsWhole (word_at field text).0 → Stays (word_at field (text ++ 41 ∷ [])) (word_at field text) text
quoted-before field text o l h = go (length field == 0 || length inside == length value || length inside == 0) refl
  where
    value : List ℕ
    value = drop (length field + 2) text

    inside : List ℕ
    inside = up_to ends_quoted value

    here : word_at field text ≡ quoted_leaf field inside value
    here = word_at-quoted field text o

    there : word_at field (text ++ 41 ∷ []) ≡ quoted_leaf field (up_to ends_quoted (drop (length field + 2) (text ++ 41 ∷ []))) (drop (length field + 2) (text ++ 41 ∷ []))
    there = word_at-quoted field (text ++ 41 ∷ []) (ap opens_quoted (drop-append-le (length field) text (41 ∷ []) l) ∙ (opens_quoted-before (drop (length field) text) ∙ o))

    within : length field + 2 ≤ length text
    within = omega (arith, (quoted_start (drop (length field) text) o).0, length-drop (length field) text)

    longer : drop (length field + 2) (text ++ 41 ∷ []) ≡ value ++ 41 ∷ []
    longer = drop-append-le (length field + 2) text (41 ∷ []) within

    go : (b : Bool) → (length field == 0 || length inside == length value || length inside == 0) ≡ b → Stays (word_at field (text ++ 41 ∷ [])) (word_at field text) text
    go true e = absurd (h (ap (λ (x : Token × ℕ). x.0) (here ∙ ap (λ (y : Bool). cond {A = Token × ℕ} y (Token.Broken, length field + 2 + length value) (Token.Leaf field (plain inside), length field + 3 + length inside)) e)))
    go false e =
        let parts = none_true (length field == 0 || length inside == length value) (length inside == 0) e in
        let start = none_true (length field == 0) (length inside == length value) parts.0 in
        let named : length field ≢ 0 = eqb-false (length field) 0 start.0 in
        let closed : length inside ≢ length value = eqb-false (length inside) (length value) start.1 in
        let some : length inside ≢ 0 = eqb-false (length inside) 0 parts.1 in
        let shorter : length inside < length value = omega (arith, (up_to-stops ends_quoted value).0, closed) in
        let same : up_to ends_quoted (value ++ 41 ∷ []) ≡ inside = up_to-closed ends_quoted value (41 ∷ []) shorter in
        let still : length inside ≢ length (value ++ 41 ∷ []) = λ k. omega (arith, k, shorter, length-append value (41 ∷ [])) in
        let token : Token × ℕ = (Token.Leaf field (plain inside), length field + 3 + length inside) in
        let short : quoted_leaf field inside value ≡ token = quoted_leaf-whole field inside value named closed some in
        let long : quoted_leaf field inside (value ++ 41 ∷ []) ≡ token = quoted_leaf-whole field inside (value ++ 41 ∷ []) named still some in (
          there ∙ (ap (λ (xs : List ℕ). quoted_leaf field (up_to ends_quoted xs) xs) longer ∙ (ap (λ (xs : List ℕ). quoted_leaf field xs (value ++ 41 ∷ [])) same ∙ (long ∙ (sym short ∙ sym here)))),
          subst (λ (x : Token × ℕ). x.1 ≤ length text) (sym (here ∙ short)) (omega (arith, shorter, within, length-drop (length field + 2) text)),
        )

word-before : (text : List ℕ) → IsWhole (word_at (up_to ends_field text) text).0 → Stays (word_at (up_to ends_field (text ++ 41 ∷ [])) (text ++ 41 ∷ [])) (word_at (up_to ends_field text) text) text
word-before text h =
    subst (λ (field : List ℕ). Stays (word_at field (text ++ 41 ∷ [])) (word_at (up_to ends_field text) text) text) (sym (field-before text)) (go (true_or_false (opens_quoted (drop (length (up_to ends_field text)) text))))
  where
    field : List ℕ
    field = up_to ends_field text

    go : (opens_quoted (drop (length field) text) ≡ true) ⊎ (opens_quoted (drop (length field) text) ≡ false) → Stays (word_at field (text ++ 41 ∷ [])) (word_at field text) text
    go (inl o) = quoted-before field text o (up_to-stops ends_field text).0 h
    go (inr o) = run-before field text o (up_to-stops ends_field text).0 h

token-before : (c : ℕ) (rest : List ℕ) → IsWhole (token_at (c ∷ rest)).0 → Stays (token_at (c ∷ rest ++ 41 ∷ [])) (token_at (c ∷ rest)) (c ∷ rest)
token-before c rest h = go (eqb c 40) (eqb c 41) h
  where
    longer : Token × ℕ
    longer = word_at (up_to ends_field (c ∷ rest ++ 41 ∷ [])) (c ∷ rest ++ 41 ∷ [])

    token : Token × ℕ
    token = word_at (up_to ends_field (c ∷ rest)) (c ∷ rest)

    go : (a b : Bool) → IsWhole (cond {A = Token × ℕ} a (Token.Open, 1) (cond {A = Token × ℕ} b (Token.Close, 1) token)).0 → Stays (cond a (Token.Open, 1) (cond b (Token.Close, 1) longer)) (cond a (Token.Open, 1) (cond b (Token.Close, 1) token)) (c ∷ rest)
    go true b k = (refl, omega arith)
    go false true k = (refl, omega arith)
    go false false k = word-before (c ∷ rest) k

-- the tokens of a text with a parenthesis after it
tokens-before : (inside at : ℕ) (text : List ℕ) → inside ≤ length text → AreWhole (tokens_from inside at text) → tokens_from inside at (text ++ 41 ∷ []) ≡ tokens_from inside at text ++ placed (at + length text) Token.Close ∷ []
unfolding tokens_from
tokens-before zero at [] l h = ap (λ (n : ℕ). placed n Token.Close ∷ []) (let same : at ≡ at + 0 = omega arith in same)
tokens-before (suc inside) at [] l h = absurd (omega (arith, l))
tokens-before (suc inside) at (c ∷ rest) l h =
    tokens-before inside (at + 1) rest (omega (arith, l)) h ∙ ap (λ (n : ℕ). tokens_from inside (at + 1) rest ++ placed n Token.Close ∷ []) (let same : at + 1 + length rest ≡ at + length (c ∷ rest) = omega arith in same)
tokens-before zero at (c ∷ rest) l h = go (is_space c) h (λ n k w. tokens-before n (at + 1) rest k w)
  where
    place : at + 1 + length rest ≡ at + length (c ∷ rest)
    place = omega arith

    token : Token × ℕ
    token = token_at (c ∷ rest)

    longer : Token × ℕ
    longer = token_at (c ∷ rest ++ 41 ∷ [])

    go : (b : Bool) → AreWhole (cond b (tokens_from 0 (at + 1) rest) (placed at token.0 ∷ tokens_from (token.1 - 1) (at + 1) rest)) → ((n : ℕ) → n ≤ length rest → AreWhole (tokens_from n (at + 1) rest) → tokens_from n (at + 1) (rest ++ 41 ∷ []) ≡ tokens_from n (at + 1) rest ++ placed (at + 1 + length rest) Token.Close ∷ []) → cond b (tokens_from 0 (at + 1) (rest ++ 41 ∷ [])) (placed at longer.0 ∷ tokens_from (longer.1 - 1) (at + 1) (rest ++ 41 ∷ [])) ≡ cond b (tokens_from 0 (at + 1) rest) (placed at token.0 ∷ tokens_from (token.1 - 1) (at + 1) rest) ++ placed (at + length (c ∷ rest)) Token.Close ∷ []
    go true w k = k 0 (omega arith) w ∙ ap (λ (n : ℕ). tokens_from 0 (at + 1) rest ++ placed n Token.Close ∷ []) place
    go false w k =
        let stays = token-before c rest w.0 in
        ap (λ (x : Token × ℕ). placed at x.0 ∷ tokens_from (x.1 - 1) (at + 1) (rest ++ 41 ∷ [])) stays.0
        ∙ ap (λ (ts : List Placed). placed at token.0 ∷ ts) (k (token.1 - 1) (omega (arith, stays.1)) w.1 ∙ ap (λ (n : ℕ). tokens_from (token.1 - 1) (at + 1) rest ++ placed n Token.Close ∷ []) place)

-- a query in parentheses
pub enclosed : (text : List ℕ) (t : Tree) → length text + 2 ≤ 4096 → IsQueryWithin 31 (tokens text) t → HasTree (40 ∷ text ++ 41 ∷ []) (moved t)
unfolding tokens_from
enclosed text t l d =
    let close : Placed = placed (1 + length text) Token.Close in
    let whole : AreWhole (tokens_from 0 1 text) = subst AreWhole (sym (tokens-further 0 0 text)) (whole_query (reads_further d) tt) in
    let inner : Reads Rule.Query 31 (tokens_from 0 1 text ++ close ∷ []) (moved t) (close ∷ []) = reads_before (close ∷ []) (subst (λ (ts : List Placed). Reads Rule.Query 31 ts (moved t) []) (sym (tokens-further 0 0 text)) (reads_further d)) in
    let longer : Reads Rule.Query 31 (tokens_from 0 1 (text ++ 41 ∷ [])) (moved t) (close ∷ []) = subst (λ (ts : List Placed). Reads Rule.Query 31 ts (moved t) (close ∷ [])) (sym (tokens-before 0 1 text (omega arith) whole)) inner in
    record {
      in_limit = omega (arith, l, length-append text (41 ∷ []));
      query = Reads.one_conjunction (Reads.one_negation (Reads.parentheses longer));
    }
