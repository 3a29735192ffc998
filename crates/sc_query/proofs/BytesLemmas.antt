-- Runs of bytes and what they stand for, a byte at a time.
use Rattle.std.proofs.Common.{◌≡◌, ◌≢◌, ℕ, ◌+◌, ◌<◌, ◌≤◌, Bool, true, false, ◌⊎◌, inl, inr, cond, eqb, List, [], ◌∷◌, length, get_or, drop, refl, ap, ◌∙◌, arith, eq-eqb}
use Rattle.std.proofs.lemmas.Bool.{ne_eqb}
use Rattle.std.proofs.lemmas.List.{drop_more, drop_all}
use Rattle.sc_query.specs.declared.lexeme.Part.{Part}
use Rattle.sc_query.specs.declared.lexeme.Part.TheVariants.{Field, Run, Quoted}
use Rattle.sc_query.specs.Tokens.{up_to, plain, is_cut_short, ends_field, ends_run, ends_quoted}

-- which bytes end a part of a leaf
abbrev pub ends_of : Part → ℕ → Bool
ends_of Field = ends_field
ends_of Run = ends_run
ends_of Quoted = ends_quoted

-- what is said of each part is said of the one that it is
pub ended : (part : Part) (ends : Bool) (byte : ℕ) → (part ≡ Field → ends ≡ ends_field byte) → (part ≡ Run → ends ≡ ends_run byte) → (part ≡ Quoted → ends ≡ ends_quoted byte) → ends ≡ ends_of part byte
ended Field ends byte field run quoted = field refl
ended Run ends byte field run quoted = run refl
ended Quoted ends byte field run quoted = quoted refl

-- the byte at a place and the byte after it begin what is left
pub drop_two : (bs : List ℕ) (i : ℕ) → i + 1 < length bs → drop i bs ≡ get_or bs i 0 ∷ get_or bs (i + 1) 0 ∷ drop (i + 2) bs
drop_two bs i l =
    let next : i + 1 + 1 ≡ i + 2 = omega arith in
    drop_more bs i 0 (omega (arith, l)) ∙ ap (λ (xs : List ℕ). get_or bs i 0 ∷ xs) (drop_more bs (i + 1) 0 l ∙ ap (λ (n : ℕ). get_or bs (i + 1) 0 ∷ drop n bs) next)

-- a byte that is no backslash, or the text's last, stands alone
abbrev pub StandsAlone : List ℕ → ℕ → Type 0
StandsAlone bs i = (get_or bs i 0 ≢ 92) ⊎ (length bs ≤ i + 1)

up_to-cons : (ends : ℕ → Bool) (c : ℕ) (rest : List ℕ) → ends c ≡ false → (c ≢ 92) ⊎ (rest ≡ []) → up_to ends (c ∷ rest) ≡ c ∷ up_to ends rest
up_to-cons ends c [] e h = ap (λ (b : Bool). cond b [] (c ∷ [])) e
up_to-cons ends c (d ∷ rest) e (inl h) = ap (λ (b : Bool). cond b [] (cond (eqb c 92) (c ∷ d ∷ up_to ends rest) (c ∷ up_to ends (d ∷ rest)))) e ∙ ap (λ (b : Bool). cond b (c ∷ d ∷ up_to ends rest) (c ∷ up_to ends (d ∷ rest))) (ne_eqb c 92 h)
up_to-cons ends c (d ∷ rest) e (inr h) = let no : d ∷ rest ≡ [] = h in cc

up_to-two : (ends : ℕ → Bool) (c d : ℕ) (rest : List ℕ) → ends c ≡ false → c ≡ 92 → up_to ends (c ∷ d ∷ rest) ≡ c ∷ d ∷ up_to ends rest
up_to-two ends c d rest e h = ap (λ (b : Bool). cond b [] (cond (eqb c 92) (c ∷ d ∷ up_to ends rest) (c ∷ up_to ends (d ∷ rest)))) e ∙ ap (λ (b : Bool). cond b (c ∷ d ∷ up_to ends rest) (c ∷ up_to ends (d ∷ rest))) (eq-eqb c 92 h)

pub up_to-stop : (ends : ℕ → Bool) (c : ℕ) (rest : List ℕ) → ends c ≡ true → up_to ends (c ∷ rest) ≡ []
up_to-stop ends c [] e = ap (λ (b : Bool). cond b [] (c ∷ [])) e
up_to-stop ends c (d ∷ rest) e = ap (λ (b : Bool). cond b [] (cond (eqb c 92) (c ∷ d ∷ up_to ends rest) (c ∷ up_to ends (d ∷ rest)))) e

rest_of : (bs : List ℕ) (i : ℕ) → StandsAlone bs i → (get_or bs i 0 ≢ 92) ⊎ (drop (i + 1) bs ≡ [])
rest_of bs i (inl h) = inl h
rest_of bs i (inr h) = inr (drop_all (i + 1) bs h)

pub up_to-one : (ends : ℕ → Bool) (bs : List ℕ) (i : ℕ) → i < length bs → ends (get_or bs i 0) ≡ false → StandsAlone bs i → length (up_to ends (drop i bs)) ≡ 1 + length (up_to ends (drop (i + 1) bs))
up_to-one ends bs i l e h =
    let same = ap length (ap (up_to ends) (drop_more bs i 0 l) ∙ up_to-cons ends (get_or bs i 0) (drop (i + 1) bs) e (rest_of bs i h)) in
    omega (arith, same)

pub up_to-escape : (ends : ℕ → Bool) (bs : List ℕ) (i : ℕ) → i + 1 < length bs → ends (get_or bs i 0) ≡ false → get_or bs i 0 ≡ 92 → length (up_to ends (drop i bs)) ≡ 2 + length (up_to ends (drop (i + 2) bs))
up_to-escape ends bs i l e h =
    let same = ap length (ap (up_to ends) (drop_two bs i l) ∙ up_to-two ends (get_or bs i 0) (get_or bs (i + 1) 0) (drop (i + 2) bs) e h) in
    omega (arith, same)

pub up_to-none : (ends : ℕ → Bool) (bs : List ℕ) (i : ℕ) → i < length bs → ends (get_or bs i 0) ≡ true → length (up_to ends (drop i bs)) ≡ 0
up_to-none ends bs i l e = ap length (ap (up_to ends) (drop_more bs i 0 l) ∙ up_to-stop ends (get_or bs i 0) (drop (i + 1) bs) e)

-- what stands alone, and what a backslash takes along, for the two other recursions
plain-cons : (c : ℕ) (rest : List ℕ) → (c ≢ 92) ⊎ (rest ≡ []) → plain (c ∷ rest) ≡ c ∷ plain rest
plain-cons c [] h = refl
plain-cons c (d ∷ rest) (inl h) = ap (λ (b : Bool). cond b (d ∷ plain rest) (c ∷ plain (d ∷ rest))) (ne_eqb c 92 h)
plain-cons c (d ∷ rest) (inr h) = let no : d ∷ rest ≡ [] = h in cc

pub plain-one : (bs : List ℕ) (i : ℕ) → i < length bs → StandsAlone bs i → plain (drop i bs) ≡ get_or bs i 0 ∷ plain (drop (i + 1) bs)
plain-one bs i l h = ap plain (drop_more bs i 0 l) ∙ plain-cons (get_or bs i 0) (drop (i + 1) bs) (rest_of bs i h)

pub plain-escape : (bs : List ℕ) (i : ℕ) → i + 1 < length bs → get_or bs i 0 ≡ 92 → plain (drop i bs) ≡ get_or bs (i + 1) 0 ∷ plain (drop (i + 2) bs)
plain-escape bs i l h = ap plain (drop_two bs i l) ∙ ap (λ (b : Bool). cond b (get_or bs (i + 1) 0 ∷ plain (drop (i + 2) bs)) (get_or bs i 0 ∷ plain (get_or bs (i + 1) 0 ∷ drop (i + 2) bs))) (eq-eqb (get_or bs i 0) 92 h)

pub cut-cons : (c : ℕ) (rest : List ℕ) → c ≢ 92 → is_cut_short (c ∷ rest) ≡ is_cut_short rest
cut-cons c [] h = ne_eqb c 92 h
cut-cons c (d ∷ rest) h = ap (λ (b : Bool). cond b (is_cut_short rest) (is_cut_short (d ∷ rest))) (ne_eqb c 92 h)

pub cut-one : (bs : List ℕ) (i : ℕ) → i < length bs → get_or bs i 0 ≢ 92 → is_cut_short (drop i bs) ≡ is_cut_short (drop (i + 1) bs)
cut-one bs i l h = ap is_cut_short (drop_more bs i 0 l) ∙ cut-cons (get_or bs i 0) (drop (i + 1) bs) h

pub cut-escape : (bs : List ℕ) (i : ℕ) → i + 1 < length bs → get_or bs i 0 ≡ 92 → is_cut_short (drop i bs) ≡ is_cut_short (drop (i + 2) bs)
cut-escape bs i l h = ap is_cut_short (drop_two bs i l) ∙ ap (λ (b : Bool). cond b (is_cut_short (drop (i + 2) bs)) (is_cut_short (get_or bs (i + 1) 0 ∷ drop (i + 2) bs))) (eq-eqb (get_or bs i 0) 92 h)

pub cut-last : (bs : List ℕ) (i : ℕ) → i + 1 ≡ length bs → get_or bs i 0 ≡ 92 → is_cut_short (drop i bs) ≡ true
cut-last bs i l h =
    ap is_cut_short (drop_more bs i 0 (omega (arith, l)) ∙ ap (λ (xs : List ℕ). get_or bs i 0 ∷ xs) (drop_all (i + 1) bs (omega (arith, l)))) ∙ eq-eqb (get_or bs i 0) 92 h
