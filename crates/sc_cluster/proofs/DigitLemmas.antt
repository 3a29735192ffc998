-- No underscore stands in a decimal, so a name that ends in one is cut at its last underscore in one way.
use Rattle.std.proofs.Common.{◌≡◌, ◌≢◌, ◌⊎◌, ℕ, zero, suc, ◌+◌, ◌/◌, ◌%◌, ◌<◌, ◌==◌, false, List, [], ◌∷◌, ◌++◌, All, refl, sym, ap, ◌∙◌, inl, inr, arith, mod-lt, lt-ltb}
use Rattle.std.proofs.lemmas.Bool.{cond_both, cond-true}
use Rattle.std.proofs.lemmas.List.Elements.{All-nil, All-cons, All-contains, Contains-append_right}
use Rattle.std.specs.Fmt.{digit_glyph, digits_onto, digits, decimal}

-- the byte `_`
abbrev pub underscore : ℕ
underscore = 95

-- no byte of the text is an underscore
abbrev pub HasNoUnderscore : List ℕ → Type 0
HasNoUnderscore text = All (λ byte. byte ≢ underscore) text

-- a text in which an underscore stands is not without one
pub underscore_in : (prefix rest : List ℕ) → ¬ HasNoUnderscore (prefix ++ underscore ∷ rest)
underscore_in prefix rest none =
    let here = Contains-append_right prefix (underscore ∷ rest) underscore (0, omega arith, refl) in
    All-contains (λ byte. byte ≢ underscore) (prefix ++ underscore ∷ rest) underscore none here refl

-- a digit is no underscore
digit_glyph-differs : (n : ℕ) → digit_glyph false (n % 10) ≢ underscore
digit_glyph-differs n same =
    let below : n % 10 < 10 = mod-lt n (omega arith) in
    let glyph : digit_glyph false (n % 10) ≡ 48 + n % 10 = cond-true _ _ _ (lt-ltb (n % 10) 10 below) in
    omega (arith, sym glyph ∙ same)

-- digits before a text with no underscore bring none
digits_onto-HasNoUnderscore : (k n : ℕ) (text : List ℕ) → HasNoUnderscore text
    → HasNoUnderscore (digits_onto k 10 false n text)
digits_onto-HasNoUnderscore zero n text none = none
digits_onto-HasNoUnderscore (suc k) n text none =
    let digit = digit_glyph false (n % 10) in
    let longer = All-cons (λ byte. byte ≢ underscore) digit text (digit_glyph-differs n) none in
    cond_both (n / 10 == 0) _ _ HasNoUnderscore (λ _. longer) (λ _. digits_onto-HasNoUnderscore k (n / 10) _ longer)

-- no byte of a decimal is an underscore
pub decimal-HasNoUnderscore : (n : ℕ) → HasNoUnderscore (decimal n)
unfolding digits
decimal-HasNoUnderscore n = digits_onto-HasNoUnderscore 64 n [] (All-nil (λ byte. byte ≢ underscore))

-- the name is the parent's, an underscore and more
abbrev pub Extends : List ℕ → List ℕ → Type 0
Extends parent name = (rest : List ℕ) × (name ≡ parent ++ underscore ∷ rest)

-- what stands before an underscore stands before the last one, or goes on in what does
pub cut_at_underscore : (prefix parent rest last : List ℕ) → HasNoUnderscore last
    → prefix ++ underscore ∷ rest ≡ parent ++ underscore ∷ last → (prefix ≡ parent) ⊎ Extends prefix parent
cut_at_underscore [] [] rest last none same = inl refl
cut_at_underscore [] (x ∷ parent) rest last none same =
    let first : x ≡ underscore = cc in
    inr (parent, ap (λ y. y ∷ parent) first)
cut_at_underscore (y ∷ prefix) [] rest last none same =
    let tail : prefix ++ underscore ∷ rest ≡ last = cc in
    absurd (underscore_in prefix rest (rw tail none))
cut_at_underscore (y ∷ prefix) (x ∷ parent) rest last none same =
    let tail : prefix ++ underscore ∷ rest ≡ parent ++ underscore ∷ last = cc in
    by (cc) (cut_at_underscore prefix parent rest last none tail)
  where
    by : y ≡ x → (prefix ≡ parent) ⊎ Extends prefix parent → (y ∷ prefix ≡ x ∷ parent) ⊎ Extends (y ∷ prefix) (x ∷ parent)
    by first (inl equal) = inl (cc)
    by first (inr (more, is)) = inr (more, (cc))
