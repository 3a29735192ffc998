-- A text cut at the first place of a byte.
use Rattle.std.proofs.Common.{◌≡◌, ◌≢◌, ℕ, suc, ◌<◌, List, [], ◌∷◌, ◌++◌, length, get_or, refl, arith}

-- no byte of the text is this one
abbrev pub Lacks : ℕ → List ℕ → Type 0
Lacks mark text = (i : ℕ) → i < length text → get_or text i 0 ≢ mark

pub Lacks-rest : (mark c : ℕ) (text : List ℕ) → Lacks mark (c ∷ text) → Lacks mark text
Lacks-rest mark c text h i lt = h (suc i) (omega arith)

-- a text is cut at the first place of a byte in one way
pub same_cut : (mark : ℕ) (xs ys us vs : List ℕ) → Lacks mark xs → Lacks mark us → xs ++ mark ∷ ys ≡ us ++ mark ∷ vs → (xs ≡ us) × (ys ≡ vs)
same_cut mark [] ys [] vs h k e = (refl, (cc))
same_cut mark [] ys (u ∷ us) vs h k e = let same : u ≡ mark = cc in absurd (k 0 (omega arith) same)
same_cut mark (x ∷ xs) ys [] vs h k e = let same : x ≡ mark = cc in absurd (h 0 (omega arith) same)
same_cut mark (x ∷ xs) ys (u ∷ us) vs h k e =
    let rest : xs ++ mark ∷ ys ≡ us ++ mark ∷ vs = cc in
    let parts = same_cut mark xs ys us vs (Lacks-rest mark x xs h) (Lacks-rest mark u us k) rest in
    let first : x ≡ u = cc in
    ((cc), parts.1)
