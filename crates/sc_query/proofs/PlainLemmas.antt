-- The pieces between backslashes, one after another, are what the bytes stand for.
use Rattle.std.proofs.Common.{◌≡◌, ℕ, ◌+◌, ◌-◌, ◌<◌, ◌≤◌, List, [], ◌∷◌, ◌++◌, length, get_or, take, drop, sym, ap, ◌∙◌, arith, append_assoc}
use Rattle.std.proofs.lemmas.List.{drop_more, drop_all, take_more, take_rest, get_or-drop, length-drop, append-nil}
use Rattle.sc_query.specs.Tokens.{plain}
use Rattle.sc_query.proofs.BytesLemmas.{StandsAlone, plain-one, plain-escape}

-- a piece is written, and the byte that the backslash stands for begins the next
pub piece_written : (old new piece bs : List ℕ) (at : ℕ) → new ≡ old ++ piece → at + 1 < length bs → get_or bs at 0 ≡ 92 → old ++ (piece ++ plain (drop at bs)) ≡ plain bs → new ++ (take (at + 2 - (at + 1)) (drop (at + 1) bs) ++ plain (drop (at + 2) bs)) ≡ plain bs
piece_written old new piece bs at e l b w =
    let one : at + 2 - (at + 1) ≡ 1 = omega arith in
    let first : take 1 (drop (at + 1) bs) ≡ get_or bs (at + 1) 0 ∷ [] = ap (take 1) (drop_more bs (at + 1) 0 l) in
    ap (λ (n : ℕ). new ++ (take n (drop (at + 1) bs) ++ plain (drop (at + 2) bs))) one
    ∙ (ap (λ (xs : List ℕ). new ++ (xs ++ plain (drop (at + 2) bs))) first
    ∙ (ap (λ (xs : List ℕ). xs ++ (get_or bs (at + 1) 0 ∷ plain (drop (at + 2) bs))) e
    ∙ (append_assoc old piece (get_or bs (at + 1) 0 ∷ plain (drop (at + 2) bs))
    ∙ (ap (λ (xs : List ℕ). old ++ (piece ++ xs)) (sym (plain-escape bs at l b)) ∙ w))))

-- a byte that stands alone joins the piece
pub piece_longer : (old bs : List ℕ) (from at : ℕ) → from ≤ at → at < length bs → StandsAlone bs at → old ++ (take (at - from) (drop from bs) ++ plain (drop at bs)) ≡ plain bs → old ++ (take (at + 1 - from) (drop from bs) ++ plain (drop (at + 1) bs)) ≡ plain bs
piece_longer old bs from at f l h w =
    let more : at + 1 - from ≡ at - from + 1 = omega (arith, f) in
    let inside : at - from < length (drop from bs) = omega (arith, f, l, length-drop from bs) in
    let place : from + (at - from) ≡ at = omega (arith, f) in
    let last : get_or (drop from bs) (at - from) 0 ≡ get_or bs at 0 = get_or-drop from bs (at - from) 0 ∙ ap (λ (n : ℕ). get_or bs n 0) place in
    ap (λ (n : ℕ). old ++ (take n (drop from bs) ++ plain (drop (at + 1) bs))) more
    ∙ (ap (λ (xs : List ℕ). old ++ (xs ++ plain (drop (at + 1) bs))) (take_more (drop from bs) (at - from) 0 inside ∙ ap (λ (n : ℕ). take (at - from) (drop from bs) ++ n ∷ []) last)
    ∙ (ap (λ (xs : List ℕ). old ++ xs) (append_assoc (take (at - from) (drop from bs)) (get_or bs at 0 ∷ []) (plain (drop (at + 1) bs)) ∙ ap (λ (xs : List ℕ). take (at - from) (drop from bs) ++ xs) (sym (plain-one bs at l h)))
    ∙ w))

-- the last piece goes to the end
pub piece_last : (old new bs : List ℕ) (from at : ℕ) → from ≤ at → at ≡ length bs → new ≡ old ++ drop from bs → old ++ (take (at - from) (drop from bs) ++ plain (drop at bs)) ≡ plain bs → new ≡ plain bs
piece_last old new bs from at f l e w =
    let none : plain (drop at bs) ≡ [] = ap plain (drop_all at bs (omega (arith, l))) in
    let all : take (at - from) (drop from bs) ≡ drop from bs = ap (λ (n : ℕ). take (n - from) (drop from bs)) l ∙ take_rest bs from in
    e ∙ (ap (λ (xs : List ℕ). old ++ xs) (sym (ap (λ (xs : List ℕ). take (at - from) (drop from bs) ++ xs) none ∙ (append-nil (take (at - from) (drop from bs)) ∙ all))) ∙ w)
