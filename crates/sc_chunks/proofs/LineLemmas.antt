-- Lines are told apart by their line ends.
use Rattle.std.proofs.Common.{◌≡◌, ◌≢◌, ℕ, ◌+◌, ◌≤◌, ◌⊎◌, inl, inr, All, List, [], ◌∷◌, ◌++◌, length, refl, sym, ap, ◌∙◌, subst, arith, append_assoc, length-append}
use Rattle.std.proofs.lemmas.Bool.{false≢true}
use Rattle.std.proofs.lemmas.List.Elements.{All-head, All-tail}
use Rattle.httparse.specs.Ascii.{crlf_bytes}
use Rattle.sc_chunks.specs.Coding.{HasNoLineEnd, IsTrailer, print_lines}

pub no_end_in_tail : (b : ℕ) (text : List ℕ) → HasNoLineEnd (b ∷ text) → HasNoLineEnd text
no_end_in_tail b text none before after same = none (b ∷ before) after (ap (λ xs. b ∷ xs) same)

pub no_end_in_nothing : HasNoLineEnd []
no_end_in_nothing [] after same = absurd (omega (arith, ap length same))
no_end_in_nothing (b ∷ before) after same = absurd (omega (arith, ap length same))

-- two texts without line ends, before a line end each
pub same_line : (a b x y : List ℕ) → HasNoLineEnd a → HasNoLineEnd b → a ++ (crlf_bytes ++ x) ≡ b ++ (crlf_bytes ++ y) → (a ≡ b) × (x ≡ y)
same_line [] [] x y none other same = (refl, cc)
same_line [] (c ∷ []) x y none other same = let feed : ◌≡◌ {A = ℕ} 10 13 = cc in absurd (omega (arith, feed))
same_line [] (c ∷ d ∷ b) x y none other same =
    let one : 13 ≡ c = cc in
    let two : 10 ≡ d = cc in
    absurd (other [] b (ap (λ z. z ∷ d ∷ b) (sym one) ∙ ap (λ z. 13 ∷ z ∷ b) (sym two)))
same_line (c ∷ []) [] x y none other same = let feed : ◌≡◌ {A = ℕ} 10 13 = cc in absurd (omega (arith, feed))
same_line (c ∷ d ∷ a) [] x y none other same =
    let one : 13 ≡ c = cc in
    let two : 10 ≡ d = cc in
    absurd (none [] a (ap (λ z. z ∷ d ∷ a) (sym one) ∙ ap (λ z. 13 ∷ z ∷ a) (sym two)))
same_line (c ∷ a) (d ∷ b) x y none other same =
    let first : c ≡ d = cc in
    let later = same_line a b x y (no_end_in_tail c a none) (no_end_in_tail d b other) (cc) in
    (ap (λ z. z ∷ a) first ∙ ap (λ zs. d ∷ zs) later.0, later.1)

-- a byte that is no line feed ends no line
pub no_end_before : (text : List ℕ) (b : ℕ) → b ≢ 10 → HasNoLineEnd text → HasNoLineEnd (text ++ b ∷ [])
no_end_before [] b other none before after same =
    let long = ap length same in let parts = length-append before (13 ∷ 10 ∷ after) in absurd (omega (arith, long, parts))
no_end_before (c ∷ []) b other none [] after same = let feed : b ≡ 10 = cc in other feed
no_end_before (c ∷ d ∷ text) b other none [] after same =
    let one : c ≡ 13 = cc in
    let two : d ≡ 10 = cc in
    none [] text (ap (λ z. z ∷ d ∷ text) one ∙ ap (λ z. 13 ∷ z ∷ text) two)
no_end_before (c ∷ text) b other none (z ∷ before) after same = no_end_before text b other (no_end_in_tail c text none) before after (cc)

-- a line before what follows it
pub lines_then : (text : List ℕ) (lines : List (List ℕ)) (x : List ℕ) → print_lines (text ∷ lines) ++ x ≡ text ++ (crlf_bytes ++ (print_lines lines ++ x))
lines_then text lines x = append_assoc (text ++ crlf_bytes) (print_lines lines) x ∙ append_assoc text crlf_bytes (print_lines lines ++ x)

-- trailer lines of bytes that begin with other trailer lines
abbrev pub PeeledLines : List (List ℕ) → List (List ℕ) → List ℕ → List ℕ → Type 0
PeeledLines lines others left rest =
    ((more : List (List ℕ)) × (others ≡ lines ++ more) × (left ≡ print_lines more ++ rest))
    ⊎ ((text : List ℕ) × (after : List ℕ) × IsTrailer text × (rest ≡ text ++ (crlf_bytes ++ after))
    × (length (print_lines others) + length text + 2 ≤ length (print_lines lines)))

pub peel_lines : (lines others : List (List ℕ)) (left rest : List ℕ) → All IsTrailer lines → All IsTrailer others
    → print_lines lines ++ left ≡ print_lines others ++ rest → PeeledLines lines others left rest
peel_lines [] others left rest all also same = inl (others, refl, same)
peel_lines (text ∷ lines) [] left rest all also same =
    let parts = length-append (text ++ crlf_bytes) (print_lines lines) in
    let one = length-append text crlf_bytes in
    inr (text, print_lines lines ++ left, All-head IsTrailer text lines all, sym same ∙ lines_then text lines left, omega (arith, parts, one))
peel_lines (text ∷ lines) (other ∷ others) left rest all also same =
    let is = All-head IsTrailer text lines all in
    let is' = All-head IsTrailer other others also in
    let heads = same_line text other _ _ is.one_line is'.one_line (sym (lines_then text lines left) ∙ same ∙ lines_then other others rest) in
    elim (peel_lines lines others left rest (All-tail IsTrailer text lines all) (All-tail IsTrailer other others also) heads.1) [
      | inl there ↦ inl (there.0, ap (λ z. z ∷ others) (sym heads.0) ∙ ap (λ zs. text ∷ zs) there.1, there.2)
      | inr within ↦
          let parts = length-append (text ++ crlf_bytes) (print_lines lines) in
          let others_parts = length-append (other ++ crlf_bytes) (print_lines others) in
          let long = ap (λ (xs : List ℕ). length (xs ++ crlf_bytes)) heads.0 in
          inr (within.0, within.1, within.2, within.3, omega (arith, within.4, parts, others_parts, long))
    ]

no_name_in_nothing : IsTrailer [] → ⊥
no_name_in_nothing is = false≢true is.named

-- the empty line comes after the same lines
pub empty_line_after : (lines others : List (List ℕ)) (left rest : List ℕ) → All IsTrailer lines → All IsTrailer others
    → print_lines lines ++ left ≡ print_lines others ++ (crlf_bytes ++ rest)
    → (more : List (List ℕ)) × (others ≡ lines ++ more) × (left ≡ print_lines more ++ (crlf_bytes ++ rest))
empty_line_after lines others left rest all also same =
    elim (peel_lines lines others left (crlf_bytes ++ rest) all also same) [
      | inl there ↦ there
      | inr within ↦
          let empty = same_line [] within.0 rest within.1 no_end_in_nothing within.2.one_line within.3 in
          absurd (no_name_in_nothing (subst IsTrailer (sym empty.0) within.2))
    ]
