-- ASCII texts under default case folding.
use Rattle.std.proofs.Common.{◌≡◌, ℕ, Bool, true, false, ◌||◌, List, [], ◌∷◌, map, IsAscii, encode_utf8_all, refl, ap, ap₂, ◌∙◌, arith}
use Rattle.std.specs.List.{list_any}
use Rattle.std.specs.Char.{to_ascii_lowercase, is_ascii_uppercase}
use Rattle.std.proofs.lemmas.Bool.Decides.{nat_tests}
use Rattle.std.proofs.lemmas.Str.{chars-IsAscii, encodes-IsAscii}
use Rattle.std.proofs.lemmas.Str.Ascii.{All-from_ascii, IsAscii-map, lowercase_ascii}
use Rattle.caseless.specs.Caseless.{default_case_fold}
use Rattle.caseless.proofs.CaselessLemmas.{default_case_fold-ascii}
use Rattle.sc_schema.specs.Terms.{folded}

-- an ASCII text is folded letter by letter
pub folded-ascii : (text : List ℕ) → IsAscii text → folded text ≡ map to_ascii_lowercase text
folded-ascii text ascii =
    ap (λ cs. encode_utf8_all (default_case_fold cs)) (chars-IsAscii text ascii)
    ∙ ap encode_utf8_all (default_case_fold-ascii text (All-from_ascii text ascii))
    ∙ encodes-IsAscii (map to_ascii_lowercase text) (IsAscii-map to_ascii_lowercase text lowercase_ascii ascii)

-- what is no capital letter stays
lower_byte : (c : ℕ) → is_ascii_uppercase c ≡ false → to_ascii_lowercase c ≡ c
lower_byte c h = grind (arith, nat_tests)

-- neither holds where one of the two does not
neither : (a b : Bool) → a || b ≡ false → (a ≡ false) × (b ≡ false)
neither false b h = (refl, h)
neither true b h = cc

-- a text with no capital letter stays
pub lower_text : (text : List ℕ) → list_any is_ascii_uppercase text ≡ false → map to_ascii_lowercase text ≡ text
lower_text [] h = refl
lower_text (c ∷ text) h =
    let (first, others) = neither (is_ascii_uppercase c) (list_any is_ascii_uppercase text) h in
    ap₂ (λ d ds. d ∷ ds) (lower_byte c first) (lower_text text others)
