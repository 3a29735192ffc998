-- How many documents lists hold.
use Rattle.std.proofs.Common.{◌≡◌, ℕ, ◌+◌, List, [], ◌∷◌, ◌++◌, length, map, ap, ◌∙◌, arith}
use Rattle.std.proofs.lemmas.List.{append-nil, length-append, map-append}
use Rattle.std.proofs.lemmas.List.Concat.{flat_map-append}
use Rattle.sc_record.specs.Writes.{Write}
use Rattle.sc_finding.specs.Lists.{all_of}

-- more lists hold their documents more
pub count-more : (lists more : List (List Write)) → length (all_of (lists ++ more)) ≡ length (all_of lists) + length (all_of more)
count-more lists more =
    ap (λ (ws : List Write). length ws) (flat_map-append (λ (ws : List Write). ws) lists more) ∙ length-append (all_of lists) (all_of more)

-- one list more holds its documents more
pub count-next : {S : Type 0} (f : S → List Write) (before : List S) (one : S) (found more : ℕ)
    → found ≡ length (all_of (map f before)) → more ≡ length (f one) → found + more ≡ length (all_of (map f (before ++ one ∷ [])))
count-next f before one found more is more_is =
    let joined : map f (before ++ one ∷ []) ≡ map f before ++ f one ∷ [] = map-append f before (one ∷ []) in
    let all = ap (λ (ls : List (List Write)). length (all_of ls)) joined in
    let parts = count-more (map f before) (f one ∷ []) in
    let last : length (all_of (f one ∷ [])) ≡ length (f one) = ap (λ (ws : List Write). length ws) (append-nil (f one)) in
    omega (arith, is, more_is, all, parts, last)
