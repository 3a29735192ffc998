-- Bytes that are taken one after another, and those that a window leaves.
use Rattle.std.proofs.Common.{◌≡◌, ◌≢◌, ℕ, ◌+◌, ◌-◌, ◌<◌, ◌≤◌, List, [], ◌∷◌, ◌++◌, length, get_or, take, drop, Ok, Err, refl, sym, ap, ◌∙◌, subst, arith, append_assoc, length-append, length-take-le, length-drop}
use Rattle.std.proofs.lemmas.List.{take_more}
use Rattle.std.proofs.Math.Seq.{take-add}
use Rattle.sc_chunks.specs.Coding.{coding_limit}
use Rattle.sc_chunks.specs.Progress.{ReachesPlace, InChunk, IsStepOf, IsAdvanceOf, IsRefusedCoding, NeedsByte}
use Rattle.sc_chunks.specs.declared.error.DecodeError.{DecodeError}
use Rattle.sc_chunks.specs.declared.place.Place.{Place}
use Rattle.sc_chunks.specs.declared.place.Place.TheVariants as places
use Rattle.sc_chunks.proofs.DataStepLemmas.{data_taken}

one_more : (coded bytes : List ℕ) (at : ℕ) → at < length bytes → (coded ++ take at bytes) ++ get_or bytes at 0 ∷ [] ≡ coded ++ take (at + 1) bytes
one_more coded bytes at inside = append_assoc coded (take at bytes) (get_or bytes at 0 ∷ []) ∙ ap (λ xs. coded ++ xs) (sym (take_more bytes at 0 inside))

pub byte_taken : (coded bytes content : List ℕ) (at : ℕ) (place : Place) → at < length bytes → IsStepOf (coded ++ take at bytes) (get_or bytes at 0) content (Ok place)
    → ReachesPlace (coded ++ take (at + 1) bytes) content place
byte_taken coded bytes content at place inside step = subst (λ (xs : List ℕ). ReachesPlace xs content place) (one_more coded bytes at inside) step

pub byte_refused : (coded bytes content : List ℕ) (at : ℕ) (place : Place) (error : DecodeError) → at < length bytes
    → IsStepOf (coded ++ take at bytes) (get_or bytes at 0) content (Err error) → IsAdvanceOf coded bytes content place (Err error)
byte_refused coded bytes content at place error inside step = (at + 1, subst (λ (xs : List ℕ). IsRefusedCoding error xs) (one_more coded bytes at inside) step)

pub room_before : (coded bytes : List ℕ) (at : ℕ) → length coded + length bytes ≤ coding_limit → at < length bytes → length (coded ++ take at bytes) < coding_limit
room_before coded bytes at fits inside =
    let parts = length-append coded (take at bytes) in
    let long = length-take-le at bytes (omega (arith, inside)) in
    omega (arith, parts, long, fits, inside)

pub needs_byte : (place : Place) → place ≢ places.End → ((left : ℕ) → place ≡ places.Data left → left ≡ 0) → NeedsByte place
needs_byte (places.Digits size count) going none = tt
needs_byte (places.Pad size) going none = tt
needs_byte (places.Extension size) going none = tt
needs_byte (places.LineFeed size) going none = tt
needs_byte (places.Data left) going none = none left refl
needs_byte places.DataFeed going none = tt
needs_byte (places.Trailer size count named returned) going none = tt
needs_byte places.End going none = going refl

pub data_on : (coded bytes content next : List ℕ) (at count left : ℕ) → InChunk (coded ++ take at bytes) content left → count ≤ left → at + count ≤ length bytes
    → next ≡ content ++ take count (drop at bytes) → InChunk (coded ++ take (at + count) bytes) next (left - count)
data_on coded bytes content next at count left c fits inside same =
    let slice = take count (drop at bytes) in
    let rest = length-drop at bytes in
    let long : length slice ≡ count = length-take-le count (drop at bytes) (omega (arith, rest, inside)) in
    let whole : (coded ++ take at bytes) ++ slice ≡ coded ++ take (at + count) bytes = append_assoc coded (take at bytes) slice ∙ ap (λ xs. coded ++ xs) (sym (take-add at count bytes)) in
    subst (λ (n : ℕ). InChunk (coded ++ take (at + count) bytes) next (left - n)) long
    (subst (λ (xs : List ℕ). InChunk (coded ++ take (at + count) bytes) xs (left - length slice)) (sym same)
    (subst (λ (xs : List ℕ). InChunk xs (content ++ slice) (left - length slice)) whole (data_taken (coded ++ take at bytes) content slice left c (omega (arith, long, fits)))))
