-- What a decoder took and what it refuses, of bytes that it may take.
use Rattle.std.proofs.Common.{◌≡◌, ◌≢◌, ℕ, ◌+◌, ◌<◌, ◌≤◌, ◌⊎◌, inl, inr, List, ◌++◌, length, take, drop, min, Result, Ok, Err, refl, sym, ap, ◌∙◌, subst, arith, append_assoc, length-append, length-take-le}
use Rattle.std.proofs.lemmas.Bool.{cases_lt}
use Rattle.std.proofs.lemmas.List.{take-append-drop, take_all}
use Rattle.std.proofs.Math.Seq.{take-append-add}
use Rattle.std.specs.Prelude.{IfErr}
use Rattle.std.specs.Result.{IsErrAnd}
use Rattle.sc_chunks.specs.Coding.{coding_limit}
use Rattle.sc_chunks.specs.Endings.{IsOpenCoding, StatesTooMuch, coding_window, partial, too_large, EndsCoding}
use Rattle.sc_chunks.specs.Progress.{ReachesPlace, Reaches, IsWhole, EndsBy, IsAdvanceOf}
use Rattle.sc_chunks.specs.declared.decoder.Decoder.{Decoder}
use Rattle.sc_chunks.specs.declared.error.DecodeError.{DecodeError}
use Rattle.sc_chunks.specs.declared.error.DecodeError.TheVariants as errors
use Rattle.sc_chunks.specs.declared.place.Place.{Place}
use Rattle.sc_chunks.specs.declared.place.Place.TheVariants as places
use Rattle.sc_chunks.proofs.EndLemmas.{states_stays, prefix_in_window}
use Rattle.sc_chunks.proofs.LineStepLemmas.{digits_open, line_open, return_open}
use Rattle.sc_chunks.proofs.DataStepLemmas.{data_open, data_return_open}
use Rattle.sc_chunks.proofs.TrailerStepLemmas.{trailer_open}

-- before the end of a coding its bytes are open
pub place_open : (coded content : List ℕ) (place : Place) → ReachesPlace coded content place → place ≢ places.End → IsOpenCoding coded
place_open coded content (places.Digits size count) reached going = digits_open coded content size count reached
place_open coded content (places.Pad size) reached going = line_open coded content size reached.0
place_open coded content (places.Extension size) reached going = line_open coded content size reached.0
place_open coded content (places.LineFeed size) reached going = return_open coded content size reached
place_open coded content (places.Data left) reached going = data_open coded content left reached
place_open coded content places.DataFeed reached going = data_return_open coded content reached
place_open coded content (places.Trailer size count named returned) reached going = trailer_open coded content size count named returned reached
place_open coded content places.End reached going = absurd (going refl)

pub unfinished : (coded : List ℕ) (decoder : Decoder) → Reaches coded decoder → ¬ (IsWhole decoder) → EndsCoding coded partial
unfinished coded decoder reached going = (omega (arith, reached.room), place_open coded decoder.content.items decoder.place reached.place going)

-- some bytes of a window, and the rest of all bytes
window_split : (coded bytes : List ℕ) (n k : ℕ) → (coded ++ take k (take n bytes)) ++ (drop k (take n bytes) ++ drop n bytes) ≡ coded ++ bytes
window_split coded bytes n k =
    append_assoc coded (take k (take n bytes)) (drop k (take n bytes) ++ drop n bytes)
    ∙ ap (λ xs. coded ++ xs) (sym (append_assoc (take k (take n bytes)) (drop k (take n bytes)) (drop n bytes))
    ∙ ap (λ xs. xs ++ drop n bytes) (take-append-drop k (take n bytes)) ∙ take-append-drop n bytes)

length-take-within : (n : ℕ) (xs : List ℕ) → length (take n xs) ≤ n
length-take-within n xs = elim (cases_lt n (length xs)) [
  | inl shorter ↦ (let long = length-take-le n xs (omega (arith, shorter)) in omega (arith, long))
  | inr longer ↦ (let long = ap length (take_all n xs longer) in omega (arith, long, longer))
]

length-take-rest : (n : ℕ) (xs : List ℕ) → length (take n xs) ≤ length xs
length-take-rest n xs =
    let whole = ap length (take-append-drop n xs) in
    let parts = length-append (take n xs) (drop n xs) in
    omega (arith, whole, parts)

pub window_fits : (coded bytes : List ℕ) (room n : ℕ) → length coded + room ≡ coding_limit → n ≤ room → length coded + length (take n bytes) ≤ coding_limit
window_fits coded bytes room n limit fits = let short = length-take-within n bytes in omega (arith, short, limit, fits)

pub refused : (coded bytes content : List ℕ) (room n : ℕ) (place : Place) (error : DecodeError) → length coded + room ≡ coding_limit → n ≤ room
    → IsAdvanceOf coded (take n bytes) content place (Err error) → EndsBy error (coded ++ bytes)
refused coded bytes content room n place errors.Malformed limit fits (k, is) = record {
  prefix = coded ++ take k (take n bytes);
  begins = (drop k (take n bytes) ++ drop n bytes, window_split coded bytes n k);
  within =
      let parts = length-append coded (take k (take n bytes)) in
      let short = length-take-rest k (take n bytes) in
      let window = length-take-within n bytes in
      omega (arith, parts, short, window, limit, fits);
  decides = is.0;
  little = is.1;
}
refused coded bytes content room n place errors.TooLarge limit fits (k, is) =
    let parts = length-append coded (take k (take n bytes)) in
    let short = length-take-rest k (take n bytes) in
    let window = length-take-within n bytes in
    inl (subst StatesTooMuch (sym (prefix_in_window (coded ++ take k (take n bytes)) (drop k (take n bytes) ++ drop n bytes) (coded ++ bytes)
    (omega (arith, parts, short, window, limit, fits)) (window_split coded bytes n k))) (states_stays (coded ++ take k (take n bytes)) _ is))
refused coded bytes content room n place errors.Memory limit fits is = tt

-- all the bytes that a coding may have were taken, and it is not whole
pub past_limit : (coded bytes content : List ℕ) (room n count : ℕ) (place : Place) → length coded + room ≡ coding_limit → n ≡ min (length bytes) room
    → length (take n bytes) < length bytes → (count ≡ length (take n bytes)) ⊎ (place ≡ places.End) → ReachesPlace (coded ++ take count (take n bytes)) content place
    → place ≢ places.End → EndsCoding (coded ++ bytes) too_large
past_limit coded bytes content room n count place limit least short all reached going =
    let parts = length-append coded bytes in
    let same : n ≡ room = elim (cases_lt n (length bytes)) [
      | inl inside ↦ omega (arith, least, inside)
      | inr outside ↦ (let long = ap length (take_all n bytes outside) in absurd (omega (arith, long, short)))
    ] in
    let more : room < length bytes = elim (cases_lt n (length bytes)) [
      | inl inside ↦ omega (arith, same, inside)
      | inr outside ↦ (let long = ap length (take_all n bytes outside) in absurd (omega (arith, long, short)))
    ] in
    let window : coding_window (coded ++ bytes) ≡ coded ++ take n bytes =
    ap (λ k. take k (coded ++ bytes)) (sym limit) ∙ take-append-add coded bytes room ∙ ap (λ k. coded ++ take k bytes) (sym same) in
    let taken : take count (take n bytes) ≡ take n bytes = elim all [
      | inl whole ↦ take_all count (take n bytes) (omega (arith, whole))
      | inr end ↦ absurd (going end)
    ] in
    inr (omega (arith, parts, limit, more), subst IsOpenCoding (sym (window ∙ ap (λ xs. coded ++ xs) (sym taken))) (place_open (coded ++ take count (take n bytes)) content place reached going))

-- what `?` hands on
pub handed_on : (result : Result ℕ DecodeError) (error : DecodeError) (bytes : List ℕ) → IsErrAnd result (λ found. found ≡ error) → EndsBy error bytes
    → IfErr result (λ found. EndsBy found bytes)
handed_on (Ok count) error bytes same ends = absurd same
handed_on (Err found) error bytes same ends = subst (λ (e : DecodeError). EndsBy e bytes) (sym same) ends
