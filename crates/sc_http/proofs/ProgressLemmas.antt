-- The progress after bytes that come in parts.
use Rattle.std.proofs.Common.{◌≡◌, ℕ, zero, suc, ◌+◌, ◌-◌, ◌<◌, List, [], ◌∷◌, length, take, drop, get_or, fold, sym, ap, subst, ◌∙◌, arith}
use Rattle.std.proofs.lemmas.List.{take_all, length-drop}
use Rattle.sc_http.specs.HeadEnd.{next_progress}
use Rattle.sc_http.specs.declared.head_end.HeadProgress.{HeadProgress}

-- where the next bytes leave the progress as it is, it is the progress after them too
pub stays-on : (progress here : HeadProgress) (bytes : List ℕ) (at n m : ℕ) → m ≡ at + n → here ≡ fold next_progress progress (take at bytes)
    → fold next_progress here (take n (drop at bytes)) ≡ here → here ≡ fold next_progress progress (take m bytes)
stays-on progress here bytes zero n m is e s =
    let same : n ≡ m = omega arith in
    subst (λ (k : ℕ). here ≡ fold next_progress progress (take k bytes)) same (sym s ∙ ap (λ (p : HeadProgress). fold next_progress p (take n bytes)) e)
stays-on progress here [] (suc at) n zero is e s = e
stays-on progress here [] (suc at) n (suc m) is e s = e
stays-on progress here (b ∷ bytes) (suc at) n zero is e s = absurd (omega arith)
stays-on progress here (b ∷ bytes) (suc at) n (suc m) is e s = stays-on (next_progress progress b) here bytes at n m (omega arith) e s

-- the bytes from a progress on, as a slice has them
pub rest_of : (bytes : List ℕ) (at : ℕ) → take (length bytes - at) (drop at bytes) ≡ drop at bytes
rest_of bytes at = take_all (length bytes - at) (drop at bytes) (omega (arith, length-drop at bytes))

-- the progress after one byte more
pub next-on : (progress here : HeadProgress) (bytes : List ℕ) (k d m : ℕ) → m ≡ k + 1 → k < length bytes
    → here ≡ fold next_progress progress (take k bytes) → next_progress here (get_or bytes k d) ≡ fold next_progress progress (take m bytes)
next-on progress here [] k d m is within e = absurd (omega arith)
next-on progress here (b ∷ bytes) k d zero is within e = absurd (omega arith)
next-on progress here (b ∷ bytes) zero d (suc zero) is within e = ap (λ (p : HeadProgress). next_progress p b) e
next-on progress here (b ∷ bytes) zero d (suc (suc m)) is within e = absurd (omega arith)
next-on progress here (b ∷ bytes) (suc k) d (suc m) is within e = next-on (next_progress progress b) here bytes k d m (omega arith) (omega arith) e
