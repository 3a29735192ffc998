-- One slice more stands at the end.
use Rattle.std.proofs.Common.{◌≡◌, ℕ, zero, suc, ◌+◌, ◌<◌, List, [], ◌∷◌, ◌++◌, length, map, get_or, take, sym, ap, subst, ◌∙◌, append_assoc, arith}
use Rattle.std.specs.List.{flat_map, AllByRecursion}
use Rattle.std.proofs.lemmas.List.{flat_map_more}
use Rattle.sc_record.specs.declared.slice.SubSlice.{SubSlice}
use Rattle.sc_spelling.specs.Spellings.{Extends}
use Rattle.sc_frames.specs.Stored.{StoredSub, FitsSub, stored_sub}
use Rattle.sc_frames.specs.Entries.{spelling_of_sub}

one_taken : (subs : List SubSlice) (i : ℕ) (x d : SubSlice) → i < length subs → x ≡ get_or subs i d
    → map stored_sub (take (suc i) subs) ≡ map stored_sub (take i subs) ++ stored_sub x ∷ []
one_taken [] i x d lt is = absurd (omega arith)
one_taken (y ∷ ys) zero x d lt is = ap (λ (s : SubSlice). stored_sub s ∷ []) (sym is)
one_taken (y ∷ ys) (suc i) x d lt is = ap (λ (l : List StoredSub). stored_sub y ∷ l) (one_taken ys i x d (omega arith) is)

all_more : (subs : List StoredSub) (s : StoredSub) → AllByRecursion FitsSub subs → FitsSub s → AllByRecursion FitsSub (subs ++ s ∷ [])
all_more [] s all one = (one, tt)
all_more (x ∷ subs) s all one = (all.0, all_more subs s all.1 one)

-- one slice more fits
pub fits_more : (subs : List SubSlice) (i : ℕ) (x d : SubSlice) → i < length subs → x ≡ get_or subs i d → AllByRecursion FitsSub (map stored_sub (take i subs)) → FitsSub (stored_sub x)
    → AllByRecursion FitsSub (map stored_sub (take (i + 1) subs))
fits_more subs i x d lt is all one =
    let next : suc i ≡ i + 1 = omega arith in
    subst (λ (n : ℕ). AllByRecursion FitsSub (map stored_sub (take n subs))) next
    (subst (AllByRecursion FitsSub) (sym (one_taken subs i x d lt is)) (all_more (map stored_sub (take i subs)) (stored_sub x) all one))

-- the bytes of one slice more
pub bytes_more : (subs : List SubSlice) (i : ℕ) (x d : SubSlice) → i < length subs → x ≡ get_or subs i d
    → flat_map spelling_of_sub (map stored_sub (take i subs)) ++ spelling_of_sub (stored_sub x) ≡ flat_map spelling_of_sub (map stored_sub (take (i + 1) subs))
bytes_more subs i x d lt is =
    let next : suc i ≡ i + 1 = omega arith in
    let whole = flat_map_more spelling_of_sub [] (map stored_sub (take i subs)) (stored_sub x) in
    whole ∙ ap (flat_map spelling_of_sub) (sym (one_taken subs i x d lt is)) ∙ ap (λ (n : ℕ). flat_map spelling_of_sub (map stored_sub (take n subs))) next

-- one slice more stands at the end
pub pushed_more : (old was now : List ℕ) (subs : List SubSlice) (i : ℕ) (x d : SubSlice) → i < length subs → x ≡ get_or subs i d
    → was ≡ old ++ flat_map spelling_of_sub (map stored_sub (take i subs)) → now ≡ was ++ spelling_of_sub (stored_sub x)
    → now ≡ old ++ flat_map spelling_of_sub (map stored_sub (take (i + 1) subs))
pushed_more old was now subs i x d lt is before pushed =
    let spelled : List ℕ = flat_map spelling_of_sub (map stored_sub (take i subs)) in
    let one : List ℕ = spelling_of_sub (stored_sub x) in
    pushed ∙ ap (λ (t : List ℕ). t ++ one) before ∙ append_assoc old spelled one ∙ ap (λ (t : List ℕ). old ++ t) (bytes_more subs i x d lt is)

-- what has bytes more than one that has bytes more has bytes more
pub extends_on : (old was now more : List ℕ) → was ≡ old ++ more → Extends was now → Extends old now
extends_on old was now more before after =
    record { more = more ++ after.more; whole = after.whole ∙ ap (λ (t : List ℕ). t ++ after.more) before ∙ append_assoc old more after.more }
