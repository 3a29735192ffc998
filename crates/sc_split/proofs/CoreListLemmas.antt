-- The names of cores, one by one.
use Rattle.std.proofs.Common.{◌≡◌, ◌<◌, ℕ, zero, suc, ◌+◌, ◌-◌, List, [], ◌∷◌, ◌++◌, map, sym, ap, ◌∙◌, arith, append_assoc}
use Rattle.std.specs.List.{range_with_len}
use Rattle.std.proofs.lemmas.List.{map-append}
use Rattle.sc_record.specs.declared.slice.SubSlice.{SubSlice}
use Rattle.sc_record.specs.declared.slice.CoreId.{CoreId}
use Rattle.sc_replicas.proofs.CoreLemmas.{same_name_by}
use Rattle.sc_split.specs.Stages.{follower_of}

-- a further replica of a sub
pub follower-is : (sub : SubSlice) (core : CoreId) (k : ℕ) → core.slice ≡ sub.id → core.replica ≡ suc (k + 1) → core ≡ follower_of sub k
follower-is sub core k slice replica = same_name_by core (follower_of sub k) (ap (λ id. id.0) slice) replica

range-more : (from n : ℕ) → range_with_len from (suc n) ≡ range_with_len from n ++ (from + n) ∷ []
range-more from zero = let same : from ≡ from + 0 = omega arith in ap (λ k. k ∷ []) same
range-more from (suc n) =
    let same : (from + 1) + n ≡ from + suc n = omega arith in
    ap (λ ks. from ∷ ks) (range-more (from + 1) n ∙ ap (λ k. range_with_len (from + 1) n ++ k ∷ []) same)

-- one more of what each number of a range gives
pub range-pushed : {A : Type 0} (f : ℕ → A) (from k : ℕ) (before now : List A) (one : A) → 0 < k
    → before ≡ now ++ map f (range_with_len from (k - 1)) → one ≡ f (from + (k - 1))
    → before ++ one ∷ [] ≡ now ++ map f (range_with_len from (k + 1 - 1))
range-pushed f from k before now one above was is =
    let next : k + 1 - 1 ≡ suc (k - 1) = omega arith in
    ap (λ (xs : List _). xs ++ one ∷ []) was
    ∙ append_assoc now (map f (range_with_len from (k - 1))) (one ∷ [])
    ∙ ap (λ (xs : List _). now ++ xs) (ap (λ x. map f (range_with_len from (k - 1)) ++ x ∷ []) is
    ∙ sym (map-append f (range_with_len from (k - 1)) ((from + (k - 1)) ∷ []))
    ∙ ap (map f) (sym (range-more from (k - 1))) ∙ ap (λ n. map f (range_with_len from n)) (sym next))
