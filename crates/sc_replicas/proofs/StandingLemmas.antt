-- Which searcher is a slice's.
use Rattle.std.proofs.Common.{◌≡◌, ◌≢◌, ℕ, ◌<◌, List, length, get_or, map, Some, None, Option, Bor, MatchOption, Contains, IsSome, refl, ap, ◌∙◌, subst, arith}
use Rattle.std.specs.List.{AllWithin, HoldsAt}
use Rattle.std.proofs.lemmas.Option.{slice_get_within, get_or_from_slice_get}
use Rattle.sc_record.specs.declared.slice.SliceId.{SliceId}
use Rattle.sc_replicas.specs.declared.standing.Standing.{Standing}
use Rattle.sc_replicas.proofs.CoreLemmas.{element_from_map}

-- the name of a searcher's slice
abbrev pub slice_of : Standing → SliceId
slice_of searcher = searcher.slice

-- what a search for the searcher of a slice finds
abbrev pub IsStandingFound : List Standing → SliceId → Option (Bor Standing) → Type 0
IsStandingFound searchers id found =
    MatchOption found (AllWithin (λ (s : Standing). s.slice.0 ≢ id.0) searchers 0 (length searchers))
    (λ (s : Bor Standing). (s.now.slice.0 ≡ id.0) × (i : ℕ) × (i < length searchers) × HoldsAt (λ (other : Standing). other ≡ s.now) searchers i
    × AllWithin (λ (other : Standing). other.slice.0 ≢ id.0) searchers 0 i)

-- a searcher that is there is found
pub standing_is_found : (searchers : List Standing) (id : SliceId) (found : Option (Bor Standing)) → IsStandingFound searchers id found
    → Contains (map slice_of searchers) id → IsSome found
standing_is_found searchers id (Some s) is there = refl
standing_is_found searchers id None none there =
    let (k, s, at, is) = element_from_map slice_of searchers id there in
    let same : (get_or searchers k s).slice.0 ≡ id.0 =
    ap (λ (one : Standing). one.slice.0) (get_or_from_slice_get searchers k s s at) ∙ ap (λ (one : SliceId). one.0) is in
    absurd (none k s (omega arith) (slice_get_within searchers k s at) same)

-- and what is found is the slice's
pub standing_found_is : (searchers : List Standing) (id : SliceId) (found : Option (Bor Standing)) (s : Bor Standing)
    → IsStandingFound searchers id found → found ≡ Some s → Contains searchers s.now × (s.now.slice ≡ id)
standing_found_is searchers id found s is found_is =
    let here = subst (IsStandingFound searchers id) found_is is in
    ((here.1, here.2, here.3 s.now), ap (λ (n : ℕ). record { 0 = n }) here.0)
