-- The searchers that a switch leaves, one after another.
use Rattle.std.proofs.Common.{◌≡◌, ◌∙◌, ℕ, ◌+◌, Bool, List, [], ◌∷◌, ◌++◌, map, filter, take, not, nat_eq, slice_get, Some, sym, ap, append_assoc}
use Rattle.std.specs.Option.{option_map}
use Rattle.std.specs.List.{take-map}
use Rattle.std.proofs.lemmas.List.{map-append}
use Rattle.std.proofs.lemmas.Option.{slice_get-map}
use Rattle.sc_record.specs.declared.slice.SliceId.{SliceId}
use Rattle.sc_cluster.specs.declared.slice.Slice.{Slice}
use Rattle.sc_cluster.specs.Slices.{is_forming, forming}
use Rattle.sc_replicas.specs.Searchers.{StandingState, standing_of}
use Rattle.sc_bucket.specs.Searchers.{cut_to}
use Rattle.sc_replicas.specs.declared.standing.Standing.{Standing}
use Rattle.sc_replicas.proofs.FindLemmas.{filter_take-next}

-- it is not the searcher of the parent
abbrev pub is_other : SliceId → StandingState → Bool
is_other parent other = not (nat_eq other.slice.0 parent.0)

-- those of the other slices after one more
pub others-next : (parent : SliceId) (searchers : List Standing) (at : ℕ) (searcher : Standing) (before handed new : List StandingState)
    → slice_get searchers at ≡ Some searcher → handed ≡ before ++ filter (is_other parent) (map standing_of (take at searchers))
    → new ≡ handed ++ filter (is_other parent) (standing_of searcher ∷ [])
    → new ≡ before ++ filter (is_other parent) (map standing_of (take (at + 1) searchers))
others-next parent searchers at searcher before handed new there so_far is =
    let p = is_other parent in
    let states = map standing_of searchers in
    is ∙ ap (λ these. these ++ filter p (standing_of searcher ∷ [])) so_far
    ∙ append_assoc before (filter p (map standing_of (take at searchers))) (filter p (standing_of searcher ∷ []))
    ∙ ap (λ these. before ++ (filter p these ++ filter p (standing_of searcher ∷ []))) (sym (take-map standing_of at searchers))
    ∙ ap (λ these. before ++ these) (filter_take-next p states at (standing_of searcher)
    (slice_get-map standing_of searchers at ∙ ap (option_map standing_of) there))
    ∙ ap (λ these. before ++ filter p these) (take-map standing_of (at + 1) searchers)

-- those of the subs after one more slice
pub subs-next : (searcher : Standing) (slices : List Slice) (at : ℕ) (slice : Slice) (before handed new : List StandingState)
    → slice_get slices at ≡ Some slice
    → handed ≡ before ++ map (λ (sub : Slice). cut_to sub (standing_of searcher)) (forming (take at slices))
    → new ≡ handed ++ map (λ (sub : Slice). cut_to sub (standing_of searcher)) (forming (slice ∷ []))
    → new ≡ before ++ map (λ (sub : Slice). cut_to sub (standing_of searcher)) (forming (take (at + 1) slices))
subs-next searcher slices at slice before handed new there so_far is =
    let cut : Slice → StandingState = λ (sub : Slice). cut_to sub (standing_of searcher) in
    is ∙ ap (λ these. these ++ map cut (forming (slice ∷ []))) so_far
    ∙ append_assoc before (map cut (forming (take at slices))) (map cut (forming (slice ∷ [])))
    ∙ ap (λ these. before ++ these) (sym (map-append cut (forming (take at slices)) (forming (slice ∷ []))))
    ∙ ap (λ these. before ++ map cut these) (filter_take-next is_forming slices at slice there)
