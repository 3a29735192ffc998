-- The cores of the first slices of a map, of one slice more, and of all.
use Rattle.std.proofs.Common.{◌≡◌, ◌<◌, ◌≤◌, ◌⊎◌, inl, inr, ◌∙◌, ℕ, ◌+◌, List, [], ◌∷◌, ◌++◌, length, get_or, take, slice_get, Some, None, sym, ap}
use Rattle.std.proofs.lemmas.List.{take_more, take_all, append-nil}
use Rattle.std.proofs.lemmas.List.Concat.{flat_map-append}
use Rattle.std.proofs.lemmas.Option.{slice_get_within, get_or_from_slice_get, slice_get_cases, none-some}
use Rattle.sc_cluster.specs.declared.slice.Slice.{Slice}
use Rattle.sc_io.specs.declared.hosts.Host.{Host}
use Rattle.sc_cores.specs.Cores.{cores_of_slice, cores_of_map}

-- the first items of a list, and the next
first_more : {X : Type 0} (xs : List X) (at : ℕ) (x : X) → slice_get xs at ≡ Some x → take (at + 1) xs ≡ take at xs ++ x ∷ []
first_more xs at x there =
    take_more xs at x (slice_get_within xs at x there) ∙ ap (λ y. take at xs ++ y ∷ []) (get_or_from_slice_get xs at x x there)

-- the cores of the first slices, and of the next
pub more_cores : (nodes : ℕ) (slices : List Slice) (at : ℕ) (slice : Slice) → slice_get slices at ≡ Some slice
    → cores_of_map nodes (take (at + 1) slices) ≡ cores_of_map nodes (take at slices) ++ cores_of_slice nodes slice
more_cores nodes slices at slice there =
    ap (cores_of_map nodes) (first_more slices at slice there)
    ∙ flat_map-append (cores_of_slice nodes) (take at slices) (slice ∷ [])
    ∙ ap (λ (xs : List Host). cores_of_map nodes (take at slices) ++ xs) (append-nil (cores_of_slice nodes slice))

-- no slice has a place from the end on
past_end : (slices : List Slice) (at : ℕ) → slice_get slices at ≡ None
    → ((slice : Slice) × (at < length slices) × (slice_get slices at ≡ Some slice) × (get_or slices at slice ≡ slice)) ⊎ ((length slices ≤ at) × (slice_get slices at ≡ None))
    → length slices ≤ at
past_end slices at none (inl found) = elim (none-some found.0 (sym none ∙ found.2)) [ ]
past_end slices at none (inr past) = past.0

-- where no place follows, the cores of the slices before it are those of all
pub all_of_map : (nodes : ℕ) (slices : List Slice) (at : ℕ) → slice_get slices at ≡ None → cores_of_map nodes (take at slices) ≡ cores_of_map nodes slices
all_of_map nodes slices at none =
    ap (cores_of_map nodes) (take_all at slices (past_end slices at none (slice_get_cases slices at).1))
