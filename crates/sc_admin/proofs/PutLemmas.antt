-- Members that are put one by one, the last first.
use Rattle.std.proofs.Common.{◌≡◌, ℕ, zero, suc, ◌+◌, ◌-◌, ◌<◌, ◌≤◌, List, [], ◌∷◌, length, map, drop, Some, None, refl, sym, ap, arith}
use Rattle.std.proofs.Math.Seq.{drop-cons}
use Rattle.std.proofs.lemmas.Option.{get_or_from_slice_get}
use Rattle.std.specs.List.{range_with_len, slice_get}
use Rattle.sc_cluster.specs.declared.slice.Slice.{Slice}
use Rattle.sc_json.specs.Documents.{put_all, members_of}
use Rattle.sc_admin.specs.Status.{replica_member, slice_member}

-- the number before those that end with the last one
number_before : (number last : ℕ) → 0 < number → number ≤ last
    → number ∷ range_with_len (number + 1) (last - number) ≡ range_with_len (number - 1 + 1) (last - (number - 1))
number_before number last some within =
    let same : number - 1 + 1 ≡ number = omega arith in
    let more : last - (number - 1) ≡ suc (last - number) = omega arith in
    rw (same, more) refl

-- the replica before those that were put
pub put-replica : (nodes : ℕ) (slice : Slice) (replica : ℕ) → 0 < replica → replica ≤ slice.replicas
    → put_all (replica_member nodes slice replica ∷ []) (members_of (map (replica_member nodes slice) (range_with_len (replica + 1) (slice.replicas - replica))))
    ≡ members_of (map (replica_member nodes slice) (range_with_len (replica - 1 + 1) (slice.replicas - (replica - 1))))
put-replica nodes slice replica some within =
    ap (λ numbers. members_of (map (replica_member nodes slice) numbers)) (number_before replica slice.replicas some within)

-- there is a slice at each place
pub not_past : (slices : List Slice) (place : ℕ) → place < length slices → slice_get slices place ≡ None → ⊥
not_past [] place within none = omega arith
not_past (slice ∷ slices) zero within none = cc
not_past (slice ∷ slices) (suc place) within none = not_past slices place (omega arith) none

-- the slice before those from this place on
slice_before : (slices : List Slice) (place : ℕ) (slice : Slice) → 0 < place → place ≤ length slices
    → slice_get slices (place - 1) ≡ Some slice → slice ∷ drop place slices ≡ drop (place - 1) slices
slice_before slices place slice some within found =
    let before : place - 1 < length slices = omega arith in
    let same : suc (place - 1) ≡ place = omega arith in
    let is = sym (get_or_from_slice_get slices (place - 1) slice slice found) in
    rw (drop-cons slices (place - 1) slice before, same) (ap (λ first. first ∷ drop place slices) is)

-- the slice before those that were put
pub put-slice : (nodes : ℕ) (slices : List Slice) (place : ℕ) (slice : Slice) → 0 < place → place ≤ length slices
    → slice_get slices (place - 1) ≡ Some slice
    → put_all (slice_member nodes slice ∷ []) (members_of (map (slice_member nodes) (drop place slices)))
    ≡ members_of (map (slice_member nodes) (drop (place - 1) slices))
put-slice nodes slices place slice some within found =
    ap (λ those. members_of (map (slice_member nodes) those)) (slice_before slices place slice some within found)
