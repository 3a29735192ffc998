-- What becomes of the cores of a map by a split that is done, and by a slice that is dropped.
use Rattle.std.proofs.Common.{◌≡◌, ◌∙◌, ℕ, Bool, false, not, eqb, List, ◌++◌, map, Contains, refl, ap, subst}
use Rattle.std.specs.List.{flat_map}
use Rattle.std.proofs.Math.Path.{fun_ext}
use Rattle.std.proofs.lemmas.Bool.{both_ways, eq-eqb, eqb-true, not-true, not_from_false, false_from_ne_true}
use Rattle.std.proofs.lemmas.List.Concat.{flat_map-append}
use Rattle.std.proofs.lemmas.List.Folds.{flat_map-map}
use Rattle.std.proofs.lemmas.Map.Made.{AllPairs-from_IsDistinct}
use Rattle.std.proofs.lemmas.Slice.Eq.{bytes_eq-Decides}
use Rattle.sc_record.specs.declared.slice.SliceId.{SliceId}
use Rattle.sc_record.specs.declared.slice.SubSlice.{SubSlice}
use Rattle.sc_cluster.specs.declared.slice.Slice.{Slice}
use Rattle.sc_cluster.specs.Map.{IsMap}
use Rattle.sc_cluster.specs.Changes.{Change, begun_slice, recovering_slice, switched_slice, after}
use Rattle.sc_cluster.proofs.IdLemmas.{id_of}
use Rattle.sc_cluster.proofs.ListLemmas.{Contains-filter, Contains-from_filter, same_from_key}
use Rattle.sc_cluster.proofs.OrderLemmas.{same_from_rising_key}
use Rattle.sc_cluster.proofs.StateLemmas.{recovering_keeps, switched_keeps}
use Rattle.sc_io.specs.declared.hosts.Host.{Host}
use Rattle.sc_cores.specs.Cores.{cores_of_slice, cores_of_map}
use Rattle.sc_cores.proofs.AmongLemmas.{joined, from_joined, same_named}

-- ---- a split
-- slices that are changed but for their cores have the same ones
same_cores : (nodes : ℕ) (change : Slice → Slice) (slices : List Slice)
    → ((slice : Slice) → cores_of_slice nodes (change slice) ≡ cores_of_slice nodes slice)
    → cores_of_map nodes (map change slices) ≡ cores_of_map nodes slices
same_cores nodes change slices keeps =
    flat_map-map (cores_of_slice nodes) change slices ∙ ap (λ (f : Slice → List Host). flat_map f slices) (fun_ext keeps)

-- a split that is done adds the cores of its subs
pub cores_done : (nodes : ℕ) (slices : List Slice) (parent : SliceId) (subs : List SubSlice)
    → cores_of_map nodes (after (after (after slices (Change.Begun parent subs)) (Change.Recovering parent)) (Change.Switched parent))
    ≡ cores_of_map nodes slices ++ cores_of_map nodes (map begun_slice subs)
cores_done nodes slices parent subs =
    let begun : List Slice = slices ++ map begun_slice subs in
    same_cores nodes (switched_slice parent) (map recovering_slice begun)
    (switched_keeps (cores_of_slice nodes) (λ state slice. refl) parent)
    ∙ same_cores nodes recovering_slice begun (recovering_keeps (cores_of_slice nodes) (λ state slice. refl))
    ∙ flat_map-append (cores_of_slice nodes) slices (map begun_slice subs)

-- ---- a slice that is dropped
module _ (nodes : ℕ) (slices : List Slice) (slice : Slice) (is_map : IsMap slices) (there : Contains slices slice) where
  -- whether a slice is another, by its id
  abbrev is_kept : Slice → Bool
  is_kept one = not (eqb one.id.0 slice.id.0)

  -- slices of a map with the same name are the same
  same_by_name : (one : Slice) → Contains slices one → one.name ≡ slice.name → one ≡ slice
  same_by_name one here same =
      same_from_key (λ (s : Slice). s.name) slices one slice
      (AllPairs-from_IsDistinct bytes_eq-Decides (map (λ (s : Slice). s.name) slices) is_map.names) here there same

  -- no core of the slice is left, and none but those from before is
  pub cores_dropped : (x : Host) → Contains (cores_of_map nodes (after slices (Change.Dropped slice.id))) x
      → Contains (cores_of_map nodes slices) x × (¬ Contains (cores_of_slice nodes slice) x)
  cores_dropped x left =
      let (one, among, inside) = from_joined (cores_of_slice nodes) (after slices (Change.Dropped slice.id)) x left in
      let parts = Contains-from_filter is_kept slices one among in
      let other : eqb one.id.0 slice.id.0 ≡ false = not-true (eqb one.id.0 slice.id.0) parts.1 in (
        joined (cores_of_slice nodes) slices one x parts.0 inside,
        λ own. both_ways (eqb one.id.0 slice.id.0) other
            (eq-eqb one.id.0 slice.id.0 (ap id_of (same_by_name one parts.0 (same_named nodes one slice x inside own)))),
      )

  -- all others are left
  pub cores_kept : (x : Host) → Contains (cores_of_map nodes slices) x → ¬ Contains (cores_of_slice nodes slice) x
      → Contains (cores_of_map nodes (after slices (Change.Dropped slice.id))) x
  cores_kept x before none =
      let (one, among, inside) = from_joined (cores_of_slice nodes) slices x before in
      let differs : eqb one.id.0 slice.id.0 ≡ false =
      false_from_ne_true (eqb one.id.0 slice.id.0)
      (λ same. none (subst (λ (s : Slice). Contains (cores_of_slice nodes s) x)
      (same_from_rising_key id_of slices one slice is_map.ids among there (eqb-true one.id.0 slice.id.0 same)) inside)) in
      joined (cores_of_slice nodes) (after slices (Change.Dropped slice.id)) one x
      (Contains-filter is_kept slices one among (not_from_false (eqb one.id.0 slice.id.0) differs)) inside
