-- How many followers slices have.
use Rattle.std.proofs.Common.{◌≡◌, ◌∙◌, ℕ, ◌+◌, ◌-◌, true, not, List, length, take, slice_get, Some, ap, arith, length-append}
use Rattle.std.specs.List.{flat_map, range_with_len}
use Rattle.std.proofs.lemmas.List.{length-map}
use Rattle.std.proofs.lemmas.List.Elements.{All-weaker}
use Rattle.std.proofs.lemmas.List.FromFn.{length-range_with_len}
use Rattle.sc_cluster.specs.declared.slice.State.TheVariants as states
use Rattle.sc_cluster.specs.declared.slice.Slice.{Slice}
use Rattle.sc_cluster.specs.Slices.{is_inactive_state, is_inactive}
use Rattle.sc_cluster.proofs.ListLemmas.{filter-all}
use Rattle.sc_journal.specs.Down.{follower_keys, all_followers}
use Rattle.sc_bucket.specs.Sound.{AreActive}
use Rattle.sc_replicas.proofs.CoreLemmas.{joined-push}

-- a slice has one less than replicas
pub length-follower_keys : (slice : Slice) → length (follower_keys slice) ≡ slice.replicas - 1
length-follower_keys slice =
    length-map (range_with_len 2 (slice.replicas - 1)) (λ (replica : ℕ). (slice.id.0, replica))
    ∙ length-range_with_len 2 (slice.replicas - 1)

-- those of the first slices, and of the next
pub followers-push : (slices : List Slice) (at : ℕ) (slice : Slice) → slice_get slices at ≡ Some slice
    → length (flat_map follower_keys (take at slices)) + (slice.replicas - 1) ≡ length (flat_map follower_keys (take (at + 1) slices))
followers-push slices at slice there =
    omega (
      arith,
      ap length (joined-push follower_keys slices at slice there),
      length-append (flat_map follower_keys (take at slices)) (follower_keys slice),
      length-follower_keys slice,
    )

-- where every slice is active, those of all slices are counted
pub all_followers-active : (slices : List Slice) → AreActive slices → all_followers slices ≡ flat_map follower_keys slices
all_followers-active slices active =
    ap (flat_map follower_keys) (filter-all (λ (slice : Slice). not (is_inactive slice)) slices
    (All-weaker (λ (slice : Slice). slice.state ≡ states.Active) (λ (slice : Slice). not (is_inactive slice) ≡ true)
    (λ slice is. ap (λ state. not (is_inactive_state state)) is) slices active))
