-- The slices of a new collection are active, have few followers, and low ids.
use Rattle.std.proofs.Common.{◌≡◌, ◌≤◌, ◌<◌, ◌∙◌, ℕ, ◌-◌, ◌*◌, List, [], ◌∷◌, length, All, ap, subst, arith}
use Rattle.std.specs.List.{sum_by}
use Rattle.std.proofs.lemmas.Option.{slice_get_within}
use Rattle.std.proofs.lemmas.List.Elements.{All-head, All-tail}
use Rattle.std.proofs.lemmas.List.Concat.{length-flat_map}
use Rattle.std.proofs.lemmas.List.Sums.{sum_by-le}
use Rattle.sc_cluster.specs.declared.slice.State.TheVariants as states
use Rattle.sc_cluster.specs.declared.slice.Slice.{Slice}
use Rattle.sc_cluster.specs.Map.{AreFirst}
use Rattle.sc_cluster.specs.Slices.{greatest_id}
use Rattle.sc_cluster.proofs.ListLemmas.{All-from_slice_get}
use Rattle.sc_journal.specs.Down.{follower_keys, all_followers}
use Rattle.sc_bucket.specs.Sound.{AreActive}
use Rattle.sc_bucket.proofs.CountLemmas.{length-follower_keys, all_followers-active}

-- each slice is active
pub first_active : (shards replicas nodes : ℕ) (slices : List Slice) → AreFirst shards replicas nodes slices → AreActive slices
first_active shards replicas nodes slices first =
    All-from_slice_get (λ slice. slice.state ≡ states.Active) slices (λ i slice there. (first.each i slice there).state)

-- each shard has one less than replicas
pub first_followers : (shards replicas nodes : ℕ) (slices : List Slice) → AreFirst shards replicas nodes slices
    → length (all_followers slices) ≤ shards * (replicas - 1)
first_followers shards replicas nodes slices first =
    subst (λ n. length (all_followers slices) ≤ n * (replicas - 1)) first.count (omega (arith, all, most))
  where
    active : AreActive slices
    active = first_active shards replicas nodes slices first

    of_slice : Slice → ℕ
    of_slice slice = length (follower_keys slice)

    each : All (λ slice. of_slice slice ≤ replicas - 1) slices
    each =
        All-from_slice_get (λ slice. of_slice slice ≤ replicas - 1) slices (λ i slice there.
        let same = (first.each i slice there).replicated in
        omega (arith, length-follower_keys slice, same))

    all : length (all_followers slices) ≡ sum_by of_slice slices
    all = ap length (all_followers-active slices active) ∙ length-flat_map follower_keys slices

    most : sum_by of_slice slices ≤ length slices * (replicas - 1)
    most = sum_by-le of_slice (replicas - 1) slices each

-- where no id is above a number, neither is the greatest
greatest_most : (most : ℕ) (slices : List Slice) → All (λ (slice : Slice). slice.id.0 ≤ most) slices → greatest_id slices ≤ most
greatest_most most [] each = omega arith
greatest_most most (slice ∷ slices) each =
    let first : slice.id.0 ≤ most = All-head (λ (one : Slice). one.id.0 ≤ most) slice slices each in
    let rest : greatest_id slices ≤ most = greatest_most most slices (All-tail (λ (one : Slice). one.id.0 ≤ most) slice slices each) in
    omega arith

-- the ids of few slices are low
pub first_ids : (shards replicas nodes : ℕ) (slices : List Slice) → AreFirst shards replicas nodes slices → shards ≤ 64
    → greatest_id slices < 256
first_ids shards replicas nodes slices first few = let most = greatest_most 255 slices each in omega (arith, most) where
  each : All (λ (slice : Slice). slice.id.0 ≤ 255) slices
  each =
      All-from_slice_get (λ (slice : Slice). slice.id.0 ≤ 255) slices (λ i slice there.
      let below : i < length slices = slice_get_within slices i slice there in
      let is : slice.id.0 ≡ i = (first.each i slice there).id in
      omega (arith, first.count))
