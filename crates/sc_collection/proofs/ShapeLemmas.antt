-- The numbers of a shape, each in its range.
use Rattle.std.proofs.Common.{◌≡◌, ◌≤◌, ℕ, Bool, true, false, ◌&&◌, ◌||◌, List, [], ◌∷◌, refl, subst, arith}
use Rattle.std.specs.Prelude.{◌==◌, nat_le}
use Rattle.std.specs.List.{list_any, AllByRecursion}
use Rattle.std.proofs.lemmas.Bool.{and_parts}
use Rattle.std.proofs.lemmas.Bool.Decides.{nat_tests}
use Rattle.sc_router.specs.Route.{IsBucketCount}
use Rattle.sc_journal.specs.Limits.{greatest_journal}
use Rattle.sc_collection.specs.declared.shape.Shape.{Shape}
use Rattle.sc_collection.specs.Shapes.{least_limit, is_in_range, is_bucket_count, most_nodes, most_shards, most_replicas, IsShape}

-- what holds of each number of a list holds of one that is among them
holds_of : (P : ℕ → Type 0) (number : ℕ) (numbers : List ℕ) → AllByRecursion P numbers → list_any (λ other. number == other) numbers ≡ true → P number
holds_of P number [] all h = absurd (cc)
holds_of P number (other ∷ numbers) all h = by (number == other) refl h (holds_of P number numbers all.1) where
  by : (t : Bool) → (number == other) ≡ t → (t || list_any (λ other. number == other) numbers) ≡ true → (list_any (λ other. number == other) numbers ≡ true → P number) → P number
  by true e h rest =
      let same : other ≡ number = grind (arith, nat_tests) in
      subst P same all.0
  by false e h rest = rest h

bucket_count : (number : ℕ) → is_bucket_count number ≡ true → IsBucketCount number
bucket_count number h = holds_of IsBucketCount number (1 ∷ 2 ∷ 4 ∷ 8 ∷ 16 ∷ 32 ∷ 64 ∷ 128 ∷ 256 ∷ [])
    ((0, omega arith, refl), ((1, omega arith, refl), ((2, omega arith, refl), ((3, omega arith, refl), ((4, omega arith, refl), ((5, omega arith, refl), ((6, omega arith, refl), ((7, omega arith, refl), ((8, omega arith, refl), tt))))))))) h

in_range : (least most number : ℕ) → is_in_range least most number ≡ true → (least ≤ number) × (number ≤ most)
in_range least most number is =
    let both = and_parts (nat_le least number) (nat_le number most) is in
    let from = both.0 in
    let to = both.1 in
    (grind (arith, nat_tests, from), grind (arith, nat_tests, to))

-- the ranges of the numbers of a shape
pub record HasRanges (shape : Shape) : Type 0 where
  pub nodes : (1 ≤ shape.nodes) × (shape.nodes ≤ most_nodes)
  pub shards : (1 ≤ shape.shards) × (shape.shards ≤ most_shards)
  pub replicas : (1 ≤ shape.replicas) × (shape.replicas ≤ most_replicas)
  pub buckets : IsBucketCount shape.buckets
  pub limit : (least_limit shape ≤ shape.log_limit) × (shape.log_limit ≤ greatest_journal)

pub ranges : (shape : Shape) → IsShape shape → HasRanges shape
ranges shape is =
    let nodes : Bool = is_in_range 1 most_nodes shape.nodes in
    let shards : Bool = is_in_range 1 most_shards shape.shards in
    let replicas : Bool = is_in_range 1 most_replicas shape.replicas in
    let buckets : Bool = is_bucket_count shape.buckets in
    let limit : Bool = is_in_range (least_limit shape) greatest_journal shape.log_limit in
    let last = and_parts (nodes && shards && replicas && buckets) limit is in
    let fourth = and_parts (nodes && shards && replicas) buckets last.0 in
    let third = and_parts (nodes && shards) replicas fourth.0 in
    let second = and_parts nodes shards third.0 in
    record {
      nodes = in_range 1 most_nodes shape.nodes second.0;
      shards = in_range 1 most_shards shape.shards second.1;
      replicas = in_range 1 most_replicas shape.replicas third.1;
      buckets = bucket_count shape.buckets fourth.1;
      limit = in_range (least_limit shape) greatest_journal shape.log_limit last.1;
    }
