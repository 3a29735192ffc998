-- Numbers in their ranges make a shape that a collection may have.
use Rattle.std.proofs.Common.{◌≡◌, ◌≤◌, ℕ, Bool, true, ◌&&◌, arith}
use Rattle.std.specs.Prelude.{nat_le}
use Rattle.std.proofs.lemmas.Bool.{and_from}
use Rattle.std.proofs.lemmas.Bool.Decides.{nat_tests}
use Rattle.sc_collection.specs.declared.shape.Shape.{Shape}
use Rattle.sc_collection.specs.Shapes.{least_limit, is_in_range, is_bucket_count, IsShape}

in_range : (least most number : ℕ) → least ≤ number → number ≤ most → is_in_range least most number ≡ true
in_range least most number from to =
    and_from (nat_le least number) (nat_le number most) (grind (arith, nat_tests, from)) (grind (arith, nat_tests, to))

-- the numbers of the shape are each in their range
pub record AreInRange (shape : Shape) : Type 0 where
  pub nodes : (1 ≤ shape.nodes) × (shape.nodes ≤ 16)
  pub shards : (1 ≤ shape.shards) × (shape.shards ≤ 64)
  pub replicas : (1 ≤ shape.replicas) × (shape.replicas ≤ 4)
  pub buckets : is_bucket_count shape.buckets ≡ true
  pub limit : (least_limit shape ≤ shape.log_limit) × (shape.log_limit ≤ 16777216)

pub in_ranges : (shape : Shape) → AreInRange shape → IsShape shape
in_ranges shape are =
    let nodes : Bool = is_in_range 1 16 shape.nodes in
    let shards : Bool = is_in_range 1 64 shape.shards in
    let replicas : Bool = is_in_range 1 4 shape.replicas in
    let buckets : Bool = is_bucket_count shape.buckets in
    let limit : Bool = is_in_range (least_limit shape) 16777216 shape.log_limit in
    and_from (nodes && shards && replicas && buckets) limit
    (and_from (nodes && shards && replicas) buckets
    (and_from (nodes && shards) replicas
    (and_from nodes shards (in_range 1 16 shape.nodes are.nodes.0 are.nodes.1) (in_range 1 64 shape.shards are.shards.0 are.shards.1))
    (in_range 1 4 shape.replicas are.replicas.0 are.replicas.1))
    are.buckets)
    (in_range (least_limit shape) 16777216 shape.log_limit are.limit.0 are.limit.1)
