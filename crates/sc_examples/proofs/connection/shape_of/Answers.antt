-- The numbers of the line are each put into their range.
use Rattle.std.proofs.Common.{arith}
use Rattle.sc_examples.proofs.ShapeLemmas.{in_ranges}
use Rattle.sc_examples.proofs.connection.shape_of.Goals as goal

pub returns : goal.returns
returns c =
    let shards = c.clamp-shards.ensures in
    let replicas = c.clamp-replicas.ensures in
    in_ranges (record {
      nodes = 2;
      shards = c.clamp-shards.result;
      replicas = c.clamp-replicas.result;
      buckets = c.bucket_count.result;
      log_limit = c.log_limit.result;
    }) (record {
      nodes = (omega arith, omega arith);
      shards = (grind (arith, shards), grind (arith, shards));
      replicas = (grind (arith, replicas), grind (arith, replicas));
      buckets = c.bucket_count.ensures;
      limit = (c.log_limit.ensures.least, c.log_limit.ensures.most);
    })
