-- `new_collection`: off the first passes those of two other threads can be split.
use Rattle.std.proofs.Common.{◌^◌, arith}
use Rattle.sc_tests.proofs.PassLemmas.{fewer_splits}
use Rattle.sc_tests.proofs.collections.new_collection.Goals as goal

pub split_passes-requires-clause-splits : goal.split_passes-requires-clause-splits
split_passes-requires-clause-splits c =
    fewer_splits (2 ^ 31) 1 c.in_ok-collection.passes (omega arith) c.in_ok-collection.ensures.splits

pub split_passes-requires-2-clause-splits : goal.split_passes-requires-2-clause-splits
split_passes-requires-2-clause-splits c = c.split_passes.ensures.splits 1
    (fewer_splits (2 ^ 31) 2 c.in_ok-collection.passes (omega arith) c.in_ok-collection.ensures.splits)
