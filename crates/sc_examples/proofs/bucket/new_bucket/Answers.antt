-- The limit has room for an entry of each follower, and the bucket is sound, and its journal empty.
use Rattle.std.proofs.Common.{arith}
use Rattle.sc_collection.proofs.FollowerLemmas.{first_followers}
use Rattle.sc_examples.proofs.bucket.new_bucket.Goals as goal

pub new-requires-2-clause-least : goal.new-requires-2-clause-least
new-requires-2-clause-least c =
    let few = first_followers _ _ _ c.in_ok-map.map c.in_ok-map.ensures.slices in
    let limit = c.log_limit-limit.ensures.least in
    omega (arith, few, limit)

pub await_file-requires-clause-sound : goal.await_file-requires-clause-sound
await_file-requires-clause-sound c = c.in_ok-bucket.ensures.sound

pub await_file-requires-clause-empty : goal.await_file-requires-clause-empty
await_file-requires-clause-empty c = c.in_ok-bucket.ensures.journal
