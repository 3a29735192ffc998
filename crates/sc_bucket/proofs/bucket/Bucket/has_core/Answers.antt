-- A slice that is there has the cores up to the number of its replicas.
use Rattle.std.proofs.lemmas.Bool.{le-leb, leb-true}
use Rattle.sc_bucket.proofs.SeatLemmas.{has_core}
use Rattle.sc_bucket.proofs.bucket.Bucket.has_core.Goals as goal

pub returns-then-core-gt0 : goal.returns-then-core-gt0
returns-then-core-gt0 c =
    let one = c.in-Some.one.now in
    let (inside, own) = c.in-Some.ensures.slice in
    let has = has_core c.args.self.now.map one c.args.slice c.args.core c.in-Some.ensures.map inside own in (
      λ most. has.1 (c.if-core-gt0.true, leb-true c.args.core one.replicas most),
      λ there. le-leb c.args.core one.replicas (has.0 there).1,
    )
