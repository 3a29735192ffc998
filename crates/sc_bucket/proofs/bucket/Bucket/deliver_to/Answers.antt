-- The message that is found is delivered.
use Rattle.sc_bucket.proofs.TargetLemmas.{DeliversTo-at}
use Rattle.sc_bucket.proofs.bucket.Bucket.deliver_to.Goals as goal

pub returns-in-Some-clause-delivered : goal.returns-in-Some-clause-delivered
returns-in-Some-clause-delivered c is =
    DeliversTo-at c.args.self.now c.args.place c.args.core c.in-Some.at c.deliver_at.new.self c.in-Some.ensures c.deliver_at.result
    c.deliver_at.ensures.delivered
