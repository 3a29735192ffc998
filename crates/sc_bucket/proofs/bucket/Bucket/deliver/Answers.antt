-- The message that is found is delivered.
use Rattle.sc_bucket.proofs.DeliverLemmas.{DeliversFirst-at}
use Rattle.sc_bucket.proofs.bucket.Bucket.deliver.Goals as goal

pub returns-clause-delivered : goal.returns-clause-delivered
returns-clause-delivered c =
    DeliversFirst-at c.args.self.now c.args.place c.in_ok-at.at c.deliver_at.result c.deliver_at.new.self c.in_ok-at.ensures
    c.deliver_at.ensures.delivered
