-- Where nothing changed what was committed is the leader's cells.
use Rattle.std.proofs.lemmas.Result.{IfOk-weaker}
use Rattle.sc_bucket.specs.Taking.{IsOfLeader}
use Rattle.sc_bucket.proofs.NextLemmas.{IsOfLeader-same}
use Rattle.sc_bucket.proofs.commit.same_snapshot.Goals as goal

pub returns : goal.returns
returns c =
    let b = c.args.bucket.now in
    let slice = c.args.slice.now in
    IfOk-weaker c.at.result _ (IsOfLeader b slice)
    (λ snapshot is. IsOfLeader-same b slice c.args.last.now c.entries.result snapshot c.requires.sound c.requires.last
    c.requires.unchanged c.rows.ensures.rows c.entries.ensures.count is)
    c.at.ensures
