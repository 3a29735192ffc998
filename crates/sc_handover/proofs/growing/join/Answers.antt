-- Both are put in, or neither.
use Rattle.std.proofs.Common.{List, sym, subst}
use Rattle.sc_bucket.specs.Kept.{FeedState}
use Rattle.sc_bucket.specs.Sound.{IsSound}
use Rattle.sc_handover.proofs.JoinedLemmas.{IsSound-put_in, Joins-put_in, feeds_back, bucket_back}
use Rattle.sc_handover.proofs.growing.join.Goals as goal

pub returns-in_err-push-clause-sound : goal.returns-in_err-push-clause-sound
returns-in_err-push-clause-sound c =
    subst (λ (feeds : List FeedState). IsSound (record c.args.bucket.now { feeds = feeds })) (sym c.in_err-push.ensures.err) c.requires.sound

pub returns-in-Err-clause-refused : goal.returns-in-Err-clause-refused
returns-in-Err-clause-refused c =
    bucket_back c.args.bucket.now c.insert.new.self c.remove.new.self c.in-Err.ensures.err
    (feeds_back c.args.bucket.now.feeds c.push.new.self c.remove.new.self c.args.feed c.len.result c.in_ok-push.ensures.ok c.len.ensures
    c.remove.ensures)

pub returns-in-Err-clause-sound : goal.returns-in-Err-clause-sound
returns-in-Err-clause-sound c = subst IsSound (sym (returns-in-Err-clause-refused c)) c.requires.sound

pub returns-clause-sound : goal.returns-clause-sound
returns-clause-sound c =
    let made = c.requires.made in
    IsSound-put_in c.args.bucket.now made.0 made.1 c.args.replica c.args.feed c.insert.new.self c.push.new.self
    (record { sound = c.requires.sound; can = made.2; follows = made.3; made = made.4 }) c.in_default.ensures.ok c.in_ok-push.ensures.ok

pub returns-clause-joined : goal.returns-clause-joined
returns-clause-joined c =
    let made = c.requires.made in
    Joins-put_in c.args.bucket.now made.0 made.1 c.args.replica c.args.feed c.insert.new.self c.push.new.self made.4
    c.in_default.ensures.ok c.in_ok-push.ensures.ok
