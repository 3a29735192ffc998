-- Where a split is open its parent has a searcher; and where the bucket was not committed with the searchers that were there it is as it was.
use Rattle.std.proofs.Common.{◌<◌, sym, subst}
use Rattle.sc_bucket.specs.declared.bucket.Bucket.{Bucket}
use Rattle.sc_bucket.specs.Room.{BucketHasRoom}
use Rattle.sc_bucket.specs.Events.{Commits}
use Rattle.sc_bucket.proofs.TakenLemmas.{IsSearched-in_phase}
use Rattle.sc_bucket.proofs.bucket.Bucket.commit_in_room.Goals as goal

pub spares_at-requires : goal.spares_at-requires
spares_at-requires c =
    let b = c.commit_unchanged.new.self in
    IsSearched-in_phase b b.phase c.in_ok-searchers.searchers c.commit_unchanged.ensures.sound.phase
    c.in_ok-searchers.ensures.each_slice

pub searchers_at-requires : goal.searchers_at-requires
searchers_at-requires c = record { sound = c.commit_unchanged.ensures.sound }

pub put_commit-requires-clause-sound : goal.put_commit-requires-clause-sound
put_commit-requires-clause-sound c = c.commit_unchanged.ensures.sound

pub put_commit-requires-clause-memory : goal.put_commit-requires-clause-memory
put_commit-requires-clause-memory c =
    subst (λ (b : Bucket). b.owed < b.journal.room) (sym (c.commit_unchanged.ensures.kept c.if-commit_unchanged.false)) c.requires.memory

pub put_commit-requires-clause-room : goal.put_commit-requires-clause-room
put_commit-requires-clause-room c =
    subst (BucketHasRoom 1) (sym (c.commit_unchanged.ensures.kept c.if-commit_unchanged.false)) c.requires.room

pub put_commit-requires-clause-taken : goal.put_commit-requires-clause-taken
put_commit-requires-clause-taken c = c.in_ok-searchers.ensures

pub put_commit-requires-clause-prepared : goal.put_commit-requires-clause-prepared
put_commit-requires-clause-prepared c = c.in_ok-spares.ensures

pub returns-clause-sound : goal.returns-clause-sound
returns-clause-sound c = c.put_commit.ensures.sound

pub returns-clause-committed : goal.returns-clause-committed
returns-clause-committed c =
    subst (λ (b : Bucket). Commits b c.put_commit.new.self) (c.commit_unchanged.ensures.kept c.if-commit_unchanged.false)
    c.put_commit.ensures.committed
