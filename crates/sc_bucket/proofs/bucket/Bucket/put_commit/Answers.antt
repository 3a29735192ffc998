-- With the entry that commits a bucket is sound.
use Rattle.std.proofs.Common.{refl, ap, arith}
use Rattle.sc_bucket.specs.Kept.{JournalState}
use Rattle.sc_bucket.proofs.CommitLemmas.{IsSound-committed}
use Rattle.sc_bucket.proofs.bucket.Bucket.put_commit.Goals as goal

pub returns-clause-sound : goal.returns-clause-sound
returns-clause-sound c =
    let left = ap (λ (journal : JournalState). journal.room) c.append.ensures in
    IsSound-committed c.args.self.now _ c.requires.sound
    (record {
      name = record { first = refl; limit = refl; filed = ap (λ (journal : JournalState). journal.filed) c.append.ensures };
      split = record { phase = refl; feeds = refl };
      map_is = refl;
      room = c.requires.room;
      entries = ap (λ (journal : JournalState). journal.entries) c.append.ensures;
      messages = refl;
      cores = refl;
      searchers_are = c.requires.taken;
    })
    (record {
      unsettled_are = refl;
      owed_is = refl;
      room = omega (arith, left, c.requires.memory);
      prepared = c.requires.prepared;
    })
