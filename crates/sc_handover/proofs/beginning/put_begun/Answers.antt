-- With the entry that begins a split a bucket is sound.
use Rattle.std.proofs.Common.{◌∙◌, List, refl, sym, ap, subst, arith}
use Rattle.sc_replica.specs.Core.{Core}
use Rattle.std.specs.List.{AllZip}
use Rattle.sc_journal.specs.Splits.{entries_of_split}
use Rattle.sc_bucket.specs.Kept.{JournalState, FeedState}
use Rattle.sc_bucket.specs.Sound.{IsSound}
use Rattle.sc_bucket.specs.Events.{AreSameCores}
use Rattle.sc_handover.specs.Made.{IsRoomyFor}
use Rattle.sc_handover.proofs.MadeLemmas.{AreSameCores-made}
use Rattle.sc_handover.proofs.BegunLemmas.{IsSound-begun}
use Rattle.sc_handover.proofs.beginning.put_begun.Goals as goal

pub returns-in_err-append-clause-sound : goal.returns-in_err-append-clause-sound
returns-in_err-append-clause-sound c =
    subst (λ (cores : List Core). IsSound (record c.args.bucket.now { replicas = cores }))
    (sym c.in_err-append.ensures.err) c.requires.sound

pub returns-clause-begun : goal.returns-clause-begun
returns-clause-begun c =
    let prepared = c.requires.prepared in
    let cores = c.args.bucket.now.replicas in
    record {
      name = record { first = refl; limit = refl; filed = ap (λ (journal : JournalState). journal.filed) c.append-2.ensures };
      room = c.requires.room;
      map_is = prepared.slices_are;
      entries = ap (λ (journal : JournalState). journal.entries) c.append-2.ensures;
      phase_is = refl;
      messages = refl;
      cores = subst (AreSameCores _) (sym c.in_ok-append.ensures.ok)
          (AreSameCores-made cores c.args.beginning.cores.items c.args.beginning.subs prepared.cores_are);
      leader = prepared.leader;
      leader_there = prepared.leader_there;
      leader_is = prepared.leader_is;
      feeds_are = c.from_vec.ensures ∙ prepared.feeds_are;
      searchers_are = prepared.taken;
    }

pub returns-clause-sound : goal.returns-clause-sound
returns-clause-sound c =
    let left = ap (λ (journal : JournalState). journal.room) c.append-2.ensures in
    let count = c.entries_of_split.ensures.count ∙ ap entries_of_split c.as_slice.ensures in
    IsSound-begun c.args.bucket.now _ c.args.parent c.args.beginning.subs c.args.beginning.cores.items c.requires.sound c.requires.can
    (returns-clause-begun c)
    (record {
      unsettled_are = refl;
      owed_is = omega (arith, count);
      room = omega (arith, left, c.requires.memory, count);
      replicas_are = c.in_ok-append.ensures.ok;
      made_are = c.requires.prepared.cores_are;
      roomy = subst (λ (feeds : List FeedState). AllZip IsRoomyFor feeds c.args.beginning.cores.items) (sym c.from_vec.ensures)
          c.requires.prepared.roomy;
      prepared = (c.requires.prepared.handed, refl);
    })
