-- With the subs in the place of their parent a bucket is sound, and their cores have the last writes.
use Rattle.std.proofs.Common.{refl, sym, ap, ◌∙◌, arith}
use Rattle.sc_bucket.specs.Kept.{JournalState}
use Rattle.sc_handover.proofs.SubLemmas.{none_is_fed}
use Rattle.sc_handover.proofs.SwitchedMapLemmas.{split_is_open, owes_switched}
use Rattle.sc_handover.proofs.HandedOnLemmas.{handed_on}
use Rattle.sc_handover.proofs.SwitchedLemmas.{IsSound-switched, HaveLastWrites-switched}
use Rattle.sc_handover.proofs.switching.put_switch.Goals as goal

pub returns-clause-switched : goal.returns-clause-switched
returns-clause-switched c =
    let old = c.args.bucket.now in
    record {
      name = record { first = refl; limit = refl; filed = ap (λ (journal : JournalState). journal.filed) c.append.ensures };
      map_is = c.switched.ensures.change;
      entries = ap (λ (journal : JournalState). journal.entries) c.append.ensures;
      phase_is = refl;
      flight_is = refl;
      cores = refl;
      feeds_are = none_is_fed old c.args.parent c.requires.sound c.requires.can;
      searchers_are = handed_on old c.args.parent c.unwrap.result c.requires.sound c.requires.can.recovering
          (sym c.take.ensures.value ∙ c.unwrap.ensures);
    }

pub followers_up-requires-clause-there : goal.followers_up-requires-clause-there
followers_up-requires-clause-there c =
    let split = (split_is_open c.args.bucket.now c.args.parent c.requires.sound c.requires.can.recovering).0.split in
    (split.0, split.2.there, split.1)

pub overflow_add-bucket : goal.overflow_add-bucket
overflow_add-bucket c =
    let (slice, there, named, owes) = owes_switched c.args.bucket.now c.args.parent c.requires.sound c.requires.can.recovering in
    let journal = c.requires.sound.journal in
    omega (arith, owes, c.followers_up.ensures slice there named, journal.within, journal.limit_to)

pub overflow_sub-bucket : goal.overflow_sub-bucket
overflow_sub-bucket c =
    let (slice, there, named, owes) = owes_switched c.args.bucket.now c.args.parent c.requires.sound c.requires.can.recovering in
    omega (arith, owes, c.followers_up.ensures slice there named)

pub returns-clause-sound : goal.returns-clause-sound
returns-clause-sound c =
    let old = c.args.bucket.now in
    let (slice, there, named, owes) = owes_switched old c.args.parent c.requires.sound c.requires.can.recovering in
    let up = c.followers_up.ensures slice there named in
    let left = ap (λ (journal : JournalState). journal.room) c.append.ensures in
    IsSound-switched old _ c.args.parent
    (record { sound = c.requires.sound; can = c.requires.can; settled = c.requires.settled; quiet = c.requires.quiet })
    (returns-clause-switched c)
    (record {
      unsettled_are = refl;
      slice = slice;
      slice_there = there;
      slice_is = named;
      owed_is = omega (arith, owes, up);
      room = omega (arith, left, c.requires.sound.journal.room, owes, up);
      spares_are = c.take.ensures.after;
    })

pub returns-clause-last : goal.returns-clause-last
returns-clause-last c =
    HaveLastWrites-switched c.args.bucket.now _ c.args.parent
    (record { sound = c.requires.sound; can = c.requires.can; settled = c.requires.settled; quiet = c.requires.quiet })
    (returns-clause-switched c)
