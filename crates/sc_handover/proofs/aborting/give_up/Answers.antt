-- Without the subs of its split the bucket is sound.
use Rattle.std.proofs.Common.{◌+◌, ◌-◌, refl, ap, arith}
use Rattle.sc_record.specs.declared.entry.Entry.TheVariants as entry
use Rattle.sc_cluster.specs.Changes.{Change}
use Rattle.sc_bucket.specs.Kept.{JournalState, FlightState}
use Rattle.sc_handover.proofs.NotedLemmas.{TakesOut-called}
use Rattle.sc_handover.proofs.AbortLemmas.{followers_of_subs, is_open, owes_failed, IsSound-aborted}
use Rattle.sc_handover.proofs.aborting.give_up.Goals as goal

pub overflow_add-bucket : goal.overflow_add-bucket
overflow_add-bucket c =
    let owes = owes_failed c.args.bucket.now c.args.parent c.requires.sound c.requires.can in
    let journal = c.requires.sound.journal in
    omega (arith, owes.0, c.followers_of_subs.ensures, journal.within, journal.limit_to)

pub overflow_sub-bucket : goal.overflow_sub-bucket
overflow_sub-bucket c =
    let owes = owes_failed c.args.bucket.now c.args.parent c.requires.sound c.requires.can in
    omega (arith, owes.0, c.followers_of_subs.ensures)

pub failed-requires : goal.failed-requires
failed-requires c = (is_open c.args.bucket.now c.args.parent c.requires.sound c.requires.can).split

pub returns-clause-sound : goal.returns-clause-sound
returns-clause-sound c =
    let b = c.args.bucket.now in
    let parent = c.args.parent in
    IsSound-aborted b parent _ c.requires.sound c.requires.can
    (TakesOut-called b _ (entry.Failed parent) (Change.Failed parent) (2 + followers_of_subs b)
    (owes_failed b parent c.requires.sound c.requires.can) (record { first = refl; limit = refl; filed = ap (λ (journal : JournalState). journal.filed) c.append.ensures })
    c.failed.ensures.change c.keep_of.ensures (ap (λ (flight : FlightState). flight.messages) c.keep_of-2.ensures)
    c.append.ensures refl refl (ap (λ n. b.owed - (2 + n)) c.followers_of_subs.ensures) refl) refl c.clear.ensures
