-- Without the slice the bucket is sound.
use Rattle.std.proofs.Common.{refl, ap}
use Rattle.sc_record.specs.declared.entry.Entry.TheVariants as entry
use Rattle.sc_cluster.specs.Changes.{Change}
use Rattle.sc_bucket.specs.Kept.{JournalState, FlightState}
use Rattle.sc_handover.proofs.NotedLemmas.{TakesOut-called}
use Rattle.sc_handover.proofs.DropLemmas.{no_spares, owes_dropped, IsSound-dropped}
use Rattle.sc_handover.proofs.drop.drop_shard.Goals as goal

pub returns-clause-sound : goal.returns-clause-sound
returns-clause-sound c =
    let b = c.args.bucket.now in
    IsSound-dropped b c.args.slice _ c.requires.sound c.requires.can
    (TakesOut-called b _ (entry.Dropped c.args.slice) (Change.Dropped c.args.slice) 1
    (owes_dropped b c.args.slice c.requires.sound c.requires.can) (record { first = refl; limit = refl; filed = ap (λ (journal : JournalState). journal.filed) c.append.ensures })
    c.dropped.ensures.change c.keep_of.ensures (ap (λ (flight : FlightState). flight.messages) c.keep_of-2.ensures)
    c.append.ensures refl refl refl (no_spares b c.requires.sound c.requires.can.0)) refl refl
