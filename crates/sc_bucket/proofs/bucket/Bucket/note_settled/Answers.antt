-- With the entry that settles a write a bucket is sound.
use Rattle.std.proofs.Common.{refl, ap, arith}
use Rattle.sc_bucket.specs.Kept.{JournalState, PlacesState}
use Rattle.sc_bucket.proofs.SettleLemmas.{owes_settled, IsSound-settled}
use Rattle.sc_bucket.proofs.bucket.Bucket.note_settled.Goals as goal

pub append-requires : goal.append-requires
append-requires c =
    (owes_settled c.args.self.now c.args.place c.requires.sound.journal c.requires.written c.requires.unsettled).1

pub overflow_sub-self : goal.overflow_sub-self
overflow_sub-self c =
    let owes = owes_settled c.args.self.now c.args.place c.requires.sound.journal c.requires.written c.requires.unsettled in
    omega (arith, owes.0)

pub returns-clause-sound : goal.returns-clause-sound
returns-clause-sound c =
    let old = c.args.self.now in
    let owes = owes_settled old c.args.place c.requires.sound.journal c.requires.written c.requires.unsettled in
    let left = ap (λ (journal : JournalState). journal.room) c.append.ensures in
    IsSound-settled old c.args.place _ c.requires.sound c.requires.written c.requires.unsettled c.requires.delivered
    (record {
      name = record { first = refl; limit = refl; filed = ap (λ (journal : JournalState). journal.filed) c.append.ensures };
      split = record { phase = refl; feeds = refl };
      map_is = refl;
      entries = ap (λ (journal : JournalState). journal.entries) c.append.ensures;
      flight_is = refl;
      cores = refl;
      searchers_are = refl;
    })
    (record {
      unsettled_are = ap (λ (places : PlacesState). places.places) c.remove.ensures;
      owed_is = omega (arith, owes.0);
      room = omega (arith, owes.1, left);
      spares_are = refl;
    })
