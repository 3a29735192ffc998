-- A bucket with more room is sound.
use Rattle.std.proofs.Common.{refl, sym, ap, subst, arith}
use Rattle.sc_bucket.specs.Kept.{JournalState}
use Rattle.sc_bucket.specs.Sound.{IsSound}
use Rattle.sc_bucket.proofs.RoomLemmas.{IsSound-with_parts}
use Rattle.sc_bucket.proofs.RoomierLemmas.{roomier-itself}
use Rattle.sc_bucket.proofs.bucket.Bucket.commit.Goals as goal

pub commit_in_room-requires-clause-sound : goal.commit_in_room-requires-clause-sound
commit_in_room-requires-clause-sound c =
    let b = c.args.self.now in
    let room = ap (λ (journal : JournalState). journal.room) c.in_ok-reserve.ensures.ok in
    IsSound-with_parts b c.reserve.new.self b.unsettled b.flight b.replicas
    (record {
      entries = ap (λ (journal : JournalState). journal.entries) c.in_ok-reserve.ensures.ok;
      filed = ap (λ (journal : JournalState). journal.filed) c.in_ok-reserve.ensures.ok;
      room = omega (arith, room);
      places = refl;
      messages = refl;
      cores_are = roomier-itself b.replicas;
    }) c.requires.sound

pub returns-in_err-reserve-clause-sound : goal.returns-in_err-reserve-clause-sound
returns-in_err-reserve-clause-sound c =
    subst (λ (journal : JournalState). IsSound (record c.args.self.now { journal = journal }))
    (sym c.in_err-reserve.ensures.err) c.requires.sound
