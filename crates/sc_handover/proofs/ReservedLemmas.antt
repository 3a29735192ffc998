-- A bucket is sound with more room for its journal, and what may come to it may come still.
use Rattle.std.proofs.Common.{◌≡◌, ℕ, max, List, refl, ap, subst, arith}
use Rattle.sc_record.specs.declared.slice.SliceId.{SliceId}
use Rattle.sc_record.specs.declared.slice.SubSlice.{SubSlice}
use Rattle.sc_bucket.specs.Kept.{JournalState}
use Rattle.sc_bucket.specs.Sound.{IsSound}
use Rattle.sc_bucket.specs.declared.bucket.Bucket.{Bucket}
use Rattle.sc_bucket.proofs.RoomLemmas.{IsSound-with_parts}
use Rattle.sc_bucket.proofs.RoomierLemmas.{roomier-itself}
use Rattle.sc_handover.specs.Conditions.{CanBegin}

-- it is sound
pub IsSound-reserved : (b : Bucket) (journal : JournalState) (n : ℕ) → journal ≡ record b.journal { room = max b.journal.room n }
    → IsSound b → IsSound (record b { journal = journal })
IsSound-reserved b journal n is sound =
    let room = ap (λ (journal : JournalState). journal.room) is in
    IsSound-with_parts b journal b.unsettled b.flight b.replicas
    (record {
      entries = ap (λ (journal : JournalState). journal.entries) is;
      filed = ap (λ (journal : JournalState). journal.filed) is;
      room = omega (arith, room);
      places = refl;
      messages = refl;
      cores_are = roomier-itself b.replicas;
    }) sound

-- a split may begin
pub CanBegin-reserved : (b : Bucket) (journal : JournalState) (parent : SliceId) (subs others : List SubSlice) → subs ≡ others
    → CanBegin b parent subs → CanBegin (record b { journal = journal }) parent others
CanBegin-reserved b journal parent subs others same can =
    subst (CanBegin (record b { journal = journal }) parent) same
    (record { idle = can.idle; plan = can.plan; active = can.active; unfed = can.unfed })
