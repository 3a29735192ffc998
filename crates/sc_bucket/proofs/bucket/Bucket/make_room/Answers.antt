-- With room made for a write, a bucket is as it was but for room.
use Rattle.std.proofs.Common.{◌≡◌, ◌≤◌, ℕ, List, map, max, false, All, refl, sym, ap, subst, slice_get, Some, arith}
use Rattle.std.specs.Prelude.{OnOk}
use Rattle.sc_record.specs.declared.slice.CoreId.{CoreId}
use Rattle.sc_replica.specs.Core.{Core}
use Rattle.sc_bucket.specs.Kept.{JournalState, PlacesState, FlightState}
use Rattle.sc_bucket.specs.declared.bucket.Bucket.{Bucket}
use Rattle.sc_bucket.specs.declared.message.Message.{Message}
use Rattle.sc_record.specs.Names.{is_core}
use Rattle.sc_bucket.specs.Flight.{sent_of}
use Rattle.sc_bucket.specs.Sound.{IsSound}
use Rattle.sc_bucket.specs.Events.{IsSameButRoom}
use Rattle.sc_bucket.specs.Accepting.{HasMemory}
use Rattle.sc_replicas.proofs.FindLemmas.{some_at}
use Rattle.sc_bucket.proofs.PlaceLemmas.{same_core_at}
use Rattle.sc_bucket.proofs.RoomierLemmas.{roomier-itself, same-roomier}
use Rattle.sc_bucket.proofs.RoomLemmas.{HasMoreRoom, with_parts, spares-with_parts, IsSameButRoom-with_parts, IsSound-with_parts, memory-reserved}
use Rattle.sc_bucket.proofs.bucket.Bucket.make_room.Goals as goal

entries_of : (old new : JournalState) (n : ℕ) → new ≡ record old { room = max old.room n } → new.entries ≡ old.entries
entries_of old new n is = ap (λ (j : JournalState). j.entries) is

filed_of : (old new : JournalState) (n : ℕ) → new ≡ record old { room = max old.room n } → new.filed ≡ old.filed
filed_of old new n is = ap (λ (j : JournalState). j.filed) is

room_of : (old new : JournalState) (n : ℕ) → new ≡ record old { room = max old.room n } → new.room ≡ max old.room n
room_of old new n is = ap (λ (j : JournalState). j.room) is

more_room : (old new : JournalState) (n : ℕ) → new ≡ record old { room = max old.room n } → old.room ≤ new.room
more_room old new n is = let room = room_of old new n is in omega arith

places_of : (old new : PlacesState) (n : ℕ) → new ≡ record old { room = max old.room n } → new.places ≡ old.places
places_of old new n is = ap (λ (p : PlacesState). p.places) is

places_room : (old new : PlacesState) (n : ℕ) → new ≡ record old { room = max old.room n } → new.room ≡ max old.room n
places_room old new n is = ap (λ (p : PlacesState). p.room) is

messages_of : (old new : FlightState) (n : ℕ) → new ≡ record old { room = max old.room n } → new.messages ≡ old.messages
messages_of old new n is = ap (λ (f : FlightState). f.messages) is

flight_room : (old new : FlightState) (n : ℕ) → new ≡ record old { room = max old.room n } → new.room ≡ max old.room n
flight_room old new n is = ap (λ (f : FlightState). f.room) is

pub returns-in_err-reserve-2-clause-sound : goal.returns-in_err-reserve-2-clause-sound
returns-in_err-reserve-2-clause-sound c =
    IsSound-with_parts c.args.self.now c.reserve.new.self c.reserve-2.new.self c.args.self.now.flight c.args.self.now.replicas
    (record {
      entries = entries_of _ _ _ c.in_ok-reserve.ensures.ok;
      filed = filed_of _ _ _ c.in_ok-reserve.ensures.ok;
      room = more_room _ _ _ c.in_ok-reserve.ensures.ok;
      places = ap (λ (p : PlacesState). p.places) c.in_err-reserve-2.ensures.err;
      messages = refl;
      cores_are = roomier-itself c.args.self.now.replicas;
    }) c.requires.sound

pub returns-in_err-reserve-3-clause-sound : goal.returns-in_err-reserve-3-clause-sound
returns-in_err-reserve-3-clause-sound c =
    IsSound-with_parts c.args.self.now c.reserve.new.self c.reserve-2.new.self c.reserve-3.new.self c.args.self.now.replicas
    (record {
      entries = entries_of _ _ _ c.in_ok-reserve.ensures.ok;
      filed = filed_of _ _ _ c.in_ok-reserve.ensures.ok;
      room = more_room _ _ _ c.in_ok-reserve.ensures.ok;
      places = places_of _ _ _ c.in_ok-reserve-2.ensures.ok;
      messages = ap (λ (f : FlightState). f.messages) c.in_err-reserve-3.ensures.err;
      cores_are = roomier-itself c.args.self.now.replicas;
    }) c.requires.sound

pub returns-clause-sound : goal.returns-clause-sound
returns-clause-sound c =
    let more : HasMoreRoom c.args.self.now c.reserve.new.self c.reserve-2.new.self c.reserve-3.new.self c.reserve_in_cores.new.self.replicas = record {
      entries = entries_of _ _ _ c.in_ok-reserve.ensures.ok;
      filed = filed_of _ _ _ c.in_ok-reserve.ensures.ok;
      room = more_room _ _ _ c.in_ok-reserve.ensures.ok;
      places = places_of _ _ _ c.in_ok-reserve-2.ensures.ok;
      messages = messages_of _ _ _ c.in_ok-reserve-3.ensures.ok;
      cores_are = c.reserve_in_cores.ensures.cores;
    } in
    subst IsSound (sym c.reserve_in_cores.ensures.rest)
    (IsSound-with_parts c.args.self.now c.reserve.new.self c.reserve-2.new.self c.reserve-3.new.self c.reserve_in_cores.new.self.replicas more c.requires.sound)

pub returns-clause-same : goal.returns-clause-same
returns-clause-same c =
    let more : HasMoreRoom c.args.self.now c.reserve.new.self c.reserve-2.new.self c.reserve-3.new.self c.reserve_in_cores.new.self.replicas = record {
      entries = entries_of _ _ _ c.in_ok-reserve.ensures.ok;
      filed = filed_of _ _ _ c.in_ok-reserve.ensures.ok;
      room = more_room _ _ _ c.in_ok-reserve.ensures.ok;
      places = places_of _ _ _ c.in_ok-reserve-2.ensures.ok;
      messages = messages_of _ _ _ c.in_ok-reserve-3.ensures.ok;
      cores_are = c.reserve_in_cores.ensures.cores;
    } in
    subst (IsSameButRoom c.args.self.now) (sym c.reserve_in_cores.ensures.rest)
    (IsSameButRoom-with_parts c.args.self.now c.reserve.new.self c.reserve-2.new.self c.reserve-3.new.self c.reserve_in_cores.new.self.replicas more)

pub returns-clause-memory : goal.returns-clause-memory
returns-clause-memory c =
    let new : List Core = c.reserve_in_cores.new.self.replicas in
    let more : HasMoreRoom c.args.self.now c.reserve.new.self c.reserve-2.new.self c.reserve-3.new.self new = record {
      entries = entries_of _ _ _ c.in_ok-reserve.ensures.ok;
      filed = filed_of _ _ _ c.in_ok-reserve.ensures.ok;
      room = more_room _ _ _ c.in_ok-reserve.ensures.ok;
      places = places_of _ _ _ c.in_ok-reserve-2.ensures.ok;
      messages = messages_of _ _ _ c.in_ok-reserve-3.ensures.ok;
      cores_are = c.reserve_in_cores.ensures.cores;
    } in
    let roomy : Bucket = with_parts c.args.self.now c.reserve.new.self c.reserve-2.new.self c.reserve-3.new.self new in
    let names : List CoreId = map (λ (message : Message). message.core) c.args.messages.now in
    let others : (core : Core) → slice_get new c.args.leader ≡ Some core → All (λ name. is_core core.core name ≡ false) names = λ core found.
    let before = some_at c.args.self.now.replicas c.args.leader c.requires.within in
    let alike = same_core_at c.args.self.now.replicas new c.args.leader before.0 core
    (same-roomier c.args.self.now.replicas new c.reserve_in_cores.ensures.cores) before.1 found in
    let named : core.core ≡ before.0.core = ap (λ (one : Core). one.core) alike in
    subst (λ (id : CoreId). All (λ name. is_core id name ≡ false) names) (sym named) (c.requires.others before.0 before.1) in
    subst (λ (b : Bucket). OnOk c.reserve_in_cores.result (HasMemory b c.args.leader (map sent_of c.args.messages.now))) (sym c.reserve_in_cores.ensures.rest)
    (memory-reserved c.reserve_in_cores.result roomy c.args.leader c.args.messages.now
    (omega (arith, room_of _ _ _ c.in_ok-reserve.ensures.ok)) (omega (arith, places_room _ _ _ c.in_ok-reserve-2.ensures.ok))
    (omega (arith, flight_room _ _ _ c.in_ok-reserve-3.ensures.ok))
    (spares-with_parts c.args.self.now c.reserve.new.self c.reserve-2.new.self c.reserve-3.new.self new more c.requires.sound)
    c.requires.once others c.reserve_in_cores.ensures.messages c.reserve_in_cores.ensures.leader)
