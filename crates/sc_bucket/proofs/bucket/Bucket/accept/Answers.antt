-- The order is accepted, or it is refused and nothing but room has changed.
use Rattle.std.proofs.Common.{◌≡◌, false, All, Contains, List, length, map, to_z, of_z, w32, w64, sym, ap, ◌∙◌, subst, arith}
use Rattle.std.specs.Arc.{arc_value}
use Rattle.std.specs.List.{IsDistinct}
use Rattle.std.proofs.lemmas.List.Elements.{All-weaker}
use Rattle.std.proofs.lemmas.Int.{ints}
use Rattle.std.proofs.lemmas.Result.{err_from_is_err_and}
use Rattle.sc_record.specs.Versions.{version_after, shown_version}
use Rattle.sc_record.specs.Writes.{Write}
use Rattle.sc_record.specs.declared.entry.Entry.{Entry}
use Rattle.sc_record.proofs.VersionLemmas.{version_after-above_clock}
use Rattle.sc_replica.specs.Core.{Core}
use Rattle.sc_journal.specs.Legal.{MayWrite}
use Rattle.sc_journal.specs.Outcomes.{IsWriteOf}
use Rattle.sc_bucket.specs.declared.message.Message.{Message}
use Rattle.sc_record.specs.Names.{is_core}
use Rattle.sc_replicas.specs.Cores.{followers, IsLeaderAt}
use Rattle.sc_bucket.specs.Flight.{sent_of}
use Rattle.sc_bucket.specs.Room.{basis}
use Rattle.sc_bucket.specs.Accepting.{HasMemory}
use Rattle.sc_replicas.proofs.CoreLemmas.{name_of, AreApart-from_ascending}
use Rattle.sc_bucket.proofs.SendLemmas.{names-sent}
use Rattle.sc_bucket.proofs.FollowerLemmas.{IsFollower, are_followers, follower_is_there, followers_apart}
use Rattle.sc_bucket.proofs.AcceptLemmas.{bucket_has_map}
use Rattle.sc_bucket.proofs.RoomLemmas.{BucketHasRoom-same}
use Rattle.sc_bucket.proofs.PlaceLemmas.{length-same_cores, same_core_at, IsLeaderAt-same_cores}
use Rattle.sc_bucket.proofs.OutcomeLemmas.{memory_outcome, Accepts-put, accepted_outcome, sent_by-share, sent_by-same}
use Rattle.sc_bucket.proofs.bucket.Bucket.accept.Goals as goal

pub put_in-requires-clause-within : goal.put_in-requires-clause-within
put_in-requires-clause-within c =
    omega (arith, length-same_cores c.args.self.now.replicas c.make_room.new.self.replicas c.make_room.ensures.same.cores, c.leader-leader.ensures.within)

pub put_in-requires-clause-leader : goal.put_in-requires-clause-leader
put_in-requires-clause-leader c =
    let hash : (arc_value c.in_ok-entry.entry).hash ≡ to_z w32 (of_z w32 c.route_hash-hash.result) =
    ap (λ (w : Write). w.hash) c.in_ok-entry.ensures.0 ∙ c.in_ok-write.ensures.hash in
    let leader : IsLeaderAt c.args.self.now.map c.args.self.now.replicas (arc_value c.in_ok-entry.entry).hash c.leader-leader.result =
    subst (λ h. IsLeaderAt c.args.self.now.map c.args.self.now.replicas h c.leader-leader.result) (sym hash) c.leader-leader.ensures.leader in
    subst (λ m. IsLeaderAt m c.make_room.new.self.replicas (arc_value c.in_ok-entry.entry).hash c.leader-leader.result) (sym c.make_room.ensures.same.map_is)
    (IsLeaderAt-same_cores c.args.self.now.map c.args.self.now.replicas c.make_room.new.self.replicas (arc_value c.in_ok-entry.entry).hash c.leader-leader.result c.make_room.ensures.same.cores leader)

pub put_in-requires-clause-room : goal.put_in-requires-clause-room
put_in-requires-clause-room c =
    BucketHasRoom-same c.args.self.now c.make_room.new.self 2 c.make_room.ensures.same c.in_ok-write.ensures.room

pub put_in-requires-clause-above : goal.put_in-requires-clause-above
put_in-requires-clause-above c core there =
    let leader = c.leader-leader.ensures.leader in
    let alike = same_core_at c.args.self.now.replicas c.make_room.new.self.replicas c.leader-leader.result leader.core core c.make_room.ensures.same.cores leader.found there in
    let clock : core.clock ≡ leader.core.clock = ap (λ (one : Core). one.clock) alike in
    let version : (arc_value c.in_ok-entry.entry).version ≡ c.in_ok-write.write.version = ap (λ (w : Write). w.version) c.in_ok-entry.ensures.0 in
    let clocked = c.in_ok-write.ensures.version leader.core leader.found in
    let above = version_after-above_clock c.args.now leader.core.clock in
    omega (arith, ints, clock, version, clocked, above)

pub make_room-requires-clause-there : goal.make_room-requires-clause-there
make_room-requires-clause-there c =
    let b = c.args.self.now in
    let leader = c.leader-leader.ensures.leader in
    let share = arc_value c.in_ok-entry.cell in
    let names : map (λ (message : Message). message.core) c.deref.result.now ≡ followers b.map b.replicas share.hash leader.core.core =
    ap (map (λ (message : Message). message.core)) c.deref.ensures.value
    ∙ names-sent (length b.journal.entries) share (followers b.map b.replicas share.hash leader.core.core) c.in_ok-messages.messages.items
    (c.in_ok-messages.ensures leader.core leader.found) in
    subst (All (Contains (map name_of b.replicas))) (sym names)
    (All-weaker (IsFollower b.map b.replicas share.hash leader.core.core) (Contains (map name_of b.replicas))
    (λ name. follower_is_there b.map b.replicas share.hash leader.core.core name)
    (followers b.map b.replicas share.hash leader.core.core) (are_followers b.map b.replicas share.hash leader.core.core))

pub make_room-requires-clause-once : goal.make_room-requires-clause-once
make_room-requires-clause-once c =
    let b = c.args.self.now in
    let leader = c.leader-leader.ensures.leader in
    let share = arc_value c.in_ok-entry.cell in
    let names : map (λ (message : Message). message.core) c.deref.result.now ≡ followers b.map b.replicas share.hash leader.core.core =
    ap (map (λ (message : Message). message.core)) c.deref.ensures.value
    ∙ names-sent (length b.journal.entries) share (followers b.map b.replicas share.hash leader.core.core) c.in_ok-messages.messages.items
    (c.in_ok-messages.ensures leader.core leader.found) in
    subst (IsDistinct is_core) (sym names)
    (followers_apart b.map b.replicas share.hash leader.core.core (bucket_has_map b c.requires.sound.journal)
    (AreApart-from_ascending b.replicas c.requires.sound.cores.ascend))

pub make_room-requires-clause-others : goal.make_room-requires-clause-others
make_room-requires-clause-others c core there =
    let b = c.args.self.now in
    let share = arc_value c.in_ok-entry.cell in
    let names : map (λ (message : Message). message.core) c.deref.result.now ≡ followers b.map b.replicas share.hash core.core =
    ap (map (λ (message : Message). message.core)) c.deref.ensures.value
    ∙ names-sent (length b.journal.entries) share (followers b.map b.replicas share.hash core.core) c.in_ok-messages.messages.items
    (c.in_ok-messages.ensures core there) in
    subst (All (λ name. is_core core.core name ≡ false)) (sym names)
    (All-weaker (IsFollower b.map b.replicas share.hash core.core) (λ name. is_core core.core name ≡ false) (λ name follower. follower.other)
    (followers b.map b.replicas share.hash core.core) (are_followers b.map b.replicas share.hash core.core))

pub put_in-requires-clause-sent : goal.put_in-requires-clause-sent
put_in-requires-clause-sent c =
    let b = c.args.self.now in
    let same : arc_value c.in_ok-entry.cell ≡ arc_value c.in_ok-entry.entry = c.in_ok-entry.ensures.1 ∙ sym c.in_ok-entry.ensures.0 in
    sent_by-same b c.make_room.new.self (arc_value c.in_ok-entry.entry) c.leader-leader.result (map sent_of c.in_ok-messages.messages.items)
    c.make_room.ensures.same c.leader-leader.ensures.within
    (sent_by-share b (arc_value c.in_ok-entry.entry) (arc_value c.in_ok-entry.cell) c.leader-leader.result
    (map sent_of c.in_ok-messages.messages.items) same c.in_ok-messages.ensures)

pub returns-clause-accepted : goal.returns-clause-accepted
returns-clause-accepted c =
    let hash : (arc_value c.in_ok-entry.entry).hash ≡ to_z w32 (of_z w32 c.route_hash-hash.result) =
    ap (λ (w : Write). w.hash) c.in_ok-entry.ensures.0 ∙ c.in_ok-write.ensures.hash in
    let leader : IsLeaderAt c.args.self.now.map c.args.self.now.replicas (arc_value c.in_ok-entry.entry).hash c.leader-leader.result =
    subst (λ h. IsLeaderAt c.args.self.now.map c.args.self.now.replicas h c.leader-leader.result) (sym hash) c.leader-leader.ensures.leader in
    let kept : to_z w64 (of_z w64 c.shown.result) ≡ c.shown.result = omega (arith, ints) in
    let version : to_z w64 (of_z w64 c.shown.result) ≡ shown_version (arc_value c.in_ok-entry.entry) =
    kept ∙ c.shown.ensures ∙ ap shown_version (sym c.in_ok-entry.ensures.0) in
    let write : IsWriteOf c.args.self.now.journal.entries c.args.order.now c.args.now (arc_value c.in_ok-entry.entry) =
    subst (IsWriteOf c.args.self.now.journal.entries c.args.order.now c.args.now) (sym c.in_ok-entry.ensures.0) c.in_ok-write.ensures.made in
    let same : arc_value c.in_ok-entry.cell ≡ arc_value c.in_ok-entry.entry = c.in_ok-entry.ensures.1 ∙ sym c.in_ok-entry.ensures.0 in
    let sent = sent_by-share c.args.self.now (arc_value c.in_ok-entry.entry) (arc_value c.in_ok-entry.cell) c.leader-leader.result
    (map sent_of c.in_ok-messages.messages.items) same c.in_ok-messages.ensures leader.core leader.found in
    let clocked : (arc_value c.in_ok-entry.entry).version ≡ version_after c.args.now leader.core.clock =
    ap (λ (w : Write). w.version) c.in_ok-entry.ensures.0 ∙ c.in_ok-write.ensures.version leader.core leader.found in
    let accepts = Accepts-put c.args.self.now c.make_room.new.self c.put_in.new.self c.args.order.now c.args.now _ c.in_ok-entry.entry
    c.leader-leader.result (map sent_of c.in_ok-messages.messages.items) c.make_room.ensures.same c.put_in.ensures.put c.in_ok-write.ensures.fitting
    c.in_ok-write.ensures.room write version leader clocked sent in
    accepts

pub returns-clause-outcome : goal.returns-clause-outcome
returns-clause-outcome c =
    let hash : (arc_value c.in_ok-entry.entry).hash ≡ to_z w32 (of_z w32 c.route_hash-hash.result) =
    ap (λ (w : Write). w.hash) c.in_ok-entry.ensures.0 ∙ c.in_ok-write.ensures.hash in
    let leader : IsLeaderAt c.args.self.now.map c.args.self.now.replicas (arc_value c.in_ok-entry.entry).hash c.leader-leader.result =
    subst (λ h. IsLeaderAt c.args.self.now.map c.args.self.now.replicas h c.leader-leader.result) (sym hash) c.leader-leader.ensures.leader in
    let kept : to_z w64 (of_z w64 c.shown.result) ≡ c.shown.result = omega (arith, ints) in
    let version : to_z w64 (of_z w64 c.shown.result) ≡ shown_version (arc_value c.in_ok-entry.entry) =
    kept ∙ c.shown.ensures ∙ ap shown_version (sym c.in_ok-entry.ensures.0) in
    let write : IsWriteOf c.args.self.now.journal.entries c.args.order.now c.args.now (arc_value c.in_ok-entry.entry) =
    subst (IsWriteOf c.args.self.now.journal.entries c.args.order.now c.args.now) (sym c.in_ok-entry.ensures.0) c.in_ok-write.ensures.made in
    let same : arc_value c.in_ok-entry.cell ≡ arc_value c.in_ok-entry.entry = c.in_ok-entry.ensures.1 ∙ sym c.in_ok-entry.ensures.0 in
    let sent = sent_by-share c.args.self.now (arc_value c.in_ok-entry.entry) (arc_value c.in_ok-entry.cell) c.leader-leader.result
    (map sent_of c.in_ok-messages.messages.items) same c.in_ok-messages.ensures leader.core leader.found in
    let clocked : (arc_value c.in_ok-entry.entry).version ≡ version_after c.args.now leader.core.clock =
    ap (λ (w : Write). w.version) c.in_ok-entry.ensures.0 ∙ c.in_ok-write.ensures.version leader.core leader.found in
    let accepts = Accepts-put c.args.self.now c.make_room.new.self c.put_in.new.self c.args.order.now c.args.now _ c.in_ok-entry.entry
    c.leader-leader.result (map sent_of c.in_ok-messages.messages.items) c.make_room.ensures.same c.put_in.ensures.put c.in_ok-write.ensures.fitting
    c.in_ok-write.ensures.room write version leader clocked sent in
    accepted_outcome c.args.self.now c.put_in.new.self c.args.order.now c.args.now (to_z w64 (of_z w64 c.shown.result)) accepts

pub put_in-requires-clause-sound : goal.put_in-requires-clause-sound
put_in-requires-clause-sound c = c.make_room.ensures.sound

pub put_in-requires-clause-memory : goal.put_in-requires-clause-memory
put_in-requires-clause-memory c =
    subst (HasMemory c.make_room.new.self c.leader-leader.result) (ap (map sent_of) c.deref.ensures.value) c.in_ok-make_room.ensures.memory

pub put_in-requires-clause-shares : goal.put_in-requires-clause-shares
put_in-requires-clause-shares c = c.in_ok-entry.ensures.1 ∙ sym c.in_ok-entry.ensures.0

pub put_in-requires-clause-next : goal.put_in-requires-clause-next
put_in-requires-clause-next c =
    subst (λ (journal : List Entry). MayWrite journal (arc_value c.in_ok-entry.entry)) (sym c.make_room.ensures.same.entries)
    (subst (MayWrite c.args.self.now.journal.entries) (sym c.in_ok-entry.ensures.0) c.in_ok-write.ensures.next)

pub returns-clause-sound : goal.returns-clause-sound
returns-clause-sound c = c.put_in.ensures.sound

pub returns-in_err-entry-clause-outcome : goal.returns-in_err-entry-clause-outcome
returns-in_err-entry-clause-outcome c =
    let b = c.args.self.now in
    let p = err_from_is_err_and c.from_residual-in_err-entry.result c.from_residual-in_err-entry.ensures.1 in
    rw p.1 (memory_outcome (basis b) b.journal.entries b.journal.entries c.args.order.now c.args.now p.0 c.in_ok-write.ensures.fitting.met p.2)

pub returns-in_err-messages-clause-outcome : goal.returns-in_err-messages-clause-outcome
returns-in_err-messages-clause-outcome c =
    let b = c.args.self.now in
    let p = err_from_is_err_and c.from_residual-in_err-messages.result c.from_residual-in_err-messages.ensures.1 in
    rw p.1 (memory_outcome (basis b) b.journal.entries b.journal.entries c.args.order.now c.args.now p.0 c.in_ok-write.ensures.fitting.met p.2)

pub returns-in_err-make_room-clause-outcome : goal.returns-in_err-make_room-clause-outcome
returns-in_err-make_room-clause-outcome c =
    let b = c.args.self.now in
    let p = err_from_is_err_and c.from_residual-in_err-make_room.result c.from_residual-in_err-make_room.ensures.1 in
    rw p.1 (memory_outcome (basis b) b.journal.entries c.make_room.new.self.journal.entries c.args.order.now c.args.now p.0
    c.in_ok-write.ensures.fitting.met p.2)
