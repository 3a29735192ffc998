-- What an order is answered by a bucket.
use Rattle.std.proofs.Common.{◌≡◌, ℕ, ◌<◌, Bool, false, ℤ, List, [], ◌∷◌, ◌++◌, length, map, filter, set, Option, Some, Err, refl, sym, ap, ◌∙◌, subst, slice_get}
use Rattle.std.specs.Prelude.{IsSome}
use Rattle.std.specs.List.{flat_map}
use Rattle.std.specs.declared.sync.Arc.{Arc}
use Rattle.std.specs.declared.alloc.Global.{Global}
use Rattle.std.proofs.Math.Path.{fun_ext}
use Rattle.std.proofs.lemmas.Simd.{map-map}
use Rattle.sc_record.specs.Versions.{found_version, version_after, shown_version, meets}
use Rattle.sc_record.specs.declared.slice.CoreId.{CoreId}
use Rattle.sc_record.specs.Writes.{Write}
use Rattle.sc_record.specs.declared.order.Order.{Order}
use Rattle.sc_record.specs.declared.entry.Entry.{Entry}
use Rattle.sc_record.specs.declared.entry.Entry.TheVariants as entry
use Rattle.sc_cluster.specs.declared.slice.Slice.{Slice}
use Rattle.sc_cluster.proofs.ListLemmas.{filter-map}
use Rattle.sc_replica.specs.Core.{Core, led}
use Rattle.sc_journal.specs.Journal.{write_at, is_settled, last_write, found}
use Rattle.sc_journal.specs.Splits.{Basis}
use Rattle.sc_journal.specs.Outcomes.{accepted, IsMet, IsFitting, IsWriteOf, IsOutcome}
use Rattle.sc_journal.proofs.JournalLemmas.{write_at-push_end}
use Rattle.sc_journal.proofs.SettledLemmas.{is_settled-push_other}
use Rattle.sc_journal.proofs.LegalLemmas.{end_is_open}
use Rattle.sc_bucket.specs.declared.bucket.Bucket.{Bucket}
use Rattle.sc_bucket.specs.declared.accept.AcceptFault.{AcceptFault}
use Rattle.sc_bucket.specs.declared.accept.AcceptFault.TheVariants as faults
use Rattle.sc_bucket.specs.Kept.{Sent}
use Rattle.sc_bucket.specs.Accepting.{IsNewWrite, IsPut}
use Rattle.sc_replicas.specs.Cores.{follows, followers, IsLeaderAt, without_room}
use Rattle.sc_bucket.specs.Flight.{sent_to}
use Rattle.sc_bucket.specs.Events.{AreSameCores, IsSameButRoom, Accepts, outcome_of}
use Rattle.sc_bucket.specs.Room.{basis, BucketHasRoom}
use Rattle.sc_bucket.specs.Sound.{IsSound}
use Rattle.sc_replicas.proofs.CoreLemmas.{name_of}
use Rattle.sc_bucket.proofs.SendLemmas.{takes}
use Rattle.sc_bucket.proofs.AcceptLemmas.{sent_by}
use Rattle.sc_replicas.proofs.FindLemmas.{some_at}
use Rattle.sc_bucket.proofs.PlaceLemmas.{same_core_at, IsLeaderAt-same_cores, AreSameCores-led}

-- Where an order's condition was tested on the last write of its id, it is met or not as tested.
pub condition_tested : (journal : List Entry) (order : Order) (last : Option Write) (condition version : ℤ) (met : Bool)
    → last ≡ last_write journal order.id → condition ≡ order.condition → version ≡ found_version last → met ≡ meets condition version
    → meets order.condition (found journal order.id) ≡ met
condition_tested journal order last condition version met last_is condition_is version_is tested =
    let found_is : version ≡ found journal order.id = version_is ∙ ap found_version last_is in
    ap (λ c. meets c (found journal order.id)) (sym condition_is) ∙ ap (meets condition) (sym found_is) ∙ sym tested

-- a new write is one of this id, also by another name of its hash and its version
pub same_names : (id : List ℕ) (hash same_hash version same_version : ℤ) (write : Write) → hash ≡ same_hash → version ≡ same_version
    → IsNewWrite id hash version write → IsNewWrite id same_hash same_version write
same_names id hash same_hash version same_version write hashes versions made = record {
  id_is = made.id_is;
  hash_is = made.hash_is ∙ hashes;
  version_is = made.version_is ∙ versions;
  terms_are = made.terms_are;
}

-- memory may run out where the condition is met
pub memory_outcome : (basis : Basis) (before after : List Entry) (order : Order) (now : ℕ) (fault : AcceptFault)
    → IsMet before order → fault ≡ faults.Memory → IsOutcome basis before order now (outcome_of (Err fault)) after
memory_outcome basis before after order now fault met is = rw is met

-- the names of those of the cores that pass a test that doesn't speak of their room
names-bare : (p : Core → Bool) (cores : List Core)
    → map name_of (filter p (map without_room cores)) ≡ map name_of (filter (λ core. p (without_room core)) cores)
names-bare p cores =
    ap (map name_of) (filter-map p without_room cores)
    ∙ map-map name_of without_room (filter (λ core. p (without_room core)) cores)

-- the followers are the same where the map and the cores are, but for their room
pub followers-same_cores : (old roomy : Bucket) (hash : ℤ) (leader : CoreId) → IsSameButRoom old roomy
    → followers roomy.map roomy.replicas hash leader ≡ followers old.map old.replicas hash leader
followers-same_cores old roomy hash leader same =
    ap (λ (slices : List Slice). followers slices roomy.replicas hash leader) same.map_is
    ∙ ap (λ (each : Slice → List CoreId). flat_map each (filter (takes hash) old.map)) (fun_ext in_slice)
  where
    in_slice : (slice : Slice) → map name_of (filter (follows leader slice) roomy.replicas)
        ≡ map name_of (filter (follows leader slice) old.replicas)
    in_slice slice =
        sym (names-bare (follows leader slice) roomy.replicas)
        ∙ ap (λ (cores : List Core). map name_of (filter (follows leader slice) cores)) same.cores
        ∙ names-bare (follows leader slice) old.replicas

-- an order is accepted where its write is put into the bucket, which is as it was but for room, and sent to the others
pub Accepts-put : (old roomy new : Bucket) (order : Order) (now : ℕ) (version : ℤ) (cell : Arc Write Global) (at : ℕ) (messages : List Sent)
    → IsSameButRoom old roomy → IsPut roomy cell at messages new → IsFitting old.journal.entries order
    → BucketHasRoom 2 old → IsWriteOf old.journal.entries order now cell.value → version ≡ shown_version cell.value
    → (leader : IsLeaderAt old.map old.replicas cell.value.hash at) → cell.value.version ≡ version_after now leader.core.clock
    → messages ≡ sent_by old cell.value leader.core.core → Accepts old order now version new
Accepts-put old roomy new order now version cell at messages same put fitting room write shown leader clocked sent =
    let roomy_leader = IsLeaderAt-same_cores old.map old.replicas roomy.replicas cell.value.hash at same.cores leader in
    let led_once = AreSameCores-led old.replicas roomy.replicas at leader.core roomy_leader.core cell.value same.cores leader.found roomy_leader.found in
    record {
      name = record { first = put.name.first ∙ same.name.first; limit = put.name.limit ∙ same.name.limit; filed = put.name.filed ∙ same.name.filed };
      split = record { phase = put.split.phase ∙ same.split.phase; feeds = put.split.feeds ∙ same.split.feeds };
      map_is = put.map_is ∙ same.map_is;
      fitting = fitting;
      room = room;
      cell = cell;
      write = write;
      shown = shown;
      entries = put.entries ∙ ap (λ journal. journal ++ entry.Write cell ∷ []) same.entries;
      at = at;
      leader = leader;
      clocked = clocked;
      cores = subst (AreSameCores (set old.replicas at (led leader.core cell.value))) (sym (put.cores roomy_leader.core roomy_leader.found)) led_once;
      messages = put.flight_is ∙ ap (λ (ms : List Sent). ms ++ messages) same.messages ∙ ap (λ (ms : List Sent). old.flight.messages ++ ms) sent;
      searchers_are = put.searchers_are ∙ same.searchers_are;
    }

-- what was made for a share of the write, by the core at the place, are the messages of the write
pub sent_by-share : (b : Bucket) (write share : Write) (at : ℕ) (sent : List Sent) → share ≡ write
    → ((core : Core) → slice_get b.replicas at ≡ Some core
    → sent ≡ sent_to (length b.journal.entries) share (followers b.map b.replicas share.hash core.core))
    → (core : Core) → slice_get b.replicas at ≡ Some core → sent ≡ sent_by b write core.core
sent_by-share b write share at sent same made core found = made core found ∙ ap (λ (w : Write). sent_by b w core.core) same

-- and so they are in the bucket with more room
pub sent_by-same : (old roomy : Bucket) (write : Write) (at : ℕ) (sent : List Sent) → IsSameButRoom old roomy → at < length old.replicas
    → ((core : Core) → slice_get old.replicas at ≡ Some core → sent ≡ sent_by old write core.core)
    → (core : Core) → slice_get roomy.replicas at ≡ Some core → sent ≡ sent_by roomy write core.core
sent_by-same old roomy write at sent same within made core found =
    let before = some_at old.replicas at within in
    let alike = same_core_at old.replicas roomy.replicas at before.0 core same.cores before.1 found in
    let named : before.0.core ≡ core.core = sym (ap (λ (one : Core). one.core) alike) in
    made before.0 before.1 ∙ ap (sent_by old write) named
    ∙ ap (λ (names : List CoreId). sent_to (length old.journal.entries) write names) (sym (followers-same_cores old roomy write.hash core.core same))
    ∙ ap (λ (journal : List Entry). sent_to (length journal) write (followers roomy.map roomy.replicas write.hash core.core)) (sym same.entries)

-- and so it is answered
pub accepted_outcome : (old new : Bucket) (order : Order) (now : ℕ) (version : ℤ) → Accepts old order now version new
    → IsOutcome (basis old) old.journal.entries order now (accepted version) new.journal.entries
accepted_outcome old new order now version accepts =
    let at_end : write_at new.journal.entries (length old.journal.entries) ≡ Some accepts.cell.value =
    ap (λ journal. write_at journal (length old.journal.entries)) accepts.entries
    ∙ write_at-push_end old.journal.entries (entry.Write accepts.cell) in
    (accepts.fitting, accepts.room, (accepts.cell.value, at_end, accepts.write, accepts.shown))

-- its write stands at the end, where no entry settles it yet
pub accepted_is_unsettled : (old new : Bucket) (order : Order) (now : ℕ) (version : ℤ) → IsSound old → Accepts old order now version new
    → IsSome (write_at new.journal.entries (length old.journal.entries))
    × (is_settled new.journal.entries (length old.journal.entries) ≡ false)
accepted_is_unsettled old new order now version sound accepts =
    let place = length old.journal.entries in
    let written : write_at new.journal.entries place ≡ Some accepts.cell.value =
    ap (λ journal. write_at journal place) accepts.entries ∙ write_at-push_end old.journal.entries (entry.Write accepts.cell) in
    let open_end : is_settled new.journal.entries place ≡ false =
    ap (λ journal. is_settled journal place) accepts.entries
    ∙ is_settled-push_other old.journal.entries (entry.Write accepts.cell) place (λ _. refl)
    ∙ end_is_open old.first old.journal.entries sound.journal.legal in
    (subst IsSome (sym written) refl, open_end)
