-- The core to which a message goes is there, on the node of the core that sits in its seat.
use Rattle.std.proofs.Common.{◌≡◌, ◌∙◌, ◌+◌, ◌≤◌, ◌<◌, ◌↔◌, ℕ, true, IsTrue, IsSome, eqb, List, ◌++◌, length, get_or, map, slice_get, Option, Some, None, Bor, All, Contains, IsPermutation, refl, sym, ap, subst, arith}
use Rattle.std.specs.Prelude.{false, take, MatchOption, ◌≢◌}
use Rattle.std.specs.Option.{option_map}
use Rattle.std.proofs.lemmas.Bool.{eqb-true, and_parts}
use Rattle.std.proofs.lemmas.List.{length-map}
use Rattle.std.proofs.lemmas.Option.{slice_get_within, slice_get-get_or, slice_get-map, same_Some}
use Rattle.std.specs.List.{range_with_len}
use Rattle.std.proofs.lemmas.List.Elements.{All-contains, Contains-append_left}
use Rattle.std.proofs.lemmas.List.FromFn.{length-range_with_len, get_or-range_with_len}
use Rattle.std.proofs.lemmas.List.Sorted.{Contains-permutation}
use Rattle.sc_hash.specs.Range.{IsWithin}
use Rattle.sc_router.specs.Route.{route_hash}
use Rattle.sc_record.specs.Names.{key_of_core, is_core}
use Rattle.sc_record.specs.declared.slice.SliceId.{SliceId}
use Rattle.sc_record.specs.declared.slice.CoreId.{CoreId}
use Rattle.sc_cluster.specs.declared.slice.Slice.{Slice}
use Rattle.sc_cluster.specs.declared.slice.State.TheVariants as states
use Rattle.sc_cluster.specs.Slices.{node_of}
use Rattle.sc_cluster.proofs.LeaderLemmas.{same_from_id}
use Rattle.sc_cluster.proofs.ListLemmas.{Contains-map}
use Rattle.sc_cluster.proofs.PairLemmas.{Contains-from_map}
use Rattle.sc_replica.specs.Core.{Core}
use Rattle.sc_journal.specs.Journal.{writes}
use Rattle.sc_journal.specs.Down.{is_down}
use Rattle.sc_journal.specs.Seats.{seats}
use Rattle.sc_journal.proofs.LegalLemmas.{legal_hash}
use Rattle.sc_journal.proofs.SeatLemmas.{seats_are_exchanged}
use Rattle.sc_replicas.specs.Cores.{core_key, core_keys, HasCore}
use Rattle.sc_replicas.proofs.CoreLemmas.{name_of, is_core-Decides, element_from_map}
use Rattle.sc_bucket.specs.Kept.{Sent}
use Rattle.sc_bucket.specs.Flight.{in_flight, sent_of, is_for, IsFirstOf}
use Rattle.sc_bucket.specs.Pending.{to_feed, pending}
use Rattle.sc_bucket.specs.Sound.{IsInRange, AreWritten, AreInRange, IsMarked, IsSent, IsSound}
use Rattle.sc_bucket.specs.Events.{Delivers, CanDetach}
use Rattle.sc_bucket.specs.Targets.{IsTarget, DeliversTo}
use Rattle.sc_bucket.specs.declared.bucket.Bucket.{Bucket}
use Rattle.sc_bucket.specs.declared.message.Message.{Message}
use Rattle.sc_bucket.specs.declared.targets.Target.{Target}
use Rattle.sc_bucket.proofs.AcceptLemmas.{bucket_has_map}
use Rattle.sc_bucket.proofs.DownLemmas.{can_detach, detached_is, slice_key}
use Rattle.sc_bucket.proofs.FlightLemmas.{taken-own}
use Rattle.sc_bucket.proofs.SeatLemmas.{first_idle, named_core}
use Rattle.sc_bucket.proofs.SoundLemmas.{All-slice_get}
use Rattle.sc_bucket.proofs.TakenLemmas.{Contains-slice_get}

-- a core that is there is one of a slice of the map
pub core_of_slice : (b : Bucket) (at : ℕ) (core : Core) → IsSound b → slice_get b.replicas at ≡ Some core → HasCore b.map core.core.slice core.core.replica
core_of_slice b at core sound there =
    named_core b.map (core_key core) core.core.slice
    (All-contains (Contains (core_keys b.map)) (map core_key b.replicas) (core_key core) sound.cores.of_map
    (Contains-map core_key b.replicas core (Contains-slice_get b.replicas at core there))) refl

-- so its slice is found
pub slice_of_name : (b : Bucket) (name : CoreId) → IsSound b → Contains (map name_of b.replicas) name
    → (slice : Slice) × Contains b.map slice × (slice.id ≡ name.slice)
slice_of_name b name sound there =
    let (k, core, at, is) = element_from_map name_of b.replicas name there in
    let (slice, inside, own, low, high) = core_of_slice b k core sound at in
    (slice, inside, own ∙ ap (λ (one : CoreId). one.slice) is)

-- its number is that of one of the slice's cores, which are counted from 1
pub number_from_one : (b : Bucket) (at : ℕ) (core : Core) → IsSound b → slice_get b.replicas at ≡ Some core → 1 ≤ core.number
number_from_one b at core sound there =
    let (slice, inside, own, low, high) = core_of_slice b at core sound there in
    let numbers : List ℕ = range_with_len 1 slice.replicas in
    let core_in : ℕ → ℕ = seats b.journal.entries slice.id in
    let exchanged : IsPermutation (map core_in numbers) numbers =
    seats_are_exchanged b.first b.journal.entries slice sound.journal.first (first_idle b sound.journal)
    sound.journal.legal (subst (λ (slices : List Slice). Contains slices slice) sound.journal.map_is inside) in
    let (replica, replica_there, alike) = Contains-from_map (λ (one : ℕ). (slice.id.0, one)) numbers (slice.id.0, core.core.replica)
    (slice_key slice core.core.replica low high) in
    let seat_there : Contains numbers core.core.replica =
    subst (Contains numbers) (ap (λ (pair : ℕ × ℕ). pair.1) alike) replica_there in
    let (k, below, is) = Contains-permutation (map core_in numbers) numbers (core_in core.core.replica) exchanged
    (Contains-map core_in numbers core.core.replica seat_there) in
    let counted : 1 + k ≡ core_in core.core.replica =
    sym (get_or-range_with_len 1 slice.replicas k (core_in core.core.replica) (omega (arith, below, length-range_with_len 1 slice.replicas))) ∙ is in
    let marked : core.number ≡ core_in core.core.replica =
    (All-slice_get (IsMarked b.journal.entries) b.replicas at core sound.cores.marked there).number
    ∙ ap (λ (id : SliceId). seats b.journal.entries id core.core.replica) (sym own) in
    omega (arith, counted, marked)

-- the node of a core by its number is that of the core in its seat
pub node_by_seat : (b : Bucket) (name : CoreId) (slice : Slice) (at : ℕ) (core : Core) (nodes node : ℕ) → IsSound b
    → Contains b.map slice → slice.id ≡ name.slice → slice_get b.replicas at ≡ Some core → is_core name core.core ≡ true
    → node ≡ node_of slice.node core.number nodes
    → (other : Slice) → Contains b.map other → other.id ≡ name.slice
    → node ≡ node_of other.node (seats b.journal.entries other.id name.replica) nodes
node_by_seat b name slice at core nodes node sound inside own there named is other other_inside other_own =
    let same : slice ≡ other = same_from_id b.map slice other (bucket_has_map b sound.journal) inside other_inside (own ∙ sym other_own) in
    let alike : name ≡ core.core = (is_core-Decides name core.core).0 named in
    let marked : core.number ≡ seats b.journal.entries core.core.slice core.core.replica =
    (All-slice_get (IsMarked b.journal.entries) b.replicas at core sound.cores.marked there).number in
    let number : core.number ≡ seats b.journal.entries other.id name.replica =
    marked ∙ ap (λ (one : CoreId). seats b.journal.entries one.slice one.replica) (sym alike)
    ∙ ap (λ (id : SliceId). seats b.journal.entries id name.replica) (sym other_own) in
    is ∙ ap (λ (n : ℕ). node_of slice.node n nodes) number
    ∙ ap (λ (one : Slice). node_of one.node (seats b.journal.entries other.id name.replica) nodes) same

-- a core that is up may be marked as down exactly where it is a follower of an active slice
pub detached_where : (b : Bucket) (name : CoreId) (slice : Slice) (may : Type 0) → IsSound b → Contains b.map slice → slice.id ≡ name.slice
    → is_down b.journal.entries (key_of_core name) ≡ false
    → may ↔ ((slice.state ≡ states.Active) × (1 < name.replica) × (name.replica ≤ slice.replicas)) → may ↔ CanDetach b name
detached_where b name slice may sound inside own up is = (
  λ yes. let (active, least, most) = is.0 yes in can_detach b name slice sound inside own active least most up,
  λ can. is.1 (detached_is b name slice sound inside own can),
)

-- a message in flight is to a core that is there and not down
pub sent_at : (b : Bucket) (at : ℕ) (message : Sent) → IsSound b → slice_get b.flight.messages at ≡ Some message → IsSent b message
sent_at b at message sound there = All-slice_get (IsSent b) b.flight.messages at message sound.messages.each there

-- and of a write whose hash is in the range of that core's slice
write_in_range : (b : Bucket) (at : ℕ) (message : Sent) (slice : Slice) → IsSound b → slice_get b.flight.messages at ≡ Some message
    → Contains b.map slice → slice.id ≡ message.core.slice
    → IsWithin slice.range.min slice.range.max (route_hash message.write.id)
write_in_range b at message slice sound there inside own =
    let (k, core, found, is) = element_from_map name_of b.replicas message.core (sent_at b at message sound there).core in
    let named : is_core core.core message.core ≡ true = (is_core-Decides core.core message.core).1 is in
    let waits : Contains (pending b.flight.messages b.feeds core) message.write =
    Contains-append_left (in_flight b.flight.messages core.core ++ core.buffer) (to_feed b.feeds core.core) message.write
    (Contains-append_left (in_flight b.flight.messages core.core) core.buffer message.write
    (taken-own b.flight.messages at message core.core there named).there) in
    let written = (All-slice_get (AreWritten b.journal.entries b.flight.messages b.feeds) b.replicas k core sound.written found).1 in
    let among = All-contains (Contains (writes b.journal.entries)) (pending b.flight.messages b.feeds core) message.write written waits in
    let within = (All-slice_get (λ (one : Core). (s : Slice) → Contains b.map s → s.id ≡ one.core.slice → AreInRange b.flight.messages b.feeds s one)
    b.replicas k core sound.in_range found slice inside (own ∙ ap (λ (one : CoreId). one.slice) (sym is))).1 in
    subst (IsWithin slice.range.min slice.range.max)
    (legal_hash b.first b.journal.entries message.write sound.journal.legal among)
    (All-contains (IsInRange slice) (pending b.flight.messages b.feeds core) message.write within waits)

-- so its core, with that node and that mark, is where the write's next message goes
pub IsTarget-first : (b : Bucket) (place nodes at : ℕ) (message : Sent) (target : Target) → IsSound b
    → IsFirstOf place b.flight.messages at message → target.core ≡ message.core
    → ((slice : Slice) → Contains b.map slice → slice.id ≡ message.core.slice
    → target.node ≡ node_of slice.node (seats b.journal.entries slice.id message.core.replica) nodes)
    → IsTrue target.follower ↔ CanDetach b message.core → IsTarget b place nodes target
IsTarget-first b place nodes at message target sound first core_is node follows =
    let (slice, inside, own) = slice_of_name b message.core sound (sent_at b at message sound first.found).core in
    record {
      at = at;
      message = message;
      first = first;
      core_is = core_is;
      slice = slice;
      there = inside;
      slice_is = own ∙ ap (λ (one : CoreId). one.slice) (sym core_is);
      in_range = write_in_range b at message slice sound first.found inside own;
      node_is = node slice inside own ∙ ap (λ (one : CoreId). node_of slice.node (seats b.journal.entries slice.id one.replica) nodes) (sym core_is);
      follows = subst (λ (one : CoreId). IsTrue target.follower ↔ CanDetach b one) (sym core_is) follows;
    }

-- a slice that is there is found by its id
abbrev pub IsSliceFound : List Slice → SliceId → Option (Bor Slice) → Type 0
IsSliceFound slices id found =
    MatchOption found (All (λ (slice : Slice). slice.id ≢ id) slices) (λ (slice : Bor Slice). Contains slices slice.now × (slice.now.id ≡ id))

pub slice_is_found : (b : Bucket) (name : CoreId) (found : Option (Bor Slice)) → IsSound b → Contains (map name_of b.replicas) name
    → IsSliceFound b.map name.slice found → IsSome found
slice_is_found b name (Some slice) sound there is = refl
slice_is_found b name None sound there none =
    let (slice, inside, own) = slice_of_name b name sound there in
    absurd (All-contains (λ (one : Slice). one.id ≢ name.slice) b.map slice none inside own)

-- the core of a message, as it is kept
pub core_at : (items : List Message) (messages : List Sent) (at : ℕ) (item : Message) (message : Sent) → map sent_of items ≡ messages
    → item ≡ get_or items at item → slice_get messages at ≡ Some message → item.core ≡ message.core
core_at items messages at item message same is there =
    let mapped : slice_get (map sent_of items) at ≡ Some message = ap (λ (these : List Sent). slice_get these at) same ∙ there in
    let within : at < length items =
    omega (arith, slice_get_within (map sent_of items) at message mapped, length-map items sent_of) in
    let kept : slice_get items at ≡ Some item = slice_get-get_or items at item within ∙ ap (λ (one : Message). Some one) (sym is) in
    let one : Some (sent_of item) ≡ Some message =
    sym (slice_get-map sent_of items at ∙ ap (option_map sent_of) kept) ∙ mapped in
    ap (λ (sent : Sent). sent.core) (same_Some (sent_of item) message one)

-- the message of the write to the core is the one that is delivered
pub DeliversTo-at : (old : Bucket) (place : ℕ) (core : CoreId) (at : ℕ) (new : Bucket)
    → (message : Sent) × (slice_get old.flight.messages at ≡ Some message) × (is_for place core message ≡ true)
    × All (λ (other : Sent). is_for place core other ≡ false) (take at old.flight.messages)
    → (result : CoreId) → (message : Sent) × Delivers old at message new × (message.core ≡ result) → DeliversTo old place core new
DeliversTo-at old place core at new (message, there, passes, before) result (other, delivers, named) =
    let same : message ≡ other = same_Some message other (sym there ∙ delivers.found) in
    let parts = and_parts (eqb message.place place) (is_core core message.core) passes in
    record {
      at = at;
      message = other;
      of_write = ap (λ (sent : Sent). sent.place) (sym same) ∙ eqb-true message.place place parts.0;
      core_is = ap (λ (sent : Sent). sent.core) (sym same) ∙ sym ((is_core-Decides core message.core).0 parts.1);
      delivers = delivers;
    }
