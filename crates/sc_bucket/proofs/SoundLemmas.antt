-- A look into a bucket is one into its journal; and what is true of it stays true where its journal gets no write.
use Rattle.std.proofs.Common.{◌<◌, ◌^◌, ℤ, pos, ◌≡◌, ◌⊎◌, ◌∙◌, ◌∷◌, ◌++◌, [], ℕ, Bool, ◌&&◌, ◌||◌, not, nat_eq, true, false, List, map, filter, get_or, slice_get, slice_set, Some, IsTrue, All, Contains, sym, ap, subst, arith}
use Rattle.std.specs.List.{IsDistinct}
use Rattle.std.proofs.lemmas.Option.{slice_get_within, get_or_from_slice_get, same_Some}
use Rattle.std.proofs.lemmas.List.{length-map, get_or-map}
use Rattle.std.proofs.lemmas.List.Elements.{All-map, All-weaker}
use Rattle.std.proofs.Math.Seq.{map-set_same}
use Rattle.std.proofs.lemmas.Simd.{map-map}
use Rattle.sc_hash.specs.Range.{IsWithin}
use Rattle.sc_router.specs.Route.{route_hash}
use Rattle.sc_record.specs.Writes.{write_of, is_of, Write}
use Rattle.sc_record.specs.declared.slice.SliceId.{SliceId}
use Rattle.sc_record.specs.declared.slice.CoreId.{CoreId}
use Rattle.sc_record.specs.declared.entry.Entry.{Entry}
use Rattle.sc_cluster.specs.declared.slice.State.TheVariants as states
use Rattle.sc_cluster.specs.declared.slice.Slice.{Slice}
use Rattle.sc_cluster.specs.Slices.{is_active, is_forming, forming}
use Rattle.sc_cluster.specs.Changes.{IsBeingSplit}
use Rattle.sc_cluster.proofs.ListLemmas.{map-map_kept, Contains-map}
use Rattle.sc_cluster.proofs.PairLemmas.{Contains-from_map}
use Rattle.sc_ulog.specs.declared.mode.Mode.{Mode}
use Rattle.sc_ulog.specs.declared.mode.Mode.TheVariants.{Active}
use Rattle.sc_replica.specs.Core.{Core, IsCore}
use Rattle.sc_journal.specs.Journal.{writes, write_at, is_settled, last_of, last_write}
use Rattle.sc_journal.specs.Down.{is_down}
use Rattle.sc_journal.specs.Seats.{seats}
use Rattle.sc_journal.specs.Splits.{open_split}
use Rattle.sc_journal.proofs.DownLemmas.{LeavesCores, is_down-left}
use Rattle.sc_journal.proofs.SeatLemmas.{LeavesSeats, seats-left}
use Rattle.sc_bucket.specs.Kept.{Sent, FeedState}
use Rattle.sc_record.specs.Names.{key_of_core, is_core}
use Rattle.sc_replicas.specs.Cores.{core_key, core_keys, slice_keys, is_attached, IsLeaderAt, without_room}
use Rattle.sc_bucket.specs.Searchers.{ArePrepared}
use Rattle.sc_bucket.specs.Flight.{is_same_message}
use Rattle.sc_bucket.specs.Pending.{pending}
use Rattle.sc_bucket.specs.Sound.{HasJournal, OfEachCore, HasLastWrites, Serves, AreInRange, IsSent, AreSent, HasSpare, HasSearchers, IsMarked, is_idle, may_catch_up, HasCores, IsFeed, AreFeeds, IsIdle, IsSplitOpen, IsInPhase, IsSound}
use Rattle.sc_bucket.specs.Events.{AreSameCores, HasSameSplit}
use Rattle.sc_bucket.specs.declared.bucket.Bucket.{Bucket}
use Rattle.sc_bucket.specs.declared.phase.Phase.{Phase}
use Rattle.sc_bucket.specs.declared.phase.Phase.TheVariants as phases
use Rattle.sc_replicas.proofs.CoreLemmas.{AscendByName-same}
pub use Rattle.sc_replicas.proofs.CoreLemmas.{name_of}

-- what is true of each core is true of that at a place
pub All-slice_get : {A : Type 0} (P : A → Type 0) (xs : List A) (k : ℕ) (x : A) → All P xs → slice_get xs k ≡ Some x → P x
All-slice_get P xs k x all is = subst P (get_or_from_slice_get xs k x x is) (all k x (slice_get_within xs k x is))

-- the core that serves a hash is active and has the last write of each id in its slice's range
pub leader_serves : (b : Bucket) (hash : ℤ) (at : ℕ) → IsSound b → (leader : IsLeaderAt b.map b.replicas hash at)
    → (leader.core.mode ≡ Active) × HasLastWrites b.journal.entries leader.slice leader.core
leader_serves b hash at sound leader =
    All-slice_get (λ (core : Core). (slice : Slice) → Contains b.map slice → slice.id ≡ core.core.slice → Serves b.journal.entries slice core)
    b.replicas at leader.core sound.leaders leader.found leader.slice leader.leads.there (sym leader.leader.0) leader.leads.active leader.leader.1

-- so a look into it is a look into the journal
pub leader_reads : (b : Bucket) (hash : ℤ) (at : ℕ) (core : Core) (id : List ℕ) → IsSound b → IsLeaderAt b.map b.replicas hash at
    → slice_get b.replicas at ≡ Some core → hash ≡ route_hash id → write_of core.cells id ≡ last_write b.journal.entries id
leader_reads b hash at core id sound leader found is_hash =
    let same : leader.core ≡ core = same_Some leader.core core (sym leader.found ∙ found) in
    let serves = leader_serves b hash at sound leader in
    ap (λ (c : Core). write_of c.cells id) (sym same)
    ∙ serves.1 id (subst (IsWithin leader.slice.range.min leader.slice.range.max) is_hash leader.leads.within)

-- what is true of what is made of each element is true of other elements of which the same is made
pub All-alike : {A X : Type 0} (f : A → X) (P : X → Type 0) (old new : List A) → map f new ≡ map f old
    → All (λ (x : A). P (f x)) old → All (λ (x : A). P (f x)) new
All-alike f P old new same all =
    let mapped : All P (map f new) = subst (All P) (sym same) (All-map P f old all) in
    λ k d below. subst P (get_or-map f new k d (f d) below) (mapped k (f d) (omega (arith, length-map new f)))

-- what is true of each core and doesn't speak of its room is true of the same cores with other room
pub All-same_cores : (P : Core → Type 0) (old new : List Core) → AreSameCores old new
    → All (λ (core : Core). P (without_room core)) old → All (λ (core : Core). P (without_room core)) new
All-same_cores P old new same all = All-alike without_room P old new same all

-- and what is made of them without their room is the same
pub map-same_cores : {X : Type 0} (f : Core → X) (old new : List Core) → AreSameCores old new
    → map (λ (core : Core). f (without_room core)) new ≡ map (λ (core : Core). f (without_room core)) old
map-same_cores f old new same =
    sym (map-map f without_room new) ∙ ap (map f) same ∙ map-map f without_room old

-- as their names
pub keys-same_cores : (old new : List Core) → AreSameCores old new → map core_key new ≡ map core_key old
keys-same_cores old new same = map-same_cores core_key old new same

pub names-same_cores : (old new : List Core) → AreSameCores old new → map name_of new ≡ map name_of old
names-same_cores old new same = map-same_cores name_of old new same

-- the name of a core, and how it takes what comes
abbrev pub name_and_mode : Core → CoreId × Mode
name_and_mode core = (core.core, core.mode)

-- the cores are those of the same names, and each takes what comes as before
abbrev pub AreAlike : List Core → List Core → Type 0
AreAlike old new = map name_and_mode new ≡ map name_and_mode old

pub AreAlike-same_cores : (old new : List Core) → AreSameCores old new → AreAlike old new
AreAlike-same_cores old new same = map-same_cores name_and_mode old new same

-- what is made of each core is the same where one was changed so that it keeps it
pub set-kept : {X : Type 0} (f : Core → X) (cores : List Core) (at : ℕ) (core new : Core) → slice_get cores at ≡ Some core
    → f new ≡ f core → map f (slice_set cores at new) ≡ map f cores
set-kept f cores at core new there keeps =
    map-set_same f cores at new core (keeps ∙ ap f (sym (get_or_from_slice_get cores at core core there)))

-- so cores are alike where each was changed so that it keeps both, or one of them was
pub AreAlike-map : (f : Core → Core) → ((core : Core) → name_and_mode (f core) ≡ name_and_mode core)
    → (cores : List Core) → AreAlike cores (map f cores)
AreAlike-map f keeps cores = map-map_kept name_and_mode f keeps cores

pub AreAlike-set : (cores : List Core) (at : ℕ) (core new : Core) → slice_get cores at ≡ Some core
    → name_and_mode new ≡ name_and_mode core → AreAlike cores (slice_set cores at new)
AreAlike-set cores at core new there keeps = set-kept name_and_mode cores at core new there keeps

-- the name of a core, whether it is marked as down, and its number
abbrev pub name_and_mark : Core → CoreId × Bool × ℕ
name_and_mark core = (core.core, core.down, core.number)

-- each core has the mark and the number that the journal gives it
abbrev pub AreMarked : List Entry → List Core → Type 0
AreMarked journal cores = All (IsMarked journal) cores

-- another journal says of each core the same: whether it is down, and in which seat it sits
pub record SaysSame (old new : List Entry) : Type 0 where
  pub down : (key : ℕ × ℕ) → is_down new key ≡ is_down old key
  pub seated : (slice : SliceId) → seats new slice ≡ seats old slice

-- so does the same journal, and one with an entry more that says nothing of any core and moves none
pub SaysSame-same : (old new : List Entry) → new ≡ old → SaysSame old new
SaysSame-same old new same = record {
  down = λ key. ap (λ entries. is_down entries key) same;
  seated = λ slice. ap (λ entries. seats entries slice) same;
}

pub SaysSame-push : (old new : List Entry) (one : Entry) → new ≡ old ++ one ∷ [] → LeavesCores one → LeavesSeats one → SaysSame old new
SaysSame-push old new one longer leaves stay = record {
  down = λ key. ap (λ entries. is_down entries key) longer ∙ is_down-left old one key leaves;
  seated = λ slice. ap (λ entries. seats entries slice) longer ∙ seats-left old one slice stay;
}

-- the same of a core's name, mark and number
abbrev IsMarkedBy : List Entry → CoreId × Bool × ℕ → Type 0
IsMarkedBy journal mark =
    (mark.1 ≡ is_down journal (key_of_core mark.0)) × (mark.2 ≡ seats journal mark.0.slice mark.0.replica)

-- they have them still, where their names, marks and numbers stay, and the journal says the same
pub AreMarked-left : (old new : List Entry) (cores others : List Core) → map name_and_mark others ≡ map name_and_mark cores
    → SaysSame old new → AreMarked old cores → AreMarked new others
AreMarked-left old new cores others same says marked =
    let before : All (λ (core : Core). IsMarkedBy old (name_and_mark core)) cores =
    All-weaker (IsMarked old) (λ core. IsMarkedBy old (name_and_mark core)) (λ core is. (is.down, is.number)) cores marked in
    let after : All (λ (core : Core). IsMarkedBy old (name_and_mark core)) others =
    All-alike name_and_mark (IsMarkedBy old) cores others same before in
    All-weaker (λ (core : Core). IsMarkedBy old (name_and_mark core)) (IsMarked new) still others after
  where
    still : (core : Core) → IsMarkedBy old (name_and_mark core) → IsMarked new core
    still core is = record {
      down = is.0 ∙ sym (says.down (core_key core));
      number = is.1 ∙ ap (λ (core_in : ℕ → ℕ). core_in core.core.replica) (sym (says.seated core.core.slice));
    }

-- their names are the same
pub names-alike : (old new : List Core) → AreAlike old new → map name_of new ≡ map name_of old
names-alike old new alike =
    let name : CoreId × Mode → CoreId = λ pair. pair.0 in
    sym (map-map name name_and_mode new) ∙ ap (map name) alike ∙ map-map name name_and_mode old

keys-named : (old new : List Core) → map name_of new ≡ map name_of old → map core_key new ≡ map core_key old
keys-named old new same =
    let key : CoreId → ℕ × ℕ = λ name. (name.slice.0, name.replica) in
    sym (map-map key name_of new) ∙ ap (map key) same ∙ map-map key name_of old

-- the core serves its slice of the map, where these are the writes of the journal
abbrev pub ServesBy : List Slice → List Write → Core → Type 0
ServesBy slices all core = (slice : Slice) → Contains slices slice → slice.id ≡ core.core.slice
    → slice.state ≡ states.Active → core.core.replica ≡ 1
    → (core.mode ≡ Active)
    × ((id : List ℕ) → IsWithin slice.range.min slice.range.max (route_hash id)
    → write_of core.cells id ≡ last_of (filter (is_of id) all))

abbrev pub AreWrittenBy : List Write → List Sent → List FeedState → Core → Type 0
AreWrittenBy all messages feeds core = All (Contains all) core.cells × All (Contains all) (pending messages feeds core)

abbrev pub HasOrAwaitsBy : List Slice → List Write → List Sent → List FeedState → Core → Type 0
HasOrAwaitsBy slices all messages feeds core = (slice : Slice) → Contains slices slice → slice.id ≡ core.core.slice
    → IsTrue (is_attached slice core) → (id : List ℕ) (write : Write)
    → IsWithin slice.range.min slice.range.max (route_hash id) → last_of (filter (is_of id) all) ≡ Some write
    → (write_of core.cells id ≡ Some write) ⊎ Contains (pending messages feeds core) write

abbrev pub IsInRangeBy : List Slice → List Sent → List FeedState → Core → Type 0
IsInRangeBy slices messages feeds core = (slice : Slice) → Contains slices slice → slice.id ≡ core.core.slice
    → AreInRange messages feeds slice core

abbrev pub IsClockBy : List Write → Core → Type 0
IsClockBy all core = (core.clock ≡ pos 0) ⊎ Contains (map (λ (write : Write). write.version) all) core.clock

-- what is true of the same cores, with the same map, writes, messages and feeds
pub all_left : (P : List Slice → List Write → List Sent → List FeedState → Core → Type 0) (old_map new_map : List Slice)
    (old_writes new_writes : List Write) (old_messages new_messages : List Sent) (old_feeds new_feeds : List FeedState)
    (cores : List Core) → new_map ≡ old_map → new_writes ≡ old_writes → new_messages ≡ old_messages
    → new_feeds ≡ old_feeds → All (P old_map old_writes old_messages old_feeds) cores → All (P new_map new_writes new_messages new_feeds) cores
all_left P old_map new_map old_writes new_writes old_messages new_messages old_feeds new_feeds cores same_map
    same_writes same_messages same_feeds all =
    subst (λ slices. All (P slices new_writes new_messages new_feeds) cores) (sym same_map)
    (subst (λ these. All (P old_map these new_messages new_feeds) cores) (sym same_writes)
    (subst (λ sent. All (P old_map old_writes sent new_feeds) cores) (sym same_messages)
    (subst (λ feeds. All (P old_map old_writes old_messages feeds) cores) (sym same_feeds) all)))

-- each replica of the slice is there, where no split is making it
abbrev IsWhole : List (ℕ × ℕ) → Slice → Type 0
IsWhole keys slice = is_forming slice ≡ false → All (Contains keys) (slice_keys slice)

-- The cores are those that have to be there, where they have the same names and the map stays, those that are not still
-- catching up are active, and each has the mark and the number that the journal gives it.
pub HasCores-named : (old new : Bucket) → new.map ≡ old.map → map name_of new.replicas ≡ map name_of old.replicas
    → OfEachCore new (λ (slice : Slice) (core : Core). may_catch_up new.phase slice core.core ≡ false → core.mode ≡ Active)
    → AreMarked new.journal.entries new.replicas → HasCores old → HasCores new
HasCores-named old new same_map same active marked has =
    let keys : map core_key new.replicas ≡ map core_key old.replicas = keys-named old.replicas new.replicas same in
    record {
      counted = All-alike name_of (λ (name : CoreId). name.replica < 2 ^ 8) old.replicas new.replicas same has.counted;
      ascend = AscendByName-same old.replicas new.replicas same has.ascend;
      of_map = subst (λ slices. All (Contains (core_keys slices)) (map core_key new.replicas)) (sym same_map)
          (subst (All (Contains (core_keys old.map))) (sym keys) has.of_map);
      leaders = subst (All (λ (slice : Slice). Contains (map core_key new.replicas) (slice.id.0, 1))) (sym same_map)
          (subst (λ (these : List (ℕ × ℕ)). All (λ (slice : Slice). Contains these (slice.id.0, 1)) old.map) (sym keys)
          has.leaders);
      whole = subst (All (IsWhole (map core_key new.replicas))) (sym same_map)
          (subst (λ (these : List (ℕ × ℕ)). All (IsWhole these) old.map) (sym keys) has.whole);
      active = active;
      marked = marked;
    }

-- what is said of each core's name and mode and of its slice stays true where they do
pub OfEachCore-alike : (P : Slice → CoreId × Mode → Type 0) (old new : Bucket) → new.map ≡ old.map
    → AreAlike old.replicas new.replicas
    → OfEachCore old (λ (slice : Slice) (core : Core). P slice (name_and_mode core))
    → OfEachCore new (λ (slice : Slice) (core : Core). P slice (name_and_mode core))
OfEachCore-alike P old new same_map alike each =
    let Of : List Slice → CoreId × Mode → Type 0 = λ slices pair.
    (slice : Slice) → Contains slices slice → slice.id ≡ pair.0.slice → P slice pair in
    subst (λ slices. All (λ (core : Core). Of slices (name_and_mode core)) new.replicas) (sym same_map)
    (All-alike name_and_mode (Of old.map) old.replicas new.replicas alike each)

-- which cores may still be catching up stays, where no split is open as before
pub may_catch_up-left : (old new : Phase) (slice : Slice) (core : CoreId) → is_idle new ≡ is_idle old
    → may_catch_up new slice core ≡ may_catch_up old slice core
may_catch_up-left old new slice core same =
    ap (λ (idle : Bool). is_forming slice || (idle && is_active slice && not (nat_eq core.replica 1))) same

-- so the cores are those that have to be there, where each has the mark and the number that the journal gives it
pub HasCores-alike : (old new : Bucket) → is_idle new.phase ≡ is_idle old.phase → new.map ≡ old.map → AreAlike old.replicas new.replicas
    → AreMarked new.journal.entries new.replicas → HasCores old → HasCores new
HasCores-alike old new same_idle same_map alike marked has =
    HasCores-named old new same_map (names-alike old.replicas new.replicas alike)
    (OfEachCore-alike (λ slice pair. may_catch_up new.phase slice pair.0 ≡ false → pair.1 ≡ Active) old new same_map alike
    (λ k d below slice there named caught_up. has.active k d below slice there named
    (sym (may_catch_up-left old.phase new.phase slice (get_or old.replicas k d).core same_idle) ∙ caught_up))) marked has

-- and a feed is still of a core that buffers
pub IsFeed-alike : (old new : Bucket) (feed : FeedState) → is_idle new.phase ≡ is_idle old.phase → new.map ≡ old.map
    → AreAlike old.replicas new.replicas → IsFeed old feed → IsFeed new feed
IsFeed-alike old new feed same_idle same_map alike is =
    let there : Contains (map name_and_mode new.replicas) (name_and_mode is.core) =
    subst (λ pairs. Contains pairs (name_and_mode is.core)) (sym alike)
    (Contains-map name_and_mode old.replicas is.core is.core_there) in
    let (core, inside, same) = Contains-from_map name_and_mode new.replicas (name_and_mode is.core) there in
    record {
      slice = is.slice;
      there = subst (λ slices. Contains slices is.slice) (sym same_map) is.there;
      catches_up = may_catch_up-left old.phase new.phase is.slice feed.core same_idle ∙ is.catches_up;
      of_slice = is.of_slice;
      range_is = is.range_is;
      core = core;
      core_there = inside;
      core_is = ap (λ (pair : CoreId × Mode). pair.0) same ∙ is.core_is;
      buffering = ap (λ (pair : CoreId × Mode). pair.1) same ∙ is.buffering;
      within = is.within;
    }

-- so the feeds are
pub AreFeeds-alike : (old new : Bucket) → is_idle new.phase ≡ is_idle old.phase → new.map ≡ old.map → new.feeds ≡ old.feeds
    → AreAlike old.replicas new.replicas → AreFeeds old → AreFeeds new
AreFeeds-alike old new same_idle same_map same_feeds alike are = record {
  each = subst (All (IsFeed new)) (sym same_feeds)
      (All-weaker (IsFeed old) (IsFeed new) (λ feed. IsFeed-alike old new feed same_idle same_map alike) old.feeds are.each);
  once = subst (λ (feeds : List FeedState). IsDistinct is_core (map (λ (feed : FeedState). feed.core) feeds))
      (sym same_feeds) are.once;
}

-- a split is open, or none is, where the journal and the map say the same of it
pub IsIdle-same : (old new : Bucket) → open_split new.journal.entries ≡ open_split old.journal.entries
    → new.map ≡ old.map → IsIdle old → IsIdle new
IsIdle-same old new same_split same_map is = record {
  idle = same_split ∙ is.idle;
  whole = ap forming same_map ∙ is.whole;
}

pub IsOpen-same : (old new : Bucket) (parent : SliceId)
    → open_split new.journal.entries ≡ open_split old.journal.entries → new.map ≡ old.map → IsSplitOpen old parent → IsSplitOpen new parent
IsOpen-same old new parent same_split same_map is = record {
  begun = same_split ∙ is.begun;
  split = subst (λ slices. IsBeingSplit slices parent) (sym same_map) is.split;
  constructed = subst (λ (slices : List Slice). All (λ (slice : Slice). slice.state ≡ states.Construction) (forming slices))
      (sym same_map) is.constructed;
  last = subst (λ (slices : List Slice). slices ≡ filter (λ (slice : Slice). not (is_forming slice)) slices ++ forming slices)
      (sym same_map) is.last;
}

-- and the bucket is in the phase in which it was
pub IsInPhase-alike : (old new : Bucket) (phase : Phase)
    → open_split new.journal.entries ≡ open_split old.journal.entries → new.map ≡ old.map → AreAlike old.replicas new.replicas → IsInPhase old phase → IsInPhase new phase
IsInPhase-alike old new phases.Idle same_split same_map alike is = IsIdle-same old new same_split same_map is
IsInPhase-alike old new (phases.Building parent) same_split same_map alike is =
    IsOpen-same old new parent same_split same_map is
IsInPhase-alike old new (phases.Recovering parent) same_split same_map alike is = (
  IsOpen-same old new parent same_split same_map is.0,
  OfEachCore-alike (λ slice pair. is_forming slice ≡ true → pair.0.replica ≡ 1 → pair.1 ≡ Active) old new same_map alike
      is.1,
)

-- the searchers that a switch leaves are ready, where the phase, the map, the searchers and they stay
pub ArePrepared-same : (old new : Bucket) → new.phase ≡ old.phase → new.map ≡ old.map → new.searchers ≡ old.searchers
    → new.spares ≡ old.spares → ArePrepared old.phase old.map old.searchers old.spares
    → ArePrepared new.phase new.map new.searchers new.spares
ArePrepared-same old new same_phase same_map same_searchers same_spares are =
    subst (λ phase. ArePrepared phase new.map new.searchers new.spares) (sym same_phase)
    (subst (λ slices. ArePrepared old.phase slices new.searchers new.spares) (sym same_map)
    (subst (λ searchers. ArePrepared old.phase old.map searchers new.spares) (sym same_searchers)
    (subst (λ spares. ArePrepared old.phase old.map old.searchers spares) (sym same_spares) are)))

-- a message is of a write that is not settled, and to a core that is there and not down, where the same is said of its write
-- and of its core, and the cores have the same names
pub IsSent-left : (old new : Bucket) (message : Sent) → AreSameCores old.replicas new.replicas
    → write_at new.journal.entries message.place ≡ write_at old.journal.entries message.place
    → is_settled new.journal.entries message.place ≡ is_settled old.journal.entries message.place
    → is_down new.journal.entries (key_of_core message.core) ≡ is_down old.journal.entries (key_of_core message.core)
    → IsSent old message → IsSent new message
IsSent-left old new message same_cores same_write same_settled same_down sent = record {
  write = same_write ∙ sent.write;
  unsettled = same_settled ∙ sent.unsettled;
  up = same_down ∙ sent.up;
  core = subst (λ (names : List CoreId). Contains names message.core) (sym (names-same_cores old.replicas new.replicas same_cores)) sent.core;
}

-- so it is of every message where the journal stays
pub AreSent-same : (old new : Bucket) → AreSameCores old.replicas new.replicas → new.journal.entries ≡ old.journal.entries
    → new.flight.messages ≡ old.flight.messages → AreSent old → AreSent new
AreSent-same old new same_cores same_entries same_messages sent = record {
  each = subst (All (IsSent new)) (sym same_messages)
      (All-weaker (IsSent old) (IsSent new)
      (λ message. IsSent-left old new message same_cores (ap (λ entries. write_at entries message.place) same_entries)
      (ap (λ entries. is_settled entries message.place) same_entries)
      (ap (λ entries. is_down entries (key_of_core message.core)) same_entries)) old.flight.messages sent.each);
  once = subst (IsDistinct is_same_message) (sym same_messages) sent.once;
}

-- A bucket stays sound where nothing of a split changes, its journal, which is as it has to be, has the same writes, says
-- the same of each core and that the same split is open, its messages are the same, its cores change only their room, and it has its searchers and what a
-- switch leaves of them.
pub IsSound-left : (old new : Bucket) → IsSound old → HasSameSplit old new → HasJournal new → new.map ≡ old.map
    → AreSameCores old.replicas new.replicas
    → writes new.journal.entries ≡ writes old.journal.entries
    → open_split new.journal.entries ≡ open_split old.journal.entries
    → SaysSame old.journal.entries new.journal.entries
    → new.flight.messages ≡ old.flight.messages → AreSent new
    → All (HasSpare new.flight.messages new.feeds) new.replicas → HasSearchers new → ArePrepared new.phase new.map new.searchers new.spares
    → IsSound new
IsSound-left old new sound same journal same_map same_cores same_writes same_split says_same same_messages sent spares searchers
    prepared =
    let all : List Write = writes old.journal.entries in
    let messages : List Sent = old.flight.messages in
    let feeds : List FeedState = old.feeds in
    let alike : AreAlike old.replicas new.replicas = AreAlike-same_cores old.replicas new.replicas same_cores in
    let same_idle : is_idle new.phase ≡ is_idle old.phase = ap is_idle same.phase in
    record {
      journal = journal;
      leaders = all_left (λ slices these _ _. ServesBy slices these) old.map new.map all (writes new.journal.entries)
          messages new.flight.messages feeds new.feeds new.replicas same_map same_writes same_messages same.feeds
          (All-same_cores (ServesBy old.map all) old.replicas new.replicas same_cores sound.leaders);
      written = all_left (λ _ these sent fed. AreWrittenBy these sent fed) old.map new.map all
          (writes new.journal.entries) messages new.flight.messages feeds new.feeds new.replicas same_map same_writes same_messages same.feeds
          (All-same_cores (AreWrittenBy all messages feeds) old.replicas new.replicas same_cores sound.written);
      held = all_left (λ slices these sent fed. HasOrAwaitsBy slices these sent fed) old.map new.map all
          (writes new.journal.entries) messages new.flight.messages feeds new.feeds new.replicas same_map same_writes same_messages same.feeds
          (All-same_cores (HasOrAwaitsBy old.map all messages feeds) old.replicas new.replicas same_cores sound.held);
      in_range = all_left (λ slices _ sent fed. IsInRangeBy slices sent fed) old.map new.map all
          (writes new.journal.entries) messages new.flight.messages feeds new.feeds new.replicas same_map same_writes same_messages same.feeds
          (All-same_cores (IsInRangeBy old.map messages feeds) old.replicas new.replicas same_cores sound.in_range);
      clocks = all_left (λ _ these _ _. IsClockBy these) old.map new.map all (writes new.journal.entries) messages
          new.flight.messages feeds new.feeds new.replicas same_map same_writes same_messages same.feeds
          (All-same_cores (IsClockBy all) old.replicas new.replicas same_cores sound.clocks);
      in_order = All-same_cores IsCore old.replicas new.replicas same_cores sound.in_order;
      searchers = searchers;
      prepared = prepared;
      messages = sent;
      room = spares;
      cores = HasCores-alike old new same_idle same_map alike
          (AreMarked-left old.journal.entries new.journal.entries old.replicas new.replicas
          (map-same_cores name_and_mark old.replicas new.replicas same_cores) says_same sound.cores.marked) sound.cores;
      feeds = AreFeeds-alike old new same_idle same_map same.feeds alike sound.feeds;
      phase = subst (IsInPhase new) (sym same.phase)
          (IsInPhase-alike old new old.phase same_split same_map alike sound.phase);
    }
