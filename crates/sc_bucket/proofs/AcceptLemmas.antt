-- A bucket is sound once an order was accepted.
use Rattle.std.proofs.Common.{◌≡◌, ℕ, ◌+◌, ◌<◌, ◌<ℤ◌, false, All, Contains, Some, slice_get, List, [], ◌∷◌, ◌++◌, length, map, set, refl, sym, ap, ◌∙◌, subst, arith, length-append}
use Rattle.std.specs.declared.sync.Arc.{Arc}
use Rattle.std.specs.declared.alloc.Global.{Global}
use Rattle.std.specs.Prelude.{IsSome}
use Rattle.std.specs.Arc.{arc_value}
use Rattle.std.specs.List.{IsDistinct}
use Rattle.std.proofs.lemmas.List.Elements.{All-weaker, All-append, All-contains, All-map, Contains-append_left}
use Rattle.sc_record.specs.Names.{key_of_core}
use Rattle.sc_record.specs.declared.slice.CoreId.{CoreId}
use Rattle.sc_record.specs.Writes.{Write}
use Rattle.sc_record.specs.declared.entry.Entry.TheVariants as entry
use Rattle.sc_cluster.specs.declared.slice.Slice.{Slice}
use Rattle.sc_cluster.specs.declared.slice.State.TheVariants as states
use Rattle.sc_cluster.specs.Slices.{is_forming, forming}
use Rattle.sc_cluster.specs.Map.{IsMap}
use Rattle.sc_cluster.proofs.ListLemmas.{filter-none}
use Rattle.sc_cluster.proofs.StateLemmas.{active_settled}
use Rattle.sc_replica.specs.Core.{Core, led}
use Rattle.sc_replica.proofs.CoreLemmas.{spare_after-≥}
use Rattle.sc_journal.specs.Journal.{writes, write_at, is_settled, unsettled}
use Rattle.sc_journal.specs.Committed.{committed, last_commit}
use Rattle.sc_journal.proofs.CommittedLemmas.{committed-push_other, last_commit-push_other}
use Rattle.sc_journal.specs.Down.{is_down}
use Rattle.sc_journal.specs.Splits.{map_after, open_split, owed}
use Rattle.sc_journal.specs.Legal.{MayWrite, IsLegal}
use Rattle.sc_journal.proofs.LegalLemmas.{end_is_open, IsLegal-push, unsettled-push_legal_write, owed-push_legal_write}
use Rattle.sc_journal.proofs.JournalLemmas.{writes-push_write, write_at-push_end, write_at-append, write_at_within}
use Rattle.sc_journal.proofs.DownLemmas.{LeavesCores-write}
use Rattle.sc_journal.proofs.SettledLemmas.{is_settled-push_other}
use Rattle.sc_journal.proofs.MapLemmas.{keeps_a_map}
use Rattle.sc_journal.proofs.SplitLemmas.{LeavesSlices-write, map_after-left, open_split-left}
use Rattle.sc_bucket.specs.declared.bucket.Bucket.{Bucket}
use Rattle.sc_bucket.specs.Accepting.{HasMemory, IsPut}
use Rattle.sc_bucket.specs.Room.{BucketHasRoom}
use Rattle.sc_bucket.specs.Kept.{Sent, FeedState}
use Rattle.sc_replicas.specs.Cores.{core_key, followers, IsLeaderAt, IsCoreWithoutRoom}
use Rattle.sc_bucket.specs.Flight.{sent_to, is_same_message}
use Rattle.sc_bucket.specs.Pending.{pending}
use Rattle.sc_bucket.specs.Sound.{AreActive, HasJournal, IsSent, AreSent, HasSpare, HasSearchers, IsMarked, is_idle, IsInPhase, IsSound}
use Rattle.sc_replicas.proofs.CoreLemmas.{name_of, AreApart-from_ascending}
use Rattle.sc_bucket.proofs.SoundLemmas.{All-slice_get, AreAlike, AreAlike-set, name_and_mark, set-kept, AreMarked, SaysSame, SaysSame-push, AreMarked-left, names-alike, HasCores-alike, AreFeeds-alike, IsInPhase-alike, ArePrepared-same}
use Rattle.sc_bucket.proofs.SearcherLemmas.{HasSearchers-grown}
use Rattle.sc_bucket.proofs.PlaceLemmas.{All-set_apart}
use Rattle.sc_bucket.proofs.FollowerLemmas.{IsFollower, are_followers, follower_is_there, followers_apart, IsDistinct-append, sent_apart, sent_later}
use Rattle.sc_bucket.proofs.LedLemmas.{AreSound, AreSound-led}
use Rattle.sc_bucket.proofs.InOrderLemmas.{in_order-led}

-- the cores of a sound bucket are sound
pub cores_are_sound : (b : Bucket) → IsSound b → AreSound b.map b.journal.entries b.flight.messages b.feeds b.replicas
cores_are_sound b sound = record {
  leaders = sound.leaders;
  written = sound.written;
  held = sound.held;
  in_range = sound.in_range;
  clocks = sound.clocks;
}

-- its journal is as it has to be once a write was put in that may come next
HasJournal-put : (old new : Bucket) (cell : Arc Write Global) (at : ℕ) (messages : List Sent) → IsPut old cell at messages new
    → MayWrite old.journal.entries cell.value → BucketHasRoom 2 old
    → HasJournal old → HasJournal new
HasJournal-put old new cell at messages put may has_room journal =
    let longer = old.journal.entries ++ entry.Write cell ∷ [] in
    let legal : IsLegal old.first longer = IsLegal-push old.first old.journal.entries (entry.Write cell) journal.legal may in
    let slices : map_after old.first longer ≡ map_after old.first old.journal.entries =
    map_after-left old.first old.journal.entries (entry.Write cell) (LeavesSlices-write cell) in
    let more_owed = owed-push_legal_write old.first old.journal.entries cell journal.legal in
    let more_places = unsettled-push_legal_write old.first old.journal.entries cell journal.legal in
    let count : length new.journal.entries ≡ length old.journal.entries + 1 =
    ap length put.entries ∙ length-append old.journal.entries (entry.Write cell ∷ []) in
    record {
      first = subst IsMap (sym put.name.first) journal.first;
      begins = subst AreActive (sym put.name.first) journal.begins;
      legal = subst (λ j. IsLegal new.first j) (sym put.entries) (subst (λ f. IsLegal f longer) (sym put.name.first) legal);
      map_is = put.map_is ∙ journal.map_is ∙ sym (ap (λ f. map_after f new.journal.entries) put.name.first ∙ ap (map_after old.first) put.entries ∙ slices);
      unsettled_are = put.places ∙ ap (λ ps. ps ++ length old.journal.entries ∷ []) journal.unsettled_are ∙ sym (ap unsettled put.entries ∙ more_places);
      owed_is = put.owed_is ∙ ap (λ n. n + 1) journal.owed_is ∙ sym (ap (λ f. owed f new.journal.entries) put.name.first ∙ ap (owed old.first) put.entries ∙ more_owed);
      room = put.room;
      within = omega (arith, has_room, journal.owed_is, count, put.owed_is, put.name.limit);
      limit_from = omega (arith, journal.limit_from, put.name.limit);
      limit_to = omega (arith, journal.limit_to, put.name.limit);
    }

-- the map of a sound bucket is a map
pub bucket_has_map : (b : Bucket) → HasJournal b → IsMap b.map
bucket_has_map b journal =
    let idle : forming b.first ≡ [] =
    filter-none is_forming b.first
    (All-weaker (λ (slice : Slice). slice.state ≡ states.Active) (λ slice. is_forming slice ≡ false) active_settled b.first journal.begins) in
    let kept = keeps_a_map b.first b.journal.entries journal.first idle journal.legal in
    subst IsMap (sym journal.map_is) kept.0

-- the messages to followers
abbrev pub sent_by : Bucket → Write → CoreId → List Sent
sent_by b write leader = sent_to (length b.journal.entries) write (followers b.map b.replicas write.hash leader)

-- a write says nothing of any core
says-put : (old new : Bucket) (cell : Arc Write Global) → new.journal.entries ≡ old.journal.entries ++ entry.Write cell ∷ []
    → SaysSame old.journal.entries new.journal.entries
says-put old new cell entries =
    SaysSame-push old.journal.entries new.journal.entries (entry.Write cell) entries (LeavesCores-write cell) (λ slice core_in. refl)

-- an earlier message is still of a write that is not settled, and to a core that is there and not down
IsSent-put : (old new : Bucket) (cell : Arc Write Global) (message : Sent) → new.journal.entries ≡ old.journal.entries ++ entry.Write cell ∷ []
    → map name_of new.replicas ≡ map name_of old.replicas → IsSent old message → IsSent new message
IsSent-put old new cell message entries names sent =
    let within = write_at_within old.journal.entries message.place (subst IsSome (sym sent.write) refl) in
    record {
      write = ap (λ journal. write_at journal message.place) entries
          ∙ write_at-append old.journal.entries (entry.Write cell ∷ []) message.place within ∙ sent.write;
      unsettled = ap (λ journal. is_settled journal message.place) entries
          ∙ is_settled-push_other old.journal.entries (entry.Write cell) message.place (λ _. refl) ∙ sent.unsettled;
      core = subst (λ (ids : List CoreId). Contains ids message.core) (sym names) sent.core;
      up = (says-put old new cell entries).down (key_of_core message.core) ∙ sent.up;
    }

-- and so is a message of the new write
IsSent-new : (old new : Bucket) (cell : Arc Write Global) (leader name : CoreId) → new.journal.entries ≡ old.journal.entries ++ entry.Write cell ∷ []
    → map name_of new.replicas ≡ map name_of old.replicas → HasJournal old → AreMarked old.journal.entries old.replicas
    → IsFollower old.map old.replicas cell.value.hash leader name
    → IsSent new (record { place = length old.journal.entries; core = name; write = cell.value })
IsSent-new old new cell leader name entries names journal marked follower =
    let place = length old.journal.entries in
    let down : follower.core.down ≡ is_down old.journal.entries (core_key follower.core) =
    (All-contains (IsMarked old.journal.entries) old.replicas follower.core marked follower.core_there).down in
    record {
      write = ap (λ journal. write_at journal place) entries ∙ write_at-push_end old.journal.entries (entry.Write cell);
      unsettled = ap (λ journal. is_settled journal place) entries
          ∙ is_settled-push_other old.journal.entries (entry.Write cell) place (λ _. refl)
          ∙ end_is_open old.first old.journal.entries journal.legal;
      core = subst (λ (ids : List CoreId). Contains ids name) (sym names)
          (follower_is_there old.map old.replicas cell.value.hash leader name follower);
      up = (says-put old new cell entries).down (key_of_core name)
          ∙ ap (λ (id : CoreId). is_down old.journal.entries (key_of_core id)) (sym follower.core_is) ∙ sym down ∙ follower.up;
    }

-- the messages are as they have to be once those of a write were sent
AreSent-put : (old new : Bucket) (cell : Arc Write Global) (leader : CoreId) → new.journal.entries ≡ old.journal.entries ++ entry.Write cell ∷ []
    → map name_of new.replicas ≡ map name_of old.replicas → new.flight.messages ≡ old.flight.messages ++ sent_by old cell.value leader
    → IsSound old → AreSent new
AreSent-put old new cell leader entries names messages sound =
    let place = length old.journal.entries in
    let to : List CoreId = followers old.map old.replicas cell.value.hash leader in
    let follow = are_followers old.map old.replicas cell.value.hash leader in
    let earlier : All (λ (message : Sent). message.place < length old.journal.entries) old.flight.messages =
    All-weaker (IsSent old) (λ (message : Sent). message.place < length old.journal.entries)
    (λ message sent. write_at_within old.journal.entries message.place (subst IsSome (sym sent.write) refl)) old.flight.messages sound.messages.each in
    let is_map = bucket_has_map old sound.journal in
    record {
      each = subst (All (IsSent new)) (sym messages)
          (All-append (IsSent new) old.flight.messages (sent_by old cell.value leader)
          (All-weaker (IsSent old) (IsSent new) (λ message. IsSent-put old new cell message entries names) old.flight.messages sound.messages.each)
          (All-map (IsSent new) (λ (name : CoreId). record { place = length old.journal.entries; core = name; write = cell.value }) to
          (All-weaker (IsFollower old.map old.replicas cell.value.hash leader)
          (λ (name : CoreId). IsSent new (record { place = length old.journal.entries; core = name; write = cell.value }))
          (λ name. IsSent-new old new cell leader name entries names sound.journal sound.cores.marked) to follow)));
      once = subst (IsDistinct is_same_message) (sym messages)
          (IsDistinct-append is_same_message old.flight.messages (sent_by old cell.value leader) sound.messages.once
          (sent_apart place cell.value to (followers_apart old.map old.replicas cell.value.hash leader is_map
          (AreApart-from_ascending old.replicas sound.cores.ascend)))
          (sent_later old.flight.messages place cell.value to earlier));
    }

-- each core has room for what is pending once the leader led the write
spares-put : (cores : List Core) (messages : List Sent) (feeds : List FeedState) (at : ℕ) (core : Core) (write : Write)
    → slice_get cores at ≡ Some core → All (HasSpare messages feeds) cores
    → length (pending messages feeds core) < core.cell_spare
    → All (HasSpare messages feeds) (set cores at (led core write))
spares-put cores messages feeds at core write there spares one_more =
    let before = All-slice_get (HasSpare messages feeds) cores at core spares there in
    All-set_apart (HasSpare messages feeds) cores at (led core write)
    (record {
      cells = omega (arith, one_more, spare_after-≥ core.cells core.cell_spare write);
      buffer = before.buffer;
    })
    (λ k other apart found. All-slice_get (HasSpare messages feeds) cores k other spares found)

-- a write commits nothing
HasSearchers-put : (old new : Bucket) (cell : Arc Write Global) → new.map ≡ old.map → new.searchers ≡ old.searchers
    → new.journal.entries ≡ old.journal.entries ++ entry.Write cell ∷ [] → HasSearchers old → HasSearchers new
HasSearchers-put old new cell same_map same_searchers entries has =
    HasSearchers-grown old new same_map same_searchers
    (ap last_commit entries ∙ last_commit-push_other old.journal.entries (entry.Write cell) refl)
    (ap committed entries ∙ committed-push_other old.journal.entries (entry.Write cell) refl)
    (λ write there. subst (λ (these : List Write). Contains these write)
    (sym (ap writes entries ∙ writes-push_write old.journal.entries cell))
    (Contains-append_left (writes old.journal.entries) (arc_value cell ∷ []) write there))
    has

-- a sound bucket is sound once a write was put in that may come next, and whose hash the core at the place leads, and was sent to
-- the others
pub IsSound-put : (old new : Bucket) (cell : Arc Write Global) (at : ℕ) (messages : List Sent) → IsPut old cell at messages new
    → new.spares ≡ old.spares → MayWrite old.journal.entries cell.value
    → BucketHasRoom 2 old
    → HasMemory old at messages → (leader : IsLeaderAt old.map old.replicas cell.value.hash at)
    → messages ≡ sent_by old cell.value leader.core.core → leader.core.clock <ℤ cell.value.version → IsSound old → IsSound new
IsSound-put old new cell at messages put same_spares may has_room memory leader sent above sound =
    let is_map = bucket_has_map old sound.journal in
    let longer = old.journal.entries ++ entry.Write cell ∷ [] in
    let more = old.flight.messages ++ sent_by old cell.value leader.core.core in
    let cores = AreSound-led old.map old.journal.entries old.flight.messages old.feeds old.replicas at
    (length old.journal.entries) cell is_map may.hash (AreApart-from_ascending old.replicas sound.cores.ascend)
    (cores_are_sound old sound) leader in
    let exactly : new.replicas ≡ set old.replicas at (led leader.core cell.value) = put.cores leader.core leader.found in
    let flight : new.flight.messages ≡ more = put.flight_is ∙ ap (λ (ms : List Sent). old.flight.messages ++ ms) sent in
    let sound_cores : AreSound new.map new.journal.entries new.flight.messages new.feeds new.replicas =
    subst (λ m. AreSound m new.journal.entries new.flight.messages new.feeds new.replicas) (sym put.map_is)
    (subst (λ j. AreSound old.map j new.flight.messages new.feeds new.replicas) (sym put.entries)
    (subst (λ ms. AreSound old.map longer ms new.feeds new.replicas) (sym flight)
    (subst (λ fs. AreSound old.map longer more fs new.replicas) (sym put.split.feeds)
    (subst (AreSound old.map longer more old.feeds) (sym exactly) cores)))) in
    let alike : AreAlike old.replicas new.replicas =
    subst (AreAlike old.replicas) (sym exactly)
    (AreAlike-set old.replicas at leader.core (led leader.core cell.value) leader.found refl) in
    let names : map name_of new.replicas ≡ map name_of old.replicas = names-alike old.replicas new.replicas alike in
    let marks : map name_and_mark new.replicas ≡ map name_and_mark old.replicas =
    ap (map name_and_mark) exactly
    ∙ set-kept name_and_mark old.replicas at leader.core (led leader.core cell.value) leader.found refl in
    let same_split : open_split new.journal.entries ≡ open_split old.journal.entries =
    ap open_split put.entries ∙ open_split-left old.journal.entries (entry.Write cell) (LeavesSlices-write cell) in
    let same_idle : is_idle new.phase ≡ is_idle old.phase = ap is_idle put.split.phase in
    record {
      journal = HasJournal-put old new cell at messages put may has_room sound.journal;
      leaders = sound_cores.leaders;
      written = sound_cores.written;
      held = sound_cores.held;
      in_range = sound_cores.in_range;
      clocks = sound_cores.clocks;
      in_order = subst (All IsCoreWithoutRoom) (sym exactly)
          (All-set_apart IsCoreWithoutRoom old.replicas at (led leader.core cell.value)
          (in_order-led leader.core cell.value above
          (All-slice_get IsCoreWithoutRoom old.replicas at leader.core sound.in_order leader.found))
          (λ k other apart found. All-slice_get IsCoreWithoutRoom old.replicas k other sound.in_order found));
      searchers = HasSearchers-put old new cell put.map_is put.searchers_are put.entries sound.searchers;
      prepared = ArePrepared-same old new put.split.phase put.map_is put.searchers_are same_spares sound.prepared;
      messages = AreSent-put old new cell leader.core.core put.entries names flight sound;
      room = subst (λ (ms : List Sent). All (HasSpare ms new.feeds) new.replicas) (sym put.flight_is)
          (subst (λ (fs : List FeedState). All (HasSpare (old.flight.messages ++ messages) fs) new.replicas)
          (sym put.split.feeds)
          (subst (All (HasSpare (old.flight.messages ++ messages) old.feeds)) (sym exactly)
          (spares-put old.replicas (old.flight.messages ++ messages) old.feeds at leader.core cell.value leader.found
          memory.cores (memory.one_more leader.core leader.found))));
      cores = HasCores-alike old new same_idle put.map_is alike
          (AreMarked-left old.journal.entries new.journal.entries old.replicas new.replicas marks
          (says-put old new cell put.entries) sound.cores.marked) sound.cores;
      feeds = AreFeeds-alike old new same_idle put.map_is put.split.feeds alike sound.feeds;
      phase = subst (IsInPhase new) (sym put.split.phase)
          (IsInPhase-alike old new old.phase same_split put.map_is alike sound.phase);
    }
