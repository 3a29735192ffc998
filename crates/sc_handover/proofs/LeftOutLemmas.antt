-- A bucket is sound once slices left its map, with their cores and the messages to them.
use Rattle.std.proofs.Common.{◌≡◌, ◌⊎◌, ◌∙◌, ℕ, pos, Bool, true, false, List, [], ◌∷◌, ◌++◌, map, filter, None, All, Contains, refl, sym, ap, subst}
use Rattle.std.specs.List.{IsDistinct}
use Rattle.std.proofs.lemmas.List.Elements.{All-contains, All-filter, All-weaker}
use Rattle.std.proofs.lemmas.List.Kept.{AllPairs-filter}
use Rattle.std.proofs.lemmas.Map.Keys.{apart_from_distinct, IsDistinct-from_apart}
use Rattle.sc_record.specs.Writes.{is_of, Write}
use Rattle.sc_record.specs.declared.slice.CoreId.{CoreId}
use Rattle.sc_record.specs.declared.entry.Entry.{Entry}
use Rattle.sc_cluster.specs.declared.slice.Slice.{Slice}
use Rattle.sc_cluster.specs.Slices.{is_active, forming}
use Rattle.sc_cluster.proofs.ListLemmas.{filter-filter, Contains-map, Contains-filter}
use Rattle.sc_cluster.proofs.PairLemmas.{Contains-from_map}
use Rattle.sc_replica.specs.Core.{Core}
use Rattle.sc_journal.specs.Journal.{as_write, writes, last_of, last_write}
use Rattle.sc_journal.specs.Committed.{commits, committed, last_commit}
use Rattle.sc_journal.specs.Splits.{open_split}
use Rattle.sc_journal.proofs.CommittedLemmas.{committed-push_other, last_commit-push_other}
use Rattle.sc_journal.proofs.JournalLemmas.{writes-push_other}
use Rattle.sc_journal.proofs.SettledLemmas.{SettlesNothing}
use Rattle.sc_bucket.specs.Kept.{Sent}
use Rattle.sc_replicas.specs.Cores.{is_of_one, IsCoreWithoutRoom}
use Rattle.sc_bucket.specs.Flight.{in_flight, is_to, is_same_message}
use Rattle.sc_bucket.specs.Pending.{to_feed, pending}
use Rattle.sc_replicas.specs.Searchers.{standing_rows}
use Rattle.sc_bucket.specs.Searchers.{ShowsCommitted, ArePrepared}
use Rattle.sc_bucket.specs.Sound.{HasJournal, HasSearchers, IsSent, AreSent, AreFeeds, may_catch_up, IsInPhase, IsSound}
use Rattle.sc_bucket.specs.declared.bucket.Bucket.{Bucket}
use Rattle.sc_bucket.specs.declared.phase.Phase.TheVariants as phases
use Rattle.sc_replicas.specs.declared.standing.Standing.{Standing}
use Rattle.sc_bucket.proofs.AcceptLemmas.{bucket_has_map}
use Rattle.sc_replicas.proofs.CoreLemmas.{is_core-Decides, name_of}
use Rattle.sc_bucket.proofs.DeliveredLemmas.{IsSoundCore}
use Rattle.sc_bucket.proofs.DeliverLemmas.{IsSoundIn}
use Rattle.sc_bucket.proofs.SearcherLemmas.{HasSearchers-grown}
use Rattle.sc_cluster.specs.Changes.{Change}
use Rattle.sc_handover.proofs.NotedLemmas.{MayTakeOut, TakesOut, HasJournal-noted}
use Rattle.sc_handover.proofs.SentLemmas.{IsSent-push}
use Rattle.sc_handover.proofs.EachCoreLemmas.{core_in, IsSound-each}
use Rattle.sc_handover.proofs.KeptLemmas.{AreSome, is_kept, All-kept, SaysTheSame, HasCores-kept}

-- the message is to a core of one of the slices
abbrev pub is_kept_message : List Slice → Sent → Bool
is_kept_message slices message = is_of_one slices message.core

-- Slices left a bucket, and no split is open then: its map has some of its slices, every active one among them. Its
-- cores and its messages are those of these slices, each of these cores is still to be fed what it was, and none may still be catching up
-- that might not before. Its journal got an entry that is no write, commits nothing, settles none, and says the same of those cores.
record LeavesOut (old : Bucket) (one : Entry) (new : Bucket) : Type 0 where
  pub some : AreSome new.map old.map
  pub same_active : filter is_active new.map ≡ filter is_active old.map
  pub entries : new.journal.entries ≡ old.journal.entries ++ one ∷ []
  pub no_write : as_write one ≡ None
  pub no_commit : commits one ≡ false
  pub settles_nothing : SettlesNothing one
  pub same : (name : CoreId) → is_of_one new.map name ≡ true
      → SaysTheSame old.journal.entries (old.journal.entries ++ one ∷ []) name
  pub free : (slice : Slice) (name : CoreId) → Contains new.map slice → may_catch_up new.phase slice name ≡ false
      → may_catch_up old.phase slice name ≡ false
  pub phase_is : new.phase ≡ phases.Idle
  pub idle : open_split new.journal.entries ≡ None
  pub whole : forming new.map ≡ []
  pub messages : new.flight.messages ≡ filter (is_kept_message new.map) old.flight.messages
  pub cores : new.replicas ≡ filter (is_kept new.map) old.replicas
  pub fed : (name : CoreId) → is_of_one new.map name ≡ true → to_feed new.feeds name ≡ to_feed old.feeds name
  pub feeds : AreFeeds new
  pub searchers_are : new.searchers ≡ old.searchers
  pub spares_are : new.spares ≡ None

-- the writes of the journal are the same
same_writes : (old : Bucket) (one : Entry) (new : Bucket) → LeavesOut old one new
    → writes new.journal.entries ≡ writes old.journal.entries
same_writes old one new leaves = ap writes leaves.entries ∙ writes-push_other old.journal.entries one leaves.no_write

-- what is in flight to a core of one of the slices stays
in_flight-kept : (slices : List Slice) (messages : List Sent) (name : CoreId) → is_of_one slices name ≡ true
    → in_flight (filter (is_kept_message slices) messages) name ≡ in_flight messages name
in_flight-kept slices messages name kept =
    ap (map (λ (message : Sent). message.write)) (filter-filter (is_to name) (is_kept_message slices) own messages)
  where
    own : (message : Sent) → is_to name message ≡ true → is_kept_message slices message ≡ true
    own message is = subst (λ (n : CoreId). is_of_one slices n ≡ true) ((is_core-Decides name message.core).0 is) kept

-- what is true of a core stays true with fewer slices, and with a journal of the same writes
kept_is_sound : (all some : List Slice) (before after : List Entry) (sent awaited : List Write) (core : Core)
    → AreSome some all → writes after ≡ writes before → IsSoundCore all before sent awaited core
    → IsSoundCore some after sent awaited core
kept_is_sound all some before after sent awaited core among same sound = record {
  serves = λ slice there named active leader.
      let serves = sound.serves slice (among slice there) named active leader in
      (serves.0, λ id within. serves.1 id within ∙ sym (same_last id));
  written = subst (λ (these : List Write). All (Contains these) core.cells × All (Contains these) awaited) (sym same)
      sound.written;
  held = λ slice there named attached id write within last.
      sound.held slice (among slice there) named attached id write within (sym (same_last id) ∙ last);
  in_range = λ slice there named. sound.in_range slice (among slice there) named;
  clock = subst (λ (these : List Write).
      (core.clock ≡ pos 0) ⊎ Contains (map (λ (write : Write). write.version) these) core.clock)
      (sym same) sound.clock;
  cell_room = sound.cell_room;
  buffer_room = sound.buffer_room;
} where
  same_last : (id : List ℕ) → last_write after id ≡ last_write before id
  same_last id = ap (λ (these : List Write). last_of (filter (is_of id) these)) same

-- so each core that stays is sound
cores_are_sound : (old : Bucket) (one : Entry) (new : Bucket) → IsSound old → LeavesOut old one new
    → All (IsSoundIn new new.flight.messages) new.replicas
cores_are_sound old one new sound leaves =
    subst (All (IsSoundIn new new.flight.messages)) (sym leaves.cores)
    (All-kept (IsSoundIn new new.flight.messages) (is_kept new.map) old.replicas each)
  where
    each : (core : Core) → Contains old.replicas core → is_kept new.map core ≡ true
        → IsSoundIn new new.flight.messages core
    each core there kept =
        let before : IsSoundIn old old.flight.messages core = core_in old core sound there in
        let sent : in_flight new.flight.messages core.core ≡ in_flight old.flight.messages core.core =
        ap (λ (these : List Sent). in_flight these core.core) leaves.messages
        ∙ in_flight-kept new.map old.flight.messages core.core kept in
        let fed : to_feed new.feeds core.core ≡ to_feed old.feeds core.core = leaves.fed core.core kept in
        let was_sent : List Write = in_flight old.flight.messages core.core in
        let IsSoundWith : List Write → List Write → Type 0 =
        λ these more. IsSoundCore new.map new.journal.entries these (these ++ core.buffer ++ more) core in
        subst (λ these. IsSoundWith these (to_feed new.feeds core.core)) (sym sent)
        (subst (IsSoundWith was_sent) (sym fed)
        (kept_is_sound old.map new.map old.journal.entries new.journal.entries was_sent
        (pending old.flight.messages old.feeds core) core leaves.some (same_writes old one new leaves) before))

-- a message that stays is to a core that stays, and of a write that is not settled
IsSent-kept : (old : Bucket) (one : Entry) (new : Bucket) (message : Sent) → LeavesOut old one new
    → is_kept_message new.map message ≡ true → IsSent old message → IsSent new message
IsSent-kept old one new message leaves kept sent =
    let (core, there, is) = Contains-from_map name_of old.replicas message.core sent.core in
    let own : is_kept new.map core ≡ true = ap (is_of_one new.map) is ∙ kept in
    let stays : Contains new.replicas core =
    subst (λ (these : List Core). Contains these core) (sym leaves.cores)
    (Contains-filter (is_kept new.map) old.replicas core there own) in
    IsSent-push old new one message leaves.entries leaves.settles_nothing (leaves.same message.core kept).down
    (subst (Contains (map name_of new.replicas)) is (Contains-map name_of new.replicas core stays)) sent

AreSent-kept : (old : Bucket) (one : Entry) (new : Bucket) → LeavesOut old one new → AreSent old → AreSent new
AreSent-kept old one new leaves sent = record {
  each = subst (All (IsSent new)) (sym leaves.messages)
      (All-kept (IsSent new) kept old.flight.messages
      (λ message there own. IsSent-kept old one new message leaves own
      (All-contains (IsSent old) old.flight.messages message sent.each there)));
  once = subst (IsDistinct is_same_message) (sym leaves.messages)
      (IsDistinct-from_apart is_same_message (filter kept old.flight.messages)
      (AllPairs-filter (λ (these those : Sent). is_same_message these those ≡ false) kept old.flight.messages
      (λ i j d before within. apart_from_distinct is_same_message old.flight.messages i j d sent.once before within)));
} where
  kept : Sent → Bool
  kept = is_kept_message new.map

-- the active slices have their searchers
HasSearchers-kept : (old : Bucket) (one : Entry) (new : Bucket) → LeavesOut old one new → HasSearchers old
    → HasSearchers new
HasSearchers-kept old one new leaves has =
    HasSearchers-grown (record old { map = new.map }) new refl leaves.searchers_are
    (ap last_commit leaves.entries ∙ last_commit-push_other old.journal.entries one leaves.no_commit)
    (ap committed leaves.entries ∙ committed-push_other old.journal.entries one leaves.no_commit)
    (λ write there. subst (λ (these : List Write). Contains these write) (sym (same_writes old one new leaves)) there)
    (record {
      each_slice = has.each_slice ∙ ap (map (λ (slice : Slice). slice.id)) (sym leaves.same_active);
      show = All-weaker (Show old.map) (Show new.map)
          (λ searcher shows slice there. shows slice (leaves.some slice there)) old.searchers has.show;
      place = has.place;
    })
  where
    Show : List Slice → Standing → Type 0
    Show slices searcher = (slice : Slice) → Contains slices slice → slice.id ≡ searcher.slice
        → (searcher.range ≡ slice.range) × ShowsCommitted old.journal.entries slice (standing_rows searcher)

-- So the bucket is sound, where its journal is as it has to be.
IsSound-left_out : (old : Bucket) (one : Entry) (new : Bucket) → IsSound old → HasJournal new
    → LeavesOut old one new → IsSound new
IsSound-left_out old one new sound journal leaves =
    IsSound-each new (cores_are_sound old one new sound leaves)
    (subst (All IsCoreWithoutRoom) (sym leaves.cores) (All-filter (is_kept new.map) IsCoreWithoutRoom old.replicas sound.in_order))
    journal
    (HasSearchers-kept old one new leaves sound.searchers)
    (subst (λ phase. ArePrepared phase new.map new.searchers new.spares) (sym leaves.phase_is) leaves.spares_are)
    (AreSent-kept old one new leaves sound.messages)
    (HasCores-kept old new (bucket_has_map old sound.journal) leaves.some leaves.cores
    (λ name kept. subst (λ (entries : List Entry). SaysTheSame old.journal.entries entries name) (sym leaves.entries)
    (leaves.same name kept))
    leaves.free sound.cores)
    leaves.feeds
    (subst (IsInPhase new) (sym leaves.phase_is) (record { idle = leaves.idle; whole = leaves.whole }))

-- what becomes of the feeds where slices leave the map, and of the cores that may still be catching up
pub record LeavesFeeds (old new : Bucket) : Type 0 where
  pub free : (slice : Slice) (name : CoreId) → Contains new.map slice → may_catch_up new.phase slice name ≡ false
      → may_catch_up old.phase slice name ≡ false
  pub fed : (name : CoreId) → is_of_one new.map name ≡ true → to_feed new.feeds name ≡ to_feed old.feeds name
  pub feeds : AreFeeds new

-- It is sound where slices left its map by an entry that may take them out, and the feeds are as they have to be.
pub IsSound-taken_out : (old : Bucket) (one : Entry) (change : Change) (less : ℕ) (new : Bucket) → IsSound old
    → MayTakeOut old one change less → TakesOut old one change less new → new.phase ≡ phases.Idle → LeavesFeeds old new
    → IsSound new
IsSound-taken_out old one change less new sound may takes idle leaves =
    IsSound-left_out old one new sound (HasJournal-noted old new one change less sound.journal may takes) (record {
      some = subst (λ slices. AreSome slices old.map) (sym takes.loses.map_is) may.among;
      same_active = ap (filter is_active) takes.loses.map_is ∙ may.same_active;
      entries = takes.loses.entries;
      no_write = may.no_write;
      no_commit = may.no_commit;
      settles_nothing = may.settles_nothing;
      same = subst (λ slices. (name : CoreId) → is_of_one slices name ≡ true
          → SaysTheSame old.journal.entries (old.journal.entries ++ one ∷ []) name)
          (sym takes.loses.map_is) may.same;
      free = leaves.free;
      phase_is = idle;
      idle = ap open_split takes.loses.entries ∙ may.idle;
      whole = ap forming takes.loses.map_is ∙ may.whole;
      messages = takes.loses.messages;
      cores = takes.loses.cores;
      fed = leaves.fed;
      feeds = leaves.feeds;
      searchers_are = takes.loses.searchers_are;
      spares_are = takes.spares_are;
    })
