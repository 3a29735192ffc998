-- What a commit asks of a bucket is so, and a bucket is sound once it was committed.
use Rattle.std.proofs.Common.{◌≡◌, ◌∙◌, ◌≤◌, ◌+◌, ℕ, Bool, [], ◌∷◌, ◌++◌, List, length, map, get_or, refl, sym, ap, subst, All, Contains, true, filter, Decides, IsSome, arith}
use Rattle.std.specs.Cmp.Lexicographic.{slice_cmp, texts_ties}
use Rattle.std.specs.Ordering.{nat_cmp, eq_by_cmp}
use Rattle.std.specs.List.{IsDistinct}
use Rattle.std.proofs.lemmas.Cmp.{eq_by_cmp_equiv, nat_list_cmp_total}
use Rattle.std.proofs.lemmas.List.{length-map, length_push}
use Rattle.std.proofs.lemmas.List.Elements.{All-contains, All-weaker}
use Rattle.std.proofs.lemmas.Map.Keys.{IsDistinct-from_sorted}
use Rattle.std.proofs.lemmas.Map.Made.{is_member-Decides, length-le_from_is_member}
use Rattle.std.proofs.lemmas.Slice.Eq.{bytes_eq-Decides}
use Rattle.sc_record.specs.Writes.{AscendById, Write}
use Rattle.sc_record.specs.Names.{key_of_core}
use Rattle.sc_record.specs.declared.entry.Entry.{Entry}
use Rattle.sc_record.specs.declared.entry.Entry.TheVariants as entry
use Rattle.sc_snapshot.specs.Rows.{SnapshotState, AreRows}
use Rattle.sc_cluster.specs.declared.slice.Slice.{Slice}
use Rattle.sc_cluster.specs.Map.{IsMap}
use Rattle.sc_cluster.specs.Slices.{is_active, is_active_state}
use Rattle.sc_cluster.proofs.LeaderLemmas.{same_from_id}
use Rattle.sc_cluster.proofs.ListLemmas.{Contains-map, Contains-filter, Contains-from_filter}
use Rattle.sc_replica.specs.Core.{Core}
use Rattle.sc_journal.specs.Journal.{writes, last_write, write_at, is_settled, unsettled}
use Rattle.sc_journal.specs.Splits.{map_after, open_split, owed}
use Rattle.sc_journal.specs.Legal.{IsLegal}
use Rattle.sc_journal.specs.Committed.{commits, committed, last_commit}
use Rattle.sc_journal.proofs.JournalLemmas.{length-writes, writes-push_other, write_at-append, write_at_within}
use Rattle.sc_journal.proofs.CommittedLemmas.{committed-push_commit, last_commit-push_commit}
use Rattle.sc_journal.proofs.DownLemmas.{LeavesCores-committed}
use Rattle.sc_journal.proofs.SettledLemmas.{unsettled-push_other, is_settled-push_other}
use Rattle.sc_journal.proofs.SplitLemmas.{map_after-left, open_split-left, owed-push_committed, LeavesSlices-committed}
use Rattle.sc_journal.proofs.LegalLemmas.{IsLegal-push}
use Rattle.sc_replicas.specs.Cores.{without_room}
use Rattle.sc_replicas.specs.Searchers.{standing_rows}
use Rattle.sc_bucket.specs.Searchers.{ShowsCommitted, IsTaken, AreTaken, ArePrepared}
use Rattle.sc_bucket.specs.Kept.{Sent, FeedState}
use Rattle.sc_bucket.specs.Flight.{is_same_message}
use Rattle.sc_bucket.specs.Sound.{AreActive, HasJournal, HasSearchers, AreWritten, Serves, IsSent, HasSpare, IsSound}
use Rattle.sc_bucket.specs.Events.{Commits}
use Rattle.sc_bucket.specs.declared.bucket.Bucket.{Bucket}
use Rattle.sc_replicas.specs.declared.standing.Standing.{Standing}
use Rattle.sc_replicas.proofs.CoreLemmas.{element_from_map}
use Rattle.sc_bucket.proofs.SoundLemmas.{SaysSame, SaysSame-push, IsSent-left, IsSound-left}
use Rattle.sc_bucket.proofs.TakenLemmas.{Contains-slice_get}
use Rattle.sc_bucket.proofs.AcceptLemmas.{bucket_has_map}
use Rattle.sc_bucket.proofs.SearcherLemmas.{IsAt, AreAt-taken}
use Rattle.sc_bucket.proofs.UncommittedLemmas.{no_write}

-- the ids of writes, and how they compare
abbrev id_of : Write → List ℕ
id_of write = write.id

abbrev same_id : List ℕ → List ℕ → Bool
same_id one other = eq_by_cmp (slice_cmp nat_cmp) one other

same_id-Decides : (one other : List ℕ) → Decides (same_id one other) (one ≡ other)
same_id-Decides one other = subst (λ b. Decides b (one ≡ other)) (texts_ties one other) (bytes_eq-Decides one other)

-- an id of some writes is one of others among which they are
ids_among : (some all : List Write) (id : List ℕ) → All (Contains all) some → Contains (map id_of some) id → Contains (map id_of all) id
ids_among some all id among there =
    let (k, write, at, is) = element_from_map id_of some id there in
    let one : Contains all write = All-contains (Contains all) some write among (Contains-slice_get some k write at) in
    subst (Contains (map id_of all)) is (Contains-map id_of all write one)

-- writes whose ids ascend are no more than all those among which they are
pub length-among : (some all : List Write) → AscendById some → All (Contains all) some → length some ≤ length all
length-among some all ascend among =
    let distinct : IsDistinct same_id (map id_of some) = IsDistinct-from_sorted (slice_cmp nat_cmp) (map id_of some) ascend in
    let fewer : length (map id_of some) ≤ length (map id_of all) =
    length-le_from_is_member (eq_by_cmp_equiv nat_list_cmp_total) (map id_of some) (map id_of all) distinct
    (λ id has. (is_member-Decides same_id-Decides (map id_of all) id).1
    (ids_among some all id among ((is_member-Decides same_id-Decides (map id_of some) id).0 has))) in
    omega (arith, fewer, length-map some id_of, length-map all id_of)

-- the cells of the cores of a sound bucket may be rows
pub AreRows-sound : (b : Bucket) → IsSound b → All (λ (core : Core). AreRows core.cells) b.replicas
AreRows-sound b sound k d below =
    let ascends = (sound.in_order k d below).ascends in
    let fewer = length-among (get_or b.replicas k d).cells (writes b.journal.entries) ascends (sound.written k d below).0 in
    record {
      ascend = ascends;
      bounded = omega (arith, fewer, length-writes b.journal.entries, sound.journal.within, sound.journal.limit_to);
    }

-- what a commit does with the parts of a bucket that its event doesn't name
pub record CommitsParts (old new : Bucket) : Type 0 where
  pub unsettled_are : new.unsettled.places ≡ old.unsettled.places
  pub owed_is : new.owed ≡ old.owed
  pub room : new.owed ≤ new.journal.room
  pub prepared : ArePrepared old.phase old.map new.searchers new.spares

-- its journal is as it has to be
HasJournal-committed : (old new : Bucket) → HasJournal old → Commits old new → CommitsParts old new → HasJournal new
HasJournal-committed old new journal commits parts =
    let one : Entry = entry.Committed in
    let longer : List Entry = old.journal.entries ++ one ∷ [] in
    let legal : IsLegal old.first longer = IsLegal-push old.first old.journal.entries one journal.legal tt in
    let count : length new.journal.entries ≡ length old.journal.entries + 1 = ap length commits.entries ∙ length_push old.journal.entries one in
    record {
      first = subst IsMap (sym commits.name.first) journal.first;
      begins = subst AreActive (sym commits.name.first) journal.begins;
      legal = subst (λ first. IsLegal first new.journal.entries) (sym commits.name.first)
          (subst (IsLegal old.first) (sym commits.entries) legal);
      map_is = commits.map_is ∙ journal.map_is
          ∙ sym (map_after-left old.first old.journal.entries one LeavesSlices-committed)
          ∙ ap (map_after old.first) (sym commits.entries)
          ∙ ap (λ first. map_after first new.journal.entries) (sym commits.name.first);
      unsettled_are = parts.unsettled_are ∙ journal.unsettled_are
          ∙ sym (unsettled-push_other old.journal.entries one refl (λ place. refl)) ∙ ap unsettled (sym commits.entries);
      owed_is = parts.owed_is ∙ journal.owed_is ∙ sym (owed-push_committed old.first old.journal.entries)
          ∙ ap (owed old.first) (sym commits.entries) ∙ ap (λ first. owed first new.journal.entries) (sym commits.name.first);
      room = parts.room;
      within = omega (arith, count, parts.owed_is, journal.owed_is, commits.name.limit, commits.room);
      limit_from = omega (arith, commits.name.limit, journal.limit_from);
      limit_to = omega (arith, commits.name.limit, journal.limit_to);
    }

-- A bucket's searchers were taken as its journal got an entry that commits. Its map is this then, whose active slices are those of
-- the map before.
pub record TakesSearchers (old : Bucket) (one : Entry) (slices : List Slice) (searchers : List Standing) : Type 0 where
  pub commits_all : commits one ≡ true
  pub is_map : IsMap slices
  pub same_active : filter is_active slices ≡ filter is_active old.map
  pub taken : AreTaken old.map old.replicas (length old.journal.entries) searchers

-- the rows of a searcher that was taken of a slice are the cells of its leader, so they show what was written
shows_written : (old : Bucket) (one : Entry) (slices : List Slice) (searchers : List Standing) (searcher : Standing)
    (slice : Slice) → IsSound old → TakesSearchers old one slices searchers
    → IsTaken old.map old.replicas (length old.journal.entries) searcher → Contains slices slice → slice.id ≡ searcher.slice
    → (searcher.range ≡ slice.range) × ShowsCommitted (old.journal.entries ++ one ∷ []) slice (standing_rows searcher)
shows_written old one slices searchers searcher slice sound takes is there same =
    let entries : List Entry = old.journal.entries in
    let active : Contains (filter is_active old.map) is.slice =
    Contains-filter is_active old.map is.slice is.there (ap is_active_state is.active) in
    let still : Contains slices is.slice =
    (Contains-from_filter is_active slices is.slice
    (subst (λ (these : List Slice). Contains these is.slice) (sym takes.same_active) active)).0 in
    let alike : is.slice ≡ slice =
    same_from_id slices is.slice slice takes.is_map still there (sym is.slice_is ∙ sym same) in
    let rows : standing_rows searcher ≡ is.core.cells = ap (λ (snapshot : SnapshotState). snapshot.rows) is.snapshot_is in
    let written =
    All-contains (AreWritten entries old.flight.messages old.feeds) old.replicas is.core sound.written is.core_there in
    let serves = All-contains (λ (core : Core). (s : Slice) → Contains old.map s → s.id ≡ core.core.slice → Serves entries s core)
    old.replicas is.core sound.leaders is.core_there is.slice is.there (sym is.leader.0) is.active is.leader.1 in
    let all : writes (entries ++ one ∷ []) ≡ writes entries =
    writes-push_other entries one (no_write one takes.commits_all) in
    let last : committed (entries ++ one ∷ []) ≡ entries = committed-push_commit entries one takes.commits_all in (
      is.range_is ∙ ap (λ (s : Slice). s.range) alike,
      subst (ShowsCommitted (entries ++ one ∷ []) slice) (sym rows)
          (subst (λ s. ShowsCommitted (entries ++ one ∷ []) s is.core.cells) alike (record {
            written = subst (λ (these : List Write). All (Contains these) is.core.cells) (sym all) written.0;
            last = λ id within. serves.1 id within ∙ ap (λ journal. last_write journal id) (sym last);
          })),
    )

-- so the bucket has its searchers
pub HasSearchers-taken : (old new : Bucket) (one : Entry) → IsSound old
    → new.journal.entries ≡ old.journal.entries ++ one ∷ [] → TakesSearchers old one new.map new.searchers → HasSearchers new
HasSearchers-taken old new one sound entries takes = record {
  each_slice = takes.taken.each_slice ∙ ap (map (λ (slice : Slice). slice.id)) (sym takes.same_active);
  show = All-weaker (IsTaken old.map old.replicas (length old.journal.entries))
      (λ (searcher : Standing). (slice : Slice) → Contains new.map slice → slice.id ≡ searcher.slice
      → (searcher.range ≡ slice.range) × ShowsCommitted new.journal.entries slice (standing_rows searcher))
      show new.searchers takes.taken.taken;
  place = subst (λ place. All (IsAt place) new.searchers)
      (sym (ap last_commit entries ∙ last_commit-push_commit old.journal.entries one takes.commits_all))
      (AreAt-taken old.map old.replicas (length old.journal.entries) new.searchers takes.taken.taken);
} where
  show : (searcher : Standing) → IsTaken old.map old.replicas (length old.journal.entries) searcher
      → (slice : Slice) → Contains new.map slice → slice.id ≡ searcher.slice
      → (searcher.range ≡ slice.range) × ShowsCommitted new.journal.entries slice (standing_rows searcher)
  show searcher is slice there same =
      subst (λ (journal : List Entry). (searcher.range ≡ slice.range) × ShowsCommitted journal slice (standing_rows searcher))
      (sym entries)
      (shows_written old one new.map new.searchers searcher slice sound takes is there same)

-- nothing is said of any core
says-committed : (old new : Bucket) → Commits old new → SaysSame old.journal.entries new.journal.entries
says-committed old new commits =
    SaysSame-push old.journal.entries new.journal.entries entry.Committed commits.entries LeavesCores-committed (λ slice core_in. refl)

-- a message is still of a write that is not settled, and to a core that is there and not down
sent_still : (old new : Bucket) (message : Sent) → Commits old new → IsSent old message → IsSent new message
sent_still old new message commits sent =
    let one : Entry = entry.Committed in
    let written : IsSome (write_at old.journal.entries message.place) = subst IsSome (sym sent.write) refl in
    IsSent-left old new message (ap (map without_room) commits.cores)
    (ap (λ entries. write_at entries message.place) commits.entries
    ∙ write_at-append old.journal.entries (one ∷ []) message.place (write_at_within old.journal.entries message.place written))
    (ap (λ entries. is_settled entries message.place) commits.entries
    ∙ is_settled-push_other old.journal.entries one message.place (λ place. refl))
    ((says-committed old new commits).down (key_of_core message.core))
    sent

-- so the bucket is sound
pub IsSound-committed : (old new : Bucket) → IsSound old → Commits old new → CommitsParts old new → IsSound new
IsSound-committed old new sound commits parts =
    let one : Entry = entry.Committed in
    let journal : HasJournal new = HasJournal-committed old new sound.journal commits parts in
    IsSound-left old new sound commits.split journal commits.map_is
    (ap (map without_room) commits.cores)
    (ap writes commits.entries ∙ writes-push_other old.journal.entries one refl)
    (ap open_split commits.entries ∙ open_split-left old.journal.entries one LeavesSlices-committed)
    (says-committed old new commits)
    commits.messages
    (record {
      each = subst (All (IsSent new)) (sym commits.messages)
          (All-weaker (IsSent old) (IsSent new) (λ message. sent_still old new message commits) old.flight.messages sound.messages.each);
      once = subst (IsDistinct is_same_message) (sym commits.messages) sound.messages.once;
    })
    (subst (λ (these : List Sent). All (HasSpare these new.feeds) new.replicas) (sym commits.messages)
    (subst (λ (feeds : List FeedState). All (HasSpare old.flight.messages feeds) new.replicas) (sym commits.split.feeds)
    (subst (All (HasSpare old.flight.messages old.feeds)) (sym commits.cores) sound.room)))
    (HasSearchers-taken old new one sound commits.entries (record {
      commits_all = refl;
      is_map = bucket_has_map new journal;
      same_active = ap (filter is_active) commits.map_is;
      taken = commits.searchers_are;
    }))
    (subst (λ phase. ArePrepared phase new.map new.searchers new.spares) (sym commits.split.phase)
    (subst (λ slices. ArePrepared old.phase slices new.searchers new.spares) (sym commits.map_is) parts.prepared))
