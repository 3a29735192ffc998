-- What each event of a split makes of a bucket it makes of the bucket's part.
use Rattle.std.proofs.Common.{◌≡◌, ◌∙◌, ℕ, suc, ◌+◌, ◌-◌, ◌≤◌, Bool, true, false, cond, leb, nat_lt, List, [], ◌∷◌, ◌++◌, length, map, set, take, drop, slice_get, Some, refl, sym, ap, arith, length-drop}
use Rattle.std.specs.List.{remove}
use Rattle.std.specs.Option.{option_map}
use Rattle.std.proofs.Math.ListN.{drop_of_length-le}
use Rattle.std.proofs.lemmas.Bool.{le-leb, leb-true}
use Rattle.std.proofs.lemmas.List.{drop-map, map-append, map-set, take-map}
use Rattle.std.proofs.lemmas.Option.{slice_get-map}
use Rattle.std.proofs.lemmas.Simd.{map-map}
use Rattle.sc_record.specs.declared.slice.SliceId.{SliceId}
use Rattle.sc_record.specs.declared.slice.SubSlice.{SubSlice}
use Rattle.sc_record.specs.declared.slice.CoreId.{CoreId}
use Rattle.sc_record.specs.Writes.{Write}
use Rattle.sc_record.specs.declared.entry.Entry.{Entry}
use Rattle.sc_record.specs.declared.entry.Entry.TheVariants as entry
use Rattle.sc_cluster.specs.declared.slice.Slice.{Slice}
use Rattle.sc_cluster.specs.Slices.{forming}
use Rattle.sc_cluster.specs.Changes.{Change}
use Rattle.sc_cluster.proofs.ListLemmas.{filter-map, map-map_kept}
use Rattle.sc_ulog.specs.declared.mode.Mode.{Mode}
use Rattle.sc_ulog.specs.declared.mode.Mode.TheVariants.{Replaying}
use Rattle.sc_replica.specs.Core.{Core, fed_all, mode_left, replayed, replay_limit}
use Rattle.sc_replica.specs.Deliveries.{replaying}
use Rattle.sc_bucket.specs.Kept.{FeedState}
use Rattle.sc_replicas.specs.Cores.{core_number, is_of_one, put_by_name}
use Rattle.sc_bucket.specs.Flight.{in_flight, arrived}
use Rattle.sc_bucket.specs.Pending.{new_feed}
use Rattle.sc_bucket.specs.Sound.{IsSound}
use Rattle.sc_bucket.specs.declared.bucket.Bucket.{Bucket}
use Rattle.sc_bucket.specs.declared.phase.Phase.{Phase}
use Rattle.sc_bucket.proofs.SoundLemmas.{set-kept}
use Rattle.sc_bucket.proofs.TakenLemmas.{Contains-slice_get}
use Rattle.sc_handover.specs.Conditions.{IsInMode, CanReplay}
use Rattle.sc_handover.specs.Made.{first_core, empty_core, cells_now, first_feed, feed_limit, piece_of, moved_on, settled_sub}
use Rattle.sc_handover.specs.Events.{Begins, HasSameRest, FeedsPiece, StartsReplay, ReplaysPiece, GetsReady, Grows, Switches, LosesSlices, Aborts, Drops}
use Rattle.sc_handover.proofs.LastWriteLemmas.{same_from_key}
use Rattle.sc_keeper.specs.declared.part.CorePart.{CorePart}
use Rattle.sc_keeper.specs.declared.part.FeedPart.{FeedPart}
use Rattle.sc_keeper.specs.Part.{is_of_keeper, keeper_entries, left_in, part_of_core, part_of_feed, part_of}
use Rattle.sc_keeper.specs.Events.{made_core, PartBegins, KeepsPartRest, PartFeeds, PartStartsReplay, replayed_part, PartReplays, PartGetsReady, put_part_by_name, PartGrows, PartSwitches, PartLosesSlices, PartAborts, PartDrops}
use Rattle.sc_keeper.proofs.PartLemmas.{parts_of, parts-same_cores, part-fed_all, part-received_where, parts-arrived, keeper_entries-own}

-- the parts of the feeds
abbrev pub feeds_of : List FeedState → List FeedPart
feeds_of feeds = map part_of_feed feeds

-- what is made of an element at a place
pub found-map : {A B : Type 0} (f : A → B) (xs : List A) (k : ℕ) (x : A) → slice_get xs k ≡ Some x → slice_get (map f xs) k ≡ Some (f x)
found-map f xs k x found = slice_get-map f xs k ∙ ap (option_map f) found

-- what is made of each element but one
map-remove : {A B : Type 0} (f : A → B) (xs : List A) (at : ℕ) → map f (remove xs at) ≡ remove (map f xs) at
map-remove f xs at =
    map-append f (take at xs) (drop (suc at) xs)
    ∙ ap (λ ys. ys ++ map f (drop (suc at) xs)) (sym (take-map f at xs))
    ∙ ap (λ ys. take at (map f xs) ++ ys) (sym (drop-map f (suc at) xs))

-- where nothing but cores and feeds was changed, it was not of the part either
rest_of : (old new : Bucket) → HasSameRest old new → KeepsPartRest (part_of old) (part_of new)
rest_of old new rest = record { map_is = rest.map_is; phase_is = rest.phase_is; entries_are = ap keeper_entries rest.entries }

-- a split begins
pub begins_part : (old new : Bucket) (parent : SliceId) (subs : List SubSlice) → Begins old parent subs new
    → PartBegins (part_of old) parent subs (part_of new)
begins_part old new parent subs begun = record {
  map_is = begun.map_is;
  phase_is = begun.phase_is;
  cores_are = parts-same_cores (old.replicas ++ map (λ (sub : SubSlice). empty_core (first_core sub)) subs) new.replicas begun.cores
      ∙ map-append part_of_core old.replicas (map (λ (sub : SubSlice). empty_core (first_core sub)) subs)
      ∙ ap (λ parts. parts_of old.replicas ++ parts) (map-map part_of_core (λ (sub : SubSlice). empty_core (first_core sub)) subs);
  rows = length begun.leader.cells;
  feeds_are = ap feeds_of begun.feeds_are ∙ map-map part_of_feed (first_feed (cells_now old begun.leader)) subs;
  entries_are = keeper_entries-own old.journal.entries new.journal.entries (entry.Begun parent subs) refl begun.entries;
}

-- a core is fed a piece
pub feeds_part : (old new : Bucket) (name : CoreId) (is_done : Bool) → FeedsPiece old name is_done new
    → PartFeeds (part_of old) name is_done (part_of new)
feeds_part old new name is_done fed = record {
  rest = rest_of old new fed.rest;
  cores_are = ap parts_of fed.changed.cores
      ∙ set-kept part_of_core old.replicas fed.changed.core_at fed.changed.core (fed_all fed.changed.core (piece_of fed.feed))
      fed.changed.core_found (part-fed_all fed.changed.core (piece_of fed.feed));
  feed_at = fed.feed_at;
  feed = part_of_feed fed.feed;
  feed_found = found-map part_of_feed old.feeds fed.feed_at fed.feed fed.feed_found;
  feed_is = fed.feed_is;
  done = fed.done;
  feeds_are = ap feeds_of fed.feeds_are ∙ by is_done;
} where
  moved : FeedPart
  moved = record (part_of_feed fed.feed) { next = fed.feed.next + feed_limit }

  by : (b : Bool) → feeds_of (cond b (remove old.feeds fed.feed_at) (set old.feeds fed.feed_at (moved_on fed.feed)))
      ≡ cond b (remove (feeds_of old.feeds) fed.feed_at) (set (feeds_of old.feeds) fed.feed_at moved)
  by true = map-remove part_of_feed old.feeds fed.feed_at
  by false = map-set part_of_feed old.feeds fed.feed_at (moved_on fed.feed)

-- a core begins to replay
pub starts_replay_of_part : (old new : Bucket) (name : CoreId) → StartsReplay old name new
    → PartStartsReplay (part_of old) name (part_of new)
starts_replay_of_part old new name started = record {
  rest = rest_of old new started.rest;
  feeds_are = ap feeds_of started.feeds_are;
  left = length started.changed.core.buffer;
  changed = record {
    core_at = started.changed.core_at;
    core = part_of_core started.changed.core;
    core_found = found-map part_of_core old.replicas started.changed.core_at started.changed.core started.changed.core_found;
    core_is = started.changed.core_is;
    cores_are = ap parts_of started.changed.cores
        ∙ map-set part_of_core old.replicas started.changed.core_at (replaying started.changed.core);
  };
}

-- two parts of cores that are alike in all are one
pub same_part : (one other : CorePart) → one.name ≡ other.name → one.number ≡ other.number → one.mode ≡ other.mode → one.left ≡ other.left
    → one ≡ other
same_part one other name number mode left = λ i. record { name = name i; number = number i; mode = mode i; left = left i }

-- how many writes a core that replays holds
held_by : (core : Core) → core.mode ≡ Replaying → left_in core.mode (length core.buffer) ≡ length core.buffer
held_by core replays = ap (λ (mode : Mode). left_in mode (length core.buffer)) replays

-- what the part of a core that replays is once it replayed a piece
part-replayed : (core : Core) (is_done : Bool) → core.mode ≡ Replaying
    → (is_done ≡ true → drop replay_limit core.buffer ≡ []) × (drop replay_limit core.buffer ≡ [] → is_done ≡ true)
    → part_of_core (replayed core) ≡ replayed_part is_done (part_of_core core)
part-replayed core is_done replays done = by is_done done.0 done.1 where
  applied : part_of_core (fed_all core (take replay_limit core.buffer)) ≡ part_of_core core
  applied = part-fed_all core (take replay_limit core.buffer)

  left_by : List Write → ℕ
  left_by rest = left_in (mode_left rest) (length rest)

  more : (rest : List Write) → drop replay_limit core.buffer ≡ rest → (drop replay_limit core.buffer ≡ [] → false ≡ true)
      → part_of_core (replayed core) ≡ replayed_part false (part_of_core core)
  more [] is last = absurd (let no : false ≡ true = last is in cc)
  more (write ∷ writes) is last =
      same_part (part_of_core (replayed core)) (replayed_part false (part_of_core core))
      (ap (λ (p : CorePart). p.name) applied) (ap (λ (p : CorePart). p.number) applied) (ap mode_left is ∙ sym replays)
      (ap left_by is ∙ ap length (sym is) ∙ length-drop replay_limit core.buffer
      ∙ ap (λ (n : ℕ). n - replay_limit) (sym (held_by core replays)))

  by : (b : Bool) → (b ≡ true → drop replay_limit core.buffer ≡ []) → (drop replay_limit core.buffer ≡ [] → b ≡ true)
      → part_of_core (replayed core) ≡ replayed_part b (part_of_core core)
  by true none last =
      same_part (part_of_core (replayed core)) (replayed_part true (part_of_core core))
      (ap (λ (p : CorePart). p.name) applied) (ap (λ (p : CorePart). p.number) applied) (ap mode_left (none refl)) (ap left_by (none refl))
  by false none last = more (drop replay_limit core.buffer) refl last

-- the piece was the last one exactly where no more were left
last_piece : (core : Core) (is_done : Bool) → core.mode ≡ Replaying
    → (is_done ≡ true → drop replay_limit core.buffer ≡ []) × (drop replay_limit core.buffer ≡ [] → is_done ≡ true)
    → is_done ≡ leb (left_in core.mode (length core.buffer)) replay_limit
last_piece core is_done replays done =
    by is_done done.0 done.1 ∙ ap (λ (n : ℕ). leb n replay_limit) (sym (held_by core replays))
  where
    few : (t : Bool) → leb (length core.buffer) replay_limit ≡ t → (drop replay_limit core.buffer ≡ [] → false ≡ true) → false ≡ t
    few true is last =
        let no : false ≡ true = last (drop_of_length-le core.buffer (leb-true (length core.buffer) replay_limit is)) in absurd (cc)
    few false is last = refl

    by : (b : Bool) → (b ≡ true → drop replay_limit core.buffer ≡ []) → (drop replay_limit core.buffer ≡ [] → b ≡ true)
        → b ≡ leb (length core.buffer) replay_limit
    by true none last =
        let empty : length (drop replay_limit core.buffer) ≡ 0 = ap length (none refl) in
        let fits : length core.buffer ≤ replay_limit = omega (arith, length-drop replay_limit core.buffer, empty) in
        sym (le-leb (length core.buffer) replay_limit fits)
    by false none last = few (leb (length core.buffer) replay_limit) refl last

-- the core at a place is in the mode in which the core of its name is
pub mode_at : (b : Bucket) (name : CoreId) (mode : Mode) (at : ℕ) (core : Core) → IsSound b → IsInMode b name mode
    → slice_get b.replicas at ≡ Some core → core.core ≡ name → core.mode ≡ mode
mode_at b name mode at core sound (known, inside, named, in_mode) there is =
    let same : core ≡ known =
    same_from_key b.replicas core known sound.cores.ascend (Contains-slice_get b.replicas at core there) inside
    (ap (λ (id : CoreId). (id.slice.0, id.replica)) (is ∙ sym named)) in
    ap (λ (c : Core). c.mode) same ∙ in_mode

-- a core replays a piece
pub replays_part : (old new : Bucket) (name : CoreId) (is_done : Bool) → IsSound old → CanReplay old name
    → ReplaysPiece old name is_done new → PartReplays (part_of old) name is_done (part_of new)
replays_part old new name is_done sound can piece = record {
  rest = rest_of old new piece.rest;
  feeds_are = ap feeds_of piece.feeds_are;
  changed = record {
    core_at = piece.changed.core_at;
    core = part_of_core core;
    core_found = found-map part_of_core old.replicas piece.changed.core_at core piece.changed.core_found;
    core_is = piece.changed.core_is;
    cores_are = ap parts_of piece.changed.cores
        ∙ map-set part_of_core old.replicas piece.changed.core_at (replayed core)
        ∙ ap (set (parts_of old.replicas) piece.changed.core_at) (part-replayed core is_done replays piece.done);
  };
  replaying = replays;
  done = last_piece core is_done replays piece.done;
} where
  core : Core
  core = piece.changed.core

  replays : core.mode ≡ Replaying
  replays = mode_at old name Replaying piece.changed.core_at core sound can piece.changed.core_found piece.changed.core_is

-- the leaders of the subs are made
pub gets_part_ready : (old new : Bucket) (parent : SliceId) → GetsReady old parent new → PartGetsReady (part_of old) parent (part_of new)
gets_part_ready old new parent ready = record {
  map_is = ready.map_is;
  phase_is = ready.phase_is;
  cores_are = ap parts_of ready.cores;
  feeds_are = ap feeds_of ready.feeds_are;
  entries_are = ap keeper_entries ready.entries;
}

-- the parts of the cores with one more
parts-put : (core : Core) (cores : List Core) → parts_of (put_by_name core cores) ≡ put_part_by_name (part_of_core core) (parts_of cores)
parts-put core [] = refl
parts-put core (other ∷ cores) = by (nat_lt (core_number core.core) (core_number other.core)) (parts-put core cores) where
  by : (b : Bool) → parts_of (put_by_name core cores) ≡ put_part_by_name (part_of_core core) (parts_of cores)
      → parts_of (cond b (core ∷ other ∷ cores) (other ∷ put_by_name core cores))
      ≡ cond b (part_of_core core ∷ part_of_core other ∷ parts_of cores)
      (part_of_core other ∷ put_part_by_name (part_of_core core) (parts_of cores))
  by true rest = refl
  by false rest = ap (λ parts. part_of_core other ∷ parts) rest

-- a further replica joins
pub grows_part : (old new : Bucket) (name : CoreId) (sub : Slice) → Grows old name sub new → PartGrows (part_of old) name (part_of new)
grows_part old new name sub grown = record {
  rest = record {
    map_is = grown.map_is;
    phase_is = grown.phase_is;
    entries_are = ap keeper_entries grown.entries;
  };
  cores_are = parts-same_cores (put_by_name (empty_core name) came) new.replicas grown.cores
      ∙ parts-put (empty_core name) came
      ∙ ap (put_part_by_name (made_core name)) (parts-arrived old.flight.messages grown.leader.core old.replicas);
  rows = length grown.leader.cells;
  feeds_are = ap feeds_of grown.feeds_are
      ∙ map-append part_of_feed old.feeds (new_feed name sub.range (cells_now old grown.leader) ∷ []);
} where
  came : List Core
  came = map (arrived old.flight.messages grown.leader.core) old.replicas

-- a split is switched
pub switches_part : (old new : Bucket) (parent : SliceId) → Switches old parent new → PartSwitches (part_of old) parent (part_of new)
switches_part old new parent switched = record {
  map_is = switched.map_is;
  phase_is = switched.phase_is;
  cores_are = ap parts_of switched.cores
      ∙ map-map_kept part_of_core (settled_sub old.map old.flight.messages)
      (λ (core : Core). part-received_where (is_of_one (forming old.map) core.core) core (in_flight old.flight.messages core.core))
      old.replicas;
  feeds_are = ap feeds_of switched.feeds_are;
  entries_are = keeper_entries-own old.journal.entries new.journal.entries (entry.Switched parent) refl switched.entries;
}

-- slices leave a part as they leave the bucket
loses_slices_part : (old new : Bucket) (change : Change) (one : Entry) (phase : Phase) (feeds : List FeedState)
    → is_of_keeper one ≡ true → LosesSlices old change one phase feeds new
    → PartLosesSlices (part_of old) change one phase (feeds_of feeds) (part_of new)
loses_slices_part old new change one phase feeds own lost = record {
  map_is = lost.map_is;
  phase_is = lost.phase_is;
  cores_are = ap parts_of lost.cores
      ∙ sym (filter-map (λ (p : CorePart). is_of_one new.map p.name) part_of_core old.replicas);
  feeds_are = ap feeds_of lost.feeds_are;
  entries_are = keeper_entries-own old.journal.entries new.journal.entries one own lost.entries;
}

-- a split is given up
pub aborts_part : (old new : Bucket) (parent : SliceId) → Aborts old parent new → PartAborts (part_of old) parent (part_of new)
aborts_part old new parent aborted = loses_slices_part old new (Change.Failed parent) (entry.Failed parent) _ [] refl aborted

-- a slice is dropped
pub drops_part : (old new : Bucket) (slice : SliceId) → Drops old slice new → PartDrops (part_of old) slice (part_of new)
drops_part old new slice dropped =
    loses_slices_part old new (Change.Dropped slice) (entry.Dropped slice) old.phase old.feeds refl dropped
