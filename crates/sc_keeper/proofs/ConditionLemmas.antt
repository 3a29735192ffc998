-- An event of the keeper may come to a bucket exactly where it may by the bucket's part, and by whether a core is down.
use Rattle.std.proofs.Common.{◌≡◌, ◌∙◌, ◌↔◌, ℕ, true, false, List, [], ◌∷◌, get_or, map, All, Contains, refl, sym, ap, subst, arith}
use Rattle.std.proofs.lemmas.List.{length-map, get_or-map}
use Rattle.std.proofs.lemmas.List.Elements.{All-contains, All-map, All-weaker, Contains-get_or}
use Rattle.sc_record.specs.Names.{is_core, key_of_core}
use Rattle.sc_record.specs.declared.slice.SliceId.{SliceId}
use Rattle.sc_record.specs.declared.slice.SubSlice.{SubSlice}
use Rattle.sc_record.specs.declared.slice.CoreId.{CoreId}
use Rattle.sc_cluster.specs.declared.slice.Slice.{Slice}
use Rattle.sc_cluster.specs.Slices.{is_forming}
use Rattle.sc_cluster.proofs.ListLemmas.{Contains-map}
use Rattle.sc_cluster.proofs.PairLemmas.{Contains-from_map}
use Rattle.sc_ulog.specs.declared.mode.Mode.{Mode}
use Rattle.sc_ulog.specs.declared.mode.Mode.TheVariants.{Active, Buffering, Replaying}
use Rattle.sc_replica.specs.Core.{Core}
use Rattle.sc_replicas.specs.Cores.{core_key, slice_keys}
use Rattle.sc_journal.specs.Down.{is_down}
use Rattle.sc_bucket.specs.Sound.{IsSound}
use Rattle.sc_bucket.specs.declared.bucket.Bucket.{Bucket}
use Rattle.sc_replicas.proofs.CoreLemmas.{IsLeaderOf-from_key}
use Rattle.sc_handover.specs.Conditions.{IsInMode, IsUnfed, IsThereActive, CanBegin, CanFeed, CanStartReplay, CanReplay, CanBeReady, CanGrow, CanSwitch, CanAbort, CanDrop, CanRejoin, CanLead}
use Rattle.sc_handover.proofs.LastWriteLemmas.{same_from_key}
use Rattle.sc_keeper.specs.declared.part.CorePart.{CorePart}
use Rattle.sc_keeper.specs.declared.part.FeedPart.{FeedPart}
use Rattle.sc_keeper.specs.Part.{part_of_core, part_of_feed, part_of}
use Rattle.sc_keeper.specs.Conditions.{IsThereInMode, HasNoFeed, IsActiveAt, MayBegin, MayFeed, MayStartReplay, MayReplay, MayBeReady, MayGrow, MaySwitch, MayAbort, MayDrop, MayRejoin, MayLead}

-- what is true of what is made of each element is true of each
All-from_map : {A B : Type 0} (P : B → Type 0) (f : A → B) (xs : List A) → All P (map f xs) → All (λ (x : A). P (f x)) xs
All-from_map P f xs all k d below =
    subst P (get_or-map f xs k d (f d) below) (all k (f d) (omega (arith, length-map xs f)))

-- a list of which nothing is made is empty
none-from_map : {A B : Type 0} (f : A → B) (xs : List A) → map f xs ≡ [] → xs ≡ []
none-from_map f [] none = refl
none-from_map f (x ∷ xs) none = cc

-- a core is there in a mode by the bucket and by its part
in_mode : (b : Bucket) (name : CoreId) (mode : Mode) → IsInMode b name mode ↔ IsThereInMode (part_of b) name mode
in_mode b name mode = (by_bucket, by_part) where
  by_bucket : IsInMode b name mode → IsThereInMode (part_of b) name mode
  by_bucket (core, there, named, is) = (part_of_core core, Contains-map part_of_core b.replicas core there, named, is)

  by_part : IsThereInMode (part_of b) name mode → IsInMode b name mode
  by_part (part, there, named, is) =
      let (core, inside, same) = Contains-from_map part_of_core b.replicas part there in
      (core, inside, ap (λ (p : CorePart). p.name) same ∙ named, ap (λ (p : CorePart). p.mode) same ∙ is)

-- as one that is active at its name
active_at : (b : Bucket) (key : ℕ × ℕ) → IsThereActive b key ↔ IsActiveAt (part_of b) key
active_at b key = (by_bucket, by_part) where
  by_bucket : IsThereActive b key → IsActiveAt (part_of b) key
  by_bucket (core, there, named, is) = (part_of_core core, Contains-map part_of_core b.replicas core there, named, is)

  by_part : IsActiveAt (part_of b) key → IsThereActive b key
  by_part (part, there, named, is) =
      let (core, inside, same) = Contains-from_map part_of_core b.replicas part there in
      (core, inside, ap (λ (p : CorePart). (p.name.slice.0, p.name.replica)) same ∙ named, ap (λ (p : CorePart). p.mode) same ∙ is)

-- a core without a feed has none by the part
unfed : (b : Bucket) (name : CoreId) → IsUnfed b name ↔ HasNoFeed (part_of b) name
unfed b name = (
  All-map (λ (p : FeedPart). is_core name p.core ≡ false) part_of_feed b.feeds,
  All-from_map (λ (p : FeedPart). is_core name p.core ≡ false) part_of_feed b.feeds,
)

-- a split may begin
pub begins_by_part : (b : Bucket) (parent : SliceId) (subs : List SubSlice) → CanBegin b parent subs ↔ MayBegin (part_of b) parent subs
begins_by_part b parent subs = (by_bucket, by_part) where
  by_bucket : CanBegin b parent subs → MayBegin (part_of b) parent subs
  by_bucket can = record {
    idle = can.idle;
    plan = can.plan;
    active = All-map (λ (p : CorePart). p.mode ≡ Active) part_of_core b.replicas can.active;
    unfed = ap (map part_of_feed) can.unfed;
  }

  by_part : MayBegin (part_of b) parent subs → CanBegin b parent subs
  by_part may = record {
    idle = may.idle;
    plan = may.plan;
    active = All-from_map (λ (p : CorePart). p.mode ≡ Active) part_of_core b.replicas may.active;
    unfed = none-from_map part_of_feed b.feeds may.unfed;
  }

-- a core may be fed
pub feeds_by_part : (b : Bucket) (name : CoreId) → CanFeed b name ↔ MayFeed (part_of b) name
feeds_by_part b name = (by_bucket, by_part) where
  by_bucket : CanFeed b name → MayFeed (part_of b) name
  by_bucket (feed, there, named) = (part_of_feed feed, Contains-map part_of_feed b.feeds feed there, named)

  by_part : MayFeed (part_of b) name → CanFeed b name
  by_part (part, there, named) =
      let (feed, inside, same) = Contains-from_map part_of_feed b.feeds part there in
      (feed, inside, ap (λ (p : FeedPart). p.core) same ∙ named)

-- a core may begin to replay
pub starts_replay_by_part : (b : Bucket) (name : CoreId) → CanStartReplay b name ↔ MayStartReplay (part_of b) name
starts_replay_by_part b name = (by_bucket, by_part) where
  by_bucket : CanStartReplay b name → MayStartReplay (part_of b) name
  by_bucket (there, none) = ((in_mode b name Buffering).0 there, (unfed b name).0 none)

  by_part : MayStartReplay (part_of b) name → CanStartReplay b name
  by_part (there, none) = ((in_mode b name Buffering).1 there, (unfed b name).1 none)

-- a core may replay a piece
pub replays_by_part : (b : Bucket) (name : CoreId) → CanReplay b name ↔ MayReplay (part_of b) name
replays_by_part b name = in_mode b name Replaying

-- the leaders of the subs are made
pub is_ready_by_part : (b : Bucket) (parent : SliceId) → IsSound b → CanBeReady b parent ↔ MayBeReady (part_of b) parent
is_ready_by_part b parent sound = (by_bucket, by_part) where
  by_bucket : CanBeReady b parent → MayBeReady (part_of b) parent
  by_bucket (building, active) = record { building = building; led = each } where
    IsLed : Core → Type 0
    IsLed core = (slice : Slice) → Contains b.map slice → slice.id ≡ core.core.slice → is_forming slice ≡ true
        → core.core.replica ≡ 1 → core.mode ≡ Active

    each : All (λ (sub : Slice). is_forming sub ≡ true → IsActiveAt (part_of b) (sub.id.0, 1)) b.map
    each k d below forms =
        let sub : Slice = get_or b.map k d in
        let (core, inside, key) = Contains-from_map core_key b.replicas (sub.id.0, 1) (sound.cores.leaders k d below) in
        let (of_sub, first) = IsLeaderOf-from_key sub.id core key in
        let is = All-contains IsLed b.replicas core active inside sub (Contains-get_or b.map k d below) (sym of_sub) forms first in
        (part_of_core core, Contains-map part_of_core b.replicas core inside, key, is)

  by_part : MayBeReady (part_of b) parent → CanBeReady b parent
  by_part may = (may.building, each) where
    each : All (λ (core : Core). (slice : Slice) → Contains b.map slice → slice.id ≡ core.core.slice → is_forming slice ≡ true
        → core.core.replica ≡ 1 → core.mode ≡ Active) b.replicas
    each k d below slice in_map named forms first =
        let core : Core = get_or b.replicas k d in
        let (other, inside, key, active) = (active_at b (slice.id.0, 1)).1
        (All-contains (λ (sub : Slice). is_forming sub ≡ true → IsActiveAt (part_of b) (sub.id.0, 1)) b.map slice may.led in_map forms) in
        let own : core_key core ≡ (slice.id.0, 1) =
        ap (λ (id : SliceId). (id.0, core.core.replica)) (sym named) ∙ ap (λ (n : ℕ). (slice.id.0, n)) first in
        let same : core ≡ other =
        same_from_key b.replicas core other sound.cores.ascend (Contains-get_or b.replicas k d below) inside (own ∙ sym key) in
        ap (λ (c : Core). c.mode) same ∙ active

-- a further replica may join
pub grows_by_part : (b : Bucket) (name : CoreId) (sub : Slice) → CanGrow b name sub ↔ MayGrow (part_of b) name sub
grows_by_part b name sub = (by_bucket, by_part) where
  by_bucket : CanGrow b name sub → MayGrow (part_of b) name sub
  by_bucket can = record {
    parent = can.parent;
    recovering = can.recovering;
    there = can.there;
    forming = can.forming;
    of_sub = can.of_sub;
    above = can.above;
    planned = can.planned;
    missing = All-map (λ (p : CorePart). is_core name p.name ≡ false) part_of_core b.replicas can.missing;
  }

  by_part : MayGrow (part_of b) name sub → CanGrow b name sub
  by_part may = record {
    parent = may.parent;
    recovering = may.recovering;
    there = may.there;
    forming = may.forming;
    of_sub = may.of_sub;
    above = may.above;
    planned = may.planned;
    missing = All-from_map (λ (p : CorePart). is_core name p.name ≡ false) part_of_core b.replicas may.missing;
  }

-- a split may be switched
pub switches_by_part : (b : Bucket) (parent : SliceId) → CanSwitch b parent ↔ MaySwitch (part_of b) parent
switches_by_part b parent = (by_bucket, by_part) where
  IsWhole : Slice → Type 0
  IsWhole sub = is_forming sub ≡ true → All (IsThereActive b) (slice_keys sub)

  IsWholeByPart : Slice → Type 0
  IsWholeByPart sub = is_forming sub ≡ true → All (IsActiveAt (part_of b)) (slice_keys sub)

  by_bucket : CanSwitch b parent → MaySwitch (part_of b) parent
  by_bucket can = record {
    recovering = can.recovering;
    whole = All-weaker IsWhole IsWholeByPart
        (λ sub each forms. All-weaker (IsThereActive b) (IsActiveAt (part_of b)) (λ key. (active_at b key).0) (slice_keys sub) (each forms))
        b.map can.whole;
  }

  by_part : MaySwitch (part_of b) parent → CanSwitch b parent
  by_part may = record {
    recovering = may.recovering;
    whole = All-weaker IsWholeByPart IsWhole
        (λ sub each forms. All-weaker (IsActiveAt (part_of b)) (IsThereActive b) (λ key. (active_at b key).1) (slice_keys sub) (each forms))
        b.map may.whole;
  }

-- a split may be given up
pub aborts_by_part : (b : Bucket) (parent : SliceId) → CanAbort b parent ↔ MayAbort (part_of b) parent
aborts_by_part b parent = (λ can. can, λ may. may)

-- a slice may be dropped
pub drops_by_part : (b : Bucket) (slice : SliceId) → CanDrop b slice ↔ MayDrop (part_of b) slice
drops_by_part b slice = (λ can. can, λ may. may)

-- a core may rejoin
pub rejoins_by_part : (b : Bucket) (name : CoreId)
    → CanRejoin b name ↔ (MayRejoin (part_of b) name × (is_down b.journal.entries (key_of_core name) ≡ true))
rejoins_by_part b name = (by_bucket, by_part) where
  by_bucket : CanRejoin b name → MayRejoin (part_of b) name × (is_down b.journal.entries (key_of_core name) ≡ true)
  by_bucket can = (
    record {
      idle = can.idle;
      follower = can.follower;
      active = (in_mode b name Active).0 can.active;
      unfed = (unfed b name).0 can.unfed;
    },
    can.down,
  )

  by_part : MayRejoin (part_of b) name × (is_down b.journal.entries (key_of_core name) ≡ true) → CanRejoin b name
  by_part (may, down) = record {
    idle = may.idle;
    follower = may.follower;
    down = down;
    active = (in_mode b name Active).1 may.active;
    unfed = (unfed b name).1 may.unfed;
  }

-- a core may take the lead
pub leads_by_part : (b : Bucket) (name : CoreId)
    → CanLead b name ↔ (MayLead (part_of b) name × (is_down b.journal.entries (key_of_core name) ≡ false))
leads_by_part b name = (by_bucket, by_part) where
  by_bucket : CanLead b name → MayLead (part_of b) name × (is_down b.journal.entries (key_of_core name) ≡ false)
  by_bucket can = (
    record {
      idle = can.idle;
      follower = can.follower;
      active = (in_mode b name Active).0 can.active;
      unfed = (unfed b name).0 can.unfed;
    },
    can.up,
  )

  by_part : MayLead (part_of b) name × (is_down b.journal.entries (key_of_core name) ≡ false) → CanLead b name
  by_part (may, up) = record {
    idle = may.idle;
    follower = may.follower;
    up = up;
    active = (in_mode b name Active).1 may.active;
    unfed = (unfed b name).1 may.unfed;
  }
