-- Laws of a bucket's part: what keeps it, when its keeper's events may come by it, and what they make of it.
use Rattle.std.specs.Prelude.{◌≡◌, ◌⊎◌, ◌↔◌, Bool, true, false, List, [], ◌∷◌, ◌++◌, All}
use Rattle.sc_record.specs.Names.{key_of_core}
use Rattle.sc_record.specs.declared.slice.SliceId.{SliceId}
use Rattle.sc_record.specs.declared.slice.SubSlice.{SubSlice}
use Rattle.sc_record.specs.declared.slice.CoreId.{CoreId}
use Rattle.sc_record.specs.declared.entry.Entry.{Entry}
use Rattle.sc_cluster.specs.declared.slice.Slice.{Slice}
use Rattle.sc_journal.specs.Down.{is_down}
use Rattle.sc_bucket.specs.Events.{IsStep, IsSameButRoom, DeliversAllTo}
use Rattle.sc_bucket.specs.Sound.{IsSound}
use Rattle.sc_bucket.specs.declared.bucket.Bucket.{Bucket}
use Rattle.sc_handover.specs.AnyEvent.{IsKeeperEvent}
use Rattle.sc_handover.specs.Conditions.{CanBegin, CanFeed, CanStartReplay, CanReplay, CanBeReady, CanGrow, CanSwitch, CanAbort, CanDrop, CanRejoin, CanLead}
use Rattle.sc_handover.specs.Events.{Begins, FeedsPiece, StartsReplay, ReplaysPiece, GetsReady, Grows, Switches, Aborts, Drops}
use Rattle.sc_handover.specs.Seats.{Rejoins, TakesLead}
use Rattle.sc_keeper.specs.Part.{is_of_keeper, keeper_entries, part_of}
use Rattle.sc_keeper.specs.Conditions.{MayBegin, MayFeed, MayStartReplay, MayReplay, MayBeReady, MayGrow, MaySwitch, MayAbort, MayDrop, MayRejoin, MayLead}
use Rattle.sc_keeper.specs.Events.{PartBegins, PartFeeds, PartStartsReplay, PartReplays, PartGetsReady, PartGrows, PartSwitches, PartAborts, PartDrops, PartRejoins, PartLeads}

-- what a bucket's own events do, which any holder does, leaves its part as it was
abbrev pub PassesKeepTheParts : Type 0
PassesKeepTheParts = (old new : Bucket) → IsStep old new → part_of new ≡ part_of old

-- and so does an event that was refused
abbrev pub RefusalsKeepTheParts : Type 0
RefusalsKeepTheParts = (old new : Bucket) → IsSameButRoom old new → part_of new ≡ part_of old

-- and the delivery of all that is in flight to a core, after which a follower found no memory to join
abbrev pub DeliveriesKeepTheParts : Type 0
DeliveriesKeepTheParts = (old new : Bucket) (name : CoreId) → DeliversAllTo old name new → part_of new ≡ part_of old

-- the second journal is the first, or has one entry more, which is one of the keeper or not
abbrev pub AddsAtMost : Bool → List Entry → List Entry → Type 0
AddsAtMost of_keeper old new = (new ≡ old) ⊎ ((one : Entry) × (is_of_keeper one ≡ of_keeper) × (new ≡ old ++ one ∷ []))

-- a bucket's own events make no entry of the keeper
abbrev pub PassesAddNoKeeperEntry : Type 0
PassesAddNoKeeperEntry = (old new : Bucket) → IsStep old new → AddsAtMost false old.journal.entries new.journal.entries

-- and the keeper's make no other
abbrev pub KeepersAddNoPassEntry : Type 0
KeepersAddNoPassEntry = (old new : Bucket) → IsKeeperEvent old new → AddsAtMost true old.journal.entries new.journal.entries

-- where a journal grows and its keeper's entries stay, none of those that came is of the keeper
abbrev pub NoneCameOfTheKeeper : Type 0
NoneCameOfTheKeeper = (journal more : List Entry) → keeper_entries (journal ++ more) ≡ keeper_entries journal
    → All (λ (one : Entry). is_of_keeper one ≡ false) more

-- a split may begin of a bucket exactly where it may by the bucket's part
abbrev pub BeginsByThePart : Type 0
BeginsByThePart = (b : Bucket) (parent : SliceId) (subs : List SubSlice) → CanBegin b parent subs ↔ MayBegin (part_of b) parent subs

-- a core may be fed a piece exactly where it may by the part
abbrev pub FeedsByThePart : Type 0
FeedsByThePart = (b : Bucket) (name : CoreId) → CanFeed b name ↔ MayFeed (part_of b) name

-- a core may begin to replay exactly where it may by the part
abbrev pub StartsReplayByThePart : Type 0
StartsReplayByThePart = (b : Bucket) (name : CoreId) → CanStartReplay b name ↔ MayStartReplay (part_of b) name

-- a core may replay a piece exactly where it may by the part
abbrev pub ReplaysByThePart : Type 0
ReplaysByThePart = (b : Bucket) (name : CoreId) → CanReplay b name ↔ MayReplay (part_of b) name

-- the leaders of the subs of a sound bucket are made exactly where they are by the part
abbrev pub IsReadyByThePart : Type 0
IsReadyByThePart = (b : Bucket) (parent : SliceId) → IsSound b → CanBeReady b parent ↔ MayBeReady (part_of b) parent

-- a further replica may join exactly where it may by the part
abbrev pub GrowsByThePart : Type 0
GrowsByThePart = (b : Bucket) (name : CoreId) (sub : Slice) → CanGrow b name sub ↔ MayGrow (part_of b) name sub

-- a split may be switched exactly where it may by the part
abbrev pub SwitchesByThePart : Type 0
SwitchesByThePart = (b : Bucket) (parent : SliceId) → CanSwitch b parent ↔ MaySwitch (part_of b) parent

-- a split may be given up exactly where it may by the part
abbrev pub AbortsByThePart : Type 0
AbortsByThePart = (b : Bucket) (parent : SliceId) → CanAbort b parent ↔ MayAbort (part_of b) parent

-- a slice may be dropped exactly where it may by the part
abbrev pub DropsByThePart : Type 0
DropsByThePart = (b : Bucket) (slice : SliceId) → CanDrop b slice ↔ MayDrop (part_of b) slice

-- a core may rejoin exactly where it may by the part and is down
abbrev pub RejoinsByThePart : Type 0
RejoinsByThePart = (b : Bucket) (name : CoreId)
    → CanRejoin b name ↔ (MayRejoin (part_of b) name × (is_down b.journal.entries (key_of_core name) ≡ true))

-- a core may take the lead exactly where it may by the part and is not down
abbrev pub LeadsByThePart : Type 0
LeadsByThePart = (b : Bucket) (name : CoreId)
    → CanLead b name ↔ (MayLead (part_of b) name × (is_down b.journal.entries (key_of_core name) ≡ false))

-- So each of the keeper's events may come to a bucket exactly where it may by the bucket's part, and, where a core rejoins or takes
-- the lead, by whether that core is down.
pub record EventsComeByThePart : Type 0 where
  pub begin : BeginsByThePart
  pub feed : FeedsByThePart
  pub start_replay : StartsReplayByThePart
  pub replay : ReplaysByThePart
  pub ready : IsReadyByThePart
  pub grow : GrowsByThePart
  pub switch : SwitchesByThePart
  pub abort : AbortsByThePart
  pub drop : DropsByThePart
  pub rejoin : RejoinsByThePart
  pub lead : LeadsByThePart

-- as a split begins of a bucket, so it begins of the bucket's part
abbrev pub BeginsThePart : Type 0
BeginsThePart = (old new : Bucket) (parent : SliceId) (subs : List SubSlice) → Begins old parent subs new
    → PartBegins (part_of old) parent subs (part_of new)

-- as a core is fed a piece, so its feed is by the part
abbrev pub FeedsThePart : Type 0
FeedsThePart = (old new : Bucket) (name : CoreId) (is_done : Bool) → FeedsPiece old name is_done new
    → PartFeeds (part_of old) name is_done (part_of new)

-- as a core begins to replay, so it does by the part
abbrev pub StartsReplayOfThePart : Type 0
StartsReplayOfThePart = (old new : Bucket) (name : CoreId) → StartsReplay old name new
    → PartStartsReplay (part_of old) name (part_of new)

-- as a core of a sound bucket replays a piece, where it may, so it does by the part
abbrev pub ReplaysThePart : Type 0
ReplaysThePart = (old new : Bucket) (name : CoreId) (is_done : Bool) → IsSound old → CanReplay old name
    → ReplaysPiece old name is_done new → PartReplays (part_of old) name is_done (part_of new)

-- as the leaders of the subs are made, so they are by the part
abbrev pub MakesThePartReady : Type 0
MakesThePartReady = (old new : Bucket) (parent : SliceId) → GetsReady old parent new → PartGetsReady (part_of old) parent (part_of new)

-- as a further replica joins, so it does by the part
abbrev pub GrowsThePart : Type 0
GrowsThePart = (old new : Bucket) (name : CoreId) (sub : Slice) → Grows old name sub new → PartGrows (part_of old) name (part_of new)

-- as a split is switched, so it is by the part
abbrev pub SwitchesThePart : Type 0
SwitchesThePart = (old new : Bucket) (parent : SliceId) → Switches old parent new → PartSwitches (part_of old) parent (part_of new)

-- as a split is given up, so it is by the part
abbrev pub AbortsThePart : Type 0
AbortsThePart = (old new : Bucket) (parent : SliceId) → Aborts old parent new → PartAborts (part_of old) parent (part_of new)

-- as a slice is dropped, so it is by the part
abbrev pub DropsThePart : Type 0
DropsThePart = (old new : Bucket) (slice : SliceId) → Drops old slice new → PartDrops (part_of old) slice (part_of new)

-- as a core rejoins, so it does by the part
abbrev pub RejoinsThePart : Type 0
RejoinsThePart = (old new : Bucket) (name : CoreId) → Rejoins old name new → PartRejoins (part_of old) name (part_of new)

-- as a core of a sound bucket takes the lead, where it may, so it does by the part
abbrev pub LeadsThePart : Type 0
LeadsThePart = (old new : Bucket) (name : CoreId) → IsSound old → CanLead old name → TakesLead old name new
    → PartLeads (part_of old) name (part_of new)

-- so each of the keeper's events makes of a bucket's part what is said of it
pub record EventsChangeThePart : Type 0 where
  pub begin : BeginsThePart
  pub feed : FeedsThePart
  pub start_replay : StartsReplayOfThePart
  pub replay : ReplaysThePart
  pub ready : MakesThePartReady
  pub grow : GrowsThePart
  pub switch : SwitchesThePart
  pub abort : AbortsThePart
  pub drop : DropsThePart
  pub rejoin : RejoinsThePart
  pub lead : LeadsThePart
