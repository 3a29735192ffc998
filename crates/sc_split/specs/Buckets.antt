-- How far a split has come in one bucket, by what its keeper keeps of it, and what the keeper's holds of a bucket leave.
use Rattle.std.specs.Prelude.{◌≡◌, ◌≢◌, ℕ, true, List, [], ◌∷◌, ◌++◌, map, Some, None, if◌then◌else◌, All, Contains}
use Rattle.std.specs.List.{IsDistinct, list_any}
use mathlib.Core.List.{IsPrefix}
use Rattle.sc_record.specs.Names.{is_core}
use Rattle.sc_record.specs.declared.slice.SubSlice.{SubSlice}
use Rattle.sc_record.specs.declared.slice.CoreId.{CoreId}
use Rattle.sc_record.specs.declared.entry.Entry.{Entry}
use Rattle.sc_record.specs.declared.entry.Entry.TheVariants as entry
use Rattle.sc_cluster.specs.declared.plan.SplitPlan.{SplitPlan}
use Rattle.sc_cluster.specs.Slices.{forming}
use Rattle.sc_cluster.specs.Plans.{IsPlan}
use Rattle.sc_cluster.specs.Changes.{Change, after}
use Rattle.sc_ulog.specs.declared.mode.Mode.{Mode}
use Rattle.sc_ulog.specs.declared.mode.Mode.TheVariants.{Active, Buffering}
use Rattle.sc_journal.specs.Splits.{open_split, entries_of_split, IsFullFor}
use Rattle.sc_seen.specs.Seen.{Layout}
use Rattle.sc_replicas.specs.Cores.{is_of_one}
use Rattle.sc_bucket.specs.declared.phase.Phase.TheVariants as phases
use Rattle.sc_handover.specs.Conditions.{split_of}
use Rattle.sc_handover.specs.Made.{first_core}
use Rattle.sc_keeper.specs.declared.part.CorePart.{CorePart}
use Rattle.sc_keeper.specs.declared.part.FeedPart.{FeedPart}
use Rattle.sc_keeper.specs.declared.part.Part.{Part}
use Rattle.sc_keeper.specs.Part.{keeper_entries}
use Rattle.sc_keeper.specs.Events.{KeepsPartRest}
use Rattle.sc_collection.specs.Known.{Known}

-- the part of the bucket of this number
abbrev pub part_in : Known → ℕ → Part
part_in known number = known.keeping.part number

-- all that the keeper of the bucket made there was seen
abbrev pub IsAllSeen : ℕ → Known → Type 0
IsAllSeen number known = keeper_entries (known.seen.journals number) ≡ (part_in known number).entries

-- of all but the bucket of this number the same was seen, and the same is kept; and no entry more is one's own
pub record LeavesOthers (number : ℕ) (old new : Known) : Type 0 where
  pub journals : (lock : ℕ) → lock ≢ number → new.seen.journals lock ≡ old.seen.journals lock
  pub board : new.seen.board ≡ old.seen.board
  pub own : (lock : ℕ) → new.seen.own lock ≡ old.seen.own lock
  pub parts : (lock : ℕ) → lock ≢ number → new.keeping.part lock ≡ old.keeping.part lock
  pub kept : (lock : ℕ) → lock ≢ number → new.keeping.own lock ≡ old.keeping.own lock

-- The keeper of the bucket of this number had it, and made these entries there. What was seen of its journal went on, and they are the
-- last of it.
pub record KeeperHeld (number : ℕ) (old new : Known) (made : List Entry) : Type 0 where
  pub others : LeavesOthers number old new
  pub before : List Entry
  pub went_on : IsPrefix (old.seen.journals number) before
  pub journal : new.seen.journals number ≡ before ++ made
  pub own : new.keeping.own number ≡ old.keeping.own number ++ made
  pub entries : (part_in new number).entries ≡ (part_in old number).entries ++ made

-- the names of a part's cores
abbrev pub core_names : Part → List CoreId
core_names part = map (λ (core : CorePart). core.name) part.cores

-- the names of the cores that are fed, in the order of their feeds
abbrev pub fed_names : Part → List CoreId
fed_names part = map (λ (feed : FeedPart). feed.core) part.feeds

-- the mode of a core where these, and no others, are still to be filled
abbrev pub mode_among : List CoreId → CoreId → Mode
mode_among names name = if list_any (is_core name) names then Buffering else Active

-- these cores, and no others, are still to be filled: each is there and buffers what comes, and every other core is active
pub record AreToFill (part : Part) (names : List CoreId) : Type 0 where
  pub apart : IsDistinct is_core (core_names part)
  pub once : IsDistinct is_core names
  pub there : All (Contains (core_names part)) names
  pub modes : All (λ (core : CorePart). core.mode ≡ mode_among names core.name) part.cores

-- these cores, and no others, are still to be fed, in this order, and to replay then
pub record IsToFill (part : Part) (names : List CoreId) : Type 0 where
  pub cores : AreToFill part names
  pub fed : fed_names part ≡ names

-- the core is the next to be fed: its feed is the first, and it has no other
pub record IsFirstFed (part : Part) (name : CoreId) : Type 0 where
  pub later : List CoreId
  pub fed : fed_names part ≡ name ∷ later
  pub once : IsDistinct is_core (name ∷ later)

-- nothing was changed but feeds
pub record KeepsCores (old new : Part) : Type 0 where
  pub rest : KeepsPartRest old new
  pub cores_are : new.cores ≡ old.cores

-- no core is to be filled: each is active, and none is fed
abbrev pub IsFilled : Part → Type 0
IsFilled part = IsToFill part []

-- of the slices that a split is making, these cores are there, and no other
pub record HasSubCores (part : Part) (names : List CoreId) : Type 0 where
  pub there : All (Contains (core_names part)) names
  pub no_other : All (λ (name : CoreId). is_of_one (forming part.map) name ≡ true → Contains names name) (core_names part)

-- a core by its name and its number
abbrev pub seat_of : CorePart → CoreId × ℕ
seat_of core = (core.name, core.number)

-- nothing was changed but the modes of cores, what they have to replay, and feeds
pub record KeepsSeats (old new : Part) : Type 0 where
  pub rest : KeepsPartRest old new
  pub seats : map seat_of new.cores ≡ map seat_of old.cores

-- The split of the plan is open in the bucket whose part was `base`: the subs are in its map, and nothing of the slices from before was
-- changed. So it may be given up.
pub record IsUnderway (base : Part) (plan : SplitPlan) (part : Part) : Type 0 where
  pub planned : IsPlan base.map plan.parent plan.subs
  pub map_is : part.map ≡ after base.map (Change.Begun plan.parent plan.subs)
  pub is_open : split_of part.phase ≡ Some plan.parent
  pub entries : part.entries ≡ base.entries ++ entry.Begun plan.parent plan.subs ∷ []
  pub active : All (λ (core : CorePart). is_of_one base.map core.name ≡ true → core.mode ≡ Active) part.cores

-- the names of the subs' leaders, in the order of the subs
abbrev pub first_cores : List SubSlice → List CoreId
first_cores subs = map first_core subs

-- The split of the plan has just begun in the bucket whose part was `base`: of its subs the leaders are there, and are to be filled.
pub record HasBegun (base : Part) (plan : SplitPlan) (part : Part) : Type 0 where
  pub underway : IsUnderway base plan part
  pub building : part.phase ≡ phases.Building plan.parent
  pub to_fill : IsToFill part (first_cores plan.subs)
  pub sub_cores : HasSubCores part (first_cores plan.subs)

-- a further replica of a sub has joined: it is to be filled, after those that were
pub record HasGrown (old : Part) (name : CoreId) (new : Part) : Type 0 where
  pub rest : KeepsPartRest old new
  pub to_fill : (names : List CoreId) → IsToFill old names → IsToFill new (names ++ name ∷ [])
  pub sub_cores : (names : List CoreId) → HasSubCores old names → HasSubCores new (names ++ name ∷ [])

-- The split of the plan was given up in the bucket whose part was `base`: it has the map from before, no split is open, each core is
-- active, and none is fed.
pub record IsGivenUp (base : Part) (plan : SplitPlan) (part : Part) : Type 0 where
  pub map_is : part.map ≡ base.map
  pub idle : part.phase ≡ phases.Idle
  pub active : All (λ (core : CorePart). core.mode ≡ Active) part.cores
  pub unfed : part.feeds ≡ []
  pub entries : part.entries ≡ base.entries ++ entry.Begun plan.parent plan.subs ∷ entry.Failed plan.parent ∷ []

-- no split is open in the journal, and it has no room for what one into these subs owes
pub record HasNoRoomFor (layout : Layout) (subs : List SubSlice) (journal : List Entry) : Type 0 where
  pub none_open : open_split journal ≡ None
  pub full : IsFullFor (entries_of_split subs) layout.limit layout.first journal
