-- How far a split has come in each bucket, and what it leaves of what is known of a collection.
use Rattle.std.specs.Prelude.{◌≡◌, ◌⊎◌, ℕ, suc, ◌+◌, ◌-◌, List, [], ◌∷◌, ◌++◌, map, All}
use Rattle.std.specs.List.{flat_map, range_with_len}
use mathlib.Core.List.{IsPrefix}
use Rattle.std.proofs.Math.Nat.{zero-lt-suc}
use Rattle.sc_record.specs.declared.slice.SubSlice.{SubSlice}
use Rattle.sc_record.specs.declared.slice.CoreId.{CoreId}
use Rattle.sc_record.specs.declared.entry.Entry.{Entry}
use Rattle.sc_record.specs.declared.entry.Entry.TheVariants as entry
use Rattle.sc_cluster.specs.declared.slice.Slice.{Slice}
use Rattle.sc_cluster.specs.declared.plan.SplitPlan.{SplitPlan}
use Rattle.sc_cluster.specs.Changes.{Change}
use Rattle.sc_cluster.specs.Histories.{after_all}
use Rattle.sc_journal.specs.Legal.{MayBeSplit}
use Rattle.sc_bucket.specs.declared.phase.Phase.{Phase}
use Rattle.sc_bucket.specs.declared.phase.Phase.TheVariants as phases
use Rattle.sc_ulog.specs.declared.mode.Mode.TheVariants.{Active}
use Rattle.sc_keeper.specs.declared.part.CorePart.{CorePart}
use Rattle.sc_keeper.specs.Part.{keeper_entries}
use Rattle.sc_collection.specs.Known.{Known, KeepsBoard}
use Rattle.sc_split.specs.Buckets.{part_in, IsAllSeen, IsToFill, HasSubCores, IsUnderway, IsGivenUp, first_cores}

-- the name of a sub's further replica k, from 0
abbrev pub follower_of : SubSlice → ℕ → CoreId
follower_of sub k = record { slice = sub.id; replica = suc (k + 1); counted = zero-lt-suc (k + 1) }

-- the names of a sub's further replicas, in order
abbrev pub further_names : SubSlice → List CoreId
further_names sub = map (follower_of sub) (range_with_len 0 (sub.replicas - 1))

-- a split that is open: its plan, and what was known when it began on the board
pub record OpenSplit : Type 0 where
  pub plan : SplitPlan
  pub base : Known

-- how far it has come in a bucket: its phase, the cores that are still to be filled, and all cores of its subs that are there
pub record Stage : Type 0 where
  pub phase : Phase
  pub to_fill : List CoreId
  pub there : List CoreId

-- it has just begun: the leaders of its subs are to be filled
abbrev pub building : SplitPlan → Stage
building plan = record { phase = phases.Building plan.parent; to_fill = first_cores plan.subs; there = first_cores plan.subs }

-- all cores that are there are filled
abbrev pub filled : Stage → Stage
filled stage = record stage { to_fill = [] }

-- the leaders of its subs are filled
abbrev pub leaders_filled : SplitPlan → Stage
leaders_filled plan = filled (building plan)

-- the further replicas of its subs may join
abbrev pub recovering : SplitPlan → Stage
recovering plan = record { phase = phases.Recovering plan.parent; to_fill = []; there = first_cores plan.subs }

-- the names of the further replicas of all subs, sub by sub
abbrev pub further_cores_of : SplitPlan → List CoreId
further_cores_of plan = flat_map further_names plan.subs

-- all its cores are there, and filled
abbrev pub whole : SplitPlan → Stage
whole plan = record { phase = phases.Recovering plan.parent; to_fill = []; there = first_cores plan.subs ++ further_cores_of plan }

-- The journal has the entry that begins the split, after these that were seen before, and none that the keeper made comes after it.
pub record HasOpened (plan : SplitPlan) (seen journal : List Entry) : Type 0 where
  pub before : List Entry
  pub later : List Entry
  pub went_on : IsPrefix seen before
  pub journal_is : journal ≡ before ++ entry.Begun plan.parent plan.subs ∷ later
  pub none_later : keeper_entries later ≡ []

-- the split is open in the bucket, and may be given up
pub record IsOpenIn (split : OpenSplit) (known : Known) (b : ℕ) : Type 0 where
  pub underway : IsUnderway (part_in split.base b) split.plan (part_in known b)
  pub seen : IsAllSeen b known
  pub own : known.keeping.own b ≡ split.base.keeping.own b ++ entry.Begun split.plan.parent split.plan.subs ∷ []
  pub journal : HasOpened split.plan (split.base.seen.journals b) (known.seen.journals b)

-- the split is open in the bucket, and has come so far
pub record IsAtStage (split : OpenSplit) (stage : Stage) (known : Known) (b : ℕ) : Type 0 where
  pub opened : IsOpenIn split known b
  pub phase_is : (part_in known b).phase ≡ stage.phase
  pub to_fill : IsToFill (part_in known b) stage.to_fill
  pub there : HasSubCores (part_in known b) stage.there

-- the split has not begun in the bucket, and could still
pub record IsUnbegun (split : OpenSplit) (first : List Slice) (known : Known) (b : ℕ) : Type 0 where
  pub part_is : part_in known b ≡ part_in split.base b
  pub own : known.keeping.own b ≡ split.base.keeping.own b
  pub went_on : IsPrefix (split.base.seen.journals b) (known.seen.journals b)
  pub journal : (known.seen.journals b ≡ split.base.seen.journals b)
      ⊎ MayBeSplit first (known.seen.journals b) split.plan.parent split.plan.subs

-- The journal has the entry that begins the split, after these that were seen before, and at its end the one that ends it; the keeper
-- made none between.
pub record HasEndedSplit (plan : SplitPlan) (end : Entry) (seen journal : List Entry) : Type 0 where
  pub before : List Entry
  pub later : List Entry
  pub went_on : IsPrefix seen before
  pub journal_is : journal ≡ before ++ entry.Begun plan.parent plan.subs ∷ later ++ end ∷ []
  pub none_later : keeper_entries later ≡ []

-- the split was ended in the bucket by this entry
pub record IsEndedIn (split : OpenSplit) (end : Entry) (known : Known) (b : ℕ) : Type 0 where
  pub own : known.keeping.own b ≡ split.base.keeping.own b ++ entry.Begun split.plan.parent split.plan.subs ∷ end ∷ []
  pub journal : HasEndedSplit split.plan end (split.base.seen.journals b) (known.seen.journals b)

-- the subs have taken their parent's place in the bucket
pub record IsDoneIn (split : OpenSplit) (known : Known) (b : ℕ) : Type 0 where
  pub ended : IsEndedIn split (entry.Switched split.plan.parent) known b
  pub map_is : (part_in known b).map ≡ after_all (part_in split.base b).map
      (Change.Begun split.plan.parent split.plan.subs ∷ Change.Switched split.plan.parent ∷ [])
  pub idle : (part_in known b).phase ≡ phases.Idle
  pub active : All (λ (core : CorePart). core.mode ≡ Active) (part_in known b).cores
  pub unfed : (part_in known b).feeds ≡ []

-- the split was given up in the bucket
pub record IsFailedIn (split : OpenSplit) (known : Known) (b : ℕ) : Type 0 where
  pub ended : IsEndedIn split (entry.Failed split.plan.parent) known b
  pub given_up : IsGivenUp (part_in split.base b) split.plan (part_in known b)

-- of what was seen the board stayed, and no entry more is one's own
abbrev pub KeepsKnownBoard : Known → Known → Type 0
KeepsKnownBoard old new = KeepsBoard old.seen new.seen
