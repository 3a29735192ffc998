-- The map and the journal once the subs are put in the place of their parent.
use Rattle.std.proofs.Common.{◌≡◌, ℕ, ◌+◌, ◌≤◌, Bool, true, false, cond, not, ◌&&◌, eqb, IsTrue, List, [], ◌∷◌, ◌++◌, map, Some, None, Contains, refl, ap, ◌∙◌, subst, arith}
use Rattle.std.proofs.Math.Path.{fun_ext}
use Rattle.std.proofs.lemmas.List.Folds.{flat_map-map}
use Rattle.std.specs.List.{flat_map, count_by}
use Rattle.sc_record.specs.declared.slice.SliceId.{SliceId}
use Rattle.sc_record.specs.declared.entry.Entry.{Entry}
use Rattle.sc_record.specs.declared.entry.Entry.TheVariants as entry
use Rattle.sc_cluster.specs.declared.slice.State.TheVariants as states
use Rattle.sc_cluster.specs.declared.slice.Slice.{Slice}
use Rattle.sc_cluster.specs.Slices.{is_forming}
use Rattle.sc_cluster.specs.Map.{IsMap}
use Rattle.sc_cluster.specs.Changes.{Change, in_state, switched_slice, IsBeingSplit}
use Rattle.sc_cluster.proofs.StateLemmas.{switched_keeps}
use Rattle.sc_replica.specs.Core.{Core}
use Rattle.sc_journal.specs.Down.{is_down, follower_keys}
use Rattle.sc_journal.specs.Splits.{map_after, open_split, owed}
use Rattle.sc_journal.proofs.OwedLemmas.{owed-push_switched}
use Rattle.sc_replicas.specs.Cores.{core_keys, slice_keys, is_attached}
use Rattle.sc_bucket.specs.Sound.{HasJournal, IsSplitOpen, AreLedActively, IsInPhase, IsSound}
use Rattle.sc_bucket.specs.declared.bucket.Bucket.{Bucket}
use Rattle.sc_bucket.specs.declared.phase.Phase.TheVariants as phases
use Rattle.sc_bucket.proofs.AcceptLemmas.{bucket_has_map}
use Rattle.sc_handover.proofs.PushedLemmas.{HasJournal-pushed}
use Rattle.sc_handover.specs.Parts.{PutsSwitch}
use Rattle.sc_handover.proofs.SubLemmas.{not_inactive}

-- what the phase of a bucket says of its split
pub split_is_open : (b : Bucket) (parent : SliceId) → IsSound b → b.phase ≡ phases.Recovering parent
    → IsSplitOpen b parent × AreLedActively b
split_is_open b parent sound is = subst (IsInPhase b) is sound.phase

-- how many of the slice's followers are not down
abbrev pub followers_up : List Entry → Slice → ℕ
followers_up journal slice = count_by (λ (key : ℕ × ℕ). not (is_down journal key)) (follower_keys slice)

-- a switch is over with the end of the split and with the parent's followers
owed-switched : (first : List Slice) (journal : List Entry) (parent : SliceId) (slice : Slice) → slice.id ≡ parent
    → IsMap (map_after first journal) → IsBeingSplit (map_after first journal) parent → open_split journal ≡ Some parent
    → Contains (map_after first journal) slice
    → owed first (journal ++ entry.Switched parent ∷ []) + 1 + followers_up journal slice ≡ owed first journal
owed-switched first journal parent slice named =
    subst (λ (id : SliceId). IsMap (map_after first journal) → IsBeingSplit (map_after first journal) id
    → open_split journal ≡ Some id → Contains (map_after first journal) slice
    → owed first (journal ++ entry.Switched id ∷ []) + 1 + followers_up journal slice ≡ owed first journal) named
    (owed-push_switched first journal slice)

-- so many entries less are owed then
less_switched : (b : Bucket) (parent : SliceId) (slice : Slice) → HasJournal b → IsSplitOpen b parent → Contains b.map slice
    → slice.id ≡ parent
    → owed b.first (b.journal.entries ++ entry.Switched parent ∷ []) + 1 + followers_up b.journal.entries slice
    ≡ owed b.first b.journal.entries
less_switched b parent slice journal split there named =
    let same = journal.map_is in
    owed-switched b.first b.journal.entries parent slice named (subst IsMap same (bucket_has_map b journal))
    (subst (λ these. IsBeingSplit these parent) same split.split) split.begun
    (subst (λ (these : List Slice). Contains these slice) same there)

-- and they are owed before, where the parent is this slice
pub owes_switched : (b : Bucket) (parent : SliceId) → IsSound b → b.phase ≡ phases.Recovering parent
    → (slice : Slice) × Contains b.map slice × (slice.id ≡ parent) × (1 + followers_up b.journal.entries slice ≤ b.owed)
owes_switched b parent sound is =
    let split = (split_is_open b parent sound is).0 in
    let (slice, named, splitting) = split.split in
    let less = less_switched b parent slice sound.journal split splitting.there named in
    (slice, splitting.there, named, omega (arith, sound.journal.owed_is, less))

-- what a switch does with the parts of a bucket that its event doesn't name
pub record SwitchesParts (old : Bucket) (parent : SliceId) (new : Bucket) : Type 0 where
  pub unsettled_are : new.unsettled.places ≡ old.unsettled.places
  pub slice : Slice
  pub slice_there : Contains old.map slice
  pub slice_is : slice.id ≡ parent
  pub owed_is : new.owed + 1 + followers_up old.journal.entries slice ≡ old.owed
  pub room : new.owed ≤ new.journal.room
  pub spares_are : new.spares ≡ None

-- its journal is as it has to be
pub HasJournal-switched : (old new : Bucket) (parent : SliceId) → HasJournal old → IsSplitOpen old parent → PutsSwitch old parent new
    → SwitchesParts old parent new → HasJournal new
HasJournal-switched old new parent journal split puts parts =
    let fewer = less_switched old parent parts.slice journal split parts.slice_there parts.slice_is in
    HasJournal-pushed old new (entry.Switched parent) (Change.Switched parent) journal split.begun refl refl (λ place. refl)
    (record {
      name = puts.name;
      entries = puts.entries;
      map_is = puts.map_is;
      unsettled_are = parts.unsettled_are;
      owed_is = omega (arith, fewer, parts.owed_is, journal.owed_is);
      room = parts.room;
      within = omega (arith, parts.owed_is, journal.within);
    })

-- the names of the cores of the slices stay
pub core_keys-switched : (parent : SliceId) (slices : List Slice)
    → core_keys (map (switched_slice parent) slices) ≡ core_keys slices
core_keys-switched parent slices =
    flat_map-map slice_keys (switched_slice parent) slices
    ∙ ap (λ keys. flat_map keys slices) (fun_ext (switched_keeps slice_keys (λ _ _. refl) parent))

-- an active slice that no split was making was active before
pub active_before : (parent : SliceId) (slice : Slice) → is_forming slice ≡ false
    → (switched_slice parent slice).state ≡ states.Active → slice.state ≡ states.Active
active_before parent slice settled = by (is_forming slice) settled (eqb slice.id.0 parent.0) where
  by : (t : Bool) → t ≡ false → (u : Bool)
      → (cond t (in_state states.Active slice) (cond u (in_state states.Inactive slice) slice)).state ≡ states.Active
      → slice.state ≡ states.Active
  by true is u active = absurd (cc)
  by false is true active = absurd (cc)
  by false is false active = active

-- a core that takes part in what is written did so before
pub attached_before : (parent : SliceId) (slice : Slice) (core : Core) → IsTrue (is_attached (switched_slice parent slice) core)
    → IsTrue (is_attached slice core)
attached_before parent slice core = by (is_forming slice) refl (eqb slice.id.0 parent.0) where
  by : (t : Bool) → is_forming slice ≡ t → (u : Bool)
      → IsTrue (is_attached (cond t (in_state states.Active slice) (cond u (in_state states.Inactive slice) slice)) core)
      → IsTrue (is_attached slice core)
  by true is u attached = ap (λ b. b && not core.down) (not_inactive slice is) ∙ attached
  by false is true attached = absurd (cc)
  by false is false attached = attached
