-- Which journals can be.
use Rattle.std.specs.Prelude.{◌≡◌, ◌<ℤ◌, ◌≤ℤ◌, ℕ, ◌+◌, pos, true, false, List, [], ◌∷◌, ◌++◌, length, IsSome, Option, Some, None, ⊤}
use Rattle.std.specs.List.{AllByRecursion}
use Rattle.sc_record.specs.Writes.{Write}
use Rattle.sc_record.specs.declared.slice.SliceId.{SliceId}
use Rattle.sc_record.specs.declared.slice.SubSlice.{SubSlice}
use Rattle.sc_record.specs.Names.{key_of_core}
use Rattle.sc_record.specs.declared.slice.CoreId.{CoreId}
use Rattle.sc_record.specs.Versions.{last_timed_version}
use Rattle.sc_record.specs.declared.term.Term.{Term}
use Rattle.sc_values.specs.declared.field.Field.{Field}
use Rattle.sc_record.specs.declared.entry.Entry.{Entry}
use Rattle.sc_record.specs.declared.entry.Entry.TheVariants as entry
use Rattle.sc_router.specs.Route.{route_hash}
use Rattle.sc_cluster.specs.declared.slice.Slice.{Slice}
use Rattle.sc_cluster.specs.Changes.{IsInactive}
use Rattle.sc_cluster.specs.Plans.{IsPlan}
use Rattle.sc_schema.specs.Terms.{AreTerms}
use Rattle.sc_journal.specs.Journal.{write_at, writes, writes_of, is_settled}
use Rattle.sc_journal.specs.Splits.{map_after, open_split}
use Rattle.sc_journal.specs.Down.{is_down, IsFollower}

-- the terms are those of the document; a deletion has none
abbrev pub HasTerms : List ℕ → Option (List Field) → List Term → Type 0
HasTerms id None terms = terms ≡ []
HasTerms id (Some doc) terms = AreTerms id doc terms

-- A write may come after these entries: its hash is that of its id, and its terms are those of its document. Its version is
-- above 0 and that of each earlier write of its id, and no greater than that of the last timestamp and the number of writes
-- up to it allow.
pub record MayWrite (before : List Entry) (write : Write) : Type 0 where
  pub hash : write.hash ≡ route_hash write.id
  pub terms : HasTerms write.id write.doc write.terms
  pub positive : pos 0 <ℤ write.version
  pub newest : AllByRecursion (λ (earlier : Write). earlier.version <ℤ write.version) (writes_of before write.id)
  pub bounded : write.version ≤ℤ pos (last_timed_version + (length (writes before) + 1))

-- the entry settles an earlier write that no earlier entry settles
pub record MaySettle (before : List Entry) (place : ℕ) : Type 0 where
  pub written : IsSome (write_at before place)
  pub once : is_settled before place ≡ false

-- a split of the parent into the subs may begin: none is open, and the map allows it
pub record MayBeSplit (first : List Slice) (before : List Entry) (parent : SliceId) (subs : List SubSlice) : Type 0 where
  pub idle : open_split before ≡ None
  pub plan : IsPlan (map_after first before) parent subs

-- the slice may be dropped: no split is open, and it is inactive
pub record MayBeDropped (first : List Slice) (before : List Entry) (slice : SliceId) : Type 0 where
  pub idle : open_split before ≡ None
  pub inactive : IsInactive (map_after first before) slice

-- the core may be said to be down: it is a follower of an active slice, and is not down
pub record MayGoDown (first : List Slice) (before : List Entry) (core : CoreId) : Type 0 where
  pub follower : IsFollower (map_after first before) core
  pub up : is_down before (key_of_core core) ≡ false

-- the core may be said to be up again: no split is open, and it is a follower of an active slice that is down
pub record MayComeUp (first : List Slice) (before : List Entry) (core : CoreId) : Type 0 where
  pub idle : open_split before ≡ None
  pub follower : IsFollower (map_after first before) core
  pub down : is_down before (key_of_core core) ≡ true

-- the core may take the lead: no split is open, and it is a follower of an active slice that is not down
pub record MayLead (first : List Slice) (before : List Entry) (core : CoreId) : Type 0 where
  pub idle : open_split before ≡ None
  pub follower : IsFollower (map_after first before) core
  pub up : is_down before (key_of_core core) ≡ false

-- the entry may come after these, where the first map is this
abbrev pub MayFollow : List Slice → List Entry → Entry → Type 0
MayFollow first before (entry.Write cell) = MayWrite before cell.value
MayFollow first before (entry.Settled place) = MaySettle before place
MayFollow first before entry.Committed = ⊤
MayFollow first before (entry.Begun parent subs) = MayBeSplit first before parent subs
MayFollow first before (entry.Switched parent) = open_split before ≡ Some parent
MayFollow first before (entry.Failed parent) = open_split before ≡ Some parent
MayFollow first before (entry.Dropped slice) = MayBeDropped first before slice
MayFollow first before (entry.Down core) = MayGoDown first before core
MayFollow first before (entry.Up core) = MayComeUp first before core
MayFollow first before (entry.Led core) = MayLead first before core

-- each entry may come after those before it
abbrev pub IsLegal : List Slice → List Entry → Type 0
IsLegal first journal =
    (before : List Entry) (one : Entry) (after : List Entry) → journal ≡ before ++ one ∷ after → MayFollow first before one
