-- Laws of journals, above their definitions.
use Rattle.std.specs.Prelude.{◌≡◌, ◌<ℤ◌, ◌≤◌, ◌↔◌, ℕ, ◌+◌, Bool, true, false, List, [], ◌∷◌, ◌++◌, length, map, filter, take, slice_get, not, count_by, Some, None, IsSome, All, Contains}
use Rattle.std.specs.List.{flat_map, range_with_len}
use Rattle.std.specs.List.Sorted.{IsPermutation}
use Rattle.sc_record.specs.Writes.{Write}
use Rattle.sc_record.specs.declared.slice.SliceId.{SliceId}
use Rattle.sc_record.specs.declared.slice.CoreId.{CoreId}
use Rattle.sc_record.specs.declared.slice.SubSlice.{SubSlice}
use Rattle.sc_record.specs.Names.{key_of_core}
use Rattle.sc_record.specs.declared.entry.Entry.{Entry}
use Rattle.sc_record.specs.declared.entry.Entry.TheVariants as entry
use Rattle.sc_cluster.specs.declared.slice.Slice.{Slice}
use Rattle.sc_cluster.specs.Slices.{is_forming, forming, is_inactive}
use Rattle.sc_cluster.specs.Map.{IsMap}
use Rattle.sc_cluster.specs.Changes.{IsBeingSplit}
use Rattle.sc_journal.specs.Journal.{write_at, writes_of, last_write, found, is_settled}
use Rattle.sc_journal.specs.Committed.{committed}
use Rattle.sc_journal.specs.Splits.{map_after, open_split, owed, entries_of_split}
use Rattle.sc_journal.specs.Down.{is_down, follower_keys, count_up}
use Rattle.sc_journal.specs.Seats.{seats}
use Rattle.sc_journal.specs.Legal.{MayFollow, IsLegal}

-- a journal with no entries is legal, and so is a legal one with an entry more that may follow it
abbrev pub GrowsByWhatMayFollow : Type 0
GrowsByWhatMayFollow = (first : List Slice) → IsLegal first []
    × ((journal : List Entry) (one : Entry) → IsLegal first journal → MayFollow first journal one → IsLegal first (journal ++ one ∷ []))

-- a prefix of a legal journal is legal
abbrev pub HasLegalPrefixes : Type 0
HasLegalPrefixes = (first : List Slice) (journal more : List Entry) → IsLegal first (journal ++ more) → IsLegal first journal

-- of two writes of an id the later one has the greater version
abbrev pub AscendsInVersions : Type 0
AscendsInVersions = (first : List Slice) (journal : List Entry) (id : List ℕ) (before between after : List Write) (one other : Write)
    → IsLegal first journal → writes_of journal id ≡ before ++ one ∷ between ++ other ∷ after → one.version <ℤ other.version

-- a write makes one more entry owed
abbrev pub OwesOneForAWrite : Type 0
OwesOneForAWrite = (first : List Slice) (journal : List Entry) (cell : _) → IsLegal first (journal ++ entry.Write cell ∷ [])
    → owed first (journal ++ entry.Write cell ∷ []) ≡ owed first journal + 1

-- and the entry that settles it one less
abbrev pub OwesOneLessSettled : Type 0
OwesOneLessSettled = (first : List Slice) (journal : List Entry) (place : ℕ) → IsLegal first (journal ++ entry.Settled place ∷ [])
    → owed first (journal ++ entry.Settled place ∷ []) + 1 ≡ owed first journal

-- a split that begins makes more owed: its end, the drop of its parent, and one of each follower of its slices
abbrev pub OwesForASplit : Type 0
OwesForASplit = (first : List Slice) (journal : List Entry) (parent : SliceId) (subs : List SubSlice) → IsMap first → forming first ≡ []
    → IsLegal first (journal ++ entry.Begun parent subs ∷ [])
    → owed first (journal ++ entry.Begun parent subs ∷ []) + 1 ≡ owed first journal + entries_of_split subs

-- it is over with all of them where it is given up
abbrev pub OwesLessFailed : Type 0
OwesLessFailed = (first : List Slice) (journal : List Entry) (parent : SliceId) → IsMap first → forming first ≡ []
    → IsLegal first (journal ++ entry.Failed parent ∷ [])
    → owed first (journal ++ entry.Failed parent ∷ []) + 2 + length (flat_map follower_keys (forming (map_after first journal)))
    ≡ owed first journal

-- where it is switched the drop of the parent and its slices' followers are left, and the parent's followers are over with
abbrev pub OwesLessSwitched : Type 0
OwesLessSwitched = (first : List Slice) (journal : List Entry) (parent : Slice) → IsMap first → forming first ≡ []
    → IsLegal first (journal ++ entry.Switched parent.id ∷ []) → Contains (map_after first journal) parent
    → owed first (journal ++ entry.Switched parent.id ∷ []) + 1
    + count_by (λ (key : ℕ × ℕ). not (is_down journal key)) (follower_keys parent)
    ≡ owed first journal

-- which the drop of the parent is
abbrev pub OwesOneLessDropped : Type 0
OwesOneLessDropped = (first : List Slice) (journal : List Entry) (slice : SliceId) → IsMap first → forming first ≡ []
    → IsLegal first (journal ++ entry.Dropped slice ∷ [])
    → owed first (journal ++ entry.Dropped slice ∷ []) + 1 ≡ owed first journal

-- a follower that goes down, or takes the lead, makes one less owed
abbrev pub OwesOneLessDown : Type 0
OwesOneLessDown = (first : List Slice) (journal : List Entry) (core : CoreId) → IsMap first → forming first ≡ []
    → (IsLegal first (journal ++ entry.Down core ∷ []) → owed first (journal ++ entry.Down core ∷ []) + 1 ≡ owed first journal)
    × (IsLegal first (journal ++ entry.Led core ∷ []) → owed first (journal ++ entry.Led core ∷ []) + 1 ≡ owed first journal)

-- and one that comes up one more
abbrev pub OwesOneForUp : Type 0
OwesOneForUp = (first : List Slice) (journal : List Entry) (core : CoreId) → IsMap first → forming first ≡ []
    → IsLegal first (journal ++ entry.Up core ∷ []) → owed first (journal ++ entry.Up core ∷ []) ≡ owed first journal + 1

-- In a legal journal a core that is down is a follower of a slice that is there, and that no split is making: neither a core that
-- leads nor one of a sub is down.
abbrev pub DownAreFollowers : Type 0
DownAreFollowers = (first : List Slice) (journal : List Entry) (key : ℕ × ℕ) → IsMap first → forming first ≡ [] → IsLegal first journal
    → is_down journal key ≡ true
    → (slice : Slice) × Contains (map_after first journal) slice × (is_forming slice ≡ false) × Contains (follower_keys slice) key

-- of each slice the cores sit in its seats, each in one: the numbers of the cores are those of the seats, in another order
abbrev pub SeatsAreExchanged : Type 0
SeatsAreExchanged = (first : List Slice) (journal : List Entry) (slice : Slice) → IsMap first → forming first ≡ []
    → IsLegal first journal → Contains (map_after first journal) slice
    → IsPermutation (map (seats journal slice.id) (range_with_len 1 slice.replicas)) (range_with_len 1 slice.replicas)

-- at first the cores of a slice sit in the seats of their numbers, and they do until there is a slice of this id that no split is making
abbrev pub SeatsBeginInOrder : Type 0
SeatsBeginInOrder = (first : List Slice) (journal : List Entry) (id : SliceId) → IsMap first → forming first ≡ [] → IsLegal first journal
    → ((slice : Slice) → Contains (map_after first journal) slice → slice.id ≡ id → is_forming slice ≡ true)
    → (seat : ℕ) → seats journal id seat ≡ seat

-- the entry at a place of the journal says of the slice's core of this number, which sits in the seat there, that it is up again
pub record ComesUpAt (journal : List Entry) (slice : SliceId) (number seat place : ℕ) : Type 0 where
  pub core : CoreId
  pub key : key_of_core core ≡ (slice.0, seat)
  pub entry_is : slice_get journal place ≡ Some (entry.Up core)
  pub number_is : seats (take place journal) slice seat ≡ number

-- A core that is down after the first part of a legal journal, and is not down after the whole, where its slice is there then, came up by
-- an entry of the second part, and kept its seat until then: wherever the core of that number sits after the whole.
abbrev pub ComesUpByAnEntry : Type 0
ComesUpByAnEntry = (first : List Slice) (journal more : List Entry) (slice : Slice) (number seat later : ℕ) → IsMap first
    → forming first ≡ [] → IsLegal first (journal ++ more) → Contains (map_after first (journal ++ more)) slice
    → seats journal slice.id seat ≡ number → is_down journal (slice.id.0, seat) ≡ true
    → seats (journal ++ more) slice.id later ≡ number → is_down (journal ++ more) (slice.id.0, later) ≡ false
    → (place : ℕ) × (length journal ≤ place) × ComesUpAt (journal ++ more) slice.id number seat place

-- the entry says of a core that it is down, that it is up again, or that it leads
abbrev pub is_of_core : Entry → Bool
is_of_core (entry.Down core) = true
is_of_core (entry.Up core) = true
is_of_core (entry.Led core) = true
is_of_core _ = false

-- the journal without such entries
abbrev pub without_cores : List Entry → List Entry
without_cores journal = filter (λ (one : Entry). not (is_of_core one)) journal

-- What the journal answers is the same without its entries of cores: the last write of each id and the version that is found of it, what
-- was committed and can be found, the slices, and the split that is open.
pub record AnswersWithoutCores (first : List Slice) (journal : List Entry) : Type 0 where
  pub last : (id : List ℕ) → last_write journal id ≡ last_write (without_cores journal) id
  pub found_is : (id : List ℕ) → found journal id ≡ found (without_cores journal) id
  pub committed_is : without_cores (committed journal) ≡ committed (without_cores journal)
  pub shown : (id : List ℕ) → last_write (committed journal) id ≡ last_write (committed (without_cores journal)) id
  pub map_is : map_after first journal ≡ map_after first (without_cores journal)
  pub split : open_split journal ≡ open_split (without_cores journal)

-- no answer depends on which cores went down, came up or led
abbrev pub CoresChangeNoAnswer : Type 0
CoresChangeNoAnswer = (first : List Slice) (journal : List Entry) → AnswersWithoutCores first journal

-- A journal is at rest: each of its writes is settled, no split is open, and no slice is inactive.
pub record IsJournalAtRest (first : List Slice) (journal : List Entry) : Type 0 where
  pub settled : (place : ℕ) → IsSome (write_at journal place) → is_settled journal place ≡ true
  pub ended : open_split journal ≡ None
  pub dropped : All (λ (slice : Slice). is_inactive slice ≡ false) (map_after first journal)

-- at rest, and only then, nothing is owed but an entry of each follower that is not down
abbrev pub OwesNothingAtRest : Type 0
OwesNothingAtRest = (first : List Slice) (journal : List Entry)
    → (owed first journal ≡ count_up (map_after first journal) journal) ↔ IsJournalAtRest first journal

-- the entry settles a write, gives up a split or drops a slice
abbrev pub closes : Entry → Bool
closes (entry.Settled place) = true
closes (entry.Failed parent) = true
closes (entry.Dropped slice) = true
closes _ = false

-- a legal journal has a legal continuation that brings it to rest, by such entries alone and no more of them than it owes
abbrev pub ComesToRest : Type 0
ComesToRest = (first : List Slice) (journal : List Entry) → IsLegal first journal
    → (more : List Entry) × IsLegal first (journal ++ more) × All (λ (one : Entry). closes one ≡ true) more
    × (length more ≤ owed first journal) × IsJournalAtRest first (journal ++ more)

-- the slices after a legal journal are those of a cluster, and those that are being made are the subs of the slice whose
-- split is open
abbrev pub JournalsKeepAMap : Type 0
JournalsKeepAMap = (first : List Slice) (journal : List Entry) → IsMap first → forming first ≡ [] → IsLegal first journal
    → IsMap (map_after first journal)
    × (open_split journal ≡ None → forming (map_after first journal) ≡ [])
    × ((parent : SliceId) → open_split journal ≡ Some parent → IsBeingSplit (map_after first journal) parent)
