-- What a desk says of the buckets and of the board that it hands out, and asks of those that it takes back.
use Rattle.std.specs.Prelude.{◌≡◌, ◌≢◌, ◌<◌, ◌≤◌, ◌⊎◌, ℕ, Bool, true, false, List, [], ◌∷◌, ◌++◌, length, drop, nat_lt, if◌then◌else◌, Option, Some, None, All, Contains}
use Rattle.std.specs.List.{AllByRecursion}
use Rattle.sc_record.specs.Writes.{Write}
use Rattle.sc_record.specs.declared.entry.Entry.{Entry}
use Rattle.sc_router.specs.Route.{bucket_of}
use Rattle.sc_cluster.specs.declared.slice.Slice.{Slice}
use Rattle.sc_ulog.specs.declared.mode.Mode.TheVariants.{Active}
use Rattle.sc_journal.specs.Journal.{writes}
use Rattle.sc_seen.specs.declared.board.BoardEntry.{BoardEntry}
use Rattle.sc_seen.specs.Board.{running_split, board_map}
use Rattle.sc_seen.specs.Rounds.{GoTogether}
use Rattle.sc_seen.specs.Seen.{Layout, Seen, AreLegal}
use Rattle.sc_bucket.specs.declared.bucket.Bucket.{Bucket}
use Rattle.sc_bucket.specs.declared.phase.Phase.TheVariants as phases
use Rattle.sc_bucket.specs.Sound.{IsSound}
use Rattle.sc_bucket.specs.Events.{IsStep}
use Rattle.sc_handover.specs.AnyEvent.{IsKeeperEvent}
use Rattle.sc_keeper.specs.declared.part.CorePart.{CorePart}
use Rattle.sc_keeper.specs.declared.part.Part.{Part}
use Rattle.sc_keeper.specs.Part.{part_of}

-- the bucket is the one of this number: it began with the layout's map and has its limit, and the ids of its writes belong
-- to it
pub record IsBucketOf (layout : Layout) (number : ℕ) (bucket : Bucket) : Type 0 where
  pub first : bucket.first ≡ layout.first
  pub limit : bucket.limit ≡ layout.limit
  pub ids : AllByRecursion (λ (write : Write). bucket_of write.id layout.buckets ≡ number)
      (writes bucket.journal.entries)

-- the board is the collection's: it began with the layout's map, and has its limit
pub record IsBoardOf (layout : Layout) (first : List Slice) (limit : ℕ) : Type 0 where
  pub first_is : first ≡ layout.first
  pub limit_is : limit ≡ layout.limit

-- a bucket that a desk hands out, with its number, and whether it is handed out to its keeper
pub record Held : Type 0 where
  pub number : ℕ
  pub bucket : Bucket
  pub by_keeper : Bool

-- what a desk has handed out: a bucket, as it was then, and the board, by its entries then
pub record Out : Type 0 where
  pub bucket : Option Held
  pub board : Option (List BoardEntry)

-- nothing is out
abbrev pub nothing_out : Out
nothing_out = record { bucket = None; board = None }

-- The bucket may be given back in the place of the one that was handed out: it is sound and of the same number, and one of a bucket's
-- own events was done at most. It added one entry at most, and changed nothing of the keeper's part.
pub record MayReplace (layout : Layout) (held : Held) (given : Bucket) : Type 0 where
  pub sound : IsSound given
  pub is_of : IsBucketOf layout held.number given
  pub step : IsStep held.bucket given
  pub not_keeper : held.by_keeper ≡ false

-- its keeper may give it back: one event was done at most that only a keeper does
pub record KeeperMayReplace (layout : Layout) (held : Held) (given : Bucket) : Type 0 where
  pub sound : IsSound given
  pub is_of : IsBucketOf layout held.number given
  pub event : IsKeeperEvent held.bucket given
  pub by_keeper : held.by_keeper ≡ true

-- the place of the entry that was added, if one was
abbrev pub place_added : {A : Type 0} → List A → List A → List ℕ
place_added held given = if nat_lt (length held) (length given) then length held ∷ [] else []

-- What is seen once a bucket was given back: its journal as it is then; the entry that was added, if one was, is one's
-- own.
pub record SeesGiven (held : Held) (given : Bucket) (old new : Seen) : Type 0 where
  pub journal : new.journals held.number ≡ given.journal.entries
  pub others : (lock : ℕ) → lock ≢ held.number → new.journals lock ≡ old.journals lock
  pub board : new.board ≡ old.board
  pub own : new.own held.number ≡ old.own held.number ++ place_added held.bucket.journal.entries given.journal.entries
  pub others_own : (lock : ℕ) → lock ≢ held.number → new.own lock ≡ old.own lock

-- What is seen once a keeper gave its bucket back: its journal as it is then. The keeper's entries are none of one's own.
pub record SeesKeeperGiven (held : Held) (given : Bucket) (old new : Seen) : Type 0 where
  pub journal : new.journals held.number ≡ given.journal.entries
  pub others : (lock : ℕ) → lock ≢ held.number → new.journals lock ≡ old.journals lock
  pub board : new.board ≡ old.board
  pub own : (lock : ℕ) → new.own lock ≡ old.own lock

-- What is seen once the board was given back: its journal as it is then; the entry that was added, if one was, is one's own.
pub record SeesBoardGiven (layout : Layout) (held given : List BoardEntry) (old new : Seen) : Type 0 where
  pub board : new.board ≡ given
  pub journals : (lock : ℕ) → new.journals lock ≡ old.journals lock
  pub own : new.own layout.buckets ≡ old.own layout.buckets ++ place_added held given
  pub others_own : (lock : ℕ) → lock ≢ layout.buckets → new.own lock ≡ old.own lock

-- the entry that began the split which runs in what was seen of the board is one's own
abbrev pub OwnsSplit : Layout → Seen → Type 0
OwnsSplit layout seen = (place : ℕ) × (running_split seen.board ≡ Some place) × Contains (seen.own layout.buckets) place

-- The board's entries may be given back in the place of those that were handed out: they are the same, or have one more, which is
-- added to a split that runs only by whom it is of.
abbrev pub MayReplaceBoard : Layout → Seen → List BoardEntry → List BoardEntry → Type 0
MayReplaceBoard layout seen held given =
    (given ≡ held) ⊎ ((one : BoardEntry) × (given ≡ held ++ one ∷ [])
    × ((place : ℕ) → running_split held ≡ Some place → Contains (seen.own layout.buckets) place))

-- what the keepers of all buckets keep: the part of each bucket, by its number, and the entries that its keeper made since the
-- collection was opened
pub record Keeping : Type 0 where
  pub part : ℕ → Part
  pub own : ℕ → List Entry

-- what they keep is as it was
pub record KeepsOn (old new : Keeping) : Type 0 where
  pub part : (number : ℕ) → new.part number ≡ old.part number
  pub own : (number : ℕ) → new.own number ≡ old.own number

-- the keepers fit still, and what they keep is as it was
abbrev pub StillFit : Type 0 → Keeping → Keeping → Type 0
StillFit Fit old new = Fit × KeepsOn old new

-- what they keep once one of them gave its bucket back
pub record KeepsGiven (held : Held) (given : Bucket) (old new : Keeping) : Type 0 where
  pub part : new.part held.number ≡ part_of given
  pub others : (number : ℕ) → number ≢ held.number → new.part number ≡ old.part number
  pub made : List Entry
  pub added : given.journal.entries ≡ held.bucket.journal.entries ++ made
  pub own : new.own held.number ≡ old.own held.number ++ made
  pub others_own : (number : ℕ) → number ≢ held.number → new.own number ≡ old.own number

-- Where no split runs, a bucket is as the board says: it has the board's map, no split is open in it, each core is active and none is
-- fed. The entries that its keeper made go with those that the board got since the collection was opened.
pub record IsAtRest (opened : ℕ) (entries : List BoardEntry) (slices : List Slice) (part : Part) (own : List Entry) : Type 0 where
  pub map_is : part.map ≡ slices
  pub idle : part.phase ≡ phases.Idle
  pub active : All (λ (core : CorePart). core.mode ≡ Active) part.cores
  pub unfed : part.feeds ≡ []
  pub since : opened ≤ length entries
  pub together : GoTogether (drop opened entries) own

-- so is each bucket of the collection
abbrev pub AreAtRest : Layout → List BoardEntry → Keeping → Type 0
AreAtRest layout entries keeping = (number : ℕ) → number < layout.buckets
    → IsAtRest layout.opened.board entries (board_map layout.first entries) (keeping.part number) (keeping.own number)

-- a desk is at rest: nothing is out, and what was seen is legal
pub record IsDeskAtRest (layout : Layout) (out : Out) (seen : Seen) : Type 0 where
  pub nothing_out : out ≡ nothing_out
  pub legal : AreLegal layout seen
