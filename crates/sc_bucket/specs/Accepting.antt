-- What the parts of `Bucket::accept` do.
use Rattle.std.specs.Prelude.{◌≡◌, ◌<◌, ◌≤◌, ℕ, ℤ, ◌+◌, List, [], ◌∷◌, ◌++◌, length, slice_get, slice_set, Some, true, All}
use Rattle.std.specs.declared.sync.Arc.{Arc}
use Rattle.std.specs.declared.alloc.Global.{Global}
use Rattle.sc_record.specs.declared.slice.CoreId.{CoreId}
use Rattle.sc_record.specs.Writes.{Write}
use Rattle.sc_record.specs.declared.entry.Entry.TheVariants as entry
use Rattle.sc_replica.specs.Core.{Core, led}
use Rattle.sc_partial.specs.declared.fault.PartialFault.{PartialFault}
use Rattle.sc_partial.specs.declared.fault.PartialFault.TheVariants as partial
use Rattle.sc_journal.specs.Legal.{HasTerms}
use Rattle.sc_bucket.specs.declared.bucket.Bucket.{Bucket}
use Rattle.sc_bucket.specs.declared.accept.AcceptFault.{AcceptFault}
use Rattle.sc_bucket.specs.declared.accept.AcceptFault.TheVariants as faults
use Rattle.sc_bucket.specs.Kept.{Sent, FeedState}
use Rattle.sc_record.specs.Names.{is_core}
use Rattle.sc_replicas.specs.Cores.{without_room}
use Rattle.sc_bucket.specs.Pending.{to_feed, pending}
use Rattle.sc_bucket.specs.Sound.{HasSpare}
use Rattle.sc_bucket.specs.Events.{HasSameFixedParts, HasSameSplit}

-- the fault of an order whose change makes no document
abbrev pub accept_fault : PartialFault → AcceptFault
accept_fault (partial.Field name) = faults.Partial name
accept_fault partial.Memory = faults.Memory

-- the write is one of this id, hash and version, and its terms are those of its document
pub record IsNewWrite (id : List ℕ) (hash version : ℤ) (write : Write) : Type 0 where
  pub id_is : write.id ≡ id
  pub hash_is : write.hash ≡ hash
  pub version_is : write.version ≡ version
  pub terms_are : HasTerms id write.doc write.terms

-- the core is the same, and has no less room
pub record IsRoomier (old new : Core) : Type 0 where
  pub same : without_room new ≡ without_room old
  pub cells : old.cell_spare ≤ new.cell_spare
  pub buffer : old.buffer_spare ≤ new.buffer_spare

-- the core has room for one more write than all that could be pending for it
pub record HasMore (messages : List Sent) (feeds : List FeedState) (core : Core) : Type 0 where
  pub cells : length messages + length core.buffer + length (to_feed feeds core.core) < core.cell_spare
  pub buffer : length messages < core.buffer_spare

-- the core of this name has it
abbrev pub HasMoreAt : List Sent → List FeedState → List Core → CoreId → Type 0
HasMoreAt messages feeds cores name = All (λ (core : Core). is_core name core.core ≡ true → HasMore messages feeds core) cores

-- There is memory for a write that the core at the place leads and that these messages send to the others, for the entries that
-- are owed with it, and in the cores.
pub record HasMemory (b : Bucket) (leader : ℕ) (messages : List Sent) : Type 0 where
  pub journal : b.owed + 2 ≤ b.journal.room
  pub unsettled : 0 < b.unsettled.room
  pub flight : length messages ≤ b.flight.room
  pub cores : All (HasSpare (b.flight.messages ++ messages) b.feeds) b.replicas
  pub one_more : (core : Core) → slice_get b.replicas leader ≡ Some core
      → length (pending (b.flight.messages ++ messages) b.feeds core) < core.cell_spare

-- A write was put into a bucket: at the end of its journal, with its place among those that are not settled, and into the
-- core at a place, which led it; and these messages were sent.
pub record IsPut (old : Bucket) (cell : Arc Write Global) (at : ℕ) (messages : List Sent) (new : Bucket) : Type 0 where
  pub name : HasSameFixedParts old new
  pub split : HasSameSplit old new
  pub map_is : new.map ≡ old.map
  pub entries : new.journal.entries ≡ old.journal.entries ++ entry.Write cell ∷ []
  pub places : new.unsettled.places ≡ old.unsettled.places ++ length old.journal.entries ∷ []
  pub owed_is : new.owed ≡ old.owed + 1
  pub room : new.owed ≤ new.journal.room
  pub flight_is : new.flight.messages ≡ old.flight.messages ++ messages
  pub cores : (core : Core) → slice_get old.replicas at ≡ Some core → new.replicas ≡ slice_set old.replicas at (led core cell.value)
  pub searchers_are : new.searchers ≡ old.searchers
