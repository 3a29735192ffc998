-- What each event of a bucket changes, and that all else stays.
use Rattle.std.specs.Prelude.{◌≡◌, ℕ, ◌∷◌, ◌++◌, ℤ, [], List, length, map, filter, not, slice_get, slice_set, Some, Result, Ok, Err, IsSome, true, false, if◌then◌else◌, Contains, max}
use Rattle.std.specs.List.{remove}
use Rattle.std.specs.Option.{option_map}
use Rattle.std.specs.declared.sync.Arc.{Arc}
use Rattle.std.specs.declared.alloc.Global.{Global}
use Rattle.sc_record.specs.Names.{key_of_core, is_core}
use Rattle.sc_record.specs.declared.slice.CoreId.{CoreId}
use Rattle.sc_record.specs.Versions.{version_after, shown_version}
use Rattle.sc_record.specs.Writes.{Write}
use Rattle.sc_record.specs.declared.order.Order.{Order}
use Rattle.sc_record.specs.declared.entry.Entry.TheVariants as entry
use Rattle.sc_replica.specs.Core.{Core, led}
use Rattle.sc_journal.specs.Journal.{write_at, is_settled}
use Rattle.sc_journal.specs.Down.{is_down, IsFollower}
use Rattle.sc_journal.specs.Outcomes.{Outcome, accepted, conflict, partial, log_full, out_of_memory, IsFitting, IsWriteOf}
use Rattle.sc_bucket.specs.Kept.{Sent}
use Rattle.sc_replicas.specs.Cores.{followers, IsLeaderAt, without_room}
use Rattle.sc_bucket.specs.Searchers.{AreTaken}
use Rattle.sc_bucket.specs.Room.{BucketHasRoom}
use Rattle.sc_bucket.specs.Flight.{is_of_write, is_to, sent_to, delivered, delivered_all, arrived, IsFirstOf}
use Rattle.sc_bucket.specs.declared.bucket.Bucket.{Bucket}
use Rattle.sc_bucket.specs.declared.accept.Accepted.{Accepted}
use Rattle.sc_bucket.specs.declared.accept.AcceptFault.{AcceptFault}
use Rattle.sc_bucket.specs.declared.accept.AcceptFault.TheVariants as faults

-- the cores are the same but for their room
abbrev pub AreSameCores : List Core → List Core → Type 0
AreSameCores old new = map without_room new ≡ map without_room old

-- what no event changes but the one that is for it: the first map, the limit, and how many of the entries a log file has
pub record HasSameFixedParts (old new : Bucket) : Type 0 where
  pub first : new.first ≡ old.first
  pub limit : new.limit ≡ old.limit
  pub filed : new.journal.filed ≡ old.journal.filed

-- nothing of a split was changed
pub record HasSameSplit (old new : Bucket) : Type 0 where
  pub phase : new.phase ≡ old.phase
  pub feeds : new.feeds ≡ old.feeds

-- nothing was changed but room
pub record IsSameButRoom (old new : Bucket) : Type 0 where
  pub name : HasSameFixedParts old new
  pub split : HasSameSplit old new
  pub map_is : new.map ≡ old.map
  pub entries : new.journal.entries ≡ old.journal.entries
  pub messages : new.flight.messages ≡ old.flight.messages
  pub cores : AreSameCores old.replicas new.replicas
  pub searchers_are : new.searchers ≡ old.searchers

-- An order is accepted at a timestamp: its write comes to the end of the journal, and the leader of its hash leads it, with the
-- version that comes after the timestamp's and after that leader's clock; and it is sent to each other core that takes it.
pub record Accepts (old : Bucket) (order : Order) (now : ℕ) (version : ℤ) (new : Bucket) : Type 0 where
  pub name : HasSameFixedParts old new
  pub split : HasSameSplit old new
  pub map_is : new.map ≡ old.map
  pub fitting : IsFitting old.journal.entries order
  pub room : BucketHasRoom 2 old
  pub cell : Arc Write Global
  pub write : IsWriteOf old.journal.entries order now cell.value
  pub at : ℕ
  pub leader : IsLeaderAt old.map old.replicas cell.value.hash at
  pub clocked : cell.value.version ≡ version_after now leader.core.clock
  pub shown : version ≡ shown_version cell.value
  pub entries : new.journal.entries ≡ old.journal.entries ++ entry.Write cell ∷ []
  pub cores : AreSameCores (slice_set old.replicas at (led leader.core cell.value)) new.replicas
  pub messages : new.flight.messages ≡ old.flight.messages
      ++ sent_to (length old.journal.entries) cell.value (followers old.map old.replicas cell.value.hash leader.core.core)
  pub searchers_are : new.searchers ≡ old.searchers

-- the message at this place of the flight is delivered: it leaves the flight, and its core receives the write
pub record Delivers (old : Bucket) (at : ℕ) (message : Sent) (new : Bucket) : Type 0 where
  pub name : HasSameFixedParts old new
  pub split : HasSameSplit old new
  pub map_is : new.map ≡ old.map
  pub entries : new.journal.entries ≡ old.journal.entries
  pub found : slice_get old.flight.messages at ≡ Some message
  pub messages : new.flight.messages ≡ remove old.flight.messages at
  pub cores : new.replicas ≡ delivered message old.replicas
  pub searchers_are : new.searchers ≡ old.searchers

-- the first message of the write at the place is delivered, which was to this core
pub record DeliversFirst (old : Bucket) (place : ℕ) (core : CoreId) (new : Bucket) : Type 0 where
  pub at : ℕ
  pub message : Sent
  pub first : IsFirstOf place old.flight.messages at message
  pub core_is : message.core ≡ core
  pub delivers : Delivers old at message new

-- all that is in flight to the core of this name is delivered, in the order of sending
pub record DeliversAllTo (old : Bucket) (core : CoreId) (new : Bucket) : Type 0 where
  pub name : HasSameFixedParts old new
  pub split : HasSameSplit old new
  pub map_is : new.map ≡ old.map
  pub entries : new.journal.entries ≡ old.journal.entries
  pub messages : new.flight.messages ≡ filter (λ (message : Sent). not (is_to core message)) old.flight.messages
  pub cores : new.replicas ≡ map (arrived old.flight.messages core) old.replicas
  pub searchers_are : new.searchers ≡ old.searchers

-- the write at the place is settled: its messages in flight are delivered, and its entry comes to the end of the journal
pub record Settles (old : Bucket) (place : ℕ) (new : Bucket) : Type 0 where
  pub name : HasSameFixedParts old new
  pub split : HasSameSplit old new
  pub map_is : new.map ≡ old.map
  pub entries : new.journal.entries ≡ old.journal.entries ++ entry.Settled place ∷ []
  pub messages : new.flight.messages ≡ filter (λ (message : Sent). not (is_of_write place message)) old.flight.messages
  pub cores : new.replicas ≡ delivered_all (filter (is_of_write place) old.flight.messages) old.replicas
  pub searchers_are : new.searchers ≡ old.searchers

-- detach: the core is a follower of an active slice, is there, and is not down
pub record CanDetach (b : Bucket) (name : CoreId) : Type 0 where
  pub follower : IsFollower b.map name
  pub there : Contains (map (λ (core : Core). core.core) b.replicas) name
  pub up : is_down b.journal.entries (key_of_core name) ≡ false

-- the core of this name marked as down; any other core stays
abbrev pub detached : CoreId → Core → Core
detached name core = if is_core name core.core then record core { down = true } else core

-- The core of this name is marked as down: the messages to it leave the flight, and the entry that says so comes to the end of the
-- journal. It keeps its cells, its log and its clock.
pub record Detaches (old : Bucket) (name : CoreId) (new : Bucket) : Type 0 where
  pub kept : HasSameFixedParts old new
  pub split : HasSameSplit old new
  pub map_is : new.map ≡ old.map
  pub entries : new.journal.entries ≡ old.journal.entries ++ entry.Down name ∷ []
  pub messages : new.flight.messages ≡ filter (λ (message : Sent). not (is_to name message)) old.flight.messages
  pub cores : new.replicas ≡ map (detached name) old.replicas
  pub searchers_are : new.searchers ≡ old.searchers

-- the entry that settles the write at the place comes to the end of the journal
pub record NotesSettled (old : Bucket) (place : ℕ) (new : Bucket) : Type 0 where
  pub name : HasSameFixedParts old new
  pub split : HasSameSplit old new
  pub map_is : new.map ≡ old.map
  pub entries : new.journal.entries ≡ old.journal.entries ++ entry.Settled place ∷ []
  pub flight_is : new.flight ≡ old.flight
  pub cores : new.replicas ≡ old.replicas
  pub searchers_are : new.searchers ≡ old.searchers

-- all is committed: each active slice has a searcher of its leader's cells as they are, and the entry that says so comes to the
-- end of the journal
pub record Commits (old new : Bucket) : Type 0 where
  pub name : HasSameFixedParts old new
  pub split : HasSameSplit old new
  pub map_is : new.map ≡ old.map
  pub room : BucketHasRoom 1 old
  pub entries : new.journal.entries ≡ old.journal.entries ++ entry.Committed ∷ []
  pub messages : new.flight.messages ≡ old.flight.messages
  pub cores : new.replicas ≡ old.replicas
  pub searchers_are : AreTaken old.map old.replicas (length old.journal.entries) new.searchers

-- it was said that a log file has the first n entries of the journal, where a file is asked: nothing else is changed
abbrev pub NotesFiled : Bucket → ℕ → Bucket → Type 0
NotesFiled old n new = new ≡ record old { journal = record old.journal { filed = option_map (max n) old.journal.filed } }

-- one event of a bucket, or none
pub data IsStep (old new : Bucket) : Type 0 where
  stays : IsSameButRoom old new → IsStep old new
  accepts : {order : Order} {now : ℕ} {version : ℤ} → Accepts old order now version new → IsStep old new
  delivers : {at : ℕ} {message : Sent} → Delivers old at message new → IsStep old new
  settles : {place : ℕ} → IsSome (write_at old.journal.entries place) → is_settled old.journal.entries place ≡ false
      → Settles old place new → IsStep old new
  commits : Commits old new → IsStep old new
  detaches : {name : CoreId} → CanDetach old name → Detaches old name new → IsStep old new
  notes_filed : (n : ℕ) → NotesFiled old n new → IsStep old new

-- what an accept answered
abbrev pub outcome_of : Result Accepted AcceptFault → Outcome
outcome_of (Ok result) = accepted result.version
outcome_of (Err (faults.Conflict found)) = conflict found
outcome_of (Err (faults.Partial name)) = partial name
outcome_of (Err faults.LogFull) = log_full
outcome_of (Err faults.Memory) = out_of_memory
