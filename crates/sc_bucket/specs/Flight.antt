-- The messages in flight: to which cores they go, and what becomes of the cores once they are delivered.
use Rattle.std.specs.Prelude.{◌≡◌, ◌≢◌, ℕ, Bool, nat_eq, ◌&&◌, if◌then◌else◌, All, List, [], ◌∷◌, map, filter, take, slice_get, Some}
use Rattle.std.specs.Arc.{arc_value}
use Rattle.sc_record.specs.declared.slice.CoreId.{CoreId}
use Rattle.sc_record.specs.Writes.{Write}
use Rattle.sc_replica.specs.Core.{Core, received}
use Rattle.sc_replica.specs.Deliveries.{received_all}
use Rattle.sc_bucket.specs.declared.message.Message.{Message}
use Rattle.sc_bucket.specs.Kept.{Sent}
use Rattle.sc_record.specs.Names.{is_core}

-- a message as contracts see it
abbrev pub sent_of : Message → Sent
sent_of message = record { place = message.place; core = message.core; write = arc_value message.write }

-- the message is of the write at the place
abbrev pub is_of_write : ℕ → Sent → Bool
is_of_write place message = nat_eq message.place place

-- the two messages are of one write, to one core
abbrev pub is_same_message : Sent → Sent → Bool
is_same_message one other = nat_eq one.place other.place && is_core one.core other.core

-- the messages of a write at a place, one to each of these cores
abbrev pub sent_to : ℕ → Write → List CoreId → List Sent
sent_to place write cores = map (λ core. record { place = place; core = core; write = write }) cores

-- the writes of the messages to a core
abbrev pub in_flight : List Sent → CoreId → List Write
in_flight messages core = map (λ (message : Sent). message.write) (filter (λ (message : Sent). is_core core message.core) messages)

-- the core of this name once it received the write; any other core stays
abbrev pub received_by : CoreId → Write → Core → Core
received_by name write core = if is_core name core.core then received core write else core

-- the cores once a message was delivered
abbrev pub delivered : Sent → List Core → List Core
delivered message cores = map (received_by message.core message.write) cores

-- the cores once all messages were delivered, one after another
abbrev pub delivered_all : List Sent → List Core → List Core
delivered_all [] cores = cores
delivered_all (message ∷ messages) cores = delivered_all messages (delivered message cores)

-- the message at this place of the flight is the first of the write
pub record IsFirstOf (write : ℕ) (messages : List Sent) (at : ℕ) (message : Sent) : Type 0 where
  pub found : slice_get messages at ≡ Some message
  pub of_write : message.place ≡ write
  pub first : All (λ (other : Sent). other.place ≢ write) (take at messages)

-- the message goes to the core of this name
abbrev pub is_to : CoreId → Sent → Bool
is_to core message = is_core core message.core

-- the message is of the write at the place, and goes to the core of this name
abbrev pub is_for : ℕ → CoreId → Sent → Bool
is_for place core message = is_of_write place message && is_to core message

-- the core of this name once all that was in flight to it came there; any other core stays
abbrev pub arrived : List Sent → CoreId → Core → Core
arrived messages name core = if is_core name core.core then received_all core (in_flight messages name) else core
