-- What becomes of a core by one delivery after another, and which write of an id is the greatest.
use Rattle.std.specs.Prelude.{◌≡◌, ◌≤ℤ◌, zero, suc, ℕ, All, Contains, List, [], ◌∷◌, MatchOption, Option}
use Rattle.sc_record.specs.Writes.{Write}
use Rattle.sc_ulog.specs.declared.mode.Mode.TheVariants.{Replaying}
use Rattle.sc_replica.specs.Core.{Core, fed, received, replayed}

-- how a write comes to a core that doesn't lead: as an update that it is sent, or from a snapshot that it is fed
pub data Delivery : Type 0 where
  Received : Write → Delivery
  Fed : Write → Delivery

-- the write that comes
abbrev pub carried : Delivery → Write
carried (Delivery.Received write) = write
carried (Delivery.Fed write) = write

-- the core after a delivery
abbrev pub after_delivery : Core → Delivery → Core
after_delivery core (Delivery.Received write) = received core write
after_delivery core (Delivery.Fed write) = fed core write

-- the core after all of them
abbrev pub after_deliveries : Core → List Delivery → Core
after_deliveries core [] = core
after_deliveries core (delivery ∷ deliveries) = after_deliveries (after_delivery core delivery) deliveries

-- the core once it was sent all the writes
abbrev pub received_all : Core → List Write → Core
received_all core [] = core
received_all core (write ∷ writes) = received_all (received core write) writes

-- the core as its replay begins
abbrev pub replaying : Core → Core
replaying core = record core { mode = Replaying }

-- the core after so many replays
abbrev pub replayed_times : ℕ → Core → Core
replayed_times zero core = core
replayed_times (suc n) core = replayed_times n (replayed core)

-- what may happen to a core that doesn't lead
pub data Step : Type 0 where
  Delivers : Delivery → Step
  Begins : Step
  Replays : Step

-- the write that comes with it, where one does
abbrev pub came : Step → List Write
came (Step.Delivers delivery) = carried delivery ∷ []
came Step.Begins = []
came Step.Replays = []

-- the core after it: a delivery, the beginning of a replay or one replay
abbrev pub stepped : Core → Step → Core
stepped core (Step.Delivers delivery) = after_delivery core delivery
stepped core Step.Begins = replaying core
stepped core Step.Replays = replayed core

-- the core after all of them
abbrev pub stepped_all : Core → List Step → Core
stepped_all core [] = core
stepped_all core (step ∷ steps) = stepped_all (stepped core step) steps

-- the greatest of the writes by version: none exactly where there are none
abbrev pub IsGreatest : List Write → Option Write → Type 0
IsGreatest writes greatest =
    MatchOption greatest (writes ≡ [])
    (λ (write : Write). Contains writes write × All (λ (other : Write). other.version ≤ℤ write.version) writes)
