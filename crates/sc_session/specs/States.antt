-- What stands beside a connection at one moment.
use Rattle.std.specs.Prelude.{◌≡◌, ◌<◌, ℕ, List, Option}
use Rattle.sc_cores.specs.Cores.{Outside}
use Rattle.sc_seen.specs.Moments.{Moment}
use Rattle.sc_gate.specs.Gates.{Gated}
use Rattle.sc_session.specs.Commands.{Situation, situation}

-- what stands beside a request: what was seen of the collection, the stops that were kept and the clock; and what is outside
pub record World (C : Type 0) : Type 0 where
  pub moment : Moment C
  pub outside : Outside

-- what stands in a world of the collection and outside of it
abbrev pub situation_in : {C : Type 0} → World C → Situation
situation_in world = situation world.moment.view.seen world.outside

-- What stands beside a connection: what was seen of the collection, the stops that were kept and the clock; what is outside of the
-- collection; how many requests were answered; the bytes that the source has still to give and those that the sink was given, where they report them; how
-- often the source and the sink have failed; and what the gate keeps.
pub record ConnectionState (C : Type 0) : Type 0 where
  pub moment : Moment C
  pub outside : Outside
  pub requests : ℕ
  pub unread : Option (List ℕ)
  pub written : Option (List ℕ)
  pub read_faults : ℕ
  pub write_faults : ℕ
  pub gate : Gated

-- of what stands beside a connection, what stands beside a request
abbrev pub world_of : {C : Type 0} → ConnectionState C → World C
world_of state = record { moment = state.moment; outside = state.outside }

-- a count of faults rose where this is so, and stayed where it is not
pub record CountsFault (fault : Type 0) (old new : ℕ) : Type 0 where
  pub rises : fault → old < new
  pub stays : (fault → ⊥) → new ≡ old
