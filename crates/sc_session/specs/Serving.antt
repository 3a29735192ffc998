-- What one step of a connection leaves.
use Rattle.std.specs.Prelude.{◌≡◌, ◌⊎◌, ℕ, ◌+◌, List, ◌++◌, length, Option, Some, IfSome, is_some, false, Result, Ok, Err}
use Rattle.std.specs.List.{AllByRecursion}
use Rattle.sc_io.specs.Pieces.{AddsPrefix}
use Rattle.sc_collection.specs.Kept.{are_enough}
use Rattle.sc_seen.specs.Seen.{Layout, Seen}
use Rattle.sc_seen.specs.declared.stop.Stop.{Stop}
use Rattle.sc_gate.specs.Gates.{Gated, StillKeeps, SeesOnly}
use Rattle.sc_gate.specs.declared.gate.GateFault.{GateFault}
use Rattle.sc_gate.specs.declared.gate.GateFault.TheVariants as gates
use Rattle.sc_seen.specs.Batches.{GivesTimestamps}
use Rattle.sc_session.specs.Commands.{Leaves}
use Rattle.sc_session.specs.States.{ConnectionState, CountsFault, world_of, situation_in}
use Rattle.sc_session.specs.declared.end.End.{End}
use Rattle.sc_session.specs.declared.end.End.TheVariants as ends
use Rattle.sc_model.specs.declared.message.Incoming.{Incoming}
use Rattle.sc_session.specs.Connection.{GateOutcome, kept, log_failed, no_memory, Exchange, IsExchange, IsKept, MakeNothing, situation_after, reply_of_exchange, end_after}
use Rattle.sc_model.specs.Replies.{Reply, text_of}

-- the text was written, where the sink reports it
abbrev pub Writes : List ℕ → Option (List ℕ) → Option (List ℕ) → Type 0
Writes text old new = IfSome old (λ bytes. new ≡ Some (bytes ++ text))

-- a prefix of the text was written, where the sink reports it
abbrev pub WritesPrefix : List ℕ → Option (List ℕ) → Option (List ℕ) → Type 0
WritesPrefix text old new = IfSome old (λ bytes. AddsPrefix bytes text new)

-- the connection ends as is expected, or stays open, and the text was written; or the sink failed
abbrev pub EndsWriting : (end expected : Option End) → List ℕ → (old new : Option (List ℕ)) → Type 0
EndsWriting end expected text old new =
    ((end ≡ expected) × Writes text old new) ⊎ ((end ≡ Some ends.WriteFault) × WritesPrefix text old new)

-- the reply was written, with which the connection ends as is expected or stays open; or the sink failed
abbrev pub Responds : (end expected : Option End) → Reply → (old new : Option (List ℕ)) → Type 0
Responds end expected reply old new = EndsWriting end expected (text_of reply (is_some expected)) old new

-- how the connection ends after an exchange, if it does, by what stands beside it then
abbrev pub end_by : {C : Type 0} → Exchange → ConnectionState C → Option End
end_by x state = end_after x.answer x.gate x.request.close (are_enough state.requests (length state.moment.view.stops))

-- what came of the gate, as the definitions see it
abbrev pub outcome_of : {A : Type 0} → Result A GateFault → GateOutcome
outcome_of (Ok passed) = kept
outcome_of (Err gates.Failed) = log_failed
outcome_of (Err gates.Memory) = no_memory

-- what a gate keeps, and what was seen, at one moment
pub record GateMoment : Type 0 where
  pub seen : Seen
  pub gate : Gated

-- no hold at these stops made an entry of the board, whose lock this is
abbrev pub NoteNothing : ℕ → List Stop → Type 0
NoteNothing board stops = AllByRecursion (λ (stop : Stop). stop.lock ≡ board → stop.made ≡ false) stops

-- The gate was passed after these stops, from one moment to another, or not.
pub record PassesGate (layout : Layout) (stops : List Stop) (old new : GateMoment) (outcome : GateOutcome) : Type 0 where
  pub kept_is : outcome ≡ kept → IsKept layout old.seen new.gate stops
  pub stays : StillKeeps old.gate new.gate
  pub met : SeesOnly old.seen new.seen
  pub alone : old.gate.meets ≡ false → new.seen ≡ old.seen
  pub unasked : MakeNothing stops → (outcome ≡ kept) × (new.seen ≡ old.seen)
  pub faults : CountsFault (outcome ≡ log_failed) old.gate.faults new.gate.faults

-- one request was answered, the gate was passed, and the reply was written
pub record Exchanges {C : Type 0} (gives : C → ℕ → C → Type 0) (layout : Layout) (request : Incoming) (old new : ConnectionState C) (end : Option End) : Type 0 where
  pub exchange : Exchange
  pub request_is : exchange.request ≡ request
  pub passed_is : exchange.passed ≡ new.moment.view.seen
  pub outside_is : exchange.outside ≡ new.outside
  pub is : IsExchange layout old.moment.view.seen exchange
  pub leaves : Leaves layout exchange.trace.answers exchange.trace.stops exchange.trace.command (situation_in (world_of old)) (situation_after exchange)
  pub stops : new.moment.view.stops ≡ old.moment.view.stops ++ exchange.trace.stops
  pub requests : new.requests ≡ old.requests + 1
  pub timestamps : GivesTimestamps gives old.moment.clock exchange.trace.timestamps new.moment.clock
  pub responds : Responds end (end_by exchange new) (reply_of_exchange exchange) old.written new.written
  pub write_faults : CountsFault (end ≡ Some ends.WriteFault) old.write_faults new.write_faults
  pub passes : PassesGate layout exchange.trace.stops (record { seen = exchange.seen; gate = old.gate }) (record { seen = exchange.passed; gate = new.gate }) exchange.gate
