-- The messages that are left are the others.
use Rattle.std.proofs.Common.{◌≡◌, ◌∙◌, ℕ, List, map, ap}
use Rattle.std.specs.List.{remove}
use Rattle.sc_bucket.specs.declared.message.Message.{Message}
use Rattle.sc_bucket.specs.Kept.{Sent, FlightState}
use Rattle.sc_bucket.specs.Flight.{sent_of}
use Rattle.sc_bucket.proofs.FlightLemmas.{map-remove}
use Rattle.sc_bucket.proofs.flight.Flight.take.Goals as goal

-- the state without the message
without : (state : FlightState) (items left : List Message) (at room : ℕ) → record { messages = map sent_of items; room = room } ≡ state
    → left ≡ remove items at → record { messages = map sent_of left; room = room } ≡ record state { messages = remove state.messages at }
without state items left at room seen is =
    ap (λ (these : List Sent). record { messages = these; room = room }) (ap (map sent_of) is ∙ map-remove sent_of items at)
    ∙ ap (λ (s : FlightState). record { messages = remove s.messages at; room = s.room }) seen

pub returns-clause-left : goal.returns-clause-left
returns-clause-left c = without c.args.self.now c.self.inside.messages.items c.remove.new.self.items c.args.at c.self.inside.room c.self.view_is c.remove.ensures.items
