-- What is left is the filter of the messages to others.
use Rattle.std.proofs.Common.{◌≡◌, ◌∙◌, ℕ, List, map, filter, not, sym, ap, rules}
use Rattle.std.proofs.lemmas.Fn.{filter_same}
use borrow.Author.Tests.{tests}
use Rattle.sc_record.specs.declared.slice.CoreId.{CoreId}
use Rattle.sc_record.specs.Names.{is_core}
use Rattle.sc_cluster.proofs.ListLemmas.{filter-map}
use Rattle.sc_bucket.specs.declared.message.Message.{Message}
use Rattle.sc_bucket.specs.Kept.{Sent, FlightState}
use Rattle.sc_bucket.specs.Flight.{sent_of, is_to}
use Rattle.sc_bucket.proofs.flight.Flight.leave_out.Goals as goal

-- the state with the messages that are left
kept : (core : CoreId) (state : FlightState) (items left : List Message) (room : ℕ)
    → record { messages = map sent_of items; room = room } ≡ state
    → left ≡ filter (λ (message : Message). not (is_core core message.core)) items
    → record { messages = map sent_of left; room = room }
    ≡ record state { messages = filter (λ (message : Sent). not (is_to core message)) state.messages }
kept core state items left room seen is =
    let others : Sent → _ = λ (message : Sent). not (is_to core message) in
    ap (λ (these : List Sent). record { messages = these; room = room }) (ap (map sent_of) is ∙ sym (filter-map others sent_of items))
    ∙ ap (λ (s : FlightState). record { messages = filter others s.messages; room = s.room }) seen

pub returns : goal.returns
returns c =
    kept c.args.core c.args.self.now c.self.inside.messages.items c.retain.new.self.items c.self.inside.room c.self.view_is
    (filter_same _ (λ (message : Message). not (is_core c.args.core message.core)) _ (λ x b f' k. search (rules, tests)) _ _ c.retain.ensures.filtered)
