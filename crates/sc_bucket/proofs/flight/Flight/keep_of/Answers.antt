-- What is left is the filter by the map's slices.
use Rattle.std.proofs.Common.{◌≡◌, ◌∙◌, ℕ, List, map, filter, sym, ap, rules}
use Rattle.std.proofs.lemmas.Fn.{filter_same}
use Rattle.sc_cluster.specs.declared.slice.Slice.{Slice}
use Rattle.sc_cluster.proofs.ListLemmas.{filter-map}
use Rattle.sc_bucket.specs.declared.message.Message.{Message}
use Rattle.sc_bucket.specs.Kept.{Sent, FlightState}
use Rattle.sc_replicas.specs.Cores.{is_of_one}
use Rattle.sc_bucket.specs.Flight.{sent_of}
use Rattle.sc_bucket.proofs.flight.Flight.keep_of.Goals as goal

-- the state with the messages that are kept
kept : (slices : List Slice) (state : FlightState) (items left : List Message) (room : ℕ)
    → record { messages = map sent_of items; room = room } ≡ state
    → left ≡ filter (λ (message : Message). is_of_one slices message.core) items
    → record { messages = map sent_of left; room = room }
    ≡ record state { messages = filter (λ (message : Sent). is_of_one slices message.core) state.messages }
kept slices state items left room seen is =
    let of_one : Sent → _ = λ (message : Sent). is_of_one slices message.core in
    ap (λ (these : List Sent). record { messages = these; room = room }) (ap (map sent_of) is ∙ sym (filter-map of_one sent_of items))
    ∙ ap (λ (s : FlightState). record { messages = filter of_one s.messages; room = s.room }) seen

pub returns : goal.returns
returns c =
    kept c.args.slices.now c.args.self.now c.self.inside.messages.items c.retain.new.self.items c.self.inside.room c.self.view_is
    (filter_same _ (λ (message : Message). is_of_one c.args.slices.now message.core) _ (λ x b f' k. search rules) _ _ c.retain.ensures.filtered)
