-- The messages stand at the end.
use Rattle.std.proofs.Common.{◌≡◌, ◌∙◌, ℕ, ◌+◌, ◌-◌, ◌≤◌, List, [], ◌∷◌, ◌++◌, length, map, sym, ap, append_assoc, arith, length-append}
use Rattle.std.proofs.lemmas.List.{append-nil, map-append, nil_from_length}
use Rattle.sc_bucket.specs.declared.message.Message.{Message}
use Rattle.sc_bucket.specs.Kept.{Sent, FlightState}
use Rattle.sc_bucket.specs.Flight.{sent_of}
use Rattle.sc_bucket.proofs.flight.Flight.append.Goals as goal

-- how many are left to take is below the room
some_room : (yielded rest all : List Message) (message : Message) (more : List Message) (room first : ℕ)
    → yielded ++ rest ≡ all → rest ≡ message ∷ more → room + length yielded ≡ first → length all ≤ first → 1 ≤ room
some_room yielded rest all message more room first is next counted few =
    let long : length (yielded ++ rest) ≡ length all = ap length is in
    let one : length rest ≡ length (message ∷ more) = ap length next in
    omega (arith, long, one, length-append yielded rest, counted, few)

-- messages and room
abbrev flight_of : List Sent → ℕ → FlightState
flight_of messages room = record { messages = messages; room = room }

-- the state once all were taken
all_appended : (state : FlightState) (items before yielded all rest : List Message) (room first : ℕ)
    → flight_of (map sent_of before) first ≡ state → items ≡ before ++ yielded → yielded ++ rest ≡ all
    → length rest ≡ 0 → room + length yielded ≡ first
    → flight_of (map sent_of items) room ≡ flight_of (state.messages ++ map sent_of all) (state.room - length all)
all_appended state items before yielded all rest room first seen is whole none counted =
    let same : yielded ≡ all = sym (append-nil yielded) ∙ ap (λ (end : List Message). yielded ++ end) (sym (nil_from_length rest none)) ∙ whole in
    let many : length yielded ≡ length all = ap length same in
    let left : room ≡ first - length all = omega (arith, counted, many) in
    let messages : map sent_of items ≡ map sent_of before ++ map sent_of all =
    ap (map sent_of) (is ∙ ap (λ (end : List Message). before ++ end) same) ∙ map-append sent_of before all in
    ap (λ (these : List Sent). flight_of these room) messages
    ∙ ap (flight_of (map sent_of before ++ map sent_of all)) left
    ∙ ap (λ (s : FlightState). flight_of (s.messages ++ map sent_of all) (s.room - length all)) seen

pub loop-message-init : goal.loop-message-init
loop-message-init c = record {
  items = sym (append-nil c.self.inside.messages.items);
  left = c.into_iter-message-iterator.ensures.into_iter_gives.0;
  room = omega arith;
  fits = c.self.invariant;
}

pub invariant_of-self : goal.invariant_of-self
invariant_of-self c = c.loop-message.invariant.fits

pub push_reserved-requires : goal.push_reserved-requires
push_reserved-requires c =
    let i = c.loop-message.invariant in
    let seen : c.self.inside.room ≡ c.args.self.now.room = ap (λ (s : FlightState). s.room) c.self.view_is in
    let room = some_room c.loop-message.yielded c.loop-message.message-iterator.rest.items c.args.messages.items c.in-Some.message c.next.new.self.rest.items
    c.loop-message.self-inside.room c.self.inside.room i.left (c.in-Some.ensures.steps).0 i.room (omega (arith, seen, c.requires)) in
    omega (arith, room, i.fits)

pub overflow_sub-self : goal.overflow_sub-self
overflow_sub-self c =
    let i = c.loop-message.invariant in
    let seen : c.self.inside.room ≡ c.args.self.now.room = ap (λ (s : FlightState). s.room) c.self.view_is in
    some_room c.loop-message.yielded c.loop-message.message-iterator.rest.items c.args.messages.items c.in-Some.message c.next.new.self.rest.items
    c.loop-message.self-inside.room c.self.inside.room i.left (c.in-Some.ensures.steps).0 i.room (omega (arith, seen, c.requires))

pub loop-message-preserved : goal.loop-message-preserved
loop-message-preserved c =
    let i = c.loop-message.invariant in
    let message = c.in-Some.message in
    let yielded = c.loop-message.yielded in
    let rest = c.next.new.self.rest.items in
    let before = c.self.inside.messages.items in
    let seen : c.self.inside.room ≡ c.args.self.now.room = ap (λ (s : FlightState). s.room) c.self.view_is in
    let room = some_room yielded c.loop-message.message-iterator.rest.items c.args.messages.items message rest
    c.loop-message.self-inside.room c.self.inside.room i.left (c.in-Some.ensures.steps).0 i.room (omega (arith, seen, c.requires)) in
    record {
      items = c.push_reserved.ensures.items ∙ ap (λ (these : List Message). these ++ message ∷ []) i.items ∙ append_assoc before yielded (message ∷ []);
      left = append_assoc yielded (message ∷ []) rest ∙ ap (λ (end : List Message). yielded ++ end) (sym (c.in-Some.ensures.steps).0) ∙ i.left;
      room = omega (arith, room, i.room, length-append yielded (message ∷ []));
      fits = omega (arith, room, i.fits, c.push_reserved.ensures.len, c.push_reserved.ensures.capacity);
    }

pub returns : goal.returns
returns c =
    let i = c.loop-message.invariant in
    all_appended c.args.self.now c.loop-message.self-inside.messages.items c.self.inside.messages.items c.loop-message.yielded c.args.messages.items
    c.loop-message.message-iterator.rest.items c.loop-message.self-inside.room c.self.inside.room c.self.view_is i.items i.left
    (omega (arith, c.loop-message.message-iterator.rest.ok.0, (c.in-None.ensures.steps).0)) i.room
