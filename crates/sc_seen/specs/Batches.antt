-- What the orders of one request are answered, by the journals that were seen.
use Rattle.std.specs.Prelude.{◌≡◌, ◌≤◌, ◌<◌, ℕ, ◌-◌, Bool, true, false, not, ◌&&◌, nat_lt, List, [], ◌∷◌, ◌++◌, length, map, take, drop, if◌then◌else◌, Option, Some, None, filter_map, slice_get}
use Rattle.std.specs.List.{flat_map, AllByRecursion}
use mathlib.Core.List.{IsPrefix}
use Rattle.std.specs.Option.{option_map}
use Rattle.sc_record.specs.Versions.{shown_version}
use Rattle.sc_record.specs.Writes.{Write}
use Rattle.sc_record.specs.declared.slice.CoreId.{CoreId}
use Rattle.sc_record.specs.declared.ack.Ack.{Ack}
use Rattle.sc_record.specs.declared.entry.Entry.TheVariants as entry
use Rattle.sc_record.specs.declared.order.Order.{Order}
use Rattle.sc_record.specs.declared.order.Change.{Change}
use Rattle.sc_record.specs.declared.order.Change.TheVariants as changes
use Rattle.sc_router.specs.Route.{bucket_of}
use Rattle.sc_journal.specs.Journal.{write_at, is_settled}
use Rattle.sc_journal.specs.Outcomes.{Outcome, accepted, conflict, partial, log_full, out_of_memory, IsOutcome}
use Rattle.sc_seen.specs.Seen.{Layout, Seen, basis_of, journal_at}
use Rattle.sc_seen.specs.declared.stop.Stop.{Stop}

-- an order with the timestamp that was read for it, its stops and its outcome
pub record OrderAnswer : Type 0 where
  pub order : Order
  pub timestamp : ℕ
  pub stops : List Stop
  pub outcome : Outcome

-- An accepted order's last stop: it comes after the first. It made an entry exactly where the write of the first was not
-- settled before it, and that entry settles the write.
pub record IsSettling (seen : Seen) (first last : Stop) : Type 0 where
  pub lock : last.lock ≡ first.lock
  pub later : first.place < last.place
  pub made : last.made ≡ not (is_settled (journal_at seen last) first.place)
  pub made_is : last.made ≡ true → slice_get (seen.journals last.lock) last.place ≡ Some (entry.Settled first.place)

-- how many cores one order notes as down at most
abbrev pub most_downs : ℕ
most_downs = 3

-- the stop's entry, which the hold made, says of a core that it is down; it comes after the write of the first stop
pub record IsDownStop (seen : Seen) (first down : Stop) : Type 0 where
  pub core : CoreId
  pub lock : down.lock ≡ first.lock
  pub later : first.place < down.place
  pub made : down.made ≡ true
  pub made_is : slice_get (seen.journals down.lock) down.place ≡ Some (entry.Down core)

-- the stops of an accepted order: that of its write, those at which it noted cores as down, and the one at which the write is settled
pub record HasSettled (seen : Seen) (stops : List Stop) (first : Stop) : Type 0 where
  pub made : first.made ≡ true
  pub downs : List Stop
  pub last : Stop
  pub stops_are : stops ≡ first ∷ downs ++ last ∷ []
  pub few : length downs ≤ most_downs
  pub each : AllByRecursion (IsDownStop seen first) downs
  pub settling : IsSettling seen first last

-- an accepted order has a stop at which its write was made, and a last one at which that was settled; another has one stop
abbrev pub HasStops : Seen → Outcome → List Stop → Stop → Type 0
HasStops seen (accepted version) stops first = HasSettled seen stops first
HasStops seen (conflict version) stops first = (first.made ≡ false) × (stops ≡ first ∷ [])
HasStops seen (partial name) stops first = (first.made ≡ false) × (stops ≡ first ∷ [])
HasStops seen log_full stops first = (first.made ≡ false) × (stops ≡ first ∷ [])
HasStops seen out_of_memory stops first = (first.made ≡ false) × (stops ≡ first ∷ [])

-- the outcome is that of the journal of the id's bucket at the order's first stop
pub record IsOrderAnswer (layout : Layout) (seen : Seen) (answer : OrderAnswer) : Type 0 where
  pub first : Stop
  pub lock : first.lock ≡ bucket_of answer.order.id layout.buckets
  pub outcome : IsOutcome (basis_of layout) (journal_at seen first) answer.order answer.timestamp answer.outcome (seen.journals first.lock)
  pub stops : HasStops seen answer.outcome answer.stops first

-- orders go on after this outcome: the order was accepted, or its conflict is passed over
abbrev pub goes_on : Bool → Outcome → Bool
goes_on fail_on_conflict (accepted version) = true
goes_on fail_on_conflict (conflict version) = not fail_on_conflict
goes_on fail_on_conflict (partial name) = false
goes_on fail_on_conflict log_full = false
goes_on fail_on_conflict out_of_memory = false

-- orders go on after each of these answers
abbrev pub GoOn : Bool → List OrderAnswer → Type 0
GoOn fail answers = AllByRecursion (λ (answer : OrderAnswer). goes_on fail answer.outcome ≡ true) answers

-- The orders were answered in turn, up to one of them: the answers are to the first orders, each is that of its bucket's journal,
-- and orders went on after each but the last.
pub record AnswersOrders (layout : Layout) (seen : Seen) (fail : Bool) (orders : List Order) (answers : List OrderAnswer) : Type 0 where
  pub in_turn : IsPrefix (map (λ (answer : OrderAnswer). answer.order) answers) orders
  pub each : AllByRecursion (IsOrderAnswer layout seen) answers
  pub go_on : GoOn fail (take (length answers - 1) answers)

-- the change deletes the document
abbrev pub deletes : Change → Bool
deletes (changes.Whole doc) = false
deletes (changes.Parts parts) = false
deletes changes.Delete = true

-- the id and the version, as it is shown, of an order that was accepted
abbrev pub acknowledged : List ℕ → Outcome → Option Ack
acknowledged id (accepted version) = Some (record { id = id; version = version })
acknowledged id (conflict version) = None
acknowledged id (partial name) = None
acknowledged id log_full = None
acknowledged id out_of_memory = None

-- the same of an answer
abbrev pub ack_of : OrderAnswer → Option Ack
ack_of answer = acknowledged answer.order.id answer.outcome

-- the same of an addition
abbrev pub add_of : OrderAnswer → Option Ack
add_of answer = if deletes answer.order.change then None else ack_of answer

-- the same of a deletion
abbrev pub delete_of : OrderAnswer → Option Ack
delete_of answer = if deletes answer.order.change then ack_of answer else None

-- what was accepted of additions, in order
abbrev pub accepted_adds : List OrderAnswer → List Ack
accepted_adds answers = filter_map add_of answers

-- what was accepted of deletions, in order
abbrev pub accepted_deletes : List OrderAnswer → List Ack
accepted_deletes answers = filter_map delete_of answers

-- the stops of answers, in order
abbrev pub order_stops : List OrderAnswer → List Stop
order_stops answers = flat_map (λ (answer : OrderAnswer). answer.stops) answers

-- of the stops of one order those at which it noted cores as down: all but the first and the last
abbrev pub stops_between : List Stop → List Stop
stops_between stops = take (length stops - 2) (drop 1 stops)

-- the stops of answers at which cores were noted as down, in order
abbrev pub down_stops : List OrderAnswer → List Stop
down_stops answers = flat_map (λ (answer : OrderAnswer). stops_between answer.stops) answers

-- the timestamps of answers, in order
abbrev pub order_timestamps : List OrderAnswer → List ℕ
order_timestamps answers = map (λ (answer : OrderAnswer). answer.timestamp) answers

-- the id and the version, as it is shown, of a write
abbrev pub ack_written : Write → Ack
ack_written write = record { id = write.id; version = shown_version write }

-- the same of the write that a stop of a bucket made, where its entry is one
abbrev pub ack_made : Layout → Seen → Stop → Option Ack
ack_made layout seen stop =
    if stop.made && nat_lt stop.lock layout.buckets then option_map ack_written (write_at (seen.journals stop.lock) stop.place) else None

-- the writes among the entries that stops made are those of the orders that were accepted, in order and each once
abbrev pub WritesOnce : Layout → Seen → List Stop → List OrderAnswer → Type 0
WritesOnce layout seen stops answers = filter_map (ack_made layout seen) stops ≡ filter_map ack_of answers

-- a clock gave these timestamps (in milliseconds), one after another
abbrev pub GivesTimestamps : {C : Type 0} → (C → ℕ → C → Type 0) → C → List ℕ → C → Type 0
GivesTimestamps gives old [] new = new ≡ old
GivesTimestamps {C} gives old (timestamp ∷ timestamps) new = (between : C) × gives old timestamp between × GivesTimestamps gives between timestamps new
