-- Of the entries that stops made, the writes are those of the orders that were accepted.
use Rattle.std.proofs.Common.{◌≡◌, ◌<◌, ℕ, Bool, true, false, List, [], ◌∷◌, ◌++◌, length, take, Option, Some, None, cond, refl, sym, ap, ◌∙◌, subst, zero, suc}
use Rattle.std.specs.Prelude.{◌&&◌, nat_lt}
use Rattle.std.specs.Option.{option_and_then, option_map}
use Rattle.std.specs.List.{AllByRecursion, filter_map, cons_option}
use Rattle.std.proofs.lemmas.Bool.{lt-ltb}
use Rattle.std.proofs.lemmas.List.Elements.{filter_map-append}
use Rattle.sc_record.specs.declared.ack.Ack.{Ack}
use Rattle.sc_record.specs.declared.entry.Entry.{Entry}
use Rattle.sc_record.specs.declared.order.Order.{Order}
use Rattle.sc_record.specs.Writes.{Write}
use Rattle.sc_router.specs.Route.{bucket_of}
use Rattle.sc_journal.specs.Journal.{as_write, write_at}
use Rattle.sc_journal.specs.Outcomes.{Outcome, accepted, conflict, partial, log_full, out_of_memory, IsOutcome}
use Rattle.sc_seen.specs.Seen.{Layout, Seen, basis_of, journal_at}
use Rattle.sc_seen.specs.Batches.{OrderAnswer, IsDownStop, IsOrderAnswer, HasStops, WritesOnce, ack_made, ack_of, ack_written, acknowledged, order_stops}
use Rattle.sc_seen.specs.declared.stop.Stop.{Stop}

-- what stands at the end of a prefix stands at its length
at_end : (journal : List Entry) (place : ℕ) (write : Write) → write_at journal (length (take place journal)) ≡ Some write
    → write_at journal place ≡ Some write
at_end [] zero write h = h
at_end [] (suc place) write h = absurd (cc)
at_end (one ∷ journal) zero write h = h
at_end (one ∷ journal) (suc place) write h = at_end journal place write h

-- a stop that made no entry made no write
pub unmade : (layout : Layout) (seen : Seen) (stop : Stop) → stop.made ≡ false → ack_made layout seen stop ≡ None
unmade layout seen stop made =
    ap (λ b. cond (b && nat_lt stop.lock layout.buckets) (option_map ack_written (write_at (seen.journals stop.lock) stop.place)) None) made

-- either is nothing
no_choice : (b : Bool) → cond {A = Option Ack} b None None ≡ None
no_choice true = refl
no_choice false = refl

-- a stop whose entry is no write made none
pub no_write_made : (layout : Layout) (seen : Seen) (stop : Stop) (made : Bool) → stop.made ≡ made
    → (stop.made ≡ true → write_at (seen.journals stop.lock) stop.place ≡ None) → ack_made layout seen stop ≡ None
no_write_made layout seen stop false is none = unmade layout seen stop is
no_write_made layout seen stop true is none =
    ap (λ (written : Option Write). cond (stop.made && nat_lt stop.lock layout.buckets) (option_map ack_written written) None) (none is)
    ∙ no_choice (stop.made && nat_lt stop.lock layout.buckets)

-- nor did those of cores that were noted as down
downs-unmade : (layout : Layout) (seen : Seen) (first : Stop) (downs : List Stop) → AllByRecursion (IsDownStop seen first) downs
    → filter_map (ack_made layout seen) downs ≡ []
downs-unmade layout seen first [] each = refl
downs-unmade layout seen first (down ∷ downs) each =
    ap (λ (o : Option Ack). cons_option o (filter_map (ack_made layout seen) downs))
    (no_write_made layout seen down down.made refl (λ made. ap (option_and_then as_write) each.0.made_is))
    ∙ downs-unmade layout seen first downs each.1

alone : (layout : Layout) (seen : Seen) (stops : List Stop) (first : Stop) → (first.made ≡ false) × (stops ≡ first ∷ [])
    → filter_map (ack_made layout seen) stops ≡ []
alone layout seen stops first has =
    ap (filter_map (ack_made layout seen)) has.1 ∙ ap (λ (o : Option Ack). cons_option o []) (unmade layout seen first has.0)

-- an order has one write where it was accepted, and else none
one_by : (layout : Layout) (seen : Seen) (order : Order) (timestamp : ℕ) (outcome : Outcome) (stops : List Stop) (first : Stop)
    → first.lock < layout.buckets
    → IsOutcome (basis_of layout) (journal_at seen first) order timestamp outcome (seen.journals first.lock)
    → HasStops seen outcome stops first
    → filter_map (ack_made layout seen) stops ≡ cons_option (acknowledged order.id outcome) []
one_by layout seen order timestamp (accepted version) stops first below is has =
    let write : Write = is.2.0 in
    let last : Stop = has.last in
    let same : ack_written write ≡ record { id = order.id; version = version } =
    ap (λ id. let ack : Ack = record { id = id; version = (ack_written write).version } in ack) is.2.2.id
    ∙ ap (λ v. let ack : Ack = record { id = order.id; version = v } in ack) (sym is.2.3) in
    let here : ack_made layout seen first ≡ Some (record { id = order.id; version = version }) =
    ap (λ b. cond (b && nat_lt first.lock layout.buckets) (option_map ack_written (write_at (seen.journals first.lock) first.place)) None) has.made
    ∙ ap (λ b. cond b (option_map ack_written (write_at (seen.journals first.lock) first.place)) None) (lt-ltb first.lock layout.buckets below)
    ∙ ap (option_map ack_written) (at_end (seen.journals first.lock) first.place write is.2.1) ∙ ap Some same in
    let none : ack_made layout seen last ≡ None = no_write_made layout seen last last.made refl (λ made. ap (option_and_then as_write) (has.settling.made_is made)) in
    let rest : filter_map (ack_made layout seen) (has.downs ++ last ∷ []) ≡ [] =
    filter_map-append (ack_made layout seen) has.downs (last ∷ [])
    ∙ ap (λ (acks : List Ack). acks ++ cons_option (ack_made layout seen last) []) (downs-unmade layout seen first has.downs has.each)
    ∙ ap (λ (o : Option Ack). cons_option o []) none in
    ap (filter_map (ack_made layout seen)) has.stops_are
    ∙ ap (λ (o : Option Ack). cons_option o (filter_map (ack_made layout seen) (has.downs ++ last ∷ []))) here
    ∙ ap (λ (acks : List Ack). record { id = order.id; version = version } ∷ acks) rest
one_by layout seen order timestamp (conflict version) stops first below is has = alone layout seen stops first has
one_by layout seen order timestamp (partial name) stops first below is has = alone layout seen stops first has
one_by layout seen order timestamp log_full stops first below is has = alone layout seen stops first has
one_by layout seen order timestamp out_of_memory stops first below is has = alone layout seen stops first has

-- what holds of two parts holds of both together
once-append : (layout : Layout) (seen : Seen) (xs ys : List Stop) (these those : List OrderAnswer) → WritesOnce layout seen xs these → WritesOnce layout seen ys those
    → WritesOnce layout seen (xs ++ ys) (these ++ those)
once-append layout seen xs ys these those one two =
    filter_map-append (ack_made layout seen) xs ys ∙ ap (λ (acks : List Ack). acks ++ filter_map (ack_made layout seen) ys) one
    ∙ ap (λ (acks : List Ack). filter_map ack_of these ++ acks) two ∙ sym (filter_map-append ack_of these those)

-- so the orders of one request
pub orders_once : (layout : Layout) (seen : Seen) (answers : List OrderAnswer) → AllByRecursion (IsOrderAnswer layout seen) answers
    → AllByRecursion (λ (answer : OrderAnswer). bucket_of answer.order.id layout.buckets < layout.buckets) answers
    → WritesOnce layout seen (order_stops answers) answers
orders_once layout seen [] each located = refl
orders_once layout seen (answer ∷ answers) each located =
    once-append layout seen answer.stops (order_stops answers) (answer ∷ []) answers
    (one_by layout seen answer.order answer.timestamp answer.outcome answer.stops each.0.first
    (subst (λ (lock : ℕ). lock < layout.buckets) (sym each.0.lock) located.0) each.0.outcome each.0.stops)
    (orders_once layout seen answers each.1 located.1)
