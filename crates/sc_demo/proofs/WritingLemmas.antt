-- Orders that are made one after another.
use Rattle.std.proofs.Common.{zero, suc, ◌%◌, cond, get_or, take, add-one, nat_eq, ◌≡◌, ◌∙◌, ◌⊎◌, inl, inr, ◌≤◌, ◌<◌, ◌+◌, ◌||◌, ℕ, Bool, true, false, List, [], ◌∷◌, ◌++◌, length, map, refl, sym, ap, subst, arith, length-append}
use Rattle.std.specs.Prelude.{filter_map, pos}
use Rattle.std.specs.List.{AllByRecursion, filter}
use Rattle.std.proofs.Math.Seq.{take-suc}
use Rattle.std.proofs.lemmas.List.FromFn.{length-range_with_len}
use Rattle.sc_record.specs.declared.order.Order.{Order}
use Rattle.sc_record.specs.declared.order.Change.TheVariants as changes
use Rattle.sc_commands.specs.declared.batch.Batch.{Batch}
use Rattle.sc_workload.specs.Workload.{Workload, change_at, fields_at, is_made_by, order_at, order_places}
use Rattle.sc_workload.specs.Batches.{AreBatchesOf, AreSmall, IsSmall, contents}
use Rattle.sc_workload.proofs.BatchLemmas.{contents-more}
use Rattle.std.proofs.ByRecursion.{All-append}
use Rattle.std.proofs.lemmas.Grind.{flat_map-append}
use Rattle.std.proofs.lemmas.List.{length-map, map-append}
use Rattle.std.proofs.lemmas.List.Elements.{All-head, All-tail, filter_map-append}
use Rattle.sc_schema.specs.Documents.{OrderContent, content_of}
use Rattle.sc_seen.specs.Seen.{Layout, Seen, SeesMore, Extends}
use Rattle.sc_seen.specs.Batches.{OrderAnswer, IsOrderAnswer, GivesTimestamps, WritesOnce, ack_of, ack_made, order_stops, order_timestamps}
use Rattle.sc_seen.proofs.ExtendsLemmas.{Extends-none, Extends-then, IsPrefix-then}
use Rattle.sc_seen.proofs.GoesOnLemmas.{SeesMore-by, SeesMore-then}
use Rattle.sc_demo.specs.declared.made.Written.{Written}
use Rattle.sc_demo.specs.Writing.{AreAllAccepted, ArePlain, CameNearLimit, IsAccepted, IsPlain, IsPlainOrder, IsWholeOrDelete, MakesOrders, WritingState, both}

-- a clock gave timestamps, and then others
gives_both : {C : Type 0} (gives : C → ℕ → C → Type 0) (old between new : C) (xs ys : List ℕ) → GivesTimestamps gives old xs between
    → GivesTimestamps gives between ys new → GivesTimestamps gives old (xs ++ ys) new
gives_both gives old between new [] ys one two = subst (λ c. GivesTimestamps gives c ys new) one two
gives_both gives old between new (x ∷ xs) ys (next, first, rest) two = (next, first, gives_both gives next between new xs ys rest two)

-- what came near its limit has done so in all that is seen later
pub near_later : (layout : Layout) (seen later : Seen) → SeesMore seen later → CameNearLimit layout seen → CameNearLimit layout later
near_later layout seen later more near = record {
  lock = near.lock;
  front = near.front;
  begins = IsPrefix-then near.front (seen.journals near.lock) (later.journals near.lock) near.begins (more.journals near.lock);
  full = near.full;
}

or_true : (a b : Bool) → b ≡ true → (a || b) ≡ true
or_true true b is = refl
or_true false b is = is

module _ {C : Type 0} (gives : C → ℕ → C → Type 0) (layout : Layout) where
  -- no orders were made
  pub makes_none : (state : WritingState C) → MakesOrders gives layout state state [] (record { accepted = 0; memory = false })
  makes_none state = record {
    answers = [];
    extends = Extends-none layout state.seen;
    board = refl;
    timestamps = refl;
    answered = λ later more. tt;
    once = λ later more. refl;
    accepted_are = refl;
    all = inl (record { in_turn = refl; each = tt });
  }

  -- memory ran out before any was
  pub makes_nothing : (state : WritingState C) (orders : List OrderContent) → MakesOrders gives layout state state orders (record { accepted = 0; memory = true })
  makes_nothing state orders = record {
    answers = [];
    extends = Extends-none layout state.seen;
    board = refl;
    timestamps = refl;
    answered = λ later more. tt;
    once = λ later more. refl;
    accepted_are = refl;
    all = inr (inl refl);
  }

  module _ (old between new : WritingState C) (xs ys : List OrderContent) (one two : Written) (first : MakesOrders gives layout old between xs one)
      (second : MakesOrders gives layout between new ys two) where
    sees_more : SeesMore between.seen new.seen
    sees_more = SeesMore-by layout between.seen new.seen (order_stops second.answers) second.extends

    stops_are : order_stops (first.answers ++ second.answers) ≡ order_stops first.answers ++ order_stops second.answers
    stops_are = flat_map-append (λ (answer : OrderAnswer). answer.stops) first.answers second.answers

    once_both : (later : Seen) → SeesMore new.seen later → WritesOnce layout later (order_stops (first.answers ++ second.answers)) (first.answers ++ second.answers)
    once_both later more =
        ap (filter_map (ack_made layout later)) stops_are
        ∙ filter_map-append (ack_made layout later) (order_stops first.answers) (order_stops second.answers)
        ∙ ap (λ acks. acks ++ filter_map (ack_made layout later) (order_stops second.answers))
        (first.once later (SeesMore-then between.seen new.seen later sees_more more))
        ∙ ap (λ acks. filter_map ack_of first.answers ++ acks) (second.once later more)
        ∙ sym (filter_map-append ack_of first.answers second.answers)

    all_both : AreAllAccepted xs first.answers → AreAllAccepted ys second.answers → AreAllAccepted (xs ++ ys) (first.answers ++ second.answers)
    all_both a b = record {
      in_turn = map-append (λ (answer : OrderAnswer). content_of answer.order) first.answers second.answers
          ∙ ap (λ orders. orders ++ map (λ (answer : OrderAnswer). content_of answer.order) second.answers) a.in_turn
          ∙ ap (λ orders. xs ++ orders) b.in_turn;
      each = All-append (λ (answer : OrderAnswer). IsAccepted answer.outcome) first.answers second.answers a.each b.each;
    }

    how : AreAllAccepted xs first.answers ⊎ (one.memory ≡ true) ⊎ CameNearLimit layout between.seen
        → AreAllAccepted ys second.answers ⊎ (two.memory ≡ true) ⊎ CameNearLimit layout new.seen
        → AreAllAccepted (xs ++ ys) (first.answers ++ second.answers) ⊎ ((both one two).memory ≡ true) ⊎ CameNearLimit layout new.seen
    how (inl a) (inl b) = inl (all_both a b)
    how (inl a) (inr (inl memory)) = inr (inl (or_true one.memory two.memory memory))
    how (inl a) (inr (inr near)) = inr (inr near)
    how (inr (inl memory)) b = inr (inl (ap (λ m. m || two.memory) memory))
    how (inr (inr near)) b = inr (inr (near_later layout between.seen new.seen sees_more near))

    -- orders were made, and then others
    pub makes_both : MakesOrders gives layout old new (xs ++ ys) (both one two)
    makes_both = record {
      answers = first.answers ++ second.answers;
      extends = subst (λ stops. Extends layout old.seen new.seen stops) (sym stops_are)
          (Extends-then layout old.seen between.seen new.seen (order_stops first.answers) (order_stops second.answers) first.extends second.extends);
      board = second.board ∙ first.board;
      timestamps = subst (λ timestamps. GivesTimestamps gives old.clock timestamps new.clock)
          (sym (map-append (λ (answer : OrderAnswer). answer.timestamp) first.answers second.answers))
          (gives_both gives old.clock between.clock new.clock (order_timestamps first.answers) (order_timestamps second.answers) first.timestamps second.timestamps);
      answered = λ later more. All-append (IsOrderAnswer layout later) first.answers second.answers
          (first.answered later (SeesMore-then between.seen new.seen later sees_more more)) (second.answered later more);
      once = once_both;
      accepted_are = omega (
        arith,
        first.accepted_are,
        second.accepted_are,
        ap length (filter_map-append ack_of first.answers second.answers),
        length-append (filter_map ack_of first.answers) (filter_map ack_of second.answers),
      );
      all = how first.all second.all;
    }

-- ---- batch after batch
-- the orders of the first batches and of the next one
pub contents_next : (batches : List Batch) (place : ℕ) (batch : Batch) → place < length batches → batch ≡ get_or batches place batch
    → contents (take (place + 1) batches) ≡ contents (take place batches) ++ map content_of batch.orders
contents_next batches place batch within is =
    ap (λ n. contents (take n batches)) (add-one place) ∙ ap contents (take-suc batches place batch within)
    ∙ ap (λ one. contents (take place batches ++ one ∷ [])) (sym is) ∙ contents-more (take place batches) batch

-- the orders of the first batches are no more than all
pub contents_within : (place : ℕ) (batches : List Batch) → length (contents (take place batches)) ≤ length (contents batches)
contents_within zero batches = omega arith
contents_within (suc place) [] = omega arith
contents_within (suc place) (batch ∷ batches) =
    let rest = contents_within place batches in
    let some = length-append (map content_of batch.orders) (contents (take place batches)) in
    let all = length-append (map content_of batch.orders) (contents batches) in
    omega (arith, rest, some, all)

-- ---- the orders of a workload
-- the same of what an order asks for
pub record IsPlainContent (order : OrderContent) : Type 0 where
  pub condition : order.condition ≡ pos 0
  pub change : IsWholeOrDelete order.change

plain_change : (place : ℕ) → IsWholeOrDelete (change_at place)
plain_change place = by (nat_eq (place % 5) 4) where
  by : (b : Bool) → IsWholeOrDelete (cond b changes.Delete (changes.Whole (fields_at place)))
  by true = tt
  by false = tt

pub plain_places : (workload : Workload) (these : List ℕ) → AllByRecursion IsPlainContent (map (order_at workload) these)
plain_places workload [] = tt
plain_places workload (place ∷ these) = (record { condition = refl; change = plain_change place }, plain_places workload these)

plain_orders : (orders : List Order) (more : List OrderContent) → AllByRecursion IsPlainContent (map content_of orders ++ more)
    → AllByRecursion IsPlainOrder orders × AllByRecursion IsPlainContent more
plain_orders [] more all = (tt, all)
plain_orders (order ∷ orders) more all =
    let rest = plain_orders orders more all.1 in
    ((record { condition = all.0.condition; change = all.0.change }, rest.0), rest.1)

plain_batches : (batches : List Batch) → AreSmall batches → AllByRecursion IsPlainContent (contents batches) → ArePlain batches
plain_batches [] small plain = tt
plain_batches (batch ∷ batches) small plain =
    let parts = plain_orders batch.orders (contents batches) plain in
    let first : IsSmall batch = All-head IsSmall batch batches small in
    (record { few = first.few; flags = first.flags; orders = parts.0 }, plain_batches batches (All-tail IsSmall batch batches small) parts.1)

pub batches_plain : (workload : Workload) (worker workers : ℕ) (batches : List Batch) → AreBatchesOf workload worker workers batches → ArePlain batches
batches_plain workload worker workers batches are =
    plain_batches batches are.small
    (subst (AllByRecursion IsPlainContent) (sym are.orders) (plain_places workload (filter (is_made_by workload worker workers) (order_places workload))))

filter_within : (p : ℕ → Bool) (xs : List ℕ) → length (filter p xs) ≤ length xs
filter_within p [] = omega arith
filter_within p (x ∷ xs) = by (p x) (filter_within p xs) where
  by : (b : Bool) → length (filter p xs) ≤ length xs → length (cond b (x ∷ filter p xs) (filter p xs)) ≤ length (x ∷ xs)
  by true rest = omega (arith, rest)
  by false rest = omega (arith, rest)

-- a worker has no more orders than the workload
pub orders_few : (workload : Workload) (worker workers : ℕ) (batches : List Batch) → AreBatchesOf workload worker workers batches
    → length (contents batches) ≤ workload.count
orders_few workload worker workers batches are =
    let all = ap length are.orders in
    let made = length-map (filter (is_made_by workload worker workers) (order_places workload)) (order_at workload) in
    let within = filter_within (is_made_by workload worker workers) (order_places workload) in
    let count = length-range_with_len 0 workload.count in
    omega (arith, all, made, within, count)
