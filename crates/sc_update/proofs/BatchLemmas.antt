-- Orders, one after another.
use Rattle.std.proofs.Common.{◌≡◌, ℕ, ◌+◌, ◌-◌, ◌<◌, Bool, true, false, cond, List, [], ◌∷◌, ◌++◌, length, Some, None, Err, refl, sym, ap, ◌∙◌, subst, arith, append_assoc, length-append, inl, inr}
use Rattle.std.specs.Prelude.{slice_get, count_by, map, take}
use Rattle.std.specs.Option.{option_map}
use Rattle.std.proofs.lemmas.Option.{slice_get_within, slice_get-map}
use Rattle.std.proofs.Math.Seq.{take-append_seam}
use Rattle.std.proofs.ByRecursion.{All-append}
use Rattle.std.proofs.lemmas.List.{append-nil, map-append, length-map}
use Rattle.std.proofs.lemmas.List.Elements.{filter_map-append}
use Rattle.std.proofs.lemmas.List.Sums.{count_by-le-length, sum_by-cons}
use Rattle.std.proofs.lemmas.Grind.{flat_map-append}
use Rattle.sc_record.specs.declared.order.Order.{Order}
use Rattle.sc_router.specs.Route.{bucket_of}
use Rattle.sc_commands.specs.declared.batch.Batch.{Batch}
use Rattle.sc_journal.specs.Journal.{last_of}
use Rattle.sc_seen.specs.Seen.{Layout, Seen}
use Rattle.sc_seen.specs.Moments.{Keeps}
use Rattle.sc_seen.specs.Batches.{OrderAnswer, IsOrderAnswer, AnswersOrders, GoOn, GivesTimestamps, goes_on, deletes, add_of, delete_of, accepted_adds, accepted_deletes, order_stops, stops_between, down_stops, order_timestamps}
use Rattle.sc_seen.specs.Commits.{committed_now}
use Rattle.sc_seen.specs.declared.stop.Stop.{Stop}
use Rattle.sc_collection.specs.Downs.{NotesDowns}
use Rattle.sc_journal.proofs.ListLemmas.{last_of-append, slice_get-append_left, slice_get-append_end}
use Rattle.sc_seen.proofs.GoesOnLemmas.{Keeps-none, Keeps-then, Keeps-sees}
use Rattle.sc_bucket.specs.Events.{outcome_of}
use Rattle.sc_bucket.specs.declared.accept.AcceptFault.{AcceptFault}
use Rattle.sc_update.specs.declared.end.BatchEnd.{BatchEnd}
use Rattle.sc_update.specs.declared.end.BatchFault.{BatchFault}
use Rattle.sc_update.specs.declared.end.BatchFault.TheVariants as faults
use Rattle.sc_update.specs.declared.shown.Shown.{Shown}
use Rattle.sc_update.specs.Updated.{UpdateMoment, finished, refused, ran_out, Shows, order_fault}
use Rattle.sc_collection.proofs.DownLemmas.{NotesDowns-none, NotesDowns-then}
use Rattle.sc_update.specs.Steps.{Answered, one_order, EndsOne, ShowsMore, HasRoomToShow, HasRoomToShowOne, GrowsByOne, UpdateProgress, Takes, AnswersAll}

pub timestamps-append : {C : Type 0} (gives : C → ℕ → C → Type 0) (a b c : C) (xs ys : List ℕ)
    → GivesTimestamps gives a xs b → GivesTimestamps gives b ys c → GivesTimestamps gives a (xs ++ ys) c
timestamps-append gives a b c [] ys one two = subst (λ z. GivesTimestamps gives z ys c) one two
timestamps-append gives a b c (x ∷ xs) ys one two = (one.0, one.1, timestamps-append gives one.0 b c xs ys one.2 two)

-- what is left of the orders begins with the next
next_left : (answers : List OrderAnswer) (orders rest : List Order) (order : Order) → map (λ (answer : OrderAnswer). answer.order) answers ++ rest ≡ orders
    → slice_get orders (length answers) ≡ Some order → (more : List Order) × (rest ≡ order ∷ more)
next_left answers orders [] order is next =
    absurd (let below : length answers < length orders = slice_get_within orders (length answers) order next in
    omega (arith, below, ap length is, length-append (map (λ (answer : OrderAnswer). answer.order) answers) [], length-map answers (λ (answer : OrderAnswer). answer.order)))
next_left answers orders (first ∷ more) order is next =
    let before : List Order = map (λ (answer : OrderAnswer). answer.order) answers in
    let same : Some first ≡ Some order =
    sym (slice_get-append_end before first more) ∙ ap (slice_get (before ++ first ∷ more)) (length-map answers (λ (answer : OrderAnswer). answer.order))
    ∙ ap (λ (all : List Order). slice_get all (length answers)) is ∙ next in
    (more, let here : first ≡ order = cc in ap (λ (o : Order). o ∷ more) here)

-- where orders went on, the next of them may be answered
orders_then : (layout : Layout) (seen : Seen) (fail : Bool) (orders : List Order) (order : Order) (answers more : List OrderAnswer)
    → AnswersOrders layout seen fail orders answers → GoOn fail answers → slice_get orders (length answers) ≡ Some order
    → AnswersOrders layout seen fail (order ∷ []) more → AnswersOrders layout seen fail orders (answers ++ more)
orders_then layout seen fail orders order answers [] one all next two =
    subst (AnswersOrders layout seen fail orders) (sym (append-nil answers)) one
orders_then layout seen fail orders order answers (last ∷ []) one all next two =
    let left = next_left answers orders one.in_turn.0 order one.in_turn.1 next in
    let first : last.order ∷ two.in_turn.0 ≡ order ∷ [] = two.in_turn.1 in
    let same : last.order ≡ order = cc in
    let count : length (answers ++ last ∷ []) - 1 ≡ length answers = omega (arith, length-append answers (last ∷ [])) in
    record {
      in_turn = (
        left.0,
        ap (λ (os : List Order). os ++ left.0) (map-append (λ (answer : OrderAnswer). answer.order) answers (last ∷ []))
            ∙ append_assoc (map (λ (answer : OrderAnswer). answer.order) answers) (last.order ∷ []) left.0
            ∙ ap (λ (o : Order). map (λ (answer : OrderAnswer). answer.order) answers ++ o ∷ left.0) same
            ∙ ap (λ (os : List Order). map (λ (answer : OrderAnswer). answer.order) answers ++ os) (sym left.1) ∙ one.in_turn.1,
      );
      each = All-append (IsOrderAnswer layout seen) answers (last ∷ []) one.each two.each;
      go_on = subst (GoOn fail) (sym (ap (λ n. take n (answers ++ last ∷ [])) count ∙ take-append_seam answers (last ∷ []))) all;
    }
orders_then layout seen fail orders order answers (last ∷ other ∷ more) one all next two =
    absurd (let both : last.order ∷ other.order ∷ (map (λ (answer : OrderAnswer). answer.order) more ++ two.in_turn.0) ≡ order ∷ [] = two.in_turn.1 in cc)

-- the last order that was answered stands at its place
pub last_order : (layout : Layout) (seen : Seen) (fail : Bool) (orders : List Order) (answers : List OrderAnswer) (last : OrderAnswer)
    → AnswersOrders layout seen fail orders answers → last_of answers ≡ Some last → slice_get orders (length answers - 1) ≡ Some last.order
last_order layout seen fail orders answers last answered is =
    let of_answer : OrderAnswer → Order = λ answer. answer.order in
    let within : length answers - 1 < length answers = slice_get_within answers (length answers - 1) last is in
    ap (λ (all : List Order). slice_get all (length answers - 1)) (sym answered.in_turn.1)
    ∙ slice_get-append_left (map of_answer answers) answered.in_turn.0 (length answers - 1) (omega (arith, within, length-map answers of_answer))
    ∙ slice_get-map of_answer answers (length answers - 1) ∙ ap (option_map of_answer) is

-- where two parts have no answer, neither has one
append-none : (answers more : List OrderAnswer) → answers ++ more ≡ [] → (answers ≡ []) × (more ≡ [])
append-none [] more none = (refl, none)
append-none (answer ∷ answers) more none = absurd (cc)

-- no order was tried
pub Answered-none : {C : Type 0} (gives : C → ℕ → C → Type 0) (layout : Layout) (batch : Batch) (moment : UpdateMoment C)
    → Answered gives layout batch moment moment []
Answered-none gives layout batch moment = record {
  keeps = Keeps-none layout moment.moment.view;
  timestamps = refl;
  answered = λ later more. record { in_turn = (batch.orders, refl); each = tt; go_on = tt };
  notes = λ later more. NotesDowns-none layout later moment.reach;
  unasked = λ none. refl;
  located = tt;
}

-- one order more was
pub Answered-then : {C : Type 0} (gives : C → ℕ → C → Type 0) (layout : Layout) (batch : Batch) (order : Order) (old between new : UpdateMoment C) (answers more : List OrderAnswer)
    → Answered gives layout batch old between answers → GoOn batch.flags.fail_on_conflict answers → slice_get batch.orders (length answers) ≡ Some order
    → Answered gives layout (one_order batch.flags order) between new more → Answered gives layout batch old new (answers ++ more)
Answered-then gives layout batch order old between new answers more one all next two =
    let split : order_stops (answers ++ more) ≡ order_stops answers ++ order_stops more = flat_map-append (λ (answer : OrderAnswer). answer.stops) answers more in
    let noted : down_stops (answers ++ more) ≡ down_stops answers ++ down_stops more = flat_map-append (λ (answer : OrderAnswer). stops_between answer.stops) answers more in
    record {
      keeps = subst (Keeps layout old.moment.view new.moment.view) (sym split) (Keeps-then layout old.moment.view between.moment.view new.moment.view (order_stops answers) (order_stops more) one.keeps two.keeps);
      timestamps = subst (λ (ms : List ℕ). GivesTimestamps gives old.moment.clock ms new.moment.clock) (sym (map-append (λ (answer : OrderAnswer). answer.timestamp) answers more))
          (timestamps-append gives old.moment.clock between.moment.clock new.moment.clock (order_timestamps answers) (order_timestamps more) one.timestamps two.timestamps);
      answered = λ later sees. orders_then layout later batch.flags.fail_on_conflict batch.orders order answers more
          (one.answered later (Keeps-sees layout between.moment.view new.moment.view (order_stops more) two.keeps later sees)) all next (two.answered later sees);
      notes = λ later sees. subst (λ (downs : List Stop). NotesDowns layout later downs old.reach new.reach) (sym noted)
          (NotesDowns-then layout later (down_stops answers) (down_stops more) old.reach between.reach new.reach
          (one.notes later (Keeps-sees layout between.moment.view new.moment.view (order_stops more) two.keeps later sees)) (two.notes later sees));
      unasked = λ none. let parts = append-none answers more none in two.unasked parts.1 ∙ one.unasked parts.0;
      located = All-append (λ (answer : OrderAnswer). bucket_of answer.order.id layout.buckets < layout.buckets) answers more one.located two.located;
    }

-- what is shown so far
abbrev pub ShowsSoFar : Bool → List OrderAnswer → Shown → Type 0
ShowsSoFar true answers shown = (shown.adds.items ≡ accepted_adds answers) × (shown.deletes.items ≡ accepted_deletes answers)
ShowsSoFar false answers shown = (shown.adds.items ≡ []) × (shown.deletes.items ≡ [])

shows_none : (versions : Bool) (shown : Shown) → shown.adds.items ≡ [] → shown.deletes.items ≡ [] → ShowsSoFar versions [] shown
shows_none true shown adds deleted = (adds, deleted)
shows_none false shown adds deleted = (adds, deleted)

shows_more : (versions : Bool) (answers more : List OrderAnswer) (old new : Shown) → ShowsSoFar versions answers old → ShowsMore versions more old new
    → ShowsSoFar versions (answers ++ more) new
shows_more true answers more old new one two = (
  two.0 ∙ ap (λ acks. acks ++ accepted_adds more) one.0 ∙ sym (filter_map-append add_of answers more),
  two.1 ∙ ap (λ acks. acks ++ accepted_deletes more) one.1 ∙ sym (filter_map-append delete_of answers more),
)
shows_more false answers more old new one two = (two.0 ∙ one.0, two.1 ∙ one.1)

shows_end : (versions : Bool) (answers : List OrderAnswer) (shown : Shown) (end : BatchEnd) → end.adds ≡ shown.adds.items → end.deletes ≡ shown.deletes.items
    → ShowsSoFar versions answers shown → Shows versions answers end
shows_end true answers shown end adds deleted shows = (adds ∙ shows.0, deleted ∙ shows.1)
shows_end false answers shown end adds deleted shows = (adds ∙ shows.0, deleted ∙ shows.1)

-- how far an update is whose orders go on
abbrev pub going_on : {C : Type 0} → UpdateMoment C → Shown → UpdateProgress C
going_on moment shown = record { moment = moment; shown = shown; ended = None }

-- the first orders of a batch were answered, as many as stand here, and orders went on after each
pub record SoFar {C : Type 0} (gives : C → ℕ → C → Type 0) (layout : Layout) (batch : Batch) (old : UpdateMoment C) (new : UpdateProgress C) (count : ℕ) : Type 0 where
  pub answers : List OrderAnswer
  pub answered : Answered gives layout batch old new.moment answers
  pub go_on : GoOn batch.flags.fail_on_conflict answers
  pub count_is : length answers ≡ count
  pub shows : ShowsSoFar batch.flags.versions answers new.shown

pub SoFar-none : {C : Type 0} (gives : C → ℕ → C → Type 0) (layout : Layout) (batch : Batch) (moment : UpdateMoment C) (shown : Shown)
    → shown.adds.items ≡ [] → shown.deletes.items ≡ [] → SoFar gives layout batch moment (going_on moment shown) 0
SoFar-none gives layout batch moment shown adds deleted = record {
  answers = [];
  answered = Answered-none gives layout batch moment;
  go_on = tt;
  count_is = refl;
  shows = shows_none batch.flags.versions shown adds deleted;
}

module _ {C : Type 0} (gives : C → ℕ → C → Type 0) (layout : Layout) (batch : Batch) (order : Order) (old : UpdateMoment C) (between new : UpdateProgress C) (count : ℕ)
    (far : SoFar gives layout batch old between count) (next : slice_get batch.orders count ≡ Some order)
    (takes : Takes gives layout batch.flags order between new) where
  -- the answers so far, and those to one order more
  abbrev answers : List OrderAnswer
  answers = far.answers ++ takes.answers

  answered : Answered gives layout batch old new.moment answers
  answered =
      Answered-then gives layout batch order old between.moment new.moment far.answers takes.answers far.answered far.go_on
      (ap (slice_get batch.orders) far.count_is ∙ next) takes.answered

  shows : ShowsSoFar batch.flags.versions answers new.shown
  shows = shows_more batch.flags.versions far.answers takes.answers between.shown new.shown far.shows takes.shows

  -- orders go on after one more
  pub SoFar-more : new.ended ≡ None → SoFar gives layout batch old (going_on new.moment new.shown) (count + 1)
  SoFar-more none =
      let ends : EndsOne batch.flags.fail_on_conflict takes.answers None = subst (EndsOne batch.flags.fail_on_conflict takes.answers) none takes.ends in
      record {
        answers = answers;
        answered = answered;
        go_on = All-append (λ (answer : OrderAnswer). goes_on batch.flags.fail_on_conflict answer.outcome ≡ true) far.answers takes.answers far.go_on
            (subst (GoOn batch.flags.fail_on_conflict) (sym ends.1) (ends.2, tt));
        count_is = omega (arith, length-append far.answers takes.answers, ap length ends.1, far.count_is);
        shows = shows;
      }

  -- or end at it
  pub SoFar-stop : (end : BatchEnd) (fault : AcceptFault) (told : BatchFault) → new.ended ≡ Some fault
      → end.adds ≡ new.shown.adds.items → end.deletes ≡ new.shown.deletes.items → end.fault ≡ Some told
      → order_fault count (outcome_of (Err fault)) ≡ Some told
      → AnswersAll gives layout batch old new.moment end
  SoFar-stop end fault told is adds deleted fault_is told_is =
      elim (subst (EndsOne batch.flags.fail_on_conflict takes.answers) is takes.ends) [
        | inl last ↦
            let all : answers ≡ far.answers ++ last.0 ∷ [] = ap (λ (those : List OrderAnswer). far.answers ++ those) last.1 in
            let place : length answers - 1 ≡ count = omega (arith, ap length all, length-append far.answers (last.0 ∷ []), far.count_is) in
            record {
              answers = answers;
              how = refused last.0;
              answered = answered;
              ends = (ap last_of all ∙ last_of-append far.answers last.0, last.3);
              uncommitted = λ outcome same. absurd (cc);
              reports = record {
                fault = fault_is ∙ sym told_is ∙ ap (order_fault count) (sym last.2) ∙ ap (λ n. order_fault n last.0.outcome) (sym place);
                shown = shows_end batch.flags.versions answers new.shown end adds deleted shows;
              };
            }
        | inr none ↦
            let all : answers ≡ far.answers = ap (λ (those : List OrderAnswer). far.answers ++ those) none.0 ∙ append-nil far.answers in
            record {
              answers = answers;
              how = ran_out;
              answered = answered;
              ends = subst (GoOn batch.flags.fail_on_conflict) (sym all) far.go_on;
              uncommitted = λ outcome same. absurd (cc);
              reports = record {
                fault = fault_is ∙ sym told_is ∙ ap (λ (one : AcceptFault). order_fault count (outcome_of (Err one))) none.1;
                shown = shows_end batch.flags.versions answers new.shown end adds deleted shows;
              };
            }
      ]

-- all orders of a batch were answered
pub SoFar-end : {C : Type 0} (gives : C → ℕ → C → Type 0) (layout : Layout) (batch : Batch) (old : UpdateMoment C) (new : UpdateProgress C) (count : ℕ) (end : BatchEnd)
    → SoFar gives layout batch old new count → count ≡ length batch.orders
    → end.adds ≡ new.shown.adds.items → end.deletes ≡ new.shown.deletes.items → end.fault ≡ None
    → AnswersAll gives layout batch old new.moment end
SoFar-end gives layout batch old new count end far all adds deleted fault = record {
  answers = far.answers;
  how = finished committed_now;
  answered = far.answered;
  ends = (far.count_is ∙ all, far.go_on);
  uncommitted = λ outcome same. let is : committed_now ≡ outcome = cc in sym is;
  reports = record { fault = fault; shown = shows_end batch.flags.versions far.answers new.shown end adds deleted far.shows };
}

-- memory ran out before the first order
pub answers-none : {C : Type 0} (gives : C → ℕ → C → Type 0) (layout : Layout) (batch : Batch) (moment : UpdateMoment C) (end : BatchEnd)
    → end.adds ≡ [] → end.deletes ≡ [] → end.fault ≡ Some faults.Memory
    → AnswersAll gives layout batch moment moment end
answers-none gives layout batch moment end adds deleted fault = record {
  answers = [];
  how = ran_out;
  answered = Answered-none gives layout batch moment;
  ends = tt;
  uncommitted = λ outcome same. absurd (cc);
  reports = record { fault = fault; shown = shows batch.flags.versions };
}
  where
    shows : (versions : Bool) → Shows versions [] end
    shows true = (adds, deleted)
    shows false = (adds, deleted)

-- the deletions among orders
abbrev is_deleting : Order → Bool
is_deleting order = deletes order.change

count-cons : (order : Order) (orders : List Order) (deletion : Bool) → deletes order.change ≡ deletion
    → count_by is_deleting (order ∷ orders) ≡ cond deletion 1 0 + count_by is_deleting orders
count-cons order orders deletion is =
    sum_by-cons (λ (one : Order). cond (deletes one.change) 1 0) order orders
    ∙ ap (λ b. cond b 1 0 + count_by is_deleting orders) is

-- room for orders is room for the first of them
pub HasRoomToShow-one : (shown : Shown) (order : Order) (orders : List Order) → HasRoomToShow shown (order ∷ orders) → HasRoomToShowOne (deletes order.change) shown
HasRoomToShow-one shown order orders room = by (deletes order.change) refl where
  by : (b : Bool) → deletes order.change ≡ b → HasRoomToShowOne b shown
  by true is =
      let all : count_by is_deleting (order ∷ orders) ≡ 1 + count_by is_deleting orders = count-cons order orders true is in
      record { adds = λ e. absurd (cc); deleted = λ e. omega (arith, room.deleted) }
  by false is =
      let all : count_by is_deleting (order ∷ orders) ≡ 0 + count_by is_deleting orders = count-cons order orders false is in
      record { adds = λ e. omega (arith, room.adds, count_by-le-length is_deleting orders); deleted = λ e. absurd (cc) }

-- and for those after it
pub HasRoomToShow-rest : (old new : Shown) (order : Order) (orders : List Order) → HasRoomToShow old (order ∷ orders) → GrowsByOne (deletes order.change) old new
    → HasRoomToShow new orders
HasRoomToShow-rest old new order orders room grows = by (deletes order.change) refl grows where
  by : (b : Bool) → deletes order.change ≡ b → GrowsByOne b old new → HasRoomToShow new orders
  by true is grew =
      let all : count_by is_deleting (order ∷ orders) ≡ 1 + count_by is_deleting orders = count-cons order orders true is in
      record { adds = omega (arith, room.adds, grew.adds, grew.adds_room); deleted = omega (arith, room.deleted, grew.deleted, grew.deleted_room) }
  by false is grew =
      let all : count_by is_deleting (order ∷ orders) ≡ 0 + count_by is_deleting orders = count-cons order orders false is in
      record { adds = omega (arith, room.adds, grew.adds, grew.adds_room); deleted = omega (arith, room.deleted, grew.deleted, grew.deleted_room) }
