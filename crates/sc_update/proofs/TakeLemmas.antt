-- What one order came to, and what of it is shown.
use Rattle.std.proofs.Common.{◌≡◌, ℕ, ◌+◌, ◌<◌, ℤ, Bool, true, false, cond, List, [], ◌∷◌, ◌++◌, length, get_or, drop, zero, suc, Option, Some, None, Ok, Err, refl, sym, ap, ◌∙◌, arith, inl, inr}
use Rattle.std.specs.Prelude.{slice_get}
use Rattle.std.specs.List.{cons_option}
use Rattle.std.proofs.lemmas.List.{append-nil}
use Rattle.sc_record.specs.declared.ack.Ack.{Ack}
use Rattle.sc_record.specs.declared.order.Order.{Order}
use Rattle.sc_journal.specs.Outcomes.{accepted}
use Rattle.sc_seen.specs.Seen.{Layout}
use Rattle.sc_seen.specs.Batches.{OrderAnswer, acknowledged, ack_of, add_of, delete_of, deletes, goes_on}
use Rattle.sc_bucket.specs.declared.accept.Accepted.{Accepted}
use Rattle.sc_bucket.specs.declared.accept.AcceptFault.{AcceptFault}
use Rattle.sc_bucket.specs.declared.accept.AcceptFault.TheVariants as faults
use Rattle.sc_bucket.specs.Events.{outcome_of}
use Rattle.sc_commands.specs.declared.batch.Flags.{Flags}
use Rattle.sc_update.specs.declared.shown.Shown.{Shown}
use Rattle.sc_update.specs.Updated.{UpdateMoment}
use Rattle.sc_update.specs.Steps.{one_order, CarriesOut, EndsOne, ShowsMore, GrowsByOne, Takes, ending}
use Rattle.sc_update.proofs.BatchLemmas.{Answered-none, going_on}

-- nothing is shown of no answers
shows-none : (versions : Bool) (shown : Shown) → ShowsMore versions [] shown shown
shows-none true shown = (sym (append-nil shown.adds.items), sym (append-nil shown.deletes.items))
shows-none false shown = (refl, refl)

-- nothing more is shown
pub GrowsByOne-none : (deletion : Bool) (shown : Shown) → GrowsByOne deletion shown shown
GrowsByOne-none true shown = record { adds = omega arith; adds_room = refl; deleted = omega arith; deleted_room = refl }
GrowsByOne-none false shown = record { adds = omega arith; adds_room = refl; deleted = omega arith; deleted_room = refl }

-- memory ran out before the order was carried out
pub takes-none : {C : Type 0} (gives : C → ℕ → C → Type 0) (layout : Layout) (flags : Flags) (order : Order) (moment : UpdateMoment C) (shown : Shown)
    → Takes gives layout flags order (going_on moment shown) (record { moment = moment; shown = shown; ended = Some faults.Memory })
takes-none gives layout flags order moment shown = record {
  answers = [];
  answered = Answered-none gives layout (one_order flags order) moment;
  shows = shows-none flags.versions shown;
  grows = GrowsByOne-none (deletes order.change) shown;
  ends = inr (refl, refl);
}

no_choice : (b : Bool) → cond {A = Option Ack} b None None ≡ None
no_choice true = refl
no_choice false = refl

-- of an order that was refused nothing is shown
shows-refused : (versions : Bool) (answer : OrderAnswer) (shown : Shown) → ack_of answer ≡ None → ShowsMore versions (answer ∷ []) shown shown
shows-refused true answer shown none =
    let add : add_of answer ≡ None = ap (λ (o : Option Ack). cond (deletes answer.order.change) None o) none ∙ no_choice (deletes answer.order.change) in
    let delete : delete_of answer ≡ None = ap (λ (o : Option Ack). cond (deletes answer.order.change) o None) none ∙ no_choice (deletes answer.order.change) in (
      sym (append-nil shown.adds.items) ∙ ap (λ (o : Option Ack). shown.adds.items ++ cons_option o []) (sym add),
      sym (append-nil shown.deletes.items) ∙ ap (λ (o : Option Ack). shown.deletes.items ++ cons_option o []) (sym delete),
    )
shows-refused false answer shown none = (refl, refl)

refused-ack : (id : List ℕ) (fault : AcceptFault) → acknowledged id (outcome_of (Err fault)) ≡ None
refused-ack id (faults.Conflict found) = refl
refused-ack id (faults.Partial name) = refl
refused-ack id faults.LogFull = refl
refused-ack id faults.Memory = refl

-- orders end at a refusal, unless it is a conflict that is passed over
refused-ends : (fail : Bool) (fault : AcceptFault) (answer : OrderAnswer) → answer.outcome ≡ outcome_of (Err fault)
    → EndsOne fail (answer ∷ []) (ending fail fault)
refused-ends false (faults.Conflict found) answer is = (answer, refl, ap (goes_on false) is)
refused-ends false (faults.Partial name) answer is = inl (answer, refl, is, ap (goes_on false) is)
refused-ends false faults.LogFull answer is = inl (answer, refl, is, ap (goes_on false) is)
refused-ends false faults.Memory answer is = inl (answer, refl, is, ap (goes_on false) is)
refused-ends true (faults.Conflict found) answer is = inl (answer, refl, is, ap (goes_on true) is)
refused-ends true (faults.Partial name) answer is = inl (answer, refl, is, ap (goes_on true) is)
refused-ends true faults.LogFull answer is = inl (answer, refl, is, ap (goes_on true) is)
refused-ends true faults.Memory answer is = inl (answer, refl, is, ap (goes_on true) is)

-- an order that was refused
pub takes-refused : {C : Type 0} (gives : C → ℕ → C → Type 0) (layout : Layout) (flags : Flags) (order : Order) (old new : UpdateMoment C) (shown : Shown) (fault : AcceptFault)
    → CarriesOut gives layout order old new (outcome_of (Err fault))
    → Takes gives layout flags order (going_on old shown) (record { moment = new; shown = shown; ended = ending flags.fail_on_conflict fault })
takes-refused gives layout flags order old new shown fault carried = record {
  answers = carried.answer ∷ [];
  answered = carried.answered flags;
  shows = shows-refused flags.versions carried.answer shown (ap (acknowledged carried.answer.order.id) carried.outcome_is ∙ refused-ack carried.answer.order.id fault);
  grows = GrowsByOne-none (deletes order.change) shown;
  ends = refused-ends flags.fail_on_conflict fault carried.answer carried.outcome_is;
}

-- an order that was accepted
pub takes-accepted : {C : Type 0} (gives : C → ℕ → C → Type 0) (layout : Layout) (flags : Flags) (order : Order) (old new : UpdateMoment C) (shown more : Shown) (got : Accepted)
    → CarriesOut gives layout order old new (outcome_of (Ok got))
    → ((answer : OrderAnswer) → answer.order ≡ order → answer.outcome ≡ accepted got.version → ShowsMore flags.versions (answer ∷ []) shown more)
    → GrowsByOne (deletes order.change) shown more
    → Takes gives layout flags order (going_on old shown) (going_on new more)
takes-accepted gives layout flags order old new shown more got carried shows grows = record {
  answers = carried.answer ∷ [];
  answered = carried.answered flags;
  shows = shows carried.answer carried.order_is carried.outcome_is;
  grows = grows;
  ends = (carried.answer, refl, ap (goes_on flags.fail_on_conflict) carried.outcome_is);
}

-- where versions aren't asked for, nothing is shown of it
pub shows-nothing : (versions : Bool) (copy : Option (List ℕ)) (id : List ℕ) (answer : OrderAnswer) (shown : Shown)
    → (versions ≡ true → copy ≡ Some id) → copy ≡ None → ShowsMore versions (answer ∷ []) shown shown
shows-nothing true copy id answer shown there none = absurd (let both : None ≡ Some id = sym none ∙ there refl in cc)
shows-nothing false copy id answer shown there none = (refl, refl)

-- where they are, its id and its version are shown
pub shows-pushed : (versions : Bool) (copy : Option (List ℕ)) (id : List ℕ) (order : Order) (version : ℤ) (answer : OrderAnswer) (deletion : Bool) (old new : Shown)
    → (versions ≡ true → copy ≡ Some order.id) → (versions ≡ false → copy ≡ None) → copy ≡ Some id
    → answer.order ≡ order → answer.outcome ≡ accepted version → deletion ≡ deletes order.change
    → new.adds.items ≡ cond deletion old.adds.items (old.adds.items ++ record { id = id; version = version } ∷ [])
    → new.deletes.items ≡ cond deletion (old.deletes.items ++ record { id = id; version = version } ∷ []) old.deletes.items
    → ShowsMore versions (answer ∷ []) old new
shows-pushed false copy id order version answer deletion old new there none some order_is outcome_is deletes_is adds deleted =
    absurd (let both : None ≡ Some id = sym (none refl) ∙ some in cc)
shows-pushed true copy id order version answer deletion old new there none some order_is outcome_is deletes_is adds deleted =
    by deletion deletes_is adds deleted where
      ack : Ack
      ack = record { id = id; version = version }

      both : Some order.id ≡ Some id
      both = sym (there refl) ∙ some

      same : order.id ≡ id
      same = cc both

      got : ack_of answer ≡ Some ack
      got =
          ap (λ (o : Order). acknowledged o.id answer.outcome) order_is ∙ ap (acknowledged order.id) outcome_is
          ∙ ap (λ (i : List ℕ). let one : Ack = record { id = i; version = version } in Some one) same

      by : (b : Bool) → b ≡ deletes order.change
          → new.adds.items ≡ cond b old.adds.items (old.adds.items ++ ack ∷ [])
          → new.deletes.items ≡ cond b (old.deletes.items ++ ack ∷ []) old.deletes.items
          → ShowsMore true (answer ∷ []) old new
      by true is a d =
          let deleting : deletes answer.order.change ≡ true = ap (λ (o : Order). deletes o.change) order_is ∙ sym is in (
            a ∙ sym (append-nil old.adds.items) ∙ ap (λ (o : Option Ack). old.adds.items ++ cons_option o []) (sym (ap (λ b. cond b None (ack_of answer)) deleting)),
            d ∙ ap (λ (o : Option Ack). old.deletes.items ++ cons_option o []) (sym (ap (λ b. cond b (ack_of answer) None) deleting ∙ got)),
          )
      by false is a d =
          let deleting : deletes answer.order.change ≡ false = ap (λ (o : Order). deletes o.change) order_is ∙ sym is in (
            a ∙ ap (λ (o : Option Ack). old.adds.items ++ cons_option o []) (sym (ap (λ b. cond b None (ack_of answer)) deleting ∙ got)),
            d ∙ sym (append-nil old.deletes.items) ∙ ap (λ (o : Option Ack). old.deletes.items ++ cons_option o []) (sym (ap (λ b. cond b (ack_of answer) None) deleting)),
          )

-- the element at a place of a list
pub at_place : {A : Type 0} (xs : List A) (place : ℕ) (default : A) → place < length xs → slice_get xs place ≡ Some (get_or xs place default)
at_place [] place default below = absurd (omega arith)
at_place (x ∷ xs) zero default below = refl
at_place (x ∷ xs) (suc place) default below = at_place xs place default (omega arith)

pub drop_place : {A : Type 0} (xs : List A) (place : ℕ) (x : A) → place < length xs → x ≡ get_or xs place x
    → drop place xs ≡ x ∷ drop (place + 1) xs
drop_place [] place x below is = absurd (omega arith)
drop_place (y ∷ ys) zero x below is = ap (λ z. z ∷ ys) (sym is)
drop_place (y ∷ ys) (suc place) x below is =
    let next : suc (place + 1) ≡ suc place + 1 = omega arith in
    drop_place ys place x (omega arith) is ∙ ap (λ n. x ∷ drop n (y ∷ ys)) next
