-- What one order is answered, once it was carried out.
use Rattle.std.proofs.Common.{◌≡◌, ◌<◌, ℕ, Bool, true, false, [], ◌∷◌, Result, Ok, Err, refl, sym, subst, arith}
use Rattle.std.specs.Prelude.{is_ok}
use Rattle.sc_record.specs.declared.order.Order.{Order}
use Rattle.sc_router.specs.Route.{bucket_of}
use Rattle.sc_seen.specs.Seen.{Layout, Seen}
use Rattle.sc_seen.specs.Moments.{View, Keeps}
use Rattle.sc_seen.specs.Batches.{OrderAnswer, IsOrderAnswer, HasStops, AnswersOrders}
use Rattle.sc_seen.specs.declared.stop.Stop.{Stop}
use Rattle.sc_bucket.specs.declared.accept.Accepted.{Accepted}
use Rattle.sc_bucket.specs.declared.accept.AcceptFault.{AcceptFault}
use Rattle.sc_bucket.specs.declared.accept.AcceptFault.TheVariants as faults
use Rattle.sc_bucket.specs.Events.{outcome_of}
use Rattle.sc_io.specs.Hosts.{Reached}
use Rattle.sc_collection.specs.Downs.{NotesDowns}
use Rattle.sc_update.specs.Updated.{UpdateMoment}
use Rattle.sc_update.specs.Steps.{Tries, SettlesFirst, CarriesOut}
use Rattle.sc_seen.proofs.GoesOnLemmas.{Keeps-then, Keeps-sees}
use Rattle.sc_collection.proofs.DownLemmas.{NotesDowns-none}

-- no node was asked, and no core noted as down
noted-none : (layout : Layout) (later : Seen) (old new : Reached) → new ≡ old → NotesDowns layout later [] old new
noted-none layout later old new same =
    subst (λ (reached : Reached). NotesDowns layout later [] old reached) (sym same) (NotesDowns-none layout later old)

-- one answer answers one order
answers-one : (layout : Layout) (later : Seen) (fail : Bool) (answer : OrderAnswer) → IsOrderAnswer layout later answer
    → AnswersOrders layout later fail (answer.order ∷ []) (answer ∷ [])
answers-one layout later fail answer is = record { in_turn = ([], refl); each = (is, tt); go_on = tt }

-- an order that was refused has one stop, which made nothing
refused-stops : (later : Seen) (fault : AcceptFault) (first : Stop) → first.made ≡ false
    → HasStops later (outcome_of (Err fault)) (first ∷ []) first
refused-stops later (faults.Conflict found) first made = (made, refl)
refused-stops later (faults.Partial name) first made = (made, refl)
refused-stops later faults.LogFull first made = (made, refl)
refused-stops later faults.Memory first made = (made, refl)

-- an order that was refused
pub carries-refused : {C : Type 0} (gives : C → ℕ → C → Type 0) (layout : Layout) (order : Order) (now : ℕ) (old new : UpdateMoment C) (first : Stop) (answer : Result Accepted AcceptFault)
    → is_ok answer ≡ false → bucket_of order.id layout.buckets < layout.buckets → gives old.moment.clock now new.moment.clock → Keeps layout old.moment.view new.moment.view (first ∷ []) → Tries layout new.moment.view.seen order now first answer
    → new.reach ≡ old.reach → CarriesOut gives layout order old new (outcome_of answer)
carries-refused gives layout order now old new first (Ok got) refused below given one tries same = absurd (cc)
carries-refused gives layout order now old new first (Err fault) refused below given one tries same =
    let answer : OrderAnswer = record { order = order; timestamp = now; stops = first ∷ []; outcome = outcome_of (Err fault) } in
    record {
      answer = answer;
      order_is = refl;
      outcome_is = refl;
      answered = λ flags. record {
        keeps = one;
        timestamps = (new.moment.clock, given, refl);
        answered = λ later sees. answers-one layout later flags.fail_on_conflict answer
            (record { first = first; lock = tries.lock; outcome = tries.outcome later sees; stops = refused-stops later fault first tries.made });
        notes = λ later sees. noted-none layout later old.reach new.reach same;
        unasked = λ none. absurd (cc);
        located = (below, tt);
      };
    }

-- an order that was accepted, and settled
pub carries-accepted : {C : Type 0} (gives : C → ℕ → C → Type 0) (layout : Layout) (order : Order) (now : ℕ) (old new : UpdateMoment C) (between : View) (first : Stop) (answer : Result Accepted AcceptFault)
    → is_ok answer ≡ true → bucket_of order.id layout.buckets < layout.buckets → gives old.moment.clock now new.moment.clock → Keeps layout old.moment.view between (first ∷ []) → Tries layout between.seen order now first answer
    → SettlesFirst layout between new.moment.view first → new.reach ≡ old.reach
    → CarriesOut gives layout order old new (outcome_of answer)
carries-accepted gives layout order now old new between first (Err fault) refused below given one tries two same = absurd (cc)
carries-accepted gives layout order now old new between first (Ok got) is below given one tries two same =
    let second : Stop = two.second in
    let answer : OrderAnswer = record { order = order; timestamp = now; stops = first ∷ second ∷ []; outcome = outcome_of (Ok got) } in
    record {
      answer = answer;
      order_is = refl;
      outcome_is = refl;
      answered = λ flags. record {
        keeps = Keeps-then layout old.moment.view between new.moment.view (first ∷ []) (second ∷ []) one two.keeps;
        timestamps = (new.moment.clock, given, refl);
        answered = λ later sees. answers-one layout later flags.fail_on_conflict answer (record {
          first = first;
          lock = tries.lock;
          outcome = tries.outcome later (Keeps-sees layout between new.moment.view (second ∷ []) two.keeps later sees);
          stops = record {
            made = tries.made;
            downs = [];
            last = second;
            stops_are = refl;
            few = omega arith;
            each = tt;
            settling = two.settling later sees;
          };
        });
        notes = λ later sees. noted-none layout later old.reach new.reach same;
        unasked = λ none. absurd (cc);
        located = (below, tt);
      };
    }
