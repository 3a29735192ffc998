-- What the call of each event says, as a step of a run.
use Rattle.std.proofs.Common.{◌≡◌, ◌≢◌, inl, inr, ◌∙◌, ◌≤◌, ◌<◌, ℕ, ◌+◌, List, [], ◌∷◌, ◌++◌, length, take, drop, get_or, slice_get, Some, None, Option, true, false, Result, Ok, Err, IfOk, OnOk, OnErr, MatchOption, All, refl, sym, ap, subst}
use Rattle.std.proofs.lemmas.Bool.{false≢true}
use Rattle.std.proofs.lemmas.List.{take_all, take-append-drop, drop_more}
use Rattle.std.proofs.lemmas.Option.{slice_get-get_or, slice_get_within, get_or_from_slice_get}
use Rattle.sc_record.specs.declared.slice.CoreId.{CoreId}
use Rattle.sc_record.specs.Writes.{Write}
use Rattle.sc_record.specs.declared.order.Order.{Order}
use Rattle.sc_cluster.specs.declared.slice.Slice.{Slice}
use Rattle.sc_journal.specs.Journal.{writes}
use Rattle.sc_journal.specs.Outcomes.{conflict, partial, log_full, IsOutcome}
use Rattle.sc_bucket.specs.Kept.{Sent}
use Rattle.sc_bucket.specs.Room.{basis}
use Rattle.sc_bucket.specs.Events.{IsSameButRoom, Accepts, Delivers, DeliversFirst, outcome_of}
use Rattle.sc_bucket.specs.declared.bucket.Bucket.{Bucket}
use Rattle.sc_bucket.specs.declared.accept.Accepted.{Accepted}
use Rattle.sc_bucket.specs.declared.accept.AcceptFault.{AcceptFault}
use Rattle.sc_bucket.specs.declared.accept.AcceptFault.TheVariants as faults
use Rattle.sc_replicas.proofs.FindLemmas.{take-next}
use Rattle.sc_handover.specs.Conditions.{CanGrow}
use Rattle.sc_handover.specs.Events.{Grows}
use Rattle.sc_world.specs.declared.event.Event.{Event}
use Rattle.sc_world.specs.declared.event.Event.TheVariants as events
use Rattle.sc_world.specs.Steps.{Can, FindsNoMemory}
use Rattle.sc_world.specs.Runs.{IsStepped, Runs, EventsRunOut}
use Rattle.sc_world.specs.Checks.{lacks_memory}
use Rattle.sc_world.proofs.RunLemmas.{Runs-push, Adds-run, Adds-run_out}

-- an order that is answered, but that memory ran out
pub accept_step : (old new : Bucket) (order : Order) (now : ℕ) (answered : Result Accepted AcceptFault) → lacks_memory answered ≡ false
    → IfOk answered (λ accepted. Accepts old order now accepted.version new) → OnErr answered (IsSameButRoom old new)
    → IsOutcome (basis old) old.journal.entries order now (outcome_of answered) new.journal.entries
    → IsStepped old (events.Accept order now) new
accept_step old new order now (Ok accepted) in_memory is same outcome = (is.cell.value ∷ [], inl (accepted.version, is, refl))
accept_step old new order now (Err (faults.Conflict found)) in_memory is same outcome =
    ([], inr (refl, (conflict found, tt, outcome, same)))
accept_step old new order now (Err (faults.Partial name)) in_memory is same outcome =
    ([], inr (refl, (partial name, tt, outcome, same)))
accept_step old new order now (Err faults.LogFull) in_memory is same outcome = ([], inr (refl, (log_full, tt, outcome, same)))
accept_step old new order now (Err faults.Memory) in_memory is same outcome = absurd (false≢true (sym in_memory))

-- or that it did
pub accept_out : (old new : Bucket) (order : Order) (now : ℕ) (answered : Result Accepted AcceptFault) → lacks_memory answered ≡ true
    → OnErr answered (IsSameButRoom old new)
    → IsOutcome (basis old) old.journal.entries order now (outcome_of answered) new.journal.entries
    → FindsNoMemory old (events.Accept order now) new
accept_out old new order now (Ok accepted) out same outcome = absurd (false≢true out)
accept_out old new order now (Err (faults.Conflict found)) out same outcome = absurd (false≢true out)
accept_out old new order now (Err (faults.Partial name)) out same outcome = absurd (false≢true out)
accept_out old new order now (Err faults.LogFull) out same outcome = absurd (false≢true out)
accept_out old new order now (Err faults.Memory) out same outcome = (outcome, same)

-- a message that is delivered, where there is one
pub deliver_nth_step : (old new : Bucket) (k : ℕ) (found : Option CoreId)
    → MatchOption found ((new ≡ old) × (length old.flight.messages ≤ k))
    (λ core. (message : Sent) × Delivers old k message new × (message.core ≡ core)) → IsStepped old (events.DeliverNth k) new
deliver_nth_step old new k None none = ([], inl (refl, inl none))
deliver_nth_step old new k (Some core) (message, is, to) = ([], inl (refl, inr (message, is)))

pub deliver_step : (old new : Bucket) (place : ℕ) (found : Option CoreId)
    → MatchOption found ((new ≡ old) × All (λ (message : Sent). message.place ≢ place) old.flight.messages)
    (λ core. DeliversFirst old place core new) → IsStepped old (events.Deliver place) new
deliver_step old new place None none = ([], inl (refl, inl none))
deliver_step old new place (Some core) is = ([], inl (refl, inr (core, is)))

-- the events came, and added some writes
abbrev pub HasRun : Bucket → List Event → Bucket → Type 0
HasRun old run new = (added : List Write) × Runs old run added new

-- and so did the next
pub HasRun-stepped : (old : Bucket) (run : List Event) (at : ℕ) (event : Event) (between new : Bucket) → slice_get run at ≡ Some event
    → HasRun old (take at run) between → Can between event → IsStepped between event new → HasRun old (take (at + 1) run) new
HasRun-stepped old run at event between new there (added, runs) can (more, is) = (
  added ++ more,
  subst (λ these. Runs old these (added ++ more) new) (sym (take-next run at event there))
      (Runs-push old (take at run) added between event more new runs (inr (can, is))),
)

-- or it was passed over
pub HasRun-passed_over : (old : Bucket) (run : List Event) (at : ℕ) (event : Event) (between : Bucket) → slice_get run at ≡ Some event
    → HasRun old (take at run) between → (¬ Can between event) → HasRun old (take (at + 1) run) between
HasRun-passed_over old run at event between there (added, runs) cannot = (
  added ++ [],
  subst (λ these. Runs old these (added ++ []) between) (sym (take-next run at event there))
      (Runs-push old (take at run) added between event [] between runs (inl (cannot, refl, refl))),
)

-- all came
pub ran_all : (old : Bucket) (run : List Event) (at : ℕ) (new : Bucket) → length run ≤ at → HasRun old (take at run) new
    → (added : List Write) × Runs old run added new × (writes new.journal.entries ≡ writes old.journal.entries ++ added)
ran_all old run at new whole (added, runs) =
    let all : Runs old run added new = subst (λ these. Runs old these added new) (take_all at run whole) runs in
    (added, all, Adds-run old run added new all)

-- or memory ran out at one
pub ran_out_at : (old : Bucket) (run : List Event) (at : ℕ) (event : Event) (between new : Bucket) → slice_get run at ≡ Some event
    → HasRun old (take at run) between → Can between event → FindsNoMemory between event new
    → (added : List Write) × EventsRunOut old run added new × (writes new.journal.entries ≡ writes old.journal.entries ++ added)
ran_out_at old run at event between new there (added, runs) can out = (added, ran, Adds-run_out old run added new ran) where
  rest : drop at run ≡ event ∷ drop (at + 1) run
  rest =
      drop_more run at event (slice_get_within run at event there)
      ∙ ap (λ (e : Event). e ∷ drop (at + 1) run) (get_or_from_slice_get run at event event there)

  ran : EventsRunOut old run added new
  ran = record {
    before = take at run;
    event = event;
    after = drop (at + 1) run;
    parts = sym (take-append-drop at run) ∙ ap (λ these. take at run ++ these) rest;
    between = between;
    runs = runs;
    can = can;
    out = out;
  }

-- a core that joins, where memory sufficed
pub grow_step : {T E : Type 0} (old new : Bucket) (core : CoreId) (answered : Result T E) → Can old (events.Grow core)
    → OnOk answered ((sub : Slice) → CanGrow old core sub → Grows old core sub new) → OnOk answered (IsStepped old (events.Grow core) new)
grow_step old new core (Ok done) (sub, can) grown = ([], inl (refl, (sub, can, grown sub can)))
grow_step old new core (Err fault) can grown = tt

-- what holds at all holds after an error
pub on_err : {T E : Type 0} {X : Type 0} (answered : Result T E) → X → OnErr answered X
on_err (Ok done) x = tt
on_err (Err fault) x = x

-- the event at a place of what is gone over
pub event_at : (run items : List Event) (at : ℕ) (event : Event) → items ≡ run → at < length items → get_or items at event ≡ event
    → slice_get run at ≡ Some event
event_at run items at event same within is =
    subst (λ these. slice_get these at ≡ Some event) same (slice_get-get_or items at event within ∙ ap Some is)
