-- How an update is carried out, step by step.
use Rattle.std.specs.Prelude.{◌≡◌, ◌≢◌, ◌⊎◌, ℕ, ◌+◌, ◌<◌, ◌≤◌, Bool, true, false, List, [], ◌∷◌, ◌++◌, length, count_by, Option, Some, None, Result, Err, IfOk, IsSome, is_ok, vec_len, vec_capacity, if◌then◌else◌}
use Rattle.std.specs.List.{AllByRecursion}
use mathlib.Core.List.{IsPrefix}
use Rattle.sc_record.specs.declared.order.Order.{Order}
use Rattle.sc_router.specs.Route.{bucket_of}
use Rattle.sc_journal.specs.Journal.{write_at, is_settled}
use Rattle.sc_journal.specs.Outcomes.{Outcome, IsOutcome}
use Rattle.sc_seen.specs.Seen.{Layout, Seen, FromNowOn, basis_of, journal_at}
use Rattle.sc_seen.specs.Moments.{View, Keeps}
use Rattle.sc_seen.specs.Batches.{OrderAnswer, AnswersOrders, GivesTimestamps, IsSettling, goes_on, deletes, accepted_adds, accepted_deletes, order_stops, down_stops, order_timestamps}
use Rattle.sc_seen.specs.Commits.{CommitOutcome, committed_now}
use Rattle.sc_seen.specs.declared.stop.Stop.{Stop}
use Rattle.sc_bucket.specs.Sound.{IsSound}
use Rattle.sc_bucket.specs.Events.{Settles, outcome_of}
use Rattle.sc_bucket.specs.declared.bucket.Bucket.{Bucket}
use Rattle.sc_bucket.specs.declared.accept.Accepted.{Accepted}
use Rattle.sc_bucket.specs.declared.accept.AcceptFault.{AcceptFault}
use Rattle.sc_bucket.specs.declared.accept.AcceptFault.TheVariants as accept_faults
use Rattle.sc_collection.specs.Desks.{Out, nothing_out, IsBucketOf}
use Rattle.sc_collection.specs.Downs.{NotesDowns}
use Rattle.sc_commands.specs.declared.batch.Batch.{Batch}
use Rattle.sc_commands.specs.declared.batch.Flags.{Flags}
use Rattle.sc_update.specs.declared.end.BatchEnd.{BatchEnd}
use Rattle.sc_update.specs.declared.order.Delivery.{Delivery}
use Rattle.sc_update.specs.declared.order.Delivery.TheVariants as deliveries
use Rattle.sc_update.specs.declared.shown.Shown.{Shown}
use Rattle.sc_update.specs.Updated.{UpdateMoment, UpdateEnd, finished, OrdersEnd, ReportsEnd}

-- Holds of the bucket of a lock made no entry. Of its journal more may be seen, which others made; all else that was seen stayed.
pub record MakeNoEntry (old new : Seen) (lock : ℕ) : Type 0 where
  pub journal : IsPrefix (old.journals lock) (new.journals lock)
  pub others : (other : ℕ) → other ≢ lock → new.journals other ≡ old.journals other
  pub board : new.board ≡ old.board
  pub own : (other : ℕ) → new.own other ≡ old.own other

-- The bucket is out, and was handed out as this lock's: it is sound, of this number, and extends what was seen. Nothing else is out.
pub record Holds (layout : Layout) (seen : Seen) (out : Out) (lock : ℕ) (bucket : Bucket) : Type 0 where
  pub out_is : out ≡ record nothing_out { bucket = Some (record { number = lock; bucket = bucket; by_keeper = false }) }
  pub sound : IsSound bucket
  pub is_of : IsBucketOf layout lock bucket
  pub extends : IsPrefix (seen.journals lock) bucket.journal.entries

-- the bucket was given back, or it is held still
abbrev pub HoldsWhereIdle : Layout → Seen → Out → ℕ → Delivery → Type 0
HoldsWhereIdle layout seen out lock deliveries.Delivered = out ≡ nothing_out
HoldsWhereIdle layout seen out lock (deliveries.Idle bucket) = Holds layout seen out lock bucket

-- An order was carried out at this stop of its id's bucket, and got this answer.
pub record Tries (layout : Layout) (seen : Seen) (order : Order) (now : ℕ) (first : Stop) (answer : Result Accepted AcceptFault) : Type 0 where
  pub lock : first.lock ≡ bucket_of order.id layout.buckets
  pub made : first.made ≡ is_ok answer
  pub written : IfOk answer (λ accepted. IsSome (write_at (seen.journals first.lock) first.place))
  pub outcome : FromNowOn seen
      (λ later. IsOutcome (basis_of layout) (journal_at later first) order now (outcome_of answer) (later.journals first.lock))

-- The write at the place is settled: by an entry that was made for it, or it was settled already and nothing changed.
abbrev pub SettlesWhere : Bool → Bucket → ℕ → Bucket → Type 0
SettlesWhere true old place new = Settles old place new × (is_settled old.journal.entries place ≡ false)
SettlesWhere false old place new = (new ≡ old) × (is_settled old.journal.entries place ≡ true)

-- The write of the first stop is settled at a stop that comes after it.
pub record SettlesFirst (layout : Layout) (old new : View) (first : Stop) : Type 0 where
  pub second : Stop
  pub keeps : Keeps layout old new (second ∷ [])
  pub settling : FromNowOn new.seen (λ later. IsSettling later first second)

-- Orders of a batch were answered in turn, up to one of them, each at a timestamp that the clock gave for it and at its own stops. The
-- bucket of each one's id is one of the collection's. Of the cores that they noted as down the nodes could not be reached; where no
-- order was answered, no node was asked.
pub record Answered {C : Type 0} (gives : C → ℕ → C → Type 0) (layout : Layout) (batch : Batch) (old new : UpdateMoment C) (answers : List OrderAnswer) : Type 0 where
  pub keeps : Keeps layout old.moment.view new.moment.view (order_stops answers)
  pub timestamps : GivesTimestamps gives old.moment.clock (order_timestamps answers) new.moment.clock
  pub answered : FromNowOn new.moment.view.seen (λ later. AnswersOrders layout later batch.flags.fail_on_conflict batch.orders answers)
  pub notes : FromNowOn new.moment.view.seen (λ later. NotesDowns layout later (down_stops answers) old.reach new.reach)
  pub unasked : answers ≡ [] → new.reach ≡ old.reach
  pub located : AllByRecursion (λ (answer : OrderAnswer). bucket_of answer.order.id layout.buckets < layout.buckets) answers

-- a batch of one order
abbrev pub one_order : Flags → Order → Batch
one_order flags order = record { orders = order ∷ []; flags = flags }

-- one order was carried out, with this outcome
pub record CarriesOut {C : Type 0} (gives : C → ℕ → C → Type 0) (layout : Layout) (order : Order) (old new : UpdateMoment C) (outcome : Outcome) : Type 0 where
  pub answer : OrderAnswer
  pub order_is : answer.order ≡ order
  pub outcome_is : answer.outcome ≡ outcome
  pub answered : (flags : Flags) → Answered gives layout (one_order flags order) old new (answer ∷ [])

-- the fault, where orders end at it
abbrev pub ending : Bool → AcceptFault → Option AcceptFault
ending false (accept_faults.Conflict found) = None
ending fail fault = Some fault

-- What one order came to: orders go on after it, or they end at it with this fault; or memory ran out before it was carried out.
abbrev pub EndsOne : Bool → List OrderAnswer → Option AcceptFault → Type 0
EndsOne fail answers None = (answer : OrderAnswer) × (answers ≡ answer ∷ []) × (goes_on fail answer.outcome ≡ true)
EndsOne fail answers (Some fault) =
    ((answer : OrderAnswer) × (answers ≡ answer ∷ []) × (answer.outcome ≡ outcome_of (Err fault)) × (goes_on fail answer.outcome ≡ false))
    ⊎ ((answers ≡ []) × (fault ≡ accept_faults.Memory))

-- what is shown of more answers comes after what was shown; where versions aren't asked for nothing is shown
abbrev pub ShowsMore : Bool → List OrderAnswer → Shown → Shown → Type 0
ShowsMore true answers old new =
    (new.adds.items ≡ old.adds.items ++ accepted_adds answers) × (new.deletes.items ≡ old.deletes.items ++ accepted_deletes answers)
ShowsMore false answers old new = (new.adds.items ≡ old.adds.items) × (new.deletes.items ≡ old.deletes.items)

-- there is room to show each of these orders: those that delete, and the others
pub record HasRoomToShow (shown : Shown) (orders : List Order) : Type 0 where
  pub adds : vec_len shown.adds + length orders ≤ vec_capacity shown.adds + count_by (λ (order : Order). deletes order.change) orders
  pub deleted : vec_len shown.deletes + count_by (λ (order : Order). deletes order.change) orders ≤ vec_capacity shown.deletes

-- there is room to show one order more, a deletion or another
pub record HasRoomToShowOne (deletion : Bool) (shown : Shown) : Type 0 where
  pub adds : deletion ≡ false → vec_len shown.adds < vec_capacity shown.adds
  pub deleted : deletion ≡ true → vec_len shown.deletes < vec_capacity shown.deletes

-- one order more is shown at most, a deletion or another, in the room that was made
pub record GrowsByOne (deletion : Bool) (old new : Shown) : Type 0 where
  pub adds : vec_len new.adds ≤ (if deletion then vec_len old.adds else vec_len old.adds + 1)
  pub adds_room : vec_capacity new.adds ≡ vec_capacity old.adds
  pub deleted : vec_len new.deletes ≤ (if deletion then vec_len old.deletes + 1 else vec_len old.deletes)
  pub deleted_room : vec_capacity new.deletes ≡ vec_capacity old.deletes

-- how far an update is: what stands, what is shown of its answers so far, and the fault at which its orders ended, if they did
pub record UpdateProgress (C : Type 0) : Type 0 where
  pub moment : UpdateMoment C
  pub shown : Shown
  pub ended : Option AcceptFault

-- one order was taken: what it came to is shown, and orders go on after it or end
pub record Takes {C : Type 0} (gives : C → ℕ → C → Type 0) (layout : Layout) (flags : Flags) (order : Order) (old new : UpdateProgress C) : Type 0 where
  pub answers : List OrderAnswer
  pub answered : Answered gives layout (one_order flags order) old.moment new.moment answers
  pub shows : ShowsMore flags.versions answers old.shown new.shown
  pub grows : GrowsByOne (deletes order.change) old.shown new.shown
  pub ends : EndsOne flags.fail_on_conflict answers new.ended

-- The orders of a batch were answered, up to one of them, and what was accepted is shown. Nothing was committed.
pub record AnswersAll {C : Type 0} (gives : C → ℕ → C → Type 0) (layout : Layout) (batch : Batch) (old new : UpdateMoment C) (end : BatchEnd) : Type 0 where
  pub answers : List OrderAnswer
  pub how : UpdateEnd
  pub answered : Answered gives layout batch old new answers
  pub ends : OrdersEnd batch answers how
  pub uncommitted : (outcome : CommitOutcome) → how ≡ finished outcome → outcome ≡ committed_now
  pub reports : ReportsEnd batch answers how end
