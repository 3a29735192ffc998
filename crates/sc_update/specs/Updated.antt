-- What an update leaves of its desk, its clock, its hosts and its trail, and what it reports.
use Rattle.std.specs.Prelude.{◌≡◌, ℕ, ◌-◌, Bool, true, false, List, [], ◌++◌, length, Option, Some, None}
use Rattle.sc_commands.specs.declared.batch.Batch.{Batch}
use Rattle.sc_io.specs.Hosts.{Reached}
use Rattle.sc_journal.specs.Journal.{last_of}
use Rattle.sc_journal.specs.Outcomes.{Outcome, accepted, conflict, partial, log_full, out_of_memory}
use Rattle.sc_seen.specs.Seen.{Layout, Seen, FromNowOn}
use Rattle.sc_seen.specs.Moments.{Moment, moment_of, Keeps}
use Rattle.sc_seen.specs.Batches.{OrderAnswer, AnswersOrders, GoOn, WritesOnce, GivesTimestamps, goes_on, accepted_adds, accepted_deletes, order_stops, down_stops, order_timestamps}
use Rattle.sc_seen.specs.Commits.{CommitOutcome, committed_now, commit_full, commit_out_of_memory, CommitAnswer, AnswersCommits, commit_stops, worst}
use Rattle.sc_seen.specs.declared.stop.Stop.{Stop}
use Rattle.sc_collection.specs.Downs.{NotesDowns}
use Rattle.sc_update.specs.declared.end.BatchEnd.{BatchEnd}
use Rattle.sc_update.specs.declared.end.BatchFault.{BatchFault}
use Rattle.sc_update.specs.declared.end.BatchFault.TheVariants as faults

-- what stands at one moment of an update: what was looked at so far, the clock, and which nodes could not be reached
pub record UpdateMoment (C : Type 0) : Type 0 where
  pub moment : Moment C
  pub reach : Reached

-- the moment at which that stands: what was seen, the stops that were kept, the clock, and the nodes
abbrev pub update_moment : {C : Type 0} → Seen → List Stop → C → Reached → UpdateMoment C
update_moment seen stops clock reach = record { moment = moment_of seen stops clock; reach = reach }

-- how an update ended
pub data UpdateEnd : Type 0 where
  -- its orders went on to their end, and the commits that were asked for came to this together
  finished : CommitOutcome → UpdateEnd
  -- its orders ended at the last that was answered, with this answer
  refused : OrderAnswer → UpdateEnd
  -- memory ran out before an order was carried out
  ran_out : UpdateEnd

-- the orders of a batch ended so, by their answers
abbrev pub OrdersEnd : Batch → List OrderAnswer → UpdateEnd → Type 0
OrdersEnd batch answers (finished outcome) =
    (length answers ≡ length batch.orders) × GoOn batch.flags.fail_on_conflict answers
OrdersEnd batch answers (refused last) =
    (last_of answers ≡ Some last) × (goes_on batch.flags.fail_on_conflict last.outcome ≡ false)
OrdersEnd batch answers ran_out = GoOn batch.flags.fail_on_conflict answers

-- every bucket was committed where that was asked for, and else none
abbrev pub CommitsAsked : Layout → Seen → Bool → List CommitAnswer → Type 0
CommitsAsked layout seen true commits = AnswersCommits layout seen layout.buckets commits
CommitsAsked layout seen false commits = commits ≡ []

-- these are the commits of an update that ended so: none unless its orders went on to their end
abbrev pub CommitsEnd : Layout → Seen → Batch → List CommitAnswer → UpdateEnd → Type 0
CommitsEnd layout seen batch commits (finished outcome) =
    CommitsAsked layout seen batch.flags.commit commits × (outcome ≡ worst commits)
CommitsEnd layout seen batch commits (refused last) = commits ≡ []
CommitsEnd layout seen batch commits ran_out = commits ≡ []

-- How an update ended, by the answers to its orders and by its commits.
abbrev pub Ends : Layout → Seen → Batch → List OrderAnswer → List CommitAnswer → UpdateEnd → Type 0
Ends layout seen batch answers commits how = OrdersEnd batch answers how × CommitsEnd layout seen batch commits how

-- what is reported of the order at a place that was answered so, where that refuses it
abbrev pub order_fault : ℕ → Outcome → Option BatchFault
order_fault order (accepted version) = None
order_fault order (conflict actual) = Some (faults.Conflict order actual)
order_fault order (partial field) = Some (faults.Partial order field)
order_fault order log_full = Some faults.LogFull
order_fault order out_of_memory = Some faults.Memory

-- what is reported of commits that came to this together
abbrev pub commit_fault : CommitOutcome → Option BatchFault
commit_fault committed_now = None
commit_fault commit_full = Some faults.LogFull
commit_fault commit_out_of_memory = Some faults.Memory

-- what is reported of an update that ended so after these answers
abbrev pub reported : List OrderAnswer → UpdateEnd → Option BatchFault
reported answers (finished outcome) = commit_fault outcome
reported answers (refused last) = order_fault (length answers - 1) last.outcome
reported answers ran_out = Some faults.Memory

-- what is shown of the answers: the ids and versions that were accepted, where versions are asked for
abbrev pub Shows : Bool → List OrderAnswer → BatchEnd → Type 0
Shows true answers end = (end.adds ≡ accepted_adds answers) × (end.deletes ≡ accepted_deletes answers)
Shows false answers end = (end.adds ≡ []) × (end.deletes ≡ [])

-- an update that ended so after these answers reports this
pub record ReportsEnd (batch : Batch) (answers : List OrderAnswer) (how : UpdateEnd) (end : BatchEnd) : Type 0 where
  pub fault : end.fault ≡ reported answers how
  pub shown : Shows batch.flags.versions answers end

-- The orders of a batch were answered in turn, each at a timestamp that the clock gave for it and at its own stops, and then the
-- buckets were committed, if they were; the stops were kept, and what was seen went on by them. Of the cores that orders noted as down
-- the nodes could not be reached; where no order was answered, no node was asked.
pub record IsUpdated {C : Type 0} (gives : C → ℕ → C → Type 0) (layout : Layout) (batch : Batch) (old new : UpdateMoment C) (end : BatchEnd) : Type 0 where
  pub answers : List OrderAnswer
  pub commits : List CommitAnswer
  pub how : UpdateEnd
  pub keeps : Keeps layout old.moment.view new.moment.view (order_stops answers ++ commit_stops commits)
  pub timestamps : GivesTimestamps gives old.moment.clock (order_timestamps answers) new.moment.clock
  pub answered : FromNowOn new.moment.view.seen (λ later. AnswersOrders layout later batch.flags.fail_on_conflict batch.orders answers)
  pub ends : FromNowOn new.moment.view.seen (λ later. Ends layout later batch answers commits how)
  pub once : FromNowOn new.moment.view.seen (λ later. WritesOnce layout later (order_stops answers ++ commit_stops commits) answers)
  pub notes : NotesDowns layout new.moment.view.seen (down_stops answers) old.reach new.reach
  pub unasked : answers ≡ [] → new.reach ≡ old.reach
  pub reports : ReportsEnd batch answers how end
