-- What a worker's orders leave.
use Rattle.std.specs.Prelude.{◌≡◌, ◌⊎◌, ◌<◌, ◌≤◌, ◌+◌, ◌||◌, ℕ, Bool, true, false, pos, Option, Some, List, length, map, filter_map, All}
use Rattle.std.specs.List.{AllByRecursion}
use mathlib.Core.List.{IsPrefix}
use Rattle.sc_record.specs.declared.entry.Entry.{Entry}
use Rattle.sc_record.specs.declared.order.Order.{Order}
use Rattle.sc_record.specs.declared.order.Change.{Change}
use Rattle.sc_record.specs.declared.order.Change.TheVariants as changes
use Rattle.sc_schema.specs.Documents.{OrderContent, content_of}
use Rattle.sc_commands.specs.declared.batch.Batch.{Batch}
use Rattle.sc_journal.specs.Outcomes.{Outcome, accepted}
use Rattle.sc_journal.specs.Splits.{IsFullFor}
use Rattle.sc_seen.specs.Seen.{Layout, Seen, Extends, FromNowOn}
use Rattle.sc_seen.specs.Batches.{OrderAnswer, IsOrderAnswer, GivesTimestamps, WritesOnce, ack_of, order_stops, order_timestamps}
use Rattle.sc_update.specs.declared.end.BatchFault.{BatchFault}
use Rattle.sc_update.specs.declared.end.BatchFault.TheVariants as faults
use Rattle.sc_workload.specs.Workload.{Workload}
use Rattle.sc_workload.specs.Batches.{no_flags}
use Rattle.sc_arguments.specs.Arguments.{most_orders, most_workers}
use Rattle.sc_demo.specs.declared.made.Written.{Written}

-- the change is a whole document or a deletion
abbrev pub IsWholeOrDelete : Change → Type 0
IsWholeOrDelete (changes.Whole doc) = Unit {0}
IsWholeOrDelete (changes.Parts parts) = ⊥
IsWholeOrDelete changes.Delete = Unit {0}

-- the order has no condition, and sets or deletes its whole document
pub record IsPlainOrder (order : Order) : Type 0 where
  pub condition : order.condition ≡ pos 0
  pub change : IsWholeOrDelete order.change

-- the batch is one of a workload: at most 100 such orders without flags
pub record IsPlain (batch : Batch) : Type 0 where
  pub few : length batch.orders ≤ 100
  pub flags : batch.flags ≡ no_flags
  pub orders : AllByRecursion IsPlainOrder batch.orders

-- each of the batches
abbrev pub ArePlain : List Batch → Type 0
ArePlain batches = AllByRecursion IsPlain batches

-- what one of several workers is to make of a workload: its number is one of theirs
pub record WorkShare : Type 0 where
  pub workload : Workload
  pub worker : ℕ
  pub workers : ℕ

-- the numbers of a share are in their ranges
pub record IsShare (share : WorkShare) : Type 0 where
  pub least : 1 ≤ share.workload.count
  pub most : share.workload.count ≤ most_orders
  pub worker : share.worker < share.workers
  pub workers : share.workers ≤ most_workers

-- what stands beside a worker at one moment: what was seen of the collection, and its clock
pub record WritingState (C : Type 0) : Type 0 where
  pub seen : Seen
  pub clock : C

abbrev pub writing : {C : Type 0} → Seen → C → WritingState C
writing seen clock = record { seen = seen; clock = clock }

-- memory ran out for an order of a batch that was reported so
abbrev pub ran_out : Option BatchFault → Bool
ran_out (Some faults.Memory) = true
ran_out _ = false

-- what came of orders and of others after them
abbrev pub both : Written → Written → Written
both first later = record { accepted = first.accepted + later.accepted; memory = first.memory || later.memory }

-- the order was accepted
abbrev pub IsAccepted : Outcome → Type 0
IsAccepted (accepted version) = Unit {0}
IsAccepted _ = ⊥

-- each of these orders was answered in turn, and accepted
pub record AreAllAccepted (orders : List OrderContent) (answers : List OrderAnswer) : Type 0 where
  pub in_turn : map (λ (answer : OrderAnswer). content_of answer.order) answers ≡ orders
  pub each : AllByRecursion (λ (answer : OrderAnswer). IsAccepted answer.outcome) answers

-- A bucket's journal came near its limit: some beginning of it had no room for a write and what settles it, beside what it owed.
pub record CameNearLimit (layout : Layout) (seen : Seen) : Type 0 where
  pub lock : ℕ
  pub front : List Entry
  pub begins : IsPrefix front (seen.journals lock)
  pub full : IsFullFor 2 layout.limit layout.first front

-- Orders were made one after another, each answered by its bucket's journal at a timestamp that the clock gave for it: so many were
-- accepted, and exactly their writes, and what settled them, are the entries of one's own, none of which is on the board. All were accepted,
-- unless memory ran out or a bucket's journal came near its limit.
pub record MakesOrders {C : Type 0} (gives : C → ℕ → C → Type 0) (layout : Layout) (old new : WritingState C) (orders : List OrderContent)
    (made : Written) : Type 0 where
  pub answers : List OrderAnswer
  pub extends : Extends layout old.seen new.seen (order_stops answers)
  pub board : new.seen.own layout.buckets ≡ old.seen.own layout.buckets
  pub timestamps : GivesTimestamps gives old.clock (order_timestamps answers) new.clock
  pub answered : FromNowOn new.seen (λ later. AllByRecursion (IsOrderAnswer layout later) answers)
  pub once : FromNowOn new.seen (λ later. WritesOnce layout later (order_stops answers) answers)
  pub accepted_are : made.accepted ≡ length (filter_map ack_of answers)
  pub all : AreAllAccepted orders answers ⊎ (made.memory ≡ true) ⊎ CameNearLimit layout new.seen
