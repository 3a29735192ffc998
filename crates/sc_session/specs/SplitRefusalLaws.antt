-- The law of splits that were refused, in an administrator's words: they leave every answer as it was, but for their commits.
use Rattle.std.specs.Prelude.{◌≡◌, ◌⊎◌, ◌↔◌, ◌≤◌, ◌<◌, ℕ, Bool, true, false, List, ◌∷◌, ◌++◌, length, Option, All}
use mathlib.Core.List.{IsPrefix}
use Rattle.sc_hash.specs.declared.range.Range.{Range}
use Rattle.sc_record.specs.declared.order.Order.{Order}
use Rattle.sc_record.specs.declared.entry.Entry.{Entry}
use Rattle.sc_record.specs.declared.entry.Entry.TheVariants as entry
use Rattle.sc_cluster.specs.declared.plan.SplitPlan.{SplitPlan}
use Rattle.sc_eval.specs.Criteria.{Criterion}
use Rattle.sc_journal.specs.Journal.{last_write}
use Rattle.sc_journal.specs.Outcomes.{Outcome, HasRoom, IsOutcome}
use Rattle.sc_journal.specs.Splits.{map_after}
use Rattle.sc_seen.specs.Seen.{Layout, Seen, AreLegal, basis_of}
use Rattle.sc_seen.specs.declared.board.BoardEntry.{BoardEntry}
use Rattle.sc_seen.specs.declared.stop.Stop.{Stop}
use Rattle.sc_fanout.specs.Searches.{SearchPage}
use Rattle.sc_board.specs.Splits.{AskedSplit}
use Rattle.sc_split.specs.declared.end.SplitEnd.{SplitEnd}
use Rattle.sc_split.specs.declared.end.SplitEnd.TheVariants as ends
use Rattle.sc_split.specs.Splits.{SplitMoment, Course, refused, given_up, done, noted_by, BeginsAt, is_of_split, IsSplit}
use Rattle.sc_session.specs.Answers.{status_reply}
use Rattle.sc_session.specs.SplitLaws.{ShowsOver}

-- the split was done
abbrev pub is_done : SplitEnd → Bool
is_done (ends.Done subs committed) = true
is_done _ = false

-- The other journal is this one as if the split of the plan had not come, but for its commit: after what was seen before, a commit stands
-- where it begins, and nothing where it failed. None of the entries between begins or ends a split.
pub record IsGivenUpIn (plan : SplitPlan) (seen journal other : List Entry) : Type 0 where
  pub earlier : List Entry
  pub during : List Entry
  pub further : List Entry
  pub went_on : IsPrefix seen earlier
  pub journal_is : journal ≡ earlier ++ entry.Begun plan.parent plan.subs ∷ during ++ entry.Failed plan.parent ∷ further
  pub next : All (λ (one : Entry). is_of_split one ≡ false) during
  pub other_is : other ≡ earlier ++ entry.Committed ∷ during ++ further

-- the split of the plan has not begun in the journal, after what was seen before
abbrev pub HasNotBegun : SplitPlan → List Entry → List Entry → Type 0
HasNotBegun plan seen journal = (place : ℕ) (later : List Entry) → BeginsAt plan journal place later → place < length seen

-- the other journal is this one as if a split that went so had not come, but for its commit; it is the same where that did not begin
abbrev pub IsWithout : Course → (seen journal other : List Entry) → Type 0
IsWithout refused seen journal other = other ≡ journal
IsWithout (given_up plan recovered started) seen journal other =
    (HasNotBegun plan seen journal × (other ≡ journal)) ⊎ IsGivenUpIn plan seen journal other
IsWithout (done plan answers) seen journal other = ⊥

-- wherever a split that went so has begun in the journal, it failed there
abbrev pub FailsWhereBegun : Course → (seen journal : List Entry) → Type 0
FailsWhereBegun refused seen journal = journal ≡ seen
FailsWhereBegun (given_up plan recovered started) seen journal = (place : ℕ) (later : List Entry) → BeginsAt plan journal place later
    → length seen ≤ place → (other : List Entry) × IsGivenUpIn plan seen journal other
FailsWhereBegun (done plan answers) seen journal = ⊥

-- A journal that goes on after such a split, and the other as if that had not come: the same entries come after it in both.
pub record GoesOnWithout (course : Course) (seen journal later other : List Entry) : Type 0 where
  pub without : List Entry
  pub more : List Entry
  pub is : IsWithout course seen journal without
  pub later_is : later ≡ journal ++ more
  pub other_is : other ≡ without ++ more

-- What is seen later, and the other as if a split that went so had not come, but for its commits: in the bucket's journals, and on the
-- board, where the entries that the split noted come after those before it.
pub record IsAsIfNotAsked (layout : Layout) (course : Course) (old new later other : Seen) : Type 0 where
  pub before : List BoardEntry
  pub more : List BoardEntry
  pub noted : new.board ≡ before ++ noted_by course
  pub later_is : later.board ≡ new.board ++ more
  pub other_is : other.board ≡ before ++ more
  pub buckets : (lock : ℕ) → lock < layout.buckets
      → GoesOnWithout course (old.journals lock) (new.journals lock) (later.journals lock) (other.journals lock)

-- a look at the end of the board
abbrev pub at_end_of_board : Layout → Seen → Stop
at_end_of_board layout seen = record { lock = layout.buckets; place = length seen.board; made = false }

-- Where both journals have room, an order is answered alike at the end of the one and of the other, at the same timestamp; and where it is
-- accepted the same write comes next.
abbrev pub AnswerOrdersAlike : Layout → (one other : List Entry) → Type 0
AnswerOrdersAlike layout one other = HasRoom layout.limit layout.first one → HasRoom layout.limit layout.first other
    → (order : Order) (now : ℕ) (outcome : Outcome) (more : List Entry)
    → IsOutcome (basis_of layout) one order now outcome (one ++ more) ↔ IsOutcome (basis_of layout) other order now outcome (other ++ more)

-- The status, each get, each search and, where there is room, each order are answered alike by what was seen and by the other, and the
-- slices are the same.
pub record AreAnsweredAlike (layout : Layout) (one other : Seen) : Type 0 where
  pub status : status_reply layout one (at_end_of_board layout one) ≡ status_reply layout other (at_end_of_board layout other)
  pub slices : (lock : ℕ) → lock < layout.buckets
      → map_after layout.first (one.journals lock) ≡ map_after layout.first (other.journals lock)
  pub gets : (lock : ℕ) → lock < layout.buckets → (id : List ℕ) → last_write (one.journals lock) id ≡ last_write (other.journals lock) id
  pub searches : (criterion : Criterion) (route : Option Range) (page : SearchPage)
      → ShowsOver layout one.journals criterion route page ↔ ShowsOver layout other.journals criterion route page
  pub updates : (lock : ℕ) → lock < layout.buckets → AnswerOrdersAlike layout (one.journals lock) (other.journals lock)

-- After a split that was refused all is answered as if it had not come, but for the commit of each bucket in which it had begun; there
-- it failed.
abbrev pub RefusedSplitsLeaveNothing : Type 0
RefusedSplitsLeaveNothing = (layout : Layout) (asked : AskedSplit) (old new : SplitMoment) (end : SplitEnd)
    → (split : IsSplit layout asked old new end) → is_done end ≡ false
    → ((lock : ℕ) → lock < layout.buckets → FailsWhereBegun split.course (old.view.seen.journals lock) (new.view.seen.journals lock))
    × ((later other : Seen) → AreLegal layout later → IsAsIfNotAsked layout split.course old.view.seen new.view.seen later other
    → AreAnsweredAlike layout later other)
