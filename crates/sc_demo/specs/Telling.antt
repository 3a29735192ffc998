-- What is told of a demonstration once its makers have worked.
use Rattle.std.specs.Prelude.{◌≡◌, ◌<◌, ◌++◌, ℕ, List, Some, IfSome}
use Rattle.sc_io.specs.Pieces.{AddsPrefix}
use Rattle.sc_seen.specs.Seen.{Layout, Seen}
use Rattle.sc_server.specs.Working.{Told}
use Rattle.sc_demo.specs.declared.counting.Found.{Found}
use Rattle.sc_demo.specs.declared.task.Outcome.{Outcome}
use Rattle.sc_demo.specs.declared.task.Outcome.TheVariants as outcomes
use Rattle.sc_demo.specs.Finding.{CommitsAndFinds}
use Rattle.sc_demo.specs.Lines.{Report, lines}

-- the collection once its makers have worked: how it is laid out, and what all of them have seen of it
pub record AfterMakers : Type 0 where
  pub layout : Layout
  pub seen : Seen

abbrev pub after_makers : Layout → Seen → AfterMakers
after_makers layout seen = record { layout = layout; seen = seen }

-- what the makers made together: how many orders, how many of them were accepted, and what the split came to
pub record Tally : Type 0 where
  pub orders : ℕ
  pub accepted : ℕ
  pub split : List ℕ

abbrev pub tally : (orders accepted : ℕ) → (split : List ℕ) → Tally
tally orders accepted split = record { orders = orders; accepted = accepted; split = split }

-- every bucket was committed, and three searches found so many documents
pub record CountsOn (collection : AfterMakers) (found : Found) : Type 0 where
  pub last : Seen
  pub are : CommitsAndFinds collection.layout collection.seen last found

-- what is to be told: what was made, and what is found
pub record IsReport (collection : AfterMakers) (made : Tally) (report : Report) : Type 0 where
  pub found : Found
  pub is : report ≡ record { orders = made.orders; accepted = made.accepted; split = made.split; found = found }
  pub counts : CountsOn collection found

-- the text is the lines of such a report
pub record AreLines (collection : AfterMakers) (made : Tally) (text : List ℕ) : Type 0 where
  pub report : Report
  pub is : IsReport collection made report
  pub text_is : text ≡ lines report

-- What was told of such a report, with this status: nothing where memory ran out; else its lines, of which only a prefix was written where
-- writing failed.
pub data TellsReport (collection : AfterMakers) (made : Tally) (before after : Told) : (status : ℕ) → Type 0 where
  no_memory : after ≡ before → TellsReport collection made before after 6
  lines_fail : (report : Report) → IsReport collection made report → before.faults < after.faults
      → IfSome before.written (λ bytes. AddsPrefix bytes (lines report) after.written) → TellsReport collection made before after 5
  tells : (report : Report) → IsReport collection made report → IfSome before.written (λ bytes. after.written ≡ Some (bytes ++ lines report))
      → after.faults ≡ before.faults → TellsReport collection made before after 0

-- What was told of the outcome of so many orders, with this status: nothing where a core was not started or memory ran out.
abbrev pub TellsOutcome : AfterMakers → (orders : ℕ) → (before after : Told) → Outcome → (status : ℕ) → Type 0
TellsOutcome collection orders before after outcomes.HostFailed status = (after ≡ before) × (status ≡ 8)
TellsOutcome collection orders before after outcomes.Memory status = (after ≡ before) × (status ≡ 6)
TellsOutcome collection orders before after (outcomes.Told accepted split) status =
    TellsReport collection (tally orders accepted split) before after status
