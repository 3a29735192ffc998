-- What a demonstration leaves, and what it tells.
use Rattle.std.specs.Prelude.{◌≡◌, ◌≢◌, ◌⊎◌, ◌↔◌, ◌≤◌, ◌<◌, ◌+◌, ◌++◌, ℕ, false, List, length, map, codes, slice_get, Option, Some, IfSome}
use Rattle.sc_io.specs.Pieces.{AddsPrefix}
use Rattle.sc_seen.specs.Seen.{nothing_opened, Layout, Seen}
use Rattle.sc_session.specs.declared.station.Crew.{Crew}
use Rattle.sc_collection.specs.Shapes.{HasShape, SeesOpened}
use Rattle.sc_split.specs.declared.end.SplitEnd.{SplitEnd}
use Rattle.sc_arguments.specs.declared.asked.Demo.{Demo}
use Rattle.sc_arguments.specs.Arguments.{demo_shape}
use Rattle.sc_cores.specs.Cores.{StartsFirst}
use Rattle.sc_server.specs.Serving.{Front, IsOneStory, IsGivenAndBack, AreGivenAndBack, AreUnused, WritesNothing}
use Rattle.sc_demo.specs.declared.task.Made.{Made}
use Rattle.sc_demo.specs.declared.task.Made.TheVariants as makes
use Rattle.sc_demo.specs.Writing.{CameNearLimit}
use Rattle.sc_demo.specs.Finding.{CommitsAndFinds}
use Rattle.sc_demo.specs.Lines.{Report, lines, split_word}
use Rattle.sc_demo.specs.Making.{MakerReports, MakerSetting, MakesTask, has_run_out, making, task_at}
use Rattle.sc_demo.specs.Together.{OrdersAreWritten, OwnsDone, all_own_writes, own_of_all}

-- What a report says of what all makers have seen and made together: it has the number of orders; it counts the writes that they made; it
-- says `done` exactly where one of their entries of the board does; and each document's writes are those of its orders, in order, unless a
-- bucket's journal came near its limit.
pub record SaysOf (demo : Demo) (layout : Layout) (all : Seen) (report : Report) : Type 0 where
  pub orders : report.orders ≡ demo.count
  pub accepted : report.accepted ≡ length (all_own_writes layout all)
  pub done : (report.split ≡ codes "done") ↔ OwnsDone layout all
  pub writes : OrdersAreWritten demo layout all ⊎ CameNearLimit layout all

-- a maker that has worked: its crew as the station gave it, as it began to work, and as it was given back; what its passes had seen before
-- and after; and what it made
pub record MakerRun (C H P L : Type 0) : Type 0 where
  pub given : Crew C H P L
  pub began : Crew C H P L
  pub back : Crew C H P L
  pub before : Seen
  pub after : Seen
  pub did : Made

-- how many makers there are: the workers, and the one that splits
abbrev pub makers_of : Demo → ℕ
makers_of demo = demo.workers + 1

module _ {C H P L : Type 0} (common : MakerSetting C H P) (demo : Demo) (before after : Front C H P L) where
  -- A maker of this number worked over the collection, from the beginning on: the station gave its crew, where it reports that; it made what
  -- it was to make; and the station has its crew back. The first one's hosts had started the cores of the first map. Memory didn't run out.
  pub record IsMakerRun (number : ℕ) (run : MakerRun C H P L) : Type 0 where
    pub crew : IsGivenAndBack before after number run.given run.back
    pub first : number ≡ 0
        → StartsFirst common.layout.nodes common.layout.first (common.reports.outside run.given.hosts run.given.pace)
        (common.reports.outside run.began.hosts run.began.pace)
    pub hosts : number ≢ 0 → run.began.hosts ≡ run.given.hosts
    pub rest : run.began ≡ record run.given { hosts = run.began.hosts }
    pub new : SeesOpened common.layout.opened run.before
    pub made : MakesTask common demo (task_at demo number) (making run.before run.began) (making run.after run.back) run.did
    pub listener : run.back.listener ≡ run.began.listener
    pub memory : has_run_out run.did ≡ false

  -- All makers worked over one new collection, in which nothing had happened: what they have seen of each journal are beginnings of what all of
  -- them have seen together, no two of them made the same entry, and theirs are those of all.
  pub record RunsDemo (runs : List (MakerRun C H P L)) (all : Seen) : Type 0 where
    pub shape : HasShape demo_shape common.layout
    pub opened : common.layout.opened ≡ nothing_opened
    pub count : length runs ≡ makers_of demo
    pub each : (number : ℕ) (run : MakerRun C H P L) → slice_get runs number ≡ Some run → IsMakerRun number run
    pub story : IsOneStory common.layout (map (λ (run : MakerRun C H P L). run.after) runs) all
    pub own : (lock : ℕ) → all.own lock ≡ own_of_all (map (λ (run : MakerRun C H P L). run.after) runs) lock
    pub crews : AreGivenAndBack before after (makers_of demo)
    pub open_faults : after.open_faults ≡ before.open_faults

module _ {C H P L : Type 0} (reports : MakerReports C H P) (demo : Demo) (before after : Front C H P L) where
  -- All makers worked, then every bucket was committed and three searches were made, and this is what the lines tell. The last maker is
  -- the one that splits.
  pub record Demonstrates (report : Report) : Type 0 where
    pub layout : Layout
    pub runs : List (MakerRun C H P L)
    pub all : Seen
    pub are : RunsDemo (record { reports = reports; layout = layout }) demo before after runs all
    pub says : SaysOf demo layout all report
    pub splitter : MakerRun C H P L
    pub last_run : slice_get runs demo.workers ≡ Some splitter
    pub end : SplitEnd
    pub did : splitter.did ≡ makes.Split end
    pub word : split_word end ≡ Some report.split
    pub last : Seen
    pub found : CommitsAndFinds layout all last report.found

  -- Memory ran out: each crew that was given is back, and nothing was written.
  pub record DemoRunsOut : Type 0 where
    pub count : ℕ
    pub at_most : count ≤ makers_of demo
    pub crews : AreGivenAndBack before after count
    pub open_faults : after.open_faults ≡ before.open_faults
    pub silent : WritesNothing before after

  -- Starting one of the first cores failed by the hosts of crew 0: each crew is back, all but those hosts as it was given, and nothing was
  -- written.
  pub record DemoFailsToStart : Type 0 where
    pub given : Crew C H P L
    pub back : Crew C H P L
    pub crews : AreGivenAndBack before after (makers_of demo)
    pub first : IsGivenAndBack before after 0 given back
    pub first_is : back ≡ record given { hosts = back.hosts }
    pub unused : AreUnused before after 1 (makers_of demo)
    pub fault : (reports.outside given.hosts given.pace).start_faults < (reports.outside back.hosts back.pace).start_faults
    pub open_faults : after.open_faults ≡ before.open_faults
    pub silent : WritesNothing before after

  -- all was done but for the writing of the lines, of which a prefix was written
  pub record DemoFailsToWrite : Type 0 where
    pub report : Report
    pub is : Demonstrates report
    pub fault : before.write_faults < after.write_faults
    pub part : IfSome before.written (λ old. AddsPrefix old (lines report) after.written)

  -- all was done, and the lines were written
  pub record Tells : Type 0 where
    pub report : Report
    pub is : Demonstrates report
    pub told : IfSome before.written (λ old. after.written ≡ Some (old ++ lines report))
    pub write_faults : after.write_faults ≡ before.write_faults

  -- how a demonstration ended, with this status
  pub data IsDemoEnd : (status : ℕ) → Type 0 where
    no_memory : DemoRunsOut → IsDemoEnd 6
    host_fails : DemoFailsToStart → IsDemoEnd 8
    lines_fail : DemoFailsToWrite → IsDemoEnd 5
    tells : Tells → IsDemoEnd 0

  -- How a demonstration ended, and the cause of each status: 5 comes exactly where writing failed, and 8 only where starting a core did.
  pub record EndsDemo (status : ℕ) : Type 0 where
    pub end : IsDemoEnd status
    pub write_fault : (status ≡ 5) ↔ (before.write_faults < after.write_faults)
    pub host_fault : status ≡ 8 → DemoFailsToStart
