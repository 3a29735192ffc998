-- What the journal of a bucket says was done for good: the splits that were switched, and the slices that were dropped.
use Rattle.std.specs.Prelude.{List, [], ◌∷◌, ◌++◌, fold, Option, Some, None}
use Rattle.sc_record.specs.declared.entry.Entry.{Entry}
use Rattle.sc_record.specs.declared.entry.Entry.TheVariants as entry
use Rattle.sc_cluster.specs.declared.plan.SplitPlan.{SplitPlan}
use Rattle.sc_seen.specs.Rounds.{Round, done, dropped}
use Rattle.sc_opening.specs.declared.change.Change.{Change}
use Rattle.sc_opening.specs.declared.change.Change.TheVariants as change

-- the split that is open after an entry, as it began; the other is the one before it
abbrev pub begun_after : Option SplitPlan → Entry → Option SplitPlan
begun_after running (entry.Begun parent subs) = Some (record { parent = parent; subs = subs })
begun_after running (entry.Switched parent) = None
begun_after running (entry.Failed parent) = None
begun_after running _ = running

-- the split that is open in a journal, as it began
abbrev pub open_begun : List Entry → Option SplitPlan
open_begun journal = fold begun_after None journal

-- what an entry says was done for good, where this split is open before it
abbrev pub done_by : Entry → Option SplitPlan → List Change
done_by (entry.Switched parent) (Some plan) = change.Switched plan ∷ []
done_by (entry.Dropped slice) running = change.Dropped slice ∷ []
done_by _ running = []

-- what entries say was done for good, where this split is open before them
abbrev pub changes_after : Option SplitPlan → List Entry → List Change
changes_after running [] = []
changes_after running (one ∷ entries) = done_by one running ++ changes_after (begun_after running one) entries

-- of a journal the splits that were switched, each as it began, and the slices that were dropped, in order
abbrev pub changes : List Entry → List Change
changes journal = changes_after None journal

-- the change as what was done of a collection
abbrev pub round_of : Change → Round
round_of (change.Switched plan) = done plan
round_of (change.Dropped slice) = dropped slice
