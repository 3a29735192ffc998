-- What a journal goes on with when it is opened: it gets what others have that it has not, and comes to rest.
use Rattle.std.specs.Prelude.{Bool, false, if◌then◌else◌, List, ◌∷◌, ◌++◌, length, map, drop, Option, Some, None}
use Rattle.std.specs.List.{flat_map}
use Rattle.sc_record.specs.declared.entry.Entry.{Entry}
use Rattle.sc_record.specs.declared.entry.Entry.TheVariants as entry
use Rattle.sc_cluster.specs.declared.plan.SplitPlan.{SplitPlan}
use Rattle.sc_journal.specs.Journal.{unsettled}
use Rattle.sc_seen.specs.Rounds.{bucket_entries}
use Rattle.sc_opening.specs.declared.change.Change.{Change}
use Rattle.sc_opening.specs.declared.change.Change.TheVariants as change
use Rattle.sc_opening.specs.Changes.{open_begun, changes, round_of}
use Rattle.sc_opening.specs.Same.{same_plan}

-- the entries of a bucket that say that this was done
abbrev pub entries_of : List Change → List Entry
entries_of done = flat_map (λ (one : Change). bucket_entries (round_of one)) done

-- the split is the first of what was done
abbrev pub is_first : SplitPlan → List Change → Bool
is_first plan (change.Switched other ∷ done) = same_plan plan other
is_first plan _ = false

-- The entries that a journal goes on with, where this split is open in it and this was done that it has not yet. The split is switched
-- where it is the first of that, and failed otherwise; then the rest was done.
abbrev pub catching_up : Option SplitPlan → List Change → List Entry
catching_up None done = entries_of done
catching_up (Some plan) done =
    if is_first plan done then entry.Switched plan.parent ∷ entries_of (drop 1 done)
    else entry.Failed plan.parent ∷ entries_of done

-- what was done that the journal has not yet
abbrev pub missing : List Entry → List Change → List Change
missing journal done = drop (length (changes journal)) done

-- the entries that close a journal, where this was done of the collection: those that it lacks, and one that settles each write that no
-- entry settles, ascending
abbrev pub closing : List Entry → List Change → List Entry
closing journal done = catching_up (open_begun journal) (missing journal done) ++ map entry.Settled (unsettled journal)

-- the journal with those entries
abbrev pub closed : List Entry → List Change → List Entry
closed journal done = journal ++ closing journal done
