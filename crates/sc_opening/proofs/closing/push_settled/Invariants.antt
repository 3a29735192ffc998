-- What is put so far, and an entry for each write of the rest that no entry of the journal settles, are all that is to be put.
use Rattle.std.proofs.Common.{◌≡◌, ◌++◌, ℕ, map, drop}
use Rattle.std.specs.List.{filter, enumerate_from}
use Rattle.sc_record.specs.declared.entry.Entry.{Entry}
use Rattle.sc_record.specs.declared.entry.Entry.TheVariants as entry
use Rattle.sc_journal.specs.Journal.{is_unsettled, unsettled}
use Rattle.sc_opening.proofs.closing.push_settled.Given as goal

abbrev pub invariant-loop-i : goal.invariant-loop-i
invariant-loop-i l =
    l.entries ++ map entry.Settled (map (λ (at : ℕ × Entry). at.0) (filter (is_unsettled l.journal) (enumerate_from l.i (drop l.i l.journal))))
    ≡ l.initial.entries ++ map entry.Settled (unsettled l.journal)
