-- A journal's entries and the parts in which they are kept: as many entries as marks, and one more with its mark and its part.
use Rattle.std.proofs.Common.{◌≡◌, ℕ, List, [], ◌∷◌, ◌++◌, length, refl, ap, arith}
use Rattle.std.specs.declared.sync.Arc.{Arc}
use Rattle.std.specs.declared.alloc.Global.{Global}
use Rattle.sc_record.specs.Writes.{Write}
use Rattle.sc_record.specs.declared.entry.Entry.{Entry}
use Rattle.sc_record.specs.declared.entry.Entry.TheVariants as entry
use Rattle.sc_bucket.specs.declared.entries.Mark.{Mark}
use Rattle.sc_bucket.specs.declared.entries.Mark.TheVariants as mark
use Rattle.sc_bucket.specs.Entries.{entries_of, AreParts}

-- what is left where the first entry is a write
pub AreParts-after_write : (marks : List Mark) (cell : Arc Write Global) (writes : List (Arc Write Global)) (settled : List ℕ) (others : List Entry)
    → AreParts (mark.Write ∷ marks) (cell ∷ writes) settled others → AreParts marks writes settled others
AreParts-after_write marks cell writes settled others parts = grind arith

-- or settles one
pub AreParts-after_settling : (marks : List Mark) (writes : List (Arc Write Global)) (place : ℕ) (settled : List ℕ) (others : List Entry)
    → AreParts (mark.Settled ∷ marks) writes (place ∷ settled) others → AreParts marks writes settled others
AreParts-after_settling marks writes place settled others parts = grind arith

-- or commits
pub AreParts-after_committed : (marks : List Mark) (writes : List (Arc Write Global)) (settled : List ℕ) (others : List Entry)
    → AreParts (mark.Committed ∷ marks) writes settled others → AreParts marks writes settled others
AreParts-after_committed marks writes settled others parts = grind arith

-- or is of a split or of a core
pub AreParts-after_other : (marks : List Mark) (writes : List (Arc Write Global)) (settled : List ℕ) (other : Entry) (others : List Entry)
    → AreParts (mark.Other ∷ marks) writes settled (other ∷ others) → AreParts marks writes settled others
AreParts-after_other marks writes settled other others parts = grind arith

-- there are as many entries as marks
pub length-entries_of : (marks : List Mark) (writes : List (Arc Write Global)) (settled : List ℕ) (others : List Entry)
    → AreParts marks writes settled others → length (entries_of marks writes settled others) ≡ length marks
length-entries_of [] writes settled others parts = refl
length-entries_of (mark.Write ∷ marks) [] settled others parts = absurd (omega (arith, parts.each_write))
length-entries_of (mark.Write ∷ marks) (cell ∷ writes) settled others parts =
    omega (arith, length-entries_of marks writes settled others (AreParts-after_write marks cell writes settled others parts))
length-entries_of (mark.Settled ∷ marks) writes [] others parts = absurd (omega (arith, parts.each_settling))
length-entries_of (mark.Settled ∷ marks) writes (place ∷ settled) others parts =
    omega (arith, length-entries_of marks writes settled others (AreParts-after_settling marks writes place settled others parts))
length-entries_of (mark.Committed ∷ marks) writes settled others parts =
    omega (arith, length-entries_of marks writes settled others (AreParts-after_committed marks writes settled others parts))
length-entries_of (mark.Other ∷ marks) writes settled [] parts = absurd (omega (arith, parts.each_other))
length-entries_of (mark.Other ∷ marks) writes settled (other ∷ others) parts =
    omega (arith, length-entries_of marks writes settled others (AreParts-after_other marks writes settled other others parts))

-- where the parts of some entries stand before those of others, so do the entries
pub entries_of-append : (marks more : List Mark) (writes more_writes : List (Arc Write Global)) (settled more_settled : List ℕ) (others more_others : List Entry)
    → AreParts marks writes settled others
    → entries_of (marks ++ more) (writes ++ more_writes) (settled ++ more_settled) (others ++ more_others)
    ≡ entries_of marks writes settled others ++ entries_of more more_writes more_settled more_others
entries_of-append [] more [] more_writes [] more_settled [] more_others parts = refl
entries_of-append [] more (cell ∷ writes) more_writes settled more_settled others more_others parts = absurd (omega (arith, parts.each_write))
entries_of-append [] more [] more_writes (place ∷ settled) more_settled others more_others parts = absurd (omega (arith, parts.each_settling))
entries_of-append [] more [] more_writes [] more_settled (other ∷ others) more_others parts = absurd (omega (arith, parts.each_other))
entries_of-append (mark.Write ∷ marks) more [] more_writes settled more_settled others more_others parts = absurd (omega (arith, parts.each_write))
entries_of-append (mark.Write ∷ marks) more (cell ∷ writes) more_writes settled more_settled others more_others parts =
    ap (λ rest. entry.Write cell ∷ rest)
    (entries_of-append marks more writes more_writes settled more_settled others more_others (AreParts-after_write marks cell writes settled others parts))
entries_of-append (mark.Settled ∷ marks) more writes more_writes [] more_settled others more_others parts = absurd (omega (arith, parts.each_settling))
entries_of-append (mark.Settled ∷ marks) more writes more_writes (place ∷ settled) more_settled others more_others parts =
    ap (λ rest. entry.Settled place ∷ rest)
    (entries_of-append marks more writes more_writes settled more_settled others more_others (AreParts-after_settling marks writes place settled others parts))
entries_of-append (mark.Committed ∷ marks) more writes more_writes settled more_settled others more_others parts =
    ap (λ rest. entry.Committed ∷ rest)
    (entries_of-append marks more writes more_writes settled more_settled others more_others (AreParts-after_committed marks writes settled others parts))
entries_of-append (mark.Other ∷ marks) more writes more_writes settled more_settled [] more_others parts = absurd (omega (arith, parts.each_other))
entries_of-append (mark.Other ∷ marks) more writes more_writes settled more_settled (other ∷ others) more_others parts =
    ap (λ rest. other ∷ rest)
    (entries_of-append marks more writes more_writes settled more_settled others more_others (AreParts-after_other marks writes settled other others parts))
