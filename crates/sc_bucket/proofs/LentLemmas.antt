-- The last entries of a journal can be lent exactly where no write among them was let go.
use Rattle.std.proofs.Common.{◌≡◌, ◌∙◌, ◌≤◌, ◌<◌, ◌⊎◌, inl, inr, ℕ, ◌+◌, ◌-◌, List, [], ◌++◌, length, filter, take, drop, sym, ap, subst, arith, length-append, length-take}
use Rattle.std.specs.declared.sync.Arc.{Arc}
use Rattle.std.specs.declared.alloc.Global.{Global}
use Rattle.std.specs.List.{slice_range}
use Rattle.std.proofs.Math.ListN.{drop_of_length-le}
use Rattle.std.proofs.Math.Seq.{drop-append-add}
use Rattle.std.proofs.lemmas.Bool.{cases_lt}
use Rattle.std.proofs.lemmas.List.{take-append-drop, drop-take}
use Rattle.std.proofs.lemmas.List.Elements.{filter-append}
use Rattle.sc_record.specs.Writes.{Write}
use Rattle.sc_record.specs.declared.entry.Entry.{Entry}
use Rattle.sc_journal.specs.Journal.{writes}
use Rattle.sc_journal.proofs.JournalLemmas.{writes-append}
use Rattle.sc_bucket.specs.declared.entries.Mark.{Mark}
use Rattle.sc_bucket.specs.Entries.{entries_of, is_write, is_settling, is_other, AreParts}
use Rattle.sc_bucket.specs.Gone.{went_of}
use Rattle.sc_bucket.proofs.EntriesLemmas.{length-entries_of}
use Rattle.sc_bucket.proofs.GoneLemmas.{no_writes, take-parts, writes-taken, writes-fewer}
use Rattle.sc_bucket.proofs.LastLemmas.{ends, of_last, AreParts-last, entries_of-last}

-- the writes among the first entries, and those between
both : (n m : ℕ) (journal : List Entry) → n ≤ m
    → length (writes (take m journal)) ≡ length (writes (take n journal)) + length (writes (slice_range journal n m))
both n m journal within =
    ap (λ (some : List Entry). length (writes some)) (take-parts n m journal within)
    ∙ ap (λ (some : List Write). length some) (writes-append (take n journal) (slice_range journal n m))
    ∙ length-append (writes (take n journal)) (writes (slice_range journal n m))

-- what lies between is what is left of the first entries
between_is : (n m : ℕ) (journal : List Entry) → n ≤ m → drop n (take m journal) ≡ slice_range journal n m
between_is n m journal within = ap (λ (k : ℕ). drop n (take k journal)) (omega arith) ∙ drop-take n (m - n) journal

-- where the entries before `from` have no more writes than those before `m`, none of their writes is at `m` or after
pub none-between : (m from : ℕ) (journal : List Entry) → length (writes (take from journal)) ≤ length (writes (take m journal))
    → writes (drop m (take from journal)) ≡ []
none-between m from journal few = by (cases_lt m from) where
  by : (m < from) ⊎ (from ≤ m) → writes (drop m (take from journal)) ≡ []
  by (inl less) =
      ap writes (between_is m from journal (omega (arith, less)))
      ∙ no_writes (writes (slice_range journal m from)) (omega (arith, few, both m from journal (omega (arith, less))))
  by (inr more) = ap writes (drop_of_length-le (take from journal) (omega (arith, more, length-take from journal)))

-- and the other way
pub few-before : (m from : ℕ) (journal : List Entry) → writes (drop m (take from journal)) ≡ []
    → length (writes (take from journal)) ≤ length (writes (take m journal))
few-before m from journal none = by (cases_lt m from) where
  by : (m < from) ⊎ (from ≤ m) → length (writes (take from journal)) ≤ length (writes (take m journal))
  by (inl less) =
      let empty : length (writes (slice_range journal m from)) ≡ 0 =
      ap (λ (some : List Entry). length (writes some)) (sym (between_is m from journal (omega (arith, less)))) ∙ ap (λ (some : List Write). length some) none in
      omega (arith, empty, both m from journal (omega (arith, less)))
  by (inr more) = writes-fewer from m journal more

module _ (marks : List Mark) (went there : List (Arc Write Global)) (settled : List ℕ) (others : List Entry) (n from : ℕ)
    (parts : AreParts marks (went ++ there) settled others) (plain : writes others ≡ [])
    (many : length went ≡ length (writes (take from (entries_of marks (went ++ there) settled others))))
    (enough : n ≤ length marks) where
  abbrev journal : List Entry
  journal = entries_of marks (went ++ there) settled others

  -- the writes among the last entries, and those before them, are all
  all-counted : length (filter is_write (ends n marks)) + length (writes (take (length journal - n) journal)) ≡ length went + length there
  all-counted =
      let same : length journal ≡ length marks = length-entries_of marks (went ++ there) settled others parts in
      let at = length marks - n in
      omega (
        arith,
        length-append went there,
        parts.each_write,
        ap (λ (k : ℕ). length (writes (take (k - n) journal))) same,
        writes-taken at marks (went ++ there) settled others parts plain,
        ap (λ (these : List Mark). length (filter is_write these)) (sym (take-append-drop at marks))
            ∙ ap (λ (these : List Mark). length these) (filter-append is_write (take at marks) (drop at marks))
            ∙ length-append (filter is_write (take at marks)) (filter is_write (drop at marks)),
      )

  -- where there are cells for the last marks, none was let go
  pub none-went : length (filter is_write (ends n marks)) ≤ length there → went_of n from journal ≡ []
  none-went few = none-between (length journal - n) from journal (omega (arith, few, many, all-counted))

  -- where there are not, one was
  pub one-went : length there < length (filter is_write (ends n marks)) → went_of n from journal ≡ [] → ⊥
  one-went more none = absurd (omega (arith, more, many, all-counted, few-before (length journal - n) from journal none))

  -- the last cells are the last of those that are there
  pub same-last : length (filter is_write (ends n marks)) ≤ length there
      → ends (length (filter is_write (ends n marks))) there ≡ of_last is_write n marks (went ++ there)
  same-last few =
      let k = length (filter is_write (ends n marks)) in
      sym (ap (λ (d : ℕ). drop d (went ++ there)) (omega (arith, few, length-append went there)) ∙ drop-append-add went there (length there - k))

  -- so they are the parts of the last entries
  pub parts-lent : length (filter is_write (ends n marks)) ≤ length there
      → AreParts (ends n marks) (ends (length (filter is_write (ends n marks))) there) (of_last is_settling n marks settled) (of_last is_other n marks others)
  parts-lent few =
      subst (λ (cells : List (Arc Write Global)). AreParts (ends n marks) cells (of_last is_settling n marks settled) (of_last is_other n marks others))
      (sym (same-last few)) (AreParts-last marks (went ++ there) settled others n parts)

  pub lent : length (filter is_write (ends n marks)) ≤ length there
      → entries_of (ends n marks) (ends (length (filter is_write (ends n marks))) there) (of_last is_settling n marks settled) (of_last is_other n marks others)
      ≡ drop (length journal - n) journal
  lent few =
      ap (λ (cells : List (Arc Write Global)). entries_of (ends n marks) cells (of_last is_settling n marks settled) (of_last is_other n marks others)) (same-last few)
      ∙ entries_of-last marks (went ++ there) settled others n parts enough
