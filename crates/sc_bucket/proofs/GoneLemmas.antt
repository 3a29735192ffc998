-- What is let go of a journal's writes: how many, and what is left.
use Rattle.std.proofs.Common.{◌≡◌, ◌∙◌, ◌≤◌, ℕ, ◌+◌, ◌-◌, Bool, true, false, List, [], ◌∷◌, ◌++◌, suc, zero, length, filter, Option, Some, None, take, drop, refl, sym, ap, subst, arith, length-append}
use Rattle.std.specs.declared.sync.Arc.{Arc}
use Rattle.std.specs.declared.alloc.Global.{Global}
use Rattle.std.specs.declared.vec.Vec.{Vec}
use Rattle.std.specs.Arc.{arc_value}
use Rattle.std.specs.List.{slice_range, cons_option}
use Rattle.std.proofs.Math.Seq.{take-add}
use Rattle.std.proofs.lemmas.List.{take-append-le, take-append-drop, append_assoc, append-nil, length-map, length-take-le}
use Rattle.std.proofs.lemmas.List.Elements.{filter-append}
use Rattle.sc_record.specs.Writes.{Write}
use Rattle.sc_record.specs.declared.entry.Entry.{Entry}
use Rattle.sc_journal.specs.Journal.{as_write, writes}
use Rattle.sc_journal.specs.Committed.{commits, last_commit}
use Rattle.sc_journal.proofs.JournalLemmas.{writes-append}
use Rattle.sc_journal.proofs.CommittedLemmas.{last_commit-push_commit, last_commit-push_other, last_commit-within}
use Rattle.sc_bucket.specs.declared.entries.Mark.{Mark}
use Rattle.sc_bucket.specs.declared.entries.Mark.TheVariants as mark
use Rattle.sc_bucket.specs.Entries.{entries_of, is_write, let_go_of, AreParts, AreCounted, AreGone}
use Rattle.sc_bucket.specs.Gone.{may_go}
use Rattle.sc_bucket.proofs.EntriesLemmas.{AreParts-after_write, AreParts-after_settling, AreParts-after_committed, AreParts-after_other, length-entries_of}
use Rattle.sc_bucket.proofs.UncommittedLemmas.{AreCounted-within}

-- what was let go is within the journal
pub AreGone-within : (journal : List Entry) (count from commit : ℕ) → AreGone journal count from commit → from ≤ length journal
AreGone-within journal count from commit is = omega (arith, is.before, is.last, last_commit-within journal)

-- the same journal has let go the same
pub AreGone-same : (journal longer : List Entry) (count from commit : ℕ) → longer ≡ journal → AreGone journal count from commit
    → AreGone longer count from commit
AreGone-same journal longer count from commit same is = subst (λ (all : List Entry). AreGone all count from commit) (sym same) is

-- one more entry leaves what was let go
many-push : (journal : List Entry) (count from commit : ℕ) (one : Entry) → AreGone journal count from commit
    → count ≡ length (writes (take from (journal ++ one ∷ [])))
many-push journal count from commit one is =
    is.many ∙ ap (λ (some : List Entry). length (writes some)) (sym (take-append-le from journal (one ∷ []) (AreGone-within journal count from commit is)))

-- where it doesn't commit, the last that does stays
pub AreGone-push_other : (journal : List Entry) (count from commit : ℕ) (one : Entry) → commits one ≡ false → AreGone journal count from commit
    → AreGone (journal ++ one ∷ []) count from commit
AreGone-push_other journal count from commit one none is = record {
  many = many-push journal count from commit one is;
  last = is.last ∙ sym (last_commit-push_other journal one none);
  before = is.before;
}

-- where it commits, it is the last that does
pub AreGone-push_commit : (journal : List Entry) (count from commit place : ℕ) (one : Entry) → commits one ≡ true → place ≡ length journal
    → AreGone journal count from commit → AreGone (journal ++ one ∷ []) count from place
AreGone-push_commit journal count from commit place one commit_is place_is is = record {
  many = many-push journal count from commit one is;
  last = place_is ∙ sym (last_commit-push_commit journal one commit_is);
  before = omega (arith, place_is, AreGone-within journal count from commit is);
}

-- an entry of a list comes to it, or is none
length-cons : (one : Option Write) (some : List Write) → length (cons_option one some) ≡ length (cons_option one []) + length some
length-cons None some = omega arith
length-cons (Some write) some = omega arith

-- a list with nothing in it has no first element
none_first : (one : Option Write) (some : List Write) → cons_option one some ≡ [] → (one ≡ None) × (some ≡ [])
none_first None some is = (refl, is)
none_first (Some write) some is = absurd (omega (arith, ap (λ (all : List Write). length all) is))

pub no_writes : (some : List Write) → length some ≡ 0 → some ≡ []
no_writes [] is = refl
no_writes (write ∷ some) is = absurd (omega (arith, is))

-- the journal's writes are the cells, and those among the entries that are kept whole
length-writes : (marks : List Mark) (cells : List (Arc Write Global)) (settled : List ℕ) (others : List Entry)
    → AreParts marks cells settled others → length (writes (entries_of marks cells settled others)) ≡ length cells + length (writes others)
length-writes [] [] settled [] parts = refl
length-writes [] (cell ∷ cells) settled others parts = absurd (omega (arith, parts.each_write))
length-writes [] [] settled (other ∷ others) parts = absurd (omega (arith, parts.each_other))
length-writes (mark.Write ∷ marks) [] settled others parts = absurd (omega (arith, parts.each_write))
length-writes (mark.Write ∷ marks) (cell ∷ cells) settled others parts =
    omega (arith, length-writes marks cells settled others (AreParts-after_write marks cell cells settled others parts))
length-writes (mark.Settled ∷ marks) cells [] others parts = absurd (omega (arith, parts.each_settling))
length-writes (mark.Settled ∷ marks) cells (place ∷ settled) others parts =
    length-writes marks cells settled others (AreParts-after_settling marks cells place settled others parts)
length-writes (mark.Committed ∷ marks) cells settled others parts =
    length-writes marks cells settled others (AreParts-after_committed marks cells settled others parts)
length-writes (mark.Other ∷ marks) cells settled [] parts = absurd (omega (arith, parts.each_other))
length-writes (mark.Other ∷ marks) cells settled (other ∷ others) parts =
    let rest = length-writes marks cells settled others (AreParts-after_other marks cells settled other others parts) in
    omega (
      arith,
      rest,
      length-cons (as_write other) (writes (entries_of marks cells settled others)),
      length-cons (as_write other) (writes others),
    )

-- so where the cells are those of all its writes, none of the entries that are kept whole is a write
pub no_other_write : (marks : List Mark) (cells : List (Arc Write Global)) (settled : List ℕ) (others : List Entry) (count : ℕ)
    → AreParts marks cells settled others → AreCounted (entries_of marks cells settled others) cells count → writes others ≡ []
no_other_write marks cells settled others count parts counted =
    no_writes (writes others)
    (omega (
      arith,
      length-writes marks cells settled others parts,
      length-map cells arc_value,
      ap (λ (these : List Write). length these) counted.0,
    ))

-- the writes among the first entries are as many as the marks of writes among the first marks
pub writes-taken : (n : ℕ) (marks : List Mark) (cells : List (Arc Write Global)) (settled : List ℕ) (others : List Entry)
    → AreParts marks cells settled others → writes others ≡ []
    → length (writes (take n (entries_of marks cells settled others))) ≡ length (filter is_write (take n marks))
writes-taken zero marks cells settled others parts none = refl
writes-taken (suc n) [] cells settled others parts none = refl
writes-taken (suc n) (mark.Write ∷ marks) [] settled others parts none = absurd (omega (arith, parts.each_write))
writes-taken (suc n) (mark.Write ∷ marks) (cell ∷ cells) settled others parts none =
    ap suc (writes-taken n marks cells settled others (AreParts-after_write marks cell cells settled others parts) none)
writes-taken (suc n) (mark.Settled ∷ marks) cells [] others parts none = absurd (omega (arith, parts.each_settling))
writes-taken (suc n) (mark.Settled ∷ marks) cells (place ∷ settled) others parts none =
    writes-taken n marks cells settled others (AreParts-after_settling marks cells place settled others parts) none
writes-taken (suc n) (mark.Committed ∷ marks) cells settled others parts none =
    writes-taken n marks cells settled others (AreParts-after_committed marks cells settled others parts) none
writes-taken (suc n) (mark.Other ∷ marks) cells settled [] parts none = absurd (omega (arith, parts.each_other))
writes-taken (suc n) (mark.Other ∷ marks) cells settled (other ∷ others) parts none =
    let apart = none_first (as_write other) (writes others) none in
    ap (λ (one : Option Write). length (cons_option one (writes (take n (entries_of marks cells settled others))))) apart.0
    ∙ writes-taken n marks cells settled others (AreParts-after_other marks cells settled other others parts) apart.1

-- the first elements, in two parts
pub take-parts : {X : Type 0} (n m : ℕ) (xs : List X) → n ≤ m → take m xs ≡ take n xs ++ slice_range xs n m
take-parts n m xs within = ap (λ (k : ℕ). take k xs) (omega arith) ∙ take-add n (m - n) xs

-- more of the first entries have no fewer writes
pub writes-fewer : (n m : ℕ) (journal : List Entry) → n ≤ m → length (writes (take n journal)) ≤ length (writes (take m journal))
writes-fewer n m journal within =
    omega (
      arith,
      ap (λ (some : List Entry). length (writes some)) (take-parts n m journal within)
          ∙ ap (λ (some : List Write). length some) (writes-append (take n journal) (slice_range journal n m))
          ∙ length-append (writes (take n journal)) (writes (slice_range journal n m)),
    )

-- one more note of what was let go
pub let_go_of-push : (notes : List (Vec (Arc Write Global) Global × ℕ)) (there : Vec (Arc Write Global) Global) (count : ℕ)
    → let_go_of (notes ++ (there, count) ∷ []) ≡ let_go_of notes ++ take count there.items
let_go_of-push [] there count = append-nil (take count there.items)
let_go_of-push ((before, n) ∷ notes) there count =
    ap (λ (rest : List (Arc Write Global)). take n before.items ++ rest) (let_go_of-push notes there count)
    ∙ sym (append_assoc (take n before.items) (let_go_of notes) (take count there.items))

-- an entry that the last that commits is not before is within the journal
pub below-within : (marks : List Mark) (cells : List (Arc Write Global)) (settled : List ℕ) (others : List Entry) (below : ℕ)
    → AreParts marks cells settled others → below ≤ last_commit (entries_of marks cells settled others) → below ≤ length marks
below-within marks cells settled others below parts before =
    omega (
      arith,
      before,
      last_commit-within (entries_of marks cells settled others),
      length-entries_of marks cells settled others parts,
    )

-- with one more entry no fewer writes may go
pub may_go-push : (filed : Option ℕ) (journal : List Entry) (one : Entry)
    → may_go filed (last_commit journal) ≤ may_go filed (last_commit (journal ++ one ∷ []))
may_go-push filed journal one = by filed (rises (commits one) refl) where
  rises : (is : Bool) → commits one ≡ is → last_commit journal ≤ last_commit (journal ++ one ∷ [])
  rises true is = omega (arith, last_commit-push_commit journal one is, last_commit-within journal)
  rises false is = omega (arith, last_commit-push_other journal one is)

  by : (filed : Option ℕ) → last_commit journal ≤ last_commit (journal ++ one ∷ [])
      → may_go filed (last_commit journal) ≤ may_go filed (last_commit (journal ++ one ∷ []))
  by None more = more
  by (Some n) more = omega (arith, more)

module _ (marks : List Mark) (went there : List (Arc Write Global)) (settled : List ℕ) (others : List Entry) (committed from commit : ℕ)
    (parts : AreParts marks (went ++ there) settled others)
    (counted : AreCounted (entries_of marks (went ++ there) settled others) (went ++ there) (length went + committed))
    (gone : AreGone (entries_of marks (went ++ there) settled others) (length went) from commit)
    (below count : ℕ) (after : from ≤ below) (before : below ≤ last_commit (entries_of marks (went ++ there) settled others))
    (count_is : count ≡ length (filter is_write (slice_range marks from below))) where
  abbrev journal : List Entry
  journal = entries_of marks (went ++ there) settled others

  -- with so many more, the writes below the entry have gone
  pub many-gone : length went + count ≡ length (writes (take below journal))
  many-gone =
      let none = no_other_write marks (went ++ there) settled others (length went + committed) parts counted in
      omega (
        arith,
        gone.many,
        count_is,
        writes-taken from marks (went ++ there) settled others parts none,
        writes-taken below marks (went ++ there) settled others parts none,
        ap (λ (some : List Mark). length (filter is_write some)) (take-parts from below marks after)
            ∙ ap (λ (some : List Mark). length some) (filter-append is_write (take from marks) (slice_range marks from below))
            ∙ length-append (filter is_write (take from marks)) (filter is_write (slice_range marks from below)),
      )

  -- they are committed
  pub few-go : count ≤ committed
  few-go = omega (arith, many-gone, counted.1, writes-fewer below (last_commit journal) journal before)

  -- and are there
  pub there-go : count ≤ length there
  there-go =
      omega (
        arith,
        few-go,
        AreCounted-within journal (went ++ there) (length went + committed) counted,
        length-append went there,
      )

  -- all cells are the same
  pub same-cells : (more left : List (Arc Write Global)) → more ≡ went ++ take count there → left ≡ drop count there
      → more ++ left ≡ went ++ there
  same-cells more left more_is left_is =
      ap (λ (some : List (Arc Write Global)). some ++ left) more_is
      ∙ append_assoc went (take count there) left
      ∙ ap (λ (some : List (Arc Write Global)). went ++ (take count there ++ some)) left_is
      ∙ ap (λ (some : List (Arc Write Global)). went ++ some) (take-append-drop count there)

  -- so many have gone then
  length-gone : (more : List (Arc Write Global)) → more ≡ went ++ take count there → length more ≡ length went + count
  length-gone more is =
      ap (λ (some : List (Arc Write Global)). length some) is ∙ length-append went (take count there)
      ∙ ap (λ (n : ℕ). length went + n) (length-take-le count there there-go)

  -- and what the lists have stays true
  pub parts-left : (more left : List (Arc Write Global)) → more ≡ went ++ take count there → left ≡ drop count there
      → AreParts marks (more ++ left) settled others
  parts-left more left more_is left_is =
      subst (λ (cells : List (Arc Write Global)). AreParts marks cells settled others) (sym (same-cells more left more_is left_is)) parts

  pub counted-left : (more left : List (Arc Write Global)) → more ≡ went ++ take count there → left ≡ drop count there
      → AreCounted (entries_of marks (more ++ left) settled others) (more ++ left) (length more + (committed - count))
  counted-left more left more_is left_is =
      let many : length more + (committed - count) ≡ length went + committed = omega (arith, length-gone more more_is, few-go) in
      subst (λ (n : ℕ). AreCounted (entries_of marks (more ++ left) settled others) (more ++ left) n) (sym many)
      (subst (λ (cells : List (Arc Write Global)). AreCounted (entries_of marks cells settled others) cells (length went + committed))
      (sym (same-cells more left more_is left_is)) counted)

  pub gone-left : (more left : List (Arc Write Global)) → more ≡ went ++ take count there → left ≡ drop count there
      → AreGone (entries_of marks (more ++ left) settled others) (length more) below commit
  gone-left more left more_is left_is =
      subst (λ (cells : List (Arc Write Global)). AreGone (entries_of marks cells settled others) (length more) below commit)
      (sym (same-cells more left more_is left_is))
      (record {
        many = length-gone more more_is ∙ many-gone;
        last = gone.last;
        before = omega (arith, before, gone.last);
      })
