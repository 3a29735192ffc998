-- The last of each list are the parts of the last entries, exactly where no write among them was let go.
use Rattle.std.proofs.Common.{◌≡◌, ◌∙◌, ◌≤◌, ◌<◌, ℕ, ◌+◌, Bool, List, [], ◌++◌, length, refl, sym, ap, subst, arith}
use Rattle.std.specs.List.{filter}
use Rattle.std.specs.Slice.Iter.{iter_rest}
use Rattle.std.specs.declared.sync.Arc.{Arc}
use Rattle.std.specs.declared.alloc.Global.{Global}
use Rattle.sc_record.specs.declared.entry.Entry.{Entry}
use Rattle.sc_record.specs.Writes.{Write}
use Rattle.sc_bucket.specs.declared.entries.Mark.{Mark}
use Rattle.sc_bucket.specs.Entries.{entries_of, is_write, is_settling, is_other, let_go_of, AreParts}
use Rattle.sc_bucket.specs.Kept.{ListsState}
use Rattle.sc_bucket.specs.Gone.{went_of}
use Rattle.sc_bucket.proofs.EntriesLemmas.{length-entries_of}
use Rattle.sc_bucket.proofs.GoneLemmas.{no_other_write}
use Rattle.sc_bucket.proofs.LastLemmas.{ends, of_last, enough_of}
use Rattle.sc_bucket.proofs.LentLemmas.{none-went, one-went, parts-lent, lent}
use Rattle.sc_bucket.proofs.lists.Lists.last.Goals as goal

-- these entries, this room, and so much let go
abbrev lists_of : List Entry → ℕ → ℕ → ListsState
lists_of entries room gone = record { entries = entries; room = room; gone = gone }

-- there are as many marks
marks_enough : (state : ListsState) (marks : List Mark) (writes : List (Arc Write Global)) (settled : List ℕ) (others : List Entry) (room gone n : ℕ)
    → lists_of (entries_of marks writes settled others) room gone ≡ state → AreParts marks writes settled others
    → n ≤ length state.entries → n ≤ length marks
marks_enough state marks writes settled others room gone n view parts enough =
    omega (arith, enough, ap (λ (s : ListsState). length s.entries) view, length-entries_of marks writes settled others parts)

-- the last marks, and what a list has for them
marks_last : (marks seen last : List Mark) (n : ℕ) → last ≡ ends n seen → seen ≡ marks → last ≡ ends n marks
marks_last marks seen last n is same = is ∙ ap (ends n) same

count_last : (p : Mark → Bool) (marks last : List Mark) (n count : ℕ) → count ≡ length (filter p last) → last ≡ ends n marks
    → count ≡ length (filter p (ends n marks))
count_last p marks last n count is same = is ∙ ap (λ (these : List Mark). length (filter p these)) same

few_last : {A : Type 0} (p : Mark → Bool) (marks last : List Mark) (xs seen : List A) (n count : ℕ) → count ≡ length (filter p last) → last ≡ ends n marks
    → seen ≡ xs → length xs ≡ length (filter p marks) → count ≤ length seen
few_last p marks last xs seen n count is same kept each =
    omega (arith, count_last p marks last n count is same, enough_of p n marks xs each, ap (λ (these : List _). length these) kept)

part_last : {A : Type 0} (p : Mark → Bool) (marks last : List Mark) (xs seen given : List A) (n count : ℕ) → count ≡ length (filter p last)
    → last ≡ ends n marks → seen ≡ xs → given ≡ ends count seen → given ≡ of_last p n marks xs
part_last p marks last xs seen given n count is same kept ends_so =
    ends_so ∙ ap (ends count) kept ∙ ap (λ (k : ℕ). ends k xs) (count_last p marks last n count is same)

-- whether a write among them went, as contracts see it
seen_there : (entries : List Entry) (room gone n : ℕ) (seen : ListsState) → lists_of entries room gone ≡ seen
    → went_of n gone entries ≡ [] → went_of n seen.gone seen.entries ≡ []
seen_there entries room gone n seen is none = subst (λ (s : ListsState). went_of n s.gone s.entries ≡ []) is none

kept_there : (entries : List Entry) (room gone n : ℕ) (seen : ListsState) → lists_of entries room gone ≡ seen
    → went_of n seen.gone seen.entries ≡ [] → went_of n gone entries ≡ []
kept_there entries room gone n seen is none = subst (λ (s : ListsState). went_of n s.gone s.entries ≡ []) (sym is) none

-- the count of the last writes, by what is counted
few_there : (marks last : List Mark) (there : List (Arc Write Global)) (n count len : ℕ) → count ≡ length (filter is_write last) → last ≡ ends n marks
    → len ≡ length there → count ≤ len → length (filter is_write (ends n marks)) ≤ length there
few_there marks last there n count len is same len_is few = omega (arith, count_last is_write marks last n count is same, len_is, few)

more_than_there : (marks last : List Mark) (there : List (Arc Write Global)) (n count len : ℕ) → count ≡ length (filter is_write last) → last ≡ ends n marks
    → len ≡ length there → len < count → length there < length (filter is_write (ends n marks))
more_than_there marks last there n count len is same len_is more = omega (arith, count_last is_write marks last n count is same, len_is, more)

-- what is there for the last writes
writes_last : (marks last : List Mark) (there seen given : List (Arc Write Global)) (n count : ℕ) → count ≡ length (filter is_write last)
    → last ≡ ends n marks → seen ≡ there → given ≡ ends count seen → given ≡ ends (length (filter is_write (ends n marks))) there
writes_last marks last there seen given n count is same kept ends_so =
    ends_so ∙ ap (ends count) kept ∙ ap (λ (k : ℕ). ends k there) (count_last is_write marks last n count is same)

pub last_of-marks-requires : goal.last_of-marks-requires
last_of-marks-requires c =
    let old = c.self.inside in
    omega (
      arith,
      marks_enough c.args.self.now old.marks.items (let_go_of old.gone.items ++ old.writes.items) old.settled.items old.others.items
          old.room old.from c.args.n c.self.view_is c.self.invariant.0 c.requires,
      ap (λ (these : List Mark). length these) c.as_slice.ensures.value,
    )

pub last_of-requires : goal.last_of-requires
last_of-requires c =
    let old = c.self.inside in
    omega (
      arith,
      c.if-count-len.false,
      c.len.ensures,
      old.writes.ok.0,
      ap (λ (these : List (Arc Write Global)). length these) c.as_slice-2.ensures.value,
    )

pub last_of-requires-2 : goal.last_of-requires-2
last_of-requires-2 c =
    let old = c.self.inside in
    few_last is_settling old.marks.items c.last_of-marks.result.now old.settled.items c.as_slice-3.result.now c.args.n c.settlings_among.result
    c.settlings_among.ensures (marks_last old.marks.items c.as_slice.result.now c.last_of-marks.result.now c.args.n c.last_of-marks.ensures c.as_slice.ensures.value)
    c.as_slice-3.ensures.value c.self.invariant.0.each_settling

pub last_of-requires-3 : goal.last_of-requires-3
last_of-requires-3 c =
    let old = c.self.inside in
    few_last is_other old.marks.items c.last_of-marks.result.now old.others.items c.as_slice-4.result.now c.args.n c.others_among.result
    c.others_among.ensures (marks_last old.marks.items c.as_slice.result.now c.last_of-marks.result.now c.args.n c.last_of-marks.ensures c.as_slice.ensures.value)
    c.as_slice-4.ensures.value c.self.invariant.0.each_other

pub invariant_of-result : goal.invariant_of-result
invariant_of-result c =
    let old = c.self.inside in
    let went = let_go_of old.gone.items in
    let there = old.writes.items in
    let n = c.args.n in
    let last = c.last_of-marks.result.now in
    let marks = marks_last old.marks.items c.as_slice.result.now last n c.last_of-marks.ensures c.as_slice.ensures.value in
    let plain = no_other_write old.marks.items (went ++ there) old.settled.items old.others.items (length went + old.committed)
    c.self.invariant.0 c.self.invariant.5 in
    let enough = marks_enough c.args.self.now old.marks.items (went ++ there) old.settled.items old.others.items old.room old.from n
    c.self.view_is c.self.invariant.0 c.requires in
    let few = few_there old.marks.items last there n c.writes_among-count.result c.len.result c.writes_among-count.ensures marks
    (c.len.ensures ∙ old.writes.ok.0) c.if-count-len.false in
    let first = c.iter.ensures.rest ∙ marks in
    let writes = c.iter-2.ensures.rest ∙ writes_last old.marks.items last there c.as_slice-2.result.now c.last_of.result.now n
    c.writes_among-count.result c.writes_among-count.ensures marks c.as_slice-2.ensures.value c.last_of.ensures in
    let settled = c.iter-3.ensures.rest ∙ part_last is_settling old.marks.items last old.settled.items c.as_slice-3.result.now c.last_of-2.result.now n
    c.settlings_among.result c.settlings_among.ensures marks c.as_slice-3.ensures.value c.last_of-2.ensures in
    let others = c.iter-4.ensures.rest ∙ part_last is_other old.marks.items last old.others.items c.as_slice-4.result.now c.last_of-3.result.now n
    c.others_among.result c.others_among.ensures marks c.as_slice-4.ensures.value c.last_of-3.ensures in
    rw (first, writes, settled, others)
    (parts-lent old.marks.items went there old.settled.items old.others.items n old.from c.self.invariant.0 plain c.self.invariant.6.many enough few)

pub returns-clause-lent : goal.returns-clause-lent
returns-clause-lent c =
    let old = c.self.inside in
    let went = let_go_of old.gone.items in
    let there = old.writes.items in
    let n = c.args.n in
    let last = c.last_of-marks.result.now in
    let marks = marks_last old.marks.items c.as_slice.result.now last n c.last_of-marks.ensures c.as_slice.ensures.value in
    let plain = no_other_write old.marks.items (went ++ there) old.settled.items old.others.items (length went + old.committed)
    c.self.invariant.0 c.self.invariant.5 in
    let enough = marks_enough c.args.self.now old.marks.items (went ++ there) old.settled.items old.others.items old.room old.from n
    c.self.view_is c.self.invariant.0 c.requires in
    let few = few_there old.marks.items last there n c.writes_among-count.result c.len.result c.writes_among-count.ensures marks
    (c.len.ensures ∙ old.writes.ok.0) c.if-count-len.false in
    let first = c.iter.ensures.rest ∙ marks in
    let writes = c.iter-2.ensures.rest ∙ writes_last old.marks.items last there c.as_slice-2.result.now c.last_of.result.now n
    c.writes_among-count.result c.writes_among-count.ensures marks c.as_slice-2.ensures.value c.last_of.ensures in
    let settled = c.iter-3.ensures.rest ∙ part_last is_settling old.marks.items last old.settled.items c.as_slice-3.result.now c.last_of-2.result.now n
    c.settlings_among.result c.settlings_among.ensures marks c.as_slice-3.ensures.value c.last_of-2.ensures in
    let others = c.iter-4.ensures.rest ∙ part_last is_other old.marks.items last old.others.items c.as_slice-4.result.now c.last_of-3.result.now n
    c.others_among.result c.others_among.ensures marks c.as_slice-4.ensures.value c.last_of-3.ensures in
    let is : entries_of (iter_rest c.iter.result) (iter_rest c.iter-2.result) (iter_rest c.iter-3.result) (iter_rest c.iter-4.result)
    ≡ ends n (entries_of old.marks.items (went ++ there) old.settled.items old.others.items) =
    rw (first, writes, settled, others)
    (lent old.marks.items went there old.settled.items old.others.items n old.from c.self.invariant.0 plain c.self.invariant.6.many enough few) in
    is ∙ ap (λ (s : ListsState). ends n s.entries) c.self.view_is

pub returns-clause-there : goal.returns-clause-there
returns-clause-there c =
    let old = c.self.inside in
    let went = let_go_of old.gone.items in
    let there = old.writes.items in
    let n = c.args.n in
    let last = c.last_of-marks.result.now in
    let marks = marks_last old.marks.items c.as_slice.result.now last n c.last_of-marks.ensures c.as_slice.ensures.value in
    let plain = no_other_write old.marks.items (went ++ there) old.settled.items old.others.items (length went + old.committed)
    c.self.invariant.0 c.self.invariant.5 in
    let enough = marks_enough c.args.self.now old.marks.items (went ++ there) old.settled.items old.others.items old.room old.from n
    c.self.view_is c.self.invariant.0 c.requires in
    let few = few_there old.marks.items last there n c.writes_among-count.result c.len.result c.writes_among-count.ensures marks
    (c.len.ensures ∙ old.writes.ok.0) c.if-count-len.false in
    let kept = none-went old.marks.items went there old.settled.items old.others.items n old.from c.self.invariant.0 plain c.self.invariant.6.many enough few in (
      λ is. seen_there (entries_of old.marks.items (went ++ there) old.settled.items old.others.items) old.room old.from n c.args.self.now c.self.view_is kept,
      λ none. refl,
    )

pub returns-then-count-len-clause-there : goal.returns-then-count-len-clause-there
returns-then-count-len-clause-there c =
    let old = c.self.inside in
    let went = let_go_of old.gone.items in
    let there = old.writes.items in
    let n = c.args.n in
    let last = c.last_of-marks.result.now in
    let marks = marks_last old.marks.items c.as_slice.result.now last n c.last_of-marks.ensures c.as_slice.ensures.value in
    let plain = no_other_write old.marks.items (went ++ there) old.settled.items old.others.items (length went + old.committed)
    c.self.invariant.0 c.self.invariant.5 in
    let enough = marks_enough c.args.self.now old.marks.items (went ++ there) old.settled.items old.others.items old.room old.from n
    c.self.view_is c.self.invariant.0 c.requires in
    let more = more_than_there old.marks.items last there n c.writes_among-count.result c.len.result c.writes_among-count.ensures marks
    (c.len.ensures ∙ old.writes.ok.0) c.if-count-len.true in (
      λ is. absurd (cc),
      λ none. absurd (one-went old.marks.items went there old.settled.items old.others.items n old.from c.self.invariant.0 plain c.self.invariant.6.many enough more
          (kept_there (entries_of old.marks.items (went ++ there) old.settled.items old.others.items) old.room old.from n c.args.self.now c.self.view_is none)),
    )
