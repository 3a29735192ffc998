-- One more entry comes after those that were there: its mark after the marks, and its part after those of its kind. After an entry
-- that commits all writes are committed, and any other changes nothing of that.
use Rattle.std.proofs.Common.{◌≡◌, ◌∙◌, ℕ, ◌+◌, ◌-◌, List, [], ◌∷◌, ◌++◌, length, arith, rules, refl, sym, ap, subst, length-append}
use Rattle.std.proofs.lemmas.Grind.{common_steps}
use Rattle.std.proofs.lemmas.List.{append-nil, append_assoc}
use Rattle.std.specs.declared.sync.Arc.{Arc}
use Rattle.std.specs.declared.alloc.Global.{Global}
use Rattle.sc_record.specs.Writes.{Write}
use Rattle.sc_record.specs.declared.entry.Entry.{Entry}
use Rattle.sc_record.specs.declared.entry.Entry.TheVariants as entries
use Rattle.sc_journal.specs.Journal.{as_write}
use Rattle.sc_journal.specs.Committed.{commits}
use Rattle.sc_bucket.specs.declared.entries.Mark.{Mark}
use Rattle.sc_bucket.specs.declared.entries.Mark.TheVariants as mark
use Rattle.sc_bucket.specs.Kept.{ListsState}
use Rattle.sc_bucket.specs.Entries.{entries_of, let_go_of, AreParts, AreCounted}
use Rattle.sc_bucket.proofs.EntriesLemmas.{length-entries_of, entries_of-append}
use Rattle.sc_bucket.proofs.UncommittedLemmas.{AreCounted-same, AreCounted-push_commit, AreCounted-push_write, AreCounted-push_other, is_other_entry}
use Rattle.sc_bucket.proofs.GoneLemmas.{AreGone-same, AreGone-push_other, AreGone-push_commit}
use Rattle.sc_bucket.proofs.lists.Lists.append.Goals as goal

-- these entries, this room, and so much let go
abbrev lists_of : List Entry → ℕ → ℕ → ListsState
lists_of entries room gone = record { entries = entries; room = room; gone = gone }

-- the cells with those that were let go
pushed : (went there new cells : List (Arc Write Global)) → new ≡ there ++ cells → went ++ new ≡ (went ++ there) ++ cells
pushed went there new cells is = ap (λ (some : List (Arc Write Global)). went ++ some) is ∙ sym (append_assoc went there cells)

module _ (marks : List Mark) (writes : List (Arc Write Global)) (settled : List ℕ) (others : List Entry)
    (parts : AreParts marks writes settled others) where
  -- the entry has one mark, and its part is more of one of the lists
  added : (entry : Entry) (one : Mark) (cells : List (Arc Write Global)) (places : List ℕ) (whole : List Entry)
      (new_marks : List Mark) (new_writes : List (Arc Write Global)) (new_settled : List ℕ) (new_others : List Entry)
      → new_marks ≡ marks ++ one ∷ [] → new_writes ≡ writes ++ cells → new_settled ≡ settled ++ places → new_others ≡ others ++ whole
      → entries_of (one ∷ []) cells places whole ≡ entry ∷ []
      → entries_of new_marks new_writes new_settled new_others ≡ entries_of marks writes settled others ++ entry ∷ []
  added entry one cells places whole new_marks new_writes new_settled new_others marks_are writes_are settled_are others_are is =
      rw (marks_are, writes_are, settled_are, others_are)
      (entries_of-append marks (one ∷ []) writes cells settled places others whole parts ∙ ap (λ last. entries_of marks writes settled others ++ last) is)

-- so there is one entry more, and less room
seen_with : (old new : List Entry) (room gone : ℕ) (seen : ListsState) (entry : Entry) → lists_of old room gone ≡ seen → new ≡ old ++ entry ∷ []
    → lists_of new (room - 1) gone ≡ record seen { entries = seen.entries ++ entry ∷ []; room = seen.room - 1 }
seen_with old new room gone seen entry seen_as is =
    ap (λ (them : List Entry). lists_of them (room - 1) gone) is
    ∙ ap (λ (s : ListsState). record s { entries = s.entries ++ entry ∷ []; room = s.room - 1 }) seen_as

pub invariant_of-self : goal.invariant_of-self
invariant_of-self c =
    let old = c.self.inside in
    let went = let_go_of old.gone.items in
    let cells = went ++ old.writes.items in
    let before = entries_of old.marks.items cells old.settled.items old.others.items in
    let more = added old.marks.items cells old.settled.items old.others.items c.self.invariant.0
    c.args.entry mark.Write (c.in-Write.cell ∷ []) [] [] _ _ old.settled.items old.others.items
    c.push_reserved.ensures.items (pushed went old.writes.items _ (c.in-Write.cell ∷ []) c.push_reserved-in-Write.ensures.items) (sym (append-nil old.settled.items)) (sym (append-nil old.others.items))
    (ap (λ (e : Entry). e ∷ []) (sym c.in-Write.is)) in (
      grind (arith, common_steps),
      search rules,
      search rules,
      search rules,
      search rules,
      AreCounted-same _ _ _ _ _ more (pushed went old.writes.items _ (c.in-Write.cell ∷ []) c.push_reserved-in-Write.ensures.items) (AreCounted-push_write before cells (length went + old.committed) c.args.entry c.in-Write.cell c.in-Write.is c.self.invariant.5),
      AreGone-same _ _ _ _ _ more (AreGone-push_other before (length went) old.from old.commit c.args.entry (ap commits c.in-Write.is) c.self.invariant.6),
    )

pub returns-in-Write : goal.returns-in-Write
returns-in-Write c =
    let old = c.self.inside in
    let went = let_go_of old.gone.items in
    let cells = went ++ old.writes.items in
    seen_with _ _ old.room old.from c.args.self.now c.args.entry c.self.view_is
    (added old.marks.items cells old.settled.items old.others.items c.self.invariant.0
    c.args.entry mark.Write (c.in-Write.cell ∷ []) [] [] _ _ old.settled.items old.others.items
    c.push_reserved.ensures.items (pushed went old.writes.items _ (c.in-Write.cell ∷ []) c.push_reserved-in-Write.ensures.items) (sym (append-nil old.settled.items)) (sym (append-nil old.others.items))
    (ap (λ (e : Entry). e ∷ []) (sym c.in-Write.is)))

pub invariant_of-self-in-Settled : goal.invariant_of-self-in-Settled
invariant_of-self-in-Settled c =
    let old = c.self.inside in
    let went = let_go_of old.gone.items in
    let cells = went ++ old.writes.items in
    let before = entries_of old.marks.items cells old.settled.items old.others.items in
    let more = added old.marks.items cells old.settled.items old.others.items c.self.invariant.0
    c.args.entry mark.Settled [] (c.in-Settled.place ∷ []) [] _ cells _ old.others.items
    c.push_reserved-in-Settled.ensures.items (sym (append-nil cells)) c.push_reserved-in-Settled-2.ensures.items (sym (append-nil old.others.items))
    (ap (λ (e : Entry). e ∷ []) (sym c.in-Settled.is)) in (
      grind (arith, common_steps),
      search rules,
      search rules,
      search rules,
      search rules,
      AreCounted-same _ _ _ _ _ more (refl) (AreCounted-push_other before cells (length went + old.committed) c.args.entry (ap commits c.in-Settled.is, ap as_write c.in-Settled.is) c.self.invariant.5),
      AreGone-same _ _ _ _ _ more (AreGone-push_other before (length went) old.from old.commit c.args.entry (ap commits c.in-Settled.is) c.self.invariant.6),
    )

pub returns-in-Settled : goal.returns-in-Settled
returns-in-Settled c =
    let old = c.self.inside in
    let went = let_go_of old.gone.items in
    let cells = went ++ old.writes.items in
    seen_with _ _ old.room old.from c.args.self.now c.args.entry c.self.view_is
    (added old.marks.items cells old.settled.items old.others.items c.self.invariant.0
    c.args.entry mark.Settled [] (c.in-Settled.place ∷ []) [] _ cells _ old.others.items
    c.push_reserved-in-Settled.ensures.items (sym (append-nil cells)) c.push_reserved-in-Settled-2.ensures.items (sym (append-nil old.others.items))
    (ap (λ (e : Entry). e ∷ []) (sym c.in-Settled.is)))

pub invariant_of-self-in-Committed : goal.invariant_of-self-in-Committed
invariant_of-self-in-Committed c =
    let old = c.self.inside in
    let went = let_go_of old.gone.items in
    let cells = went ++ old.writes.items in
    let before = entries_of old.marks.items cells old.settled.items old.others.items in
    let more = added old.marks.items cells old.settled.items old.others.items c.self.invariant.0
    c.args.entry mark.Committed [] [] [] _ cells old.settled.items old.others.items
    c.push_reserved-in-Committed.ensures.items (sym (append-nil cells)) (sym (append-nil old.settled.items)) (sym (append-nil old.others.items))
    (ap (λ (e : Entry). e ∷ []) (sym c.in-Committed.is)) in
    let many : length went + c.len-self-inside-in-Committed.result ≡ length cells = ap (λ (n : ℕ). length went + n) (c.len-self-inside-in-Committed.ensures ∙ old.writes.ok.0) ∙ sym (length-append went old.writes.items) in
    let place = c.len-self-inside.ensures ∙ old.marks.ok.0 ∙ sym (length-entries_of old.marks.items cells old.settled.items old.others.items c.self.invariant.0) in (
      grind (arith, common_steps),
      search rules,
      search rules,
      search rules,
      search rules,
      AreCounted-same _ _ _ _ _ more (refl) (subst (AreCounted (before ++ c.args.entry ∷ []) cells) (sym many) (AreCounted-push_commit before cells (length went + old.committed) c.args.entry (ap commits c.in-Committed.is) c.self.invariant.5)),
      AreGone-same _ _ _ _ _ more (AreGone-push_commit before (length went) old.from old.commit c.len-self-inside.result c.args.entry (ap commits c.in-Committed.is) place c.self.invariant.6),
    )

pub returns-in-Committed : goal.returns-in-Committed
returns-in-Committed c =
    let old = c.self.inside in
    let went = let_go_of old.gone.items in
    let cells = went ++ old.writes.items in
    seen_with _ _ old.room old.from c.args.self.now c.args.entry c.self.view_is
    (added old.marks.items cells old.settled.items old.others.items c.self.invariant.0
    c.args.entry mark.Committed [] [] [] _ cells old.settled.items old.others.items
    c.push_reserved-in-Committed.ensures.items (sym (append-nil cells)) (sym (append-nil old.settled.items)) (sym (append-nil old.others.items))
    (ap (λ (e : Entry). e ∷ []) (sym c.in-Committed.is)))

pub invariant_of-self-in-Begun : goal.invariant_of-self-in-Begun
invariant_of-self-in-Begun c =
    let old = c.self.inside in
    let went = let_go_of old.gone.items in
    let cells = went ++ old.writes.items in
    let before = entries_of old.marks.items cells old.settled.items old.others.items in
    let more = added old.marks.items cells old.settled.items old.others.items c.self.invariant.0
    c.args.entry mark.Other [] [] (entries.Begun c.in-Begun.parent c.in-Begun.subs ∷ []) _ cells old.settled.items _
    c.push_reserved-in-Begun.ensures.items (sym (append-nil cells)) (sym (append-nil old.settled.items)) c.push_reserved-in-Begun-2.ensures.items
    (ap (λ (e : Entry). e ∷ []) (sym c.in-Begun.is)) in
    let many : length went + c.len-self-inside-in-Begun-2.result ≡ length cells = ap (λ (n : ℕ). length went + n) (c.len-self-inside-in-Begun-2.ensures ∙ old.writes.ok.0) ∙ sym (length-append went old.writes.items) in
    let place = c.len-self-inside-in-Begun.ensures ∙ old.marks.ok.0 ∙ sym (length-entries_of old.marks.items cells old.settled.items old.others.items c.self.invariant.0) in (
      grind (arith, common_steps),
      search rules,
      search rules,
      search rules,
      search rules,
      AreCounted-same _ _ _ _ _ more (refl) (subst (AreCounted (before ++ c.args.entry ∷ []) cells) (sym many) (AreCounted-push_commit before cells (length went + old.committed) c.args.entry (ap commits c.in-Begun.is) c.self.invariant.5)),
      AreGone-same _ _ _ _ _ more (AreGone-push_commit before (length went) old.from old.commit c.len-self-inside-in-Begun.result c.args.entry (ap commits c.in-Begun.is) place c.self.invariant.6),
    )

pub returns-in-Begun : goal.returns-in-Begun
returns-in-Begun c =
    let old = c.self.inside in
    let went = let_go_of old.gone.items in
    let cells = went ++ old.writes.items in
    seen_with _ _ old.room old.from c.args.self.now c.args.entry c.self.view_is
    (added old.marks.items cells old.settled.items old.others.items c.self.invariant.0
    c.args.entry mark.Other [] [] (entries.Begun c.in-Begun.parent c.in-Begun.subs ∷ []) _ cells old.settled.items _
    c.push_reserved-in-Begun.ensures.items (sym (append-nil cells)) (sym (append-nil old.settled.items)) c.push_reserved-in-Begun-2.ensures.items
    (ap (λ (e : Entry). e ∷ []) (sym c.in-Begun.is)))

pub invariant_of-self-in_default : goal.invariant_of-self-in_default
invariant_of-self-in_default c =
    let old = c.self.inside in
    let went = let_go_of old.gone.items in
    let cells = went ++ old.writes.items in
    let before = entries_of old.marks.items cells old.settled.items old.others.items in
    let more = added old.marks.items cells old.settled.items old.others.items c.self.invariant.0
    c.args.entry mark.Other [] [] (c.args.entry ∷ []) _ cells old.settled.items _
    c.push_reserved-in_default.ensures.items (sym (append-nil cells)) (sym (append-nil old.settled.items)) c.push_reserved-in_default-2.ensures.items
    refl in
    let other = is_other_entry c.args.entry (λ cell. c.in_default.not-Write cell) c.in_default.not-Committed (λ parent subs. c.in_default.not-Begun parent subs) in (
      grind (arith, common_steps),
      search rules,
      search rules,
      search rules,
      search rules,
      AreCounted-same _ _ _ _ _ more (refl) (AreCounted-push_other before cells (length went + old.committed) c.args.entry other c.self.invariant.5),
      AreGone-same _ _ _ _ _ more (AreGone-push_other before (length went) old.from old.commit c.args.entry other.0 c.self.invariant.6),
    )

pub returns-in_default : goal.returns-in_default
returns-in_default c =
    let old = c.self.inside in
    let went = let_go_of old.gone.items in
    let cells = went ++ old.writes.items in
    seen_with _ _ old.room old.from c.args.self.now c.args.entry c.self.view_is
    (added old.marks.items cells old.settled.items old.others.items c.self.invariant.0
    c.args.entry mark.Other [] [] (c.args.entry ∷ []) _ cells old.settled.items _
    c.push_reserved-in_default.ensures.items (sym (append-nil cells)) (sym (append-nil old.settled.items)) c.push_reserved-in_default-2.ensures.items
    refl)
