-- The next entry is taken where it says something of a seat.
use Rattle.std.proofs.Common.{◌∙◌, Vec, Global, filter, sym, ap, arith}
use Rattle.std.proofs.lemmas.List.{take_all}
use Rattle.sc_record.specs.declared.entry.Entry.{Entry}
use Rattle.sc_restored.specs.Marks.{is_mark}
use Rattle.sc_restored.proofs.MarkLemmas.{mark_taken, mark_left}
use Rattle.sc_restored.proofs.marks.marks_among.Goals as goal
use Rattle.sc_restored.proofs.marks.marks_among.Goals.{in-Some+in_ok-push, in_default}

pub loop-entry-preserved : goal.loop-entry-preserved
loop-entry-preserved c =
    let entries = c.args.entries.now in
    let at = c.loop-entry.entry-index in
    let one : Entry = c.entry-item.result in
    elim c.match-mark_of.branch [
      | in-Some+in_ok-push w ↦
          ap (λ (v : Vec Entry Global). v.items) w.marks-is ∙ w.in_ok-push.ensures.items
          ∙ mark_taken entries at one w.in-Some.mark c.loop-entry.marks.items c.loop-entry-test.true c.entry-item.is
          (sym c.mark_of.ensures ∙ w.in-Some.is) c.loop-entry.invariant
      | in_default w ↦
          ap (λ (v : Vec Entry Global). v.items) w.marks-is
          ∙ mark_left entries at one c.loop-entry.marks.items c.loop-entry-test.true c.entry-item.is
          (sym c.mark_of.ensures ∙ w.in_default.is) c.loop-entry.invariant
    ]

pub returns : goal.returns
returns c =
    c.loop-entry.invariant
    ∙ ap (filter is_mark) (take_all c.loop-entry.entry-index c.args.entries.now (omega (arith, c.loop-entry-test.false)))
