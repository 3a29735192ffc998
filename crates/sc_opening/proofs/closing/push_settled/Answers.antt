-- One entry more is settled, or is nothing to settle.
use Rattle.std.proofs.Common.{◌≡◌, ◌+◌, ◌<◌, ◌&&◌, ◌++◌, true, false, not, length, drop, refl, sym, ap, ◌∙◌, arith}
use Rattle.std.proofs.lemmas.List.{get_or_read_under}
use Rattle.std.specs.Prelude.{is_some}
use Rattle.sc_record.specs.declared.entry.Entry.{Entry}
use Rattle.sc_journal.specs.Journal.{as_write, is_settled, is_unsettled}
use Rattle.sc_opening.proofs.SettleLemmas.{put_settled, put_nothing, settle_rest, no_write_unsettled}
use Rattle.sc_opening.proofs.closing.push_settled.Goals as goal
use Rattle.sc_opening.proofs.closing.push_settled.Goals.{in-Write+then-not-index+in_ok-push, in-Write+else-not-index, in_default}

pub loop-i-preserved : goal.loop-i-preserved
loop-i-preserved c =
    let journal = c.args.journal.now in
    let i = c.loop-i.i in
    let one = c.index-journal-i.result in
    let within : i < length journal = omega arith in
    let items = c.in_ok-settled.settled.items in
    let long = c.in_ok-settled.ensures.length in
    let inside : i < length items = omega (arith, long, within) in
    let mark = c.in_ok-settled.ensures.marks i within in
    elim c.match-entry.branch [
      | in-Write+then-not-index+in_ok-push w ↦
          let settled : is_settled journal i ≡ false = sym mark ∙ sym (get_or_read_under items i (length items) w.index.result.now false w.index.ensures inside refl) ∙ w.if-not-index.true in
          let test : is_unsettled journal (i, one) ≡ true =
          ap (λ (e : Entry). is_some (as_write e) && not (is_settled journal i)) w.in-Write.is ∙ ap not settled in
          ap (λ es. es ++ settle_rest journal (i + 1) (drop (i + 1) journal)) (w.entries-is ∙ w.in_ok-push.ensures.ok)
          ∙ put_settled journal c.loop-i.entries _ i one within c.index-journal-i.is test c.loop-i.invariant
      | in-Write+else-not-index w ↦
          let settled : is_settled journal i ≡ true = sym mark ∙ sym (get_or_read_under items i (length items) w.index.result.now false w.index.ensures inside refl) ∙ w.if-not-index.false in
          let test : is_unsettled journal (i, one) ≡ false =
          ap (λ (e : Entry). is_some (as_write e) && not (is_settled journal i)) w.in-Write.is ∙ ap not settled in
          ap (λ es. es ++ settle_rest journal (i + 1) (drop (i + 1) journal)) w.entries-is
          ∙ put_nothing journal c.loop-i.entries _ i one within c.index-journal-i.is test c.loop-i.invariant
      | in_default w ↦
          ap (λ es. es ++ settle_rest journal (i + 1) (drop (i + 1) journal)) w.entries-is
          ∙ put_nothing journal c.loop-i.entries _ i one within c.index-journal-i.is (no_write_unsettled journal i one w.in_default.not-Write) c.loop-i.invariant
    ]
