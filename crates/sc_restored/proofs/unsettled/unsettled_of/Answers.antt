-- One place more is not settled, or none.
use Rattle.std.proofs.Common.{◌≡◌, ◌+◌, ◌<◌, ◌&&◌, ◌++◌, List, ℕ, true, false, not, length, drop, refl, sym, ap, ◌∙◌, arith}
use Rattle.std.proofs.lemmas.List.{get_or_read_under}
use Rattle.std.specs.Prelude.{is_some}
use Rattle.sc_record.specs.declared.entry.Entry.{Entry}
use Rattle.sc_journal.specs.Journal.{as_write, is_settled, is_unsettled}
use Rattle.sc_bucket.specs.Kept.{PlacesState}
use Rattle.sc_restored.proofs.UnsettledLemmas.{unsettled_rest, put_place, put_none, no_write}
use Rattle.sc_restored.proofs.unsettled.unsettled_of.Goals as goal
use Rattle.sc_restored.proofs.unsettled.unsettled_of.Goals.{in-Write+then-not-index+in_ok-put, in-Write+else-not-index, in_default}

pub loop-i-preserved : goal.loop-i-preserved
loop-i-preserved c =
    let journal = c.args.entries.now in
    let i = c.loop-i.i in
    let one = c.index-entries-i.result in
    let within : i < length journal = omega arith in
    let items = c.in_ok-settled.settled.items in
    let long = c.in_ok-settled.ensures.length in
    let inside : i < length items = omega (arith, long, within) in
    let mark = c.in_ok-settled.ensures.marks i within in
    elim c.match-entry.branch [
      | in-Write+then-not-index+in_ok-put w ↦
          let settled : is_settled journal i ≡ false = sym mark ∙ sym (get_or_read_under items i (length items) w.index.result.now false w.index.ensures inside refl) ∙ w.if-not-index.true in
          let test : is_unsettled journal (i, one) ≡ true =
          ap (λ (e : Entry). is_some (as_write e) && not (is_settled journal i)) w.in-Write.is ∙ ap not settled in
          ap (λ (these : List ℕ). these ++ unsettled_rest journal (i + 1) (drop (i + 1) journal))
          (ap (λ (state : PlacesState). state.places) w.places-is ∙ w.in_ok-put.ensures)
          ∙ put_place journal c.loop-i.places.places _ i one within c.index-entries-i.is test c.loop-i.invariant
      | in-Write+else-not-index w ↦
          let settled : is_settled journal i ≡ true = sym mark ∙ sym (get_or_read_under items i (length items) w.index.result.now false w.index.ensures inside refl) ∙ w.if-not-index.false in
          let test : is_unsettled journal (i, one) ≡ false =
          ap (λ (e : Entry). is_some (as_write e) && not (is_settled journal i)) w.in-Write.is ∙ ap not settled in
          ap (λ (state : PlacesState). state.places ++ unsettled_rest journal (i + 1) (drop (i + 1) journal)) w.places-is
          ∙ put_none journal c.loop-i.places.places _ i one within c.index-entries-i.is test c.loop-i.invariant
      | in_default w ↦
          ap (λ (state : PlacesState). state.places ++ unsettled_rest journal (i + 1) (drop (i + 1) journal)) w.places-is
          ∙ put_none journal c.loop-i.places.places _ i one within c.index-entries-i.is (no_write journal i one w.in_default.not-Write) c.loop-i.invariant
    ]
