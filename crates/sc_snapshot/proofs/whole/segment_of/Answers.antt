-- The terms of one row more are filed.
use Rattle.std.proofs.Common.{◌++◌, List, map, take, ap, subst, ◌∙◌, arith}
use Rattle.std.proofs.lemmas.List.{length-map}
use Rattle.std.specs.Arc.{arc_value}
use Rattle.sc_record.specs.declared.term.Term.{Term}
use Rattle.sc_segment.specs.Index.{IsIndexOf}
use Rattle.sc_snapshot.specs.Postings.{key_order, keyed, keyed_rows, live_terms}
use Rattle.sc_snapshot.proofs.LoopLemmas.{rows-next}
use Rattle.sc_snapshot.proofs.whole.segment_of.Goals as goal

pub overflow_add-number : goal.overflow_add-number
overflow_add-number c =
    let l = length-map c.args.rows.now arc_value in
    omega (arith, l, c.requires.bounded, c.loop-row.invariant.number, c.loop-row-test.true)

pub loop-row-preserved : goal.loop-row-preserved
loop-row-preserved c =
    let i = c.loop-row.invariant in
    let before = keyed_rows 0 (map arc_value (take c.loop-row.row-index c.args.rows.now)) in
    record {
      index = rows-next arc_value c.args.rows.now c.loop-row.row-index c.row-item.result c.loop-row-test.true c.row-item.is
          c.loop-row.number c.file_terms.new.builder.index i.number
          (subst (λ (ts : List Term). IsIndexOf key_order (before ++ keyed c.loop-row.number ts) c.file_terms.new.builder.index)
          (c.live_terms.ensures ∙ ap live_terms c.deref.ensures) (c.in_ok-file_terms.ensures.index before i.index));
      number = omega (arith, i.number);
      last_row = omega (arith, c.in_ok-file_terms.ensures.last_row);
    }
