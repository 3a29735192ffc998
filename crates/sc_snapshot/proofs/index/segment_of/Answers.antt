-- The other terms of one row more are filed.
use Rattle.std.proofs.Common.{◌+◌, ◌++◌, List, map, take, sym, subst, arith}
use Rattle.std.proofs.lemmas.List.{length-map}
use Rattle.std.specs.Arc.{arc_value}
use Rattle.sc_record.specs.Writes.{Write}
use Rattle.sc_segment.specs.Index.{IsIndexOf}
use Rattle.sc_snapshot.specs.Postings.{key_order, keyed, keyed_rows, live_terms, without_ids}
use Rattle.sc_snapshot.proofs.LoopLemmas.{map-twice, rows-next}
use Rattle.sc_snapshot.proofs.index.segment_of.Goals as goal

pub overflow_add-number : goal.overflow_add-number
overflow_add-number c =
    let l = length-map c.args.rows.now arc_value in
    omega (arith, l, c.requires.bounded, c.loop-row.invariant.number, c.loop-row-test.true)

pub loop-row-preserved : goal.loop-row-preserved
loop-row-preserved c =
    let i = c.loop-row.invariant in
    let row = arc_value c.row-item.result in
    let rows = c.args.rows.now in
    let at = c.loop-row.row-index in
    let number = c.loop-row.number in
    let index = c.file_row.new.builder.index in
    let before = map without_ids (map arc_value (take at rows)) in
    let filed : IsIndexOf key_order (keyed_rows 0 before ++ keyed number (live_terms (without_ids row))) index =
    subst (λ (w : Write). IsIndexOf key_order (keyed_rows 0 before ++ keyed number (live_terms (without_ids w))) index) c.deref.ensures
    (c.in_ok-file_row.ensures.index (keyed_rows 0 before) i.index) in
    record {
      index = subst (λ (ws : List Write). IsIndexOf key_order (keyed_rows 0 ws) index) (sym (map-twice without_ids arc_value (take (at + 1) rows)))
          (rows-next (λ cell. without_ids (arc_value cell)) rows at c.row-item.result c.loop-row-test.true c.row-item.is number index i.number
          (subst (λ (ws : List Write). IsIndexOf key_order (keyed_rows 0 ws ++ keyed number (live_terms (without_ids row))) index)
          (map-twice without_ids arc_value (take at rows)) filed));
      number = omega (arith, i.number);
      last_row = omega (arith, c.in_ok-file_row.ensures.last_row);
    }
