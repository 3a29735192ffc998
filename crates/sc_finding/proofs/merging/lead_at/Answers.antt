-- The row at the next number comes first, or there is none.
use Rattle.std.proofs.Common.{◌+◌, ◌∷◌, ℕ, List, None, Some, get_or, slice_get, option_copied, option_map, sym, ap, ◌∙◌, arith}
use Rattle.std.specs.Arc.{arc_value}
use Rattle.std.proofs.lemmas.List.{drop_all, take_rest}
use Rattle.sc_snapshot.specs.Rows.{SnapshotState, lent}
use Rattle.sc_finding.specs.Hits.{rows_numbered}
use Rattle.sc_replicas.specs.Searchers.{searcher_rows}
use Rattle.sc_finding.proofs.StartLemmas.{rows-next}
use Rattle.sc_finding.proofs.merging.lead_at.Goals as goal

pub loop-at-preserved : goal.loop-at-preserved
loop-at-preserved g c =
    let rows = searcher_rows c.args.searcher.now in
    let numbers = c.args.numbers.now in
    c.loop-at.invariant
    ∙ rows-next rows numbers c.loop-at.at 0 None (omega (arith, c.loop-at-test.true))
    (ap (λ o. option_map arc_value (option_copied o)) (sym c.in_default.is) ∙ c.row.ensures.row ∙ ap (λ (s : SnapshotState). slice_get s.rows (get_or numbers c.loop-at.at 0)) c.deref.ensures)

pub returns-in-Some : goal.returns-in-Some
returns-in-Some g c =
    let rows = searcher_rows c.args.searcher.now in
    let numbers = c.args.numbers.now in
    let at = c.loop-at.at in
    let row = lent c.in-Some.row in
    ap (λ (ns : List ℕ). row ∷ rows_numbered rows ns) (take_rest numbers (at + 1))
    ∙ sym (rows-next rows numbers at 0 (Some row) (omega (arith, c.loop-at-test.true))
    (ap (λ o. option_map arc_value (option_copied o)) (sym c.in-Some.is) ∙ c.row.ensures.row ∙ ap (λ (s : SnapshotState). slice_get s.rows (get_or numbers at 0)) c.deref.ensures))
    ∙ sym c.loop-at.invariant

pub returns : goal.returns
returns g c =
    sym (c.loop-at.invariant ∙ ap (rows_numbered (searcher_rows c.args.searcher.now)) (drop_all c.loop-at.at c.args.numbers.now (omega (arith, c.loop-at-test.false))))
