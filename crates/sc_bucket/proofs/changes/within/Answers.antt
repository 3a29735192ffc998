-- The next write is taken where it is in the range.
use Rattle.std.proofs.Common.{◌∙◌, Bor, Vec, List, length, map, filter, refl, sym, ap, arith}
use Rattle.std.specs.Arc.{arc_value}
use Rattle.std.specs.declared.alloc.Global.{Global}
use Rattle.std.specs.declared.sync.Arc.{Arc}
use Rattle.std.proofs.lemmas.List.{map-append, take_all}
use Rattle.std.proofs.lemmas.Option.{slice_get_read}
use Rattle.sc_record.specs.Writes.{Write}
use Rattle.sc_snapshot.specs.Rows.{is_within, lent}
use Rattle.sc_bucket.proofs.ChangesLemmas.{passing-next, not_passing-next}
use Rattle.sc_bucket.proofs.changes.within.Goals as goal
use Rattle.sc_bucket.proofs.changes.within.Goals.{then-is_within+in_ok-push, else-is_within}

pub loop-cell-preserved : goal.loop-cell-preserved
loop-cell-preserved c =
    let cells : List (Arc Write Global) = c.args.writes.now in
    let at = c.loop-cell.cell-index in
    let cell : Arc Write Global = c.cell-item.result in
    let there = slice_get_read cells (length cells) at cell refl c.loop-cell-test.true c.cell-item.is in
    elim c.if-is_within.branch [
      | then-is_within+in_ok-push w ↦
          ap (λ (v : Vec (Bor (Arc Write Global)) Global). map lent v.items) w.found-is ∙ ap (map lent) w.in_ok-push.ensures.items
          ∙ map-append lent c.loop-cell.found.items _
          ∙ passing-next (is_within c.args.range.now) cells at cell (map lent c.loop-cell.found.items) there
          (sym c.is_within.ensures ∙ w.if-is_within.true) c.loop-cell.invariant
      | else-is_within w ↦
          ap (λ (v : Vec (Bor (Arc Write Global)) Global). map lent v.items) w.found-is
          ∙ not_passing-next (is_within c.args.range.now) cells at cell (map lent c.loop-cell.found.items) there
          (sym c.is_within.ensures ∙ w.if-is_within.false) c.loop-cell.invariant
    ]

pub returns : goal.returns
returns c =
    c.loop-cell.invariant
    ∙ ap (λ (cells : List (Arc Write Global)). filter (is_within c.args.range.now) (map arc_value cells))
    (take_all c.loop-cell.cell-index c.args.writes.now (omega (arith, c.loop-cell-test.false)))
