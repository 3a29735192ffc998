-- Some rows of a piece are copied.
use Rattle.std.proofs.Common.{◌++◌, ◌-◌, List, take, drop, ap, ◌∙◌, arith}
use Rattle.sc_record.specs.Writes.{Write}
use Rattle.sc_snapshot.proofs.PieceLemmas.{part-of}
use Rattle.sc_snapshot.specs.Pieces.{rows_in}
use Rattle.sc_snapshot.proofs.cutting.Cutting.copy_some.Goals as goal

pub returns-in_ok-copy_cells-clause-rows : goal.returns-in_ok-copy_cells-clause-rows
returns-in_ok-copy_cells-clause-rows c =
    let piece = c.piece-piece.result.now in
    let has = c.piece-piece.ensures in
    let at = c.args.at in
    let end = c.min-end.result in
    let within = has.within in
    let from = c.requires.from in
    let least = c.min-end.ensures in
    c.in_ok-copy_cells.ensures
    ∙ ap (λ (ws : List Write). c.args.self.now ++ ws)
    (c.part.ensures
    ∙ ap (λ n. take (end - n - (at - n)) (drop (at - n) (rows_in piece))) c.start-start.ensures
    ∙ part-of c.args.rows.now at end piece has (omega (arith, within, from, least)) (omega (arith, least)))
