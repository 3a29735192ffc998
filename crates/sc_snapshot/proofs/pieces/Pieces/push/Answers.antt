-- The new piece ends after all rows.
use Rattle.std.proofs.Common.{◌≡◌, ◌+◌, List, Global, length, sym, ap, subst, ◌∙◌, arith}
use Rattle.std.proofs.lemmas.List.{length-map}
use Rattle.std.specs.Arc.{arc_value}
use Rattle.std.specs.declared.sync.Arc.{Arc}
use Rattle.sc_record.specs.Writes.{Write}
use Rattle.sc_snapshot.specs.declared.pieces.Piece.{Piece}
use Rattle.sc_snapshot.specs.Pieces.{rows_of, HaveEnds}
use Rattle.sc_snapshot.proofs.PieceLemmas.{HaveEnds-push}
use Rattle.sc_snapshot.proofs.pieces.Pieces.push.Goals as goal

pub invariant_of-self-2 : goal.invariant_of-self-2
invariant_of-self-2 c =
    let pieces = c.self.inside.pieces.items in
    let rows : length (rows_of pieces) ≡ length c.args.self.now = ap (λ (rows : List Write). length rows) c.self.view_is in
    let more = length-map (arc_value c.args.cells) arc_value in
    let cells : c.len-2.result ≡ length (arc_value c.args.cells) =
    c.len-2.ensures ∙ ap (λ (xs : List (Arc Write Global)). length xs) c.deref.ensures in
    subst (λ (ps : List Piece). HaveEnds ps) (sym c.in_ok-push.ensures.items)
    (HaveEnds-push pieces (record { cells = c.args.cells; end = c.len.result + c.len-2.result }) c.self.invariant (omega (arith, rows, more, cells, c.len.ensures)))
