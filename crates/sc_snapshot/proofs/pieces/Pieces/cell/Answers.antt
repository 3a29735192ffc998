-- The cell of the piece is that of the rows.
use Rattle.std.proofs.Common.{◌≡◌, ◌-◌, ◌<◌, List, Global, length, get_or, ap, ◌∙◌, arith, refl}
use Rattle.std.proofs.lemmas.List.{length-map}
use Rattle.std.specs.Arc.{arc_value}
use Rattle.std.specs.Option.{option_map}
use Rattle.std.proofs.lemmas.Option.{slice_get_read, slice_get-map}
use Rattle.std.specs.declared.sync.Arc.{Arc}
use Rattle.sc_record.specs.Writes.{Write}
use Rattle.sc_snapshot.specs.Pieces.{start_of}
use Rattle.sc_snapshot.proofs.PieceLemmas.{row-in}
use Rattle.sc_snapshot.proofs.pieces.Pieces.cell.Goals as goal

pub returns : goal.returns
returns c =
    let piece = c.piece-piece.result.now in
    let cells = arc_value piece.cells in
    let n = c.args.at - start_of piece in
    let has = c.piece-piece.ensures in
    let result = c.index-as_slice-at.result in
    let is : result ≡ get_or cells n result =
    c.index-as_slice-at.is ∙ ap (λ (xs : List (Arc Write Global)). get_or xs (c.args.at - c.start.result) result) (c.as_slice.ensures ∙ c.deref.ensures)
    ∙ ap (λ m. get_or cells (c.args.at - m) result) c.start.ensures in
    let size = length-map cells arc_value in
    let within : n < length cells = omega (arith, has.start, has.within, has.fits, size) in
    row-in c.args.self.now c.args.at piece (arc_value result) has
    (slice_get-map arc_value cells n ∙ ap (option_map arc_value) (slice_get_read cells (length cells) n result refl within is))
