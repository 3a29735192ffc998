-- The rows of some cells are some of the rows.
use Rattle.std.proofs.Common.{◌-◌, List, Global, map, take, drop, sym, ap, ◌∙◌}
use Rattle.std.proofs.lemmas.List.{take-map, drop-map}
use Rattle.std.specs.Arc.{arc_value}
use Rattle.std.specs.declared.sync.Arc.{Arc}
use Rattle.sc_record.specs.Writes.{Write}
use Rattle.sc_snapshot.proofs.pieces.Piece.part.Goals as goal

pub returns : goal.returns
returns c =
    let from = c.args.from in
    let n = c.args.to - c.args.from in
    let cells = c.as_slice.result.now in
    sym (take-map arc_value n (drop from cells)) ∙ ap (take n) (sym (drop-map arc_value from cells))
    ∙ ap (λ (xs : List (Arc Write Global)). take n (drop from (map arc_value xs))) (c.as_slice.ensures ∙ c.deref.ensures)
