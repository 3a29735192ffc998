-- The slice that has the id of the named one is the named one.
use Rattle.std.proofs.Common.{◌∙◌, sym}
use Rattle.sc_board.proofs.NamedLemmas.{named_by_id}
use Rattle.sc_board.proofs.board.Board.named.Goals as goal

pub returns-in-Some : goal.returns-in-Some
returns-in-Some g c =
    named_by_id c.args.self.now.map c.args.shard.now c.in-Some.id _ c.by_id.ensures.map (sym c.in-Some.is ∙ c.by_name.ensures)
    c.by_id.ensures.slice
