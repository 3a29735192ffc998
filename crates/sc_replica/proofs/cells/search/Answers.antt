-- The search's answer is the place of the id among the writes.
use Rattle.std.proofs.Common.{rules, List, ℕ}
use Rattle.std.specs.Arc.{arc_value}
use Rattle.std.proofs.lemmas.Fn.{always_returns_same}
use Rattle.sc_replica.specs.Places.{compared}
use Rattle.sc_replica.proofs.PlaceLemmas.{IsPlace-from_search}
use Rattle.sc_replica.proofs.cells.search.Goals as goal

pub returns : goal.returns
returns c =
    let id : List ℕ = c.args.id.now in
    let bound = rw c.args.cells.now.ok.0 at c.binary_search_by.ensures.bound in
    IsPlace-from_search arc_value c.args.cells.now.items id c.binary_search_by.result c.requires bound
    (c.binary_search_by.ensures.position (λ cell. compared id (arc_value cell)) (always_returns_same _ _ _ (λ a r g called. search rules)))
