-- The orders that come after none are all.
use Rattle.std.proofs.Common.{List, map, sym, ap, ◌∙◌}
use Rattle.std.proofs.lemmas.Result.{IfOk-weaker}
use Rattle.sc_schema.specs.Documents.{content_of}
use Rattle.sc_schema.specs.declared.raw.RawDoc.{RawDoc}
use Rattle.sc_commands.specs.Listed.{added_docs}
use Rattle.sc_commands.specs.Updates.{orders_of}
use Rattle.sc_commands.proofs.OrderLemmas.{read_first}
use Rattle.sc_commands.proofs.orders.orders_of_docs.Goals as goal

pub returns-clause-ok : goal.returns-clause-ok
returns-clause-ok c =
    let same = ap (λ (docs : List RawDoc). orders_of (added_docs docs)) (sym c.into_vec.ensures) in
    IfOk-weaker c.with_docs.result _ _
    (λ orders e. same ∙ read_first (added_docs c.into_vec.result.items) c.from_vec-none.result (map content_of orders) (c.from_vec-none.ensures ∙ c.in_ok-with_capacity.ensures.items) e) c.with_docs.ensures.ok
