-- The core has the number and the mark that the entries give it, and its cells where it is not down.
use Rattle.std.proofs.Common.{◌∙◌, sym, ap, arith}
use Rattle.std.proofs.lemmas.Int.{ints}
use Rattle.sc_replica.specs.Core.{Core}
use Rattle.sc_restored.proofs.FilledLemmas.{filled_down, filled_up, has_no_cells}
use Rattle.sc_restored.proofs.replicas.replica_of.Goals as goal

pub fill-requires-clause-none : goal.fill-requires-clause-none
fill-requires-clause-none c =
    has_no_cells c.args.seat c.new-replica.result c.set_number.new.self c.number_in.result c.new-replica.ensures.value c.set_number.ensures.value

pub returns-then-is_down : goal.returns-then-is_down
returns-then-is_down c =
    let inv = c.new-replica.type_inv in
    let named = ap (λ (core : Core). core.core.replica) c.new-replica.ensures.value in
    filled_down c.args.seat c.args.marks.now _ c.new-replica.result c.set_number.new.self c.mark_down.new.self c.number_in.result
    (grind (arith, ints)) c.new-replica.ensures.value c.set_number.ensures.value c.mark_down.ensures.value c.mark_down.ensures.core
    c.number_in.ensures (sym c.if-is_down.true ∙ c.is_down.ensures)

pub returns : goal.returns
returns c =
    let inv = c.new-replica.type_inv in
    let named = ap (λ (core : Core). core.core.replica) c.new-replica.ensures.value in
    filled_up c.args.seat c.args.marks.now _ c.new-replica.result c.set_number.new.self c.fill.new.replica c.number_in.result
    (grind (arith, ints)) c.new-replica.ensures.value c.set_number.ensures.value c.in_ok-fill.ensures c.clock.ensures.core
    c.number_in.ensures (sym c.if-is_down.false ∙ c.is_down.ensures)
