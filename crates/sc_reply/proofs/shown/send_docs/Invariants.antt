-- The documents before the index were sent.
use Rattle.std.proofs.Common.{take}
use Rattle.std.specs.Arc.{arc_value}
use Rattle.serde.specs.Event.{WritesEach}
use Rattle.serde_json.specs.Events.{SendsValue}
use Rattle.sc_json.specs.Documents.{write_data}
use Rattle.sc_reply.proofs.shown.send_docs.Given as goal

abbrev pub invariant-loop-cell : goal.invariant-loop-cell
invariant-loop-cell g l =
    WritesEach (λ cell. SendsValue (write_data (arc_value cell))) (take l.cell-index l.docs) (g.S.Serializer.written l.initial.out) (g.S.Serializer.written l.out)
