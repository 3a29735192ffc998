-- One more document was sent, and at the end the array of all.
use Rattle.std.proofs.Common.{List, refl, sym, subst, rules}
use Rattle.std.specs.Arc.{arc_value}
use Rattle.std.proofs.lemmas.Result.{on_ok_weaker}
use Rattle.std.proofs.lemmas.Simd.{map-map}
use Rattle.serde.proofs.Events.{WritesEach-more, WritesSeq-ends}
use Rattle.serde_json.specs.Data.{Data}
use Rattle.serde_json.specs.Events.{SendsValue}
use Rattle.sc_record.specs.Writes.{Write}
use Rattle.sc_json.specs.Documents.{array_of, write_data}
use Rattle.sc_json.proofs.SentLemmas.{array_sent}
use Rattle.sc_reply.proofs.shown.send_docs.Goals as goal

pub loop-cell-preserved : goal.loop-cell-preserved
loop-cell-preserved g c =
    let old = g.S.Serializer.written c.loop-cell.out in
    let new = g.S.Serializer.written c.serialize.new.out in
    let sent = subst (λ (write : Write). SendsValue (write_data write) old new) c.deref.ensures c.in_ok-serialize.ensures in
    WritesEach-more (λ cell. SendsValue (write_data (arc_value cell))) _ _ _ _ _ _ c.loop-cell-test.true c.cell-item.is c.loop-cell.invariant sent

pub returns : goal.returns
returns g c =
    let old = g.S.Serializer.written c.args.out.now in
    let new = g.S.Serializer.written c.end_seq.new.self in
    let docs = c.args.docs.now in
    on_ok_weaker c.end_seq.result (λ ended. subst (λ (shown : List Data). SendsValue (array_of shown) old new) (sym (map-map write_data arc_value docs))
    (array_sent (λ cell. write_data (arc_value cell)) docs old new
    (WritesSeq-ends (λ cell. SendsValue (write_data (arc_value cell))) _ _ _ _ _ _ _ _ refl (search rules) c.loop-cell-test.false c.in_ok-begin_seq.ensures c.loop-cell.invariant ended))) c.end_seq.ensures
