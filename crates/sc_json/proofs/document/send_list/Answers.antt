-- One more value was sent, and at the end the array of all.
use Rattle.std.proofs.Common.{Some, subst}
use Rattle.std.proofs.lemmas.Result.{on_ok_weaker}
use Rattle.serde.specs.Event.{Logs, seq_begins}
use Rattle.sc_json.specs.Documents.{value_data}
use Rattle.sc_json.proofs.SentLemmas.{values_more, values_ended, array_sent}
use Rattle.sc_json.proofs.document.send_list.Goals as goal

pub loop-value-preserved : goal.loop-value-preserved
loop-value-preserved g c =
    values_more c.args.values c.loop-value.value-iterator c.next.new.self _ _ _ _ c.in-Some.ensures.steps c.loop-value.invariant c.in_ok-send_value.ensures

pub returns : goal.returns
returns g c =
    let old = g.S.Serializer.written c.args.out.now in
    let first = g.S.Serializer.written c.begin_seq.new.self in
    let last = g.S.Serializer.written c.loop-value.out in
    let begun = subst (λ n. Logs old first (seq_begins (Some n))) c.len.ensures c.in_ok-begin_seq.ensures in
    let each = values_ended c.args.values c.loop-value.value-iterator first last c.in-None.ensures.steps.0 c.loop-value.invariant in
    on_ok_weaker c.end_seq.result (λ ended. array_sent value_data c.args.values _ _ (first, last, begun, each, ended)) c.end_seq.ensures
