-- What is sent for the values that are left ends what is sent for all.
use Rattle.sc_json.proofs.SentLemmas.{EndsValues}
use Rattle.sc_json.proofs.document.send_list.Given as goal

abbrev pub invariant-loop-value : goal.invariant-loop-value
invariant-loop-value g l =
    EndsValues l.fn.values l.value-iterator (g.S.Serializer.written l.initial.out) (g.S.Serializer.written l.out)
