-- What is sent for the fields that are left ends what is sent for all after the first.
use Rattle.sc_json.proofs.SentLemmas.{EndsFields}
use Rattle.sc_json.proofs.document.send_fields.Given as goal

abbrev pub invariant-loop-field : goal.invariant-loop-field
invariant-loop-field g l =
    EndsFields l.fn.fields l.field-iterator (g.S.Serializer.written l.initial.out) (g.S.Serializer.written l.out)
