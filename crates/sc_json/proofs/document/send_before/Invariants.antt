-- What is sent of the fields that are left ends what is sent of all.
use Rattle.std.proofs.Common.{length}
use Rattle.sc_json.specs.Sent.{with_next}
use Rattle.sc_json.proofs.SentLemmas.{EndsBefore}
use Rattle.sc_json.proofs.document.send_before.Given as goal

abbrev pub invariant-loop-next : goal.invariant-loop-next
invariant-loop-next g l =
    EndsBefore l.name (with_next l.fn.next l.fn.fields) (with_next l.next l.fields) (g.S.Serializer.written l.initial.out) (g.S.Serializer.written l.out)

abbrev pub decreases-loop-next : goal.decreases-loop-next
decreases-loop-next g l = length (with_next l.next l.fields)
