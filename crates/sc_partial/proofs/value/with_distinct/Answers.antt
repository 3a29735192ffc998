-- One more of the others stands after the list, or was in it.
use Rattle.std.proofs.Common.{ap, sym, ◌∙◌, arith}
use Rattle.sc_partial.specs.Changed.{is_among}
use Rattle.sc_partial.proofs.ValueLemmas.{with_distinct_more}
use Rattle.sc_partial.proofs.value.with_distinct.Goals as goal
use Rattle.sc_partial.proofs.value.with_distinct.Goals.{then-not-is_among+in_ok-clone_in+in_ok-push, else-not-is_among}

pub loop-value-preserved : goal.loop-value-preserved
loop-value-preserved c =
    let next = with_distinct_more c.args.list.now c.args.others.now c.loop-value.value-index c.value-item.result (omega arith) c.value-item.is in
    let among = c.is_among.ensures ∙ ap (is_among c.value-item.result) (c.as_slice.ensures.value ∙ c.loop-value.invariant) in
    rw next
    (elim c.if-not-is_among.branch [
      | then-not-is_among+in_ok-clone_in+in_ok-push w ↦
          let pushed = w.in_ok-push.ensures.items in
          let copied = w.in_ok-clone_in.ensures in
          rw (sym among ∙ w.if-not-is_among.true) (cc)
      | else-not-is_among w ↦ rw (sym among ∙ w.if-not-is_among.false) (cc)
    ])
