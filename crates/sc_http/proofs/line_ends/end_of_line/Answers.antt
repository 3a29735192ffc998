-- The line feeds are counted from the request line on.
use Rattle.std.proofs.Common.{◌==◌, arith, sym, ◌∙◌}
use Rattle.std.proofs.lemmas.Bool.{eq-eqb, ne_eqb}
use Rattle.std.proofs.lemmas.List.{take_rest}
use Rattle.std.proofs.lemmas.List.Sums.{count_by_more_yes, count_by_more_no}
use Rattle.sc_http.proofs.LineEndLemmas.{line_found, lines_counted}
use Rattle.sc_http.proofs.line_ends.end_of_line.Goals.{then-byte-eq10+else-ended-number, else-byte-eq10}
use Rattle.sc_http.proofs.line_ends.end_of_line.Goals as goal

pub returns-then-ended-number-clause-found : goal.returns-then-ended-number-clause-found
returns-then-ended-number-clause-found c =
    line_found c.args.bytes.now _ c.request_line_start-start.result c.loop-i.i c.args.number c.loop-i.ended c.request_line_start-start.ensures.start
    (take_rest c.args.bytes.now c.request_line_start-start.result) c.loop-i-test.true c.loop-i.invariant.counted c.if-byte-eq10.true c.if-ended-number.true

pub loop-i-preserved : goal.loop-i-preserved
loop-i-preserved c =
    elim c.if-byte-eq10.branch [
      | then-byte-eq10+else-ended-number w ↦
          let more = count_by_more_yes (λ b. b == 10) _ c.loop-i.i 0 c.loop-i-test.true (eq-eqb _ 10 w.if-byte-eq10.true) in
          record { counted = omega (arith, w.ended-is, c.loop-i.invariant.counted, more); fewer = omega (arith, w.ended-is, w.if-ended-number.false, c.loop-i.invariant.fewer) }
      | else-byte-eq10 w ↦
          let more = count_by_more_no (λ b. b == 10) _ c.loop-i.i 0 c.loop-i-test.true (ne_eqb _ 10 w.if-byte-eq10.false) in
          record { counted = w.ended-is ∙ c.loop-i.invariant.counted ∙ sym more; fewer = omega (arith, w.ended-is, c.loop-i.invariant.fewer) }
    ]

pub returns-clause-fewer : goal.returns-clause-fewer
returns-clause-fewer c none =
    let all = lines_counted c.args.bytes.now _ c.request_line_start-start.result c.loop-i.i c.loop-i.ended c.request_line_start-start.ensures.start
    (take_rest c.args.bytes.now c.request_line_start-start.result) c.loop-i-test.false c.loop-i.invariant.counted in
    omega (arith, all, c.loop-i.invariant.fewer)
