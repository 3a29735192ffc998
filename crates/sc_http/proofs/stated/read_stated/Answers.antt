-- What the buffer had of the body was given out, and where that was all, the source gave the rest.
use Rattle.std.proofs.Common.{◌≡◌, ◌≤◌, length, take, arith}
use Rattle.std.proofs.lemmas.Grind.{common_steps}
use Rattle.std.proofs.lemmas.Result.{err_from_is_err_and}
use Rattle.sc_http.proofs.StreamLemmas.{given_prefix, given_whole, left_none}
use Rattle.sc_http.proofs.stated.read_stated.Goals as goal
use Rattle.sc_http.proofs.stated.read_stated.Goals.{then-have-whole+in_ok-read_rest, else-have-whole}

pub returns-in_err-read_rest-clause-order : goal.returns-in_err-read_rest-clause-order
returns-in_err-read_rest-clause-order g c =
    let p = err_from_is_err_and c.from_residual.result c.from_residual.ensures.1 in
    let short : length c.args.buffer.now ≤ c.min-2.result = grind (arith, common_steps) in
    rw p.1 (left_none _ _ _ c.min-2.result _ _ _ c.give.ensures short c.in_err-read_rest.ensures.short)

pub returns-clause-body : goal.returns-clause-body
returns-clause-body g c =
    let prefix : c.in-Ok.body.items ≡ take c.min-2.result c.args.buffer.now = cc (c.in-Ok.ensures.items) in
    elim c.if-have-whole.branch [
      | then-have-whole+in_ok-read_rest w ↦
          let short : length c.args.buffer.now ≤ c.min-2.result = grind (arith, common_steps) in
          rw (w.body-is, w.source-is) (given_whole _ _ _ _ c.min-2.result _ _ prefix c.give.ensures short w.in_ok-read_rest.ensures.body)
      | else-have-whole w ↦ rw (w.body-is, w.source-is) (given_prefix _ _ _ c.min-2.result _ prefix c.give.ensures)
    ]
