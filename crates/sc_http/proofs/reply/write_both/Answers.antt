-- A prefix of the head is one of the reply.
use Rattle.std.proofs.lemmas.Result.{err_from_is_err_and}
use Rattle.sc_http.proofs.ReplyLemmas.{first_failed}
use Rattle.sc_http.proofs.reply.write_both.Goals as goal

pub returns-in_err-write-clause-err : goal.returns-in_err-write-clause-err
returns-in_err-write-clause-err g c =
    let p = err_from_is_err_and c.from_residual.result c.from_residual.ensures.1 in
    rw p.1 (first_failed c.args.head.now c.args.body.now (g.W.Sink.written c.args.sink.now) _ c.in_err-write.ensures.failed)
