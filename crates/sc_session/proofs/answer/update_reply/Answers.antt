-- The reply to an update is that to what it reports.
use Rattle.std.proofs.Common.{Option, subst, rules}
use Rattle.std.specs.Prelude.{IfSome}
use Rattle.sc_update.specs.declared.end.BatchFault.{BatchFault}
use Rattle.sc_reply.specs.Causes as causes
use Rattle.sc_session.specs.Answering.{IsOfOrder}
use Rattle.sc_session.proofs.UpdateLemmas.{refused_reply}
use Rattle.sc_session.proofs.answer.update_reply.Goals as goal

pub cause_of-requires : goal.cause_of-requires
cause_of-requires c = subst (λ (fault : Option BatchFault). IfSome fault (IsOfOrder c.args.batch.now)) c.in-Some.is c.requires

pub returns-in-Some : goal.returns-in-Some
returns-in-Some c = record {
  reply = refused_reply c.args.batch.now c.args.end.now c.in-Some.fault (causes.refusal_of c.cause_of.result) c.refused.result c.in-Some.is
      (λ is. search rules) c.cause_of.ensures c.refused.ensures.reply;
  status = c.refused.ensures.status;
}
