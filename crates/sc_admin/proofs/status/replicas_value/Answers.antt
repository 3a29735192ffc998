-- One more replica.
use Rattle.std.proofs.Common.{arith, ◌∙◌, ap, [], ◌∷◌}
use Rattle.sc_json.specs.Documents.{put_all}
use Rattle.sc_admin.specs.Status.{replica_member}
use Rattle.sc_admin.proofs.PutLemmas.{put-replica}
use Rattle.sc_admin.proofs.status.replicas_value.Goals as goal

pub loop-replica-preserved : goal.loop-replica-preserved
loop-replica-preserved c = record {
  within = omega arith;
  put = c.in_ok-put_replica.ensures
      ∙ ap (put_all (replica_member c.args.nodes c.args.slice.now c.loop-replica.replica ∷ [])) c.loop-replica.invariant.put
      ∙ put-replica c.args.nodes c.args.slice.now c.loop-replica.replica (omega arith) (omega arith);
}
