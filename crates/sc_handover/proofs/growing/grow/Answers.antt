-- Once all is delivered to the leader, the replica may join still, and both together are the event.
use Rattle.std.proofs.Common.{Result, Ok, Err, OnErr, sym, subst}
use Rattle.std.proofs.lemmas.Result.{on_ok_weaker, on_err_weaker}
use Rattle.sc_record.specs.declared.slice.CoreId.{CoreId}
use Rattle.sc_bucket.specs.Events.{DeliversAllTo}
use Rattle.sc_bucket.specs.declared.bucket.Bucket.{Bucket}
use Rattle.sc_handover.specs.Made.{leader_of}
use Rattle.sc_handover.proofs.MadeLemmas.{leader_named}
use Rattle.sc_handover.proofs.GrowLemmas.{none_to_leader, CanGrow-delivered, CanFollow-grown, Grows-joined}
use Rattle.sc_handover.proofs.growing.grow.Goals as goal

pub follower-requires-clause-can : goal.follower-requires-clause-can
follower-requires-clause-can c =
    let can = c.requires.can in
    let mid = c.deliver_all_to.new.self in
    let all = c.deliver_all_to.ensures.delivered in (
      can.0,
      CanFollow-grown mid c.args.core _ can.0 c.deliver_all_to.ensures.sound (CanGrow-delivered c.args.bucket.now mid _ c.args.core can.0 all can.1)
          (leader_named c.args.core.slice c.leader-leader.result c.leader-leader.ensures.slice c.leader-leader.ensures.first)
          (none_to_leader c.args.bucket.now mid _ all),
    )

pub follower-requires-clause-leads : goal.follower-requires-clause-leads
follower-requires-clause-leads c = leader_named c.args.core.slice c.leader-leader.result c.leader-leader.ensures.slice c.leader-leader.ensures.first

pub join-requires-clause-made : goal.join-requires-clause-made
join-requires-clause-made c =
    let can = c.requires.can in
    let mid = c.deliver_all_to.new.self in
    let all = c.deliver_all_to.ensures.delivered in
    let still = CanGrow-delivered c.args.bucket.now mid _ c.args.core can.0 all can.1 in
    let follows = CanFollow-grown mid c.args.core _ can.0 c.deliver_all_to.ensures.sound still
    (leader_named c.args.core.slice c.leader-leader.result c.leader-leader.ensures.slice c.leader-leader.ensures.first)
    (none_to_leader c.args.bucket.now mid _ all) in
    (c.args.core, can.0, still, follows, c.in_ok-replica.ensures can.0 follows)

pub returns-clause-grown : goal.returns-clause-grown
returns-clause-grown c =
    on_ok_weaker c.join.result
    (λ joins sub can.
    let mid = c.deliver_all_to.new.self in
    let all = c.deliver_all_to.ensures.delivered in
    let still = CanGrow-delivered c.args.bucket.now mid _ c.args.core sub all can in
    Grows-joined c.args.bucket.now c.deliver_all_to.new.self c.join.new.bucket _ c.args.core sub c.in_ok-replica.replica
    c.in_ok-replica.feed c.deliver_all_to.ensures.delivered c.leader-leader.ensures.slice c.leader-leader.ensures.first can
    (c.in_ok-replica.ensures sub
    (CanFollow-grown mid c.args.core _ sub c.deliver_all_to.ensures.sound still
    (leader_named c.args.core.slice c.leader-leader.result c.leader-leader.ensures.slice c.leader-leader.ensures.first)
    (none_to_leader c.args.bucket.now mid _ all)))
    joins) c.join.ensures.joined

-- what holds anyhow holds after an error
after_error : {T E P : Type 0} (result : Result T E) → P → OnErr result P
after_error (Ok value) holds = tt
after_error (Err fault) holds = holds

pub returns-in_err-replica-clause-refused : goal.returns-in_err-replica-clause-refused
returns-in_err-replica-clause-refused c =
    after_error c.from_residual.result
    (subst (λ (leader : CoreId). DeliversAllTo c.args.bucket.now leader c.deliver_all_to.new.self)
    (leader_named c.args.core.slice c.leader-leader.result c.leader-leader.ensures.slice c.leader-leader.ensures.first)
    c.deliver_all_to.ensures.delivered)

pub returns-clause-refused : goal.returns-clause-refused
returns-clause-refused c =
    on_err_weaker c.join.result
    (λ same.
    subst (λ (new : Bucket). DeliversAllTo c.args.bucket.now (leader_of c.args.core.slice) new) (sym same)
    (subst (λ (leader : CoreId). DeliversAllTo c.args.bucket.now leader c.deliver_all_to.new.self)
    (leader_named c.args.core.slice c.leader-leader.result c.leader-leader.ensures.slice c.leader-leader.ensures.first)
    c.deliver_all_to.ensures.delivered)) c.join.ensures.refused
