-- Orders are carried out, and buckets are committed after them.
use Rattle.std.proofs.Common.{◌≡◌, ◌∙◌, true, false, refl, sym, ap, subst}
use Rattle.std.specs.Prelude.{is_some, not}
use Rattle.sc_seen.specs.Seen.{Layout}
use Rattle.sc_seen.specs.Moments.{view_of}
use Rattle.sc_update.specs.Updated.{update_moment}
use Rattle.sc_update.specs.declared.end.BatchEnd.{BatchEnd}
use Rattle.sc_collection.specs.Committing.{CommitsAll}
use Rattle.sc_update.proofs.UpdateLemmas.{no_fault, updated-idle, updated-committed}
use Rattle.sc_update.proofs.batch.update.Goals as goal
use Rattle.sc_update.proofs.batch.update.Goals.{else-batch-via-then-batch+else-is_none, else-batch-via-else-batch}

pub returns-then-is_none-clause-updated : goal.returns-then-is_none-clause-updated
returns-then-is_none-clause-updated g c =
    let before : BatchEnd = c.take_orders-end.result in
    let new = view_of (g.D.Desk.seen c.commit_all.new.desk) c.commit_all.new.trail.stops in
    updated-committed g.C.Clock.gives (g.D.Desk.layout c.args.desk.now) c.args.batch.now
    (update_moment (g.D.Desk.seen c.args.desk.now) c.args.trail.now.stops c.args.clock.now (g.H.Hosts.reached c.args.hosts.now))
    (update_moment (g.D.Desk.seen c.take_orders-end.new.desk) c.take_orders-end.new.trail.stops c.take_orders-end.new.clock (g.H.Hosts.reached c.take_orders-end.new.hosts))
    new before (record { adds = before.adds; deletes = before.deletes; fault = c.commit_fault.result }) c.commit_all.result
    c.take_orders-end.ensures.answers
    (no_fault before.fault (c.is_none.ensures ∙ ap not c.if-is_none.true))
    c.if-batch.true
    (subst (λ (layout : Layout). CommitsAll layout layout.buckets (view_of (g.D.Desk.seen c.take_orders-end.new.desk) c.take_orders-end.new.trail.stops) new c.commit_all.result)
    c.take_orders-end.ensures.leaves.layout c.commit_all.ensures.committed)
    refl refl c.commit_fault.ensures

pub returns-else-batch-clause-updated : goal.returns-else-batch-clause-updated
returns-else-batch-clause-updated g c =
    updated-idle g.C.Clock.gives (g.D.Desk.layout c.args.desk.now) c.args.batch.now
    (update_moment (g.D.Desk.seen c.args.desk.now) c.args.trail.now.stops c.args.clock.now (g.H.Hosts.reached c.args.hosts.now))
    (update_moment (g.D.Desk.seen c.take_orders-end.new.desk) c.take_orders-end.new.trail.stops c.take_orders-end.new.clock (g.H.Hosts.reached c.take_orders-end.new.hosts))
    c.take_orders-end.result c.take_orders-end.ensures.answers
    (λ none. elim c.else-batch.branch [
      | else-batch-via-then-batch+else-is_none w ↦
          let some : is_some c.take_orders-end.result.fault ≡ true = w.is_none.ensures ∙ ap not w.if-is_none.false in
          let nothing : is_some c.take_orders-end.result.fault ≡ false = ap is_some none in
          absurd (let both : true ≡ false = sym some ∙ nothing in cc)
      | else-batch-via-else-batch w ↦ w.if-batch.false
    ])
