-- One order is carried out, at one stop or at two.
use Rattle.std.proofs.Common.{◌<◌, ℕ, List, refl, ap, sym, ◌∙◌, subst}
use Rattle.sc_router.specs.Route.{bucket_of}
use Rattle.sc_seen.specs.Seen.{Layout}
use Rattle.sc_seen.specs.Moments.{view_of}
use Rattle.sc_update.specs.Updated.{update_moment}
use Rattle.sc_update.specs.Steps.{SettlesFirst}
use Rattle.sc_update.proofs.AnswerLemmas.{carries-refused, carries-accepted}
use Rattle.sc_update.proofs.order.carry_out.Goals as goal

pub returns-then-is_ok-clause-carried : goal.returns-then-is_ok-clause-carried
returns-then-is_ok-clause-carried g c =
    let layout : Layout = g.D.Desk.layout c.args.desk.now in
    let below : bucket_of c.args.order.now.id layout.buckets < layout.buckets =
    subst (λ (n : ℕ). bucket_of c.args.order.now.id n < n) c.buckets-buckets.ensures.count
    (subst (λ (n : ℕ). n < c.buckets-buckets.result) (c.bucket_of-b.ensures.bucket ∙ ap (λ (id : List ℕ). bucket_of id c.buckets-buckets.result) c.as_str.ensures.value) c.bucket_of-b.ensures.below) in
    let between = view_of (g.D.Desk.seen c.accept_at-answer.new.desk) c.accept_at-answer.new.trail.stops in
    let new = view_of (g.D.Desk.seen c.settle_at.new.desk) c.settle_at.new.trail.stops in
    carries-accepted g.C.Clock.gives (g.D.Desk.layout c.args.desk.now) c.args.order.now c.now-now.result
    (update_moment (g.D.Desk.seen c.args.desk.now) c.args.trail.now.stops c.args.clock.now (g.H.Hosts.reached c.args.hosts.now))
    (update_moment (g.D.Desk.seen c.settle_at.new.desk) c.settle_at.new.trail.stops c.now-now.new.self (g.H.Hosts.reached c.args.hosts.now))
    between c.accept_at-answer.result.0 c.accept_at-answer.result.1
    (sym c.is_ok.ensures.value ∙ c.if-is_ok.true) below c.now-now.ensures c.accept_at-answer.ensures.keeps c.accept_at-answer.ensures.tried
    (subst (λ (layout : Layout). SettlesFirst layout between new c.accept_at-answer.result.0)
    c.accept_at-answer.ensures.leaves.layout c.settle_at.ensures.settles) refl

pub returns-else-is_ok-clause-carried : goal.returns-else-is_ok-clause-carried
returns-else-is_ok-clause-carried g c =
    let layout : Layout = g.D.Desk.layout c.args.desk.now in
    let below : bucket_of c.args.order.now.id layout.buckets < layout.buckets =
    subst (λ (n : ℕ). bucket_of c.args.order.now.id n < n) c.buckets-buckets.ensures.count
    (subst (λ (n : ℕ). n < c.buckets-buckets.result) (c.bucket_of-b.ensures.bucket ∙ ap (λ (id : List ℕ). bucket_of id c.buckets-buckets.result) c.as_str.ensures.value) c.bucket_of-b.ensures.below) in
    carries-refused g.C.Clock.gives (g.D.Desk.layout c.args.desk.now) c.args.order.now c.now-now.result
    (update_moment (g.D.Desk.seen c.args.desk.now) c.args.trail.now.stops c.args.clock.now (g.H.Hosts.reached c.args.hosts.now))
    (update_moment (g.D.Desk.seen c.accept_at-answer.new.desk) c.accept_at-answer.new.trail.stops c.now-now.new.self (g.H.Hosts.reached c.args.hosts.now))
    c.accept_at-answer.result.0 c.accept_at-answer.result.1
    (sym c.is_ok.ensures.value ∙ c.if-is_ok.false) below c.now-now.ensures c.accept_at-answer.ensures.keeps c.accept_at-answer.ensures.tried refl
