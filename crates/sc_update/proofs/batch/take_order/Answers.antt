-- One order is taken, and shown where versions are asked for.
use Rattle.std.proofs.Common.{◌≡◌, [], ◌∷◌, sym, ap, ◌∙◌, subst, Option, to_z, of_z, w64, arith}
use Rattle.std.proofs.lemmas.Int.{ints}
use Rattle.sc_journal.specs.Outcomes.{accepted}
use Rattle.sc_seen.specs.Batches.{deletes}
use Rattle.sc_bucket.specs.declared.accept.AcceptFault.{AcceptFault}
use Rattle.sc_update.specs.Updated.{update_moment}
use Rattle.sc_update.specs.declared.shown.Shown.{Shown}
use Rattle.sc_update.specs.Steps.{Takes, ShowsMore, GrowsByOne}
use Rattle.sc_update.proofs.BatchLemmas.{going_on}
use Rattle.sc_update.proofs.TakeLemmas.{takes-none, takes-refused, takes-accepted, shows-nothing, shows-pushed, GrowsByOne-none}
use Rattle.sc_update.proofs.batch.take_order.Goals as goal
use Rattle.sc_update.proofs.batch.take_order.Goals.{in-Some, in-None}

pub returns-in-Err-clause-takes : goal.returns-in-Err-clause-takes
returns-in-Err-clause-takes g c =
    takes-none g.C.Clock.gives (g.D.Desk.layout c.args.desk.now) c.args.flags c.args.order.now
    (update_moment (g.D.Desk.seen c.args.desk.now) c.args.trail.now.stops c.args.clock.now (g.H.Hosts.reached c.args.hosts.now)) c.args.shown.now

pub returns-after-id-clause-takes : goal.returns-after-id-clause-takes
returns-after-id-clause-takes g c =
    takes-accepted g.C.Clock.gives (g.D.Desk.layout c.args.desk.now) c.args.flags c.args.order.now
    (update_moment (g.D.Desk.seen c.args.desk.now) c.args.trail.now.stops c.args.clock.now (g.H.Hosts.reached c.args.hosts.now))
    (update_moment (g.D.Desk.seen c.carry_out.new.desk) c.carry_out.new.trail.stops c.carry_out.new.clock (g.H.Hosts.reached c.carry_out.new.hosts))
    c.args.shown.now c.match-id.shown c.in-Ok-carry_out.accepted c.in-Ok-carry_out.ensures.carried
    (λ answer order_is outcome_is. elim c.match-id.branch [
      | in-Some w ↦
          let back : to_z w64 (of_z w64 c.in-Ok-carry_out.accepted.version) ≡ c.in-Ok-carry_out.accepted.version = omega (arith, ints) in
          subst (λ (more : Shown). ShowsMore c.args.flags.versions (answer ∷ []) c.args.shown.now more) (sym w.shown-is)
          (shows-pushed c.args.flags.versions c.in-Ok.id w.in-Some.id c.args.order.now (to_z w64 (of_z w64 c.in-Ok-carry_out.accepted.version)) answer w.is_deletion.result c.args.shown.now w.push.new.self
          c.in-Ok.ensures.shown c.in-Ok.ensures.only w.in-Some.is order_is (outcome_is ∙ ap accepted (sym back)) w.is_deletion.ensures w.push.ensures.adds w.push.ensures.deletes)
      | in-None w ↦ subst (λ (more : Shown). ShowsMore c.args.flags.versions (answer ∷ []) c.args.shown.now more) (sym w.shown-is)
          (shows-nothing c.args.flags.versions c.in-Ok.id c.args.order.now.id answer c.args.shown.now c.in-Ok.ensures.shown w.in-None.is)
    ])
    (elim c.match-id.branch [
      | in-Some w ↦ subst (λ (more : Shown). GrowsByOne (deletes c.args.order.now.change) c.args.shown.now more) (sym w.shown-is)
          (subst (λ b. GrowsByOne b c.args.shown.now w.push.new.self) w.is_deletion.ensures w.push.ensures.grows)
      | in-None w ↦ subst (λ (more : Shown). GrowsByOne (deletes c.args.order.now.change) c.args.shown.now more) (sym w.shown-is)
          (GrowsByOne-none (deletes c.args.order.now.change) c.args.shown.now)
    ])

pub returns-in-Err-carry_out-clause-takes : goal.returns-in-Err-carry_out-clause-takes
returns-in-Err-carry_out-clause-takes g c =
    subst (λ (end : Option AcceptFault). Takes g.C.Clock.gives (g.D.Desk.layout c.args.desk.now) c.args.flags c.args.order.now
    (going_on (update_moment (g.D.Desk.seen c.args.desk.now) c.args.trail.now.stops c.args.clock.now (g.H.Hosts.reached c.args.hosts.now)) c.args.shown.now)
    (record { moment = update_moment (g.D.Desk.seen c.carry_out.new.desk) c.carry_out.new.trail.stops c.carry_out.new.clock (g.H.Hosts.reached c.carry_out.new.hosts); shown = c.args.shown.now; ended = end }))
    (sym c.ending.ensures)
    (takes-refused g.C.Clock.gives (g.D.Desk.layout c.args.desk.now) c.args.flags c.args.order.now
    (update_moment (g.D.Desk.seen c.args.desk.now) c.args.trail.now.stops c.args.clock.now (g.H.Hosts.reached c.args.hosts.now))
    (update_moment (g.D.Desk.seen c.carry_out.new.desk) c.carry_out.new.trail.stops c.carry_out.new.clock (g.H.Hosts.reached c.carry_out.new.hosts))
    c.args.shown.now c.in-Err-carry_out.fault c.in-Err-carry_out.ensures.carried)
