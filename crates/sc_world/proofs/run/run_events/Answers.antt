-- Each event comes, or is passed over, and where memory runs out the run ends.
use Rattle.std.proofs.Common.{◌≡◌, ◌+◌, ◌∙◌, Some, length, take, slice_get, sym, ap, subst, arith}
use Rattle.std.proofs.lemmas.Bool.{false≢true}
use Rattle.sc_bucket.specs.Sound.{IsSound}
use Rattle.sc_bucket.specs.declared.bucket.Bucket.{Bucket}
use Rattle.sc_world.proofs.StepLemmas.{HasRun, HasRun-stepped, HasRun-passed_over, ran_all, ran_out_at, on_err, event_at}
use Rattle.sc_world.proofs.run.run_events.Goals as goal
use Rattle.sc_world.proofs.run.run_events.Goals.{then-can+in_ok-step, else-can}

pub returns-in_err-step-clause-ran_out : goal.returns-in_err-step-clause-ran_out
returns-in_err-step-clause-ran_out c =
    let run = c.args.events.now in
    let at = c.loop-event.event-index in
    let there : slice_get run at ≡ Some c.event-item.result =
    event_at run c.as_slice-event-items.result.now at c.event-item.result c.as_slice-event-items.ensures c.loop-event-test.true (sym c.event-item.is) in
    on_err c.from_residual.result
    (ran_out_at c.args.bucket.now run at c.event-item.result c.loop-event.bucket c.step.new.bucket there c.loop-event.invariant.1
    (c.can.ensures.0 c.if-can.true) c.in_err-step.ensures.out)

pub loop-event-preserved : goal.loop-event-preserved
loop-event-preserved c =
    let old = c.args.bucket.now in
    let run = c.args.events.now in
    let at = c.loop-event.event-index in
    let between = c.loop-event.bucket in
    let there : slice_get run at ≡ Some c.event-item.result =
    event_at run c.as_slice-event-items.result.now at c.event-item.result c.as_slice-event-items.ensures c.loop-event-test.true (sym c.event-item.is) in
    elim c.if-can.branch [
      | then-can+in_ok-step w ↦
          subst (λ (b : Bucket). IsSound b × HasRun old (take (at + 1) run) b) (sym w.bucket-is) (
            w.in_ok-step.ensures.sound,
            HasRun-stepped old run at c.event-item.result between w.step.new.bucket there c.loop-event.invariant.1
                (c.can.ensures.0 w.if-can.true) w.in_ok-step.ensures.stepped,
          )
      | else-can w ↦
          subst (λ (b : Bucket). IsSound b × HasRun old (take (at + 1) run) b) (sym w.bucket-is) (
            c.loop-event.invariant.0,
            HasRun-passed_over old run at c.event-item.result between there c.loop-event.invariant.1
                (λ can. false≢true (sym w.if-can.false ∙ c.can.ensures.1 can)),
          )
    ]

pub returns-clause-ran : goal.returns-clause-ran
returns-clause-ran c =
    ran_all c.args.bucket.now c.args.events.now c.loop-event.event-index c.loop-event.bucket
    (omega (arith, c.loop-event-test.false, c.loop-event.auto.event-index-end, ap length c.as_slice-event-items.ensures))
    c.loop-event.invariant.1
