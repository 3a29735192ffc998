-- The order at the next place is taken, where the worker makes it.
use Rattle.std.proofs.Common.{◌≡◌, ◌∙◌, ℕ, ◌+◌, ◌*◌, ◌/◌, ◌%◌, ◌++◌, ◌∷◌, [], List, refl, sym, ap}
use Rattle.std.proofs.lemmas.Bool.{eq-eqb, ne_eqb}
use Rattle.sc_schema.specs.Documents.{OrderContent, content_of}
use Rattle.sc_workload.specs.Workload.{Workload, number_at}
use Rattle.sc_workload.proofs.PlaceLemmas.{made_before, made_by_other, made_more, number_is, order_is}
use Rattle.sc_workload.proofs.share.orders.Goals as goal
use Rattle.sc_workload.proofs.share.orders.Goals.{then-number-workers+in_ok-order_at+in_ok-push, else-number-workers}

pub loop-place-preserved : goal.loop-place-preserved
loop-place-preserved c =
    let workload : Workload = record { seed = c.args.seed; count = c.args.count } in
    let place = c.loop-place.place in
    let first : ℕ = c.args.seed % c.from.result in
    let number : ℕ = (first + 7 * place) % ((c.args.count + 1) / 2) in
    let same : number ≡ number_at workload place = number_is workload place first number (ap (λ (n : ℕ). c.args.seed % n) c.from.ensures) refl in
    elim c.if-number-workers.branch [
      | then-number-workers+in_ok-order_at+in_ok-push w ↦
          rw w.batches-is (record {
            orders = w.in_ok-push.ensures.pushed
                ∙ ap (λ (before : List OrderContent). before ++ content_of w.in_ok-order_at.field-0 ∷ []) c.loop-place.invariant.orders
                ∙ ap (λ (order : OrderContent). made_before workload c.args.worker c.args.workers place ++ order ∷ [])
                (w.in_ok-order_at.ensures ∙ order_is workload place number same)
                ∙ sym (made_more workload c.args.worker c.args.workers place
                (eq-eqb (number_at workload place % c.args.workers) c.args.worker (ap (λ (n : ℕ). n % c.args.workers) (sym same) ∙ w.if-number-workers.true)));
            filling = w.in_ok-push.ensures.filling;
          })
      | else-number-workers w ↦
          rw w.batches-is (record {
            orders = c.loop-place.invariant.orders
                ∙ sym (made_by_other workload c.args.worker c.args.workers place
                (ne_eqb (number_at workload place % c.args.workers) c.args.worker (λ e. w.if-number-workers.false (ap (λ (n : ℕ). n % c.args.workers) same ∙ e))));
            filling = c.loop-place.invariant.filling;
          })
    ]
