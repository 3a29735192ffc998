-- The slice is found, and each of its followers is looked at.
use Rattle.std.proofs.Common.{◌≡◌, ℕ, ◌-◌, cond, not, sym, ap, ◌∙◌, arith}
use Rattle.sc_record.specs.declared.slice.SliceId.{SliceId}
use Rattle.sc_cluster.specs.declared.slice.Slice.{Slice}
use Rattle.sc_handover.proofs.CountLemmas.{count_first_up, count_first_up-more}
use Rattle.sc_handover.proofs.SubLemmas.{found_by_id}
use Rattle.sc_handover.proofs.switching.followers_up.Goals as goal
use Rattle.sc_handover.proofs.switching.followers_up.Goals.{then-not-is_down, else-not-is_down}

pub loop-below-preserved : goal.loop-below-preserved
loop-below-preserved c =
    let entries = c.args.bucket.now.journal.entries in
    let so_far = c.loop-below.invariant in
    let more = count_first_up-more entries c.args.slice c.loop-below.below c.loop-below.auto.below in
    elim c.if-not-is_down.branch [
      | then-not-is_down w ↦
          let one = ap (λ b. cond {A = ℕ} (not b) 1 0) (sym c.is_down.ensures ∙ w.if-not-is_down.true) in
          record { count = omega (arith, more, one, so_far.count, w.count-is); most = omega (arith, w.count-is, so_far.most) }
      | else-not-is_down w ↦
          let none = ap (λ b. cond {A = ℕ} (not b) 1 0) (sym c.is_down.ensures ∙ w.if-not-is_down.false) in
          record { count = omega (arith, more, none, so_far.count, w.count-is); most = omega (arith, w.count-is, so_far.most) }
    ]

pub returns : goal.returns
returns c slice there named =
    let entries = c.args.bucket.now.journal.entries in
    let found = c.unwrap.result.now in
    let all : c.loop-below.below ≡ found.replicas =
    omega (arith, c.loop-below-test.false, c.loop-below.auto.below-end found.replicated) in
    let same : found ≡ slice = found_by_id c.args.bucket.now.map c.args.slice c.by_id.result c.unwrap.result slice
    c.by_id.ensures.map c.by_id.ensures.slice c.unwrap.ensures there named in
    c.loop-below.invariant.count ∙ ap (λ n. count_first_up entries c.args.slice (n - 1)) all
    ∙ ap (λ (s : Slice). count_first_up entries c.args.slice (s.replicas - 1)) same
    ∙ ap (λ (id : SliceId). count_first_up entries id (slice.replicas - 1)) (sym named)
