-- A slice that a split is making has its followers more, and any other none.
use Rattle.std.proofs.Common.{sym, ap, ◌∙◌, cond, ◌-◌, arith}
use Rattle.std.specs.Option.{option_copied}
use Rattle.sc_handover.proofs.CountLemmas.{forming_followers-more}
use Rattle.sc_handover.proofs.aborting.followers_of_subs.Goals as goal
use Rattle.sc_handover.proofs.aborting.followers_of_subs.Goals.{then-is_forming, else-is_forming}

pub loop-at-preserved : goal.loop-at-preserved
loop-at-preserved c =
    let slice = c.unwrap-slice.result.now in
    let there = sym c.get.ensures.slice ∙ ap option_copied c.unwrap-slice.ensures in
    let more = forming_followers-more c.args.slices.now c.loop-at.at slice there in
    elim c.if-is_forming.branch [
      | then-is_forming w ↦
          let forms = ap (λ b. cond b (slice.replicas - 1) 0) (sym c.is_forming.ensures ∙ w.if-is_forming.true) in
          record { count = omega (arith, more, forms, c.loop-at.invariant.count, w.count-is); most = omega (arith, w.count-is, c.loop-at.invariant.most) }
      | else-is_forming w ↦
          let settled = ap (λ b. cond b (slice.replicas - 1) 0) (sym c.is_forming.ensures ∙ w.if-is_forming.false) in
          record { count = omega (arith, more, settled, c.loop-at.invariant.count, w.count-is); most = omega (arith, w.count-is, c.loop-at.invariant.most) }
    ]
