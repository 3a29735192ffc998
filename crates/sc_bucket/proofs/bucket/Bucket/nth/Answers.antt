-- The cell is one of the first slice's that has enough left, and past the last slice there is none.
use Rattle.std.proofs.Common.{◌≡◌, ◌∙◌, ◌-◌, ◌+◌, ◌<◌, ◌≤◌, List, length, slice_get, sym, ap, subst, arith}
use Rattle.std.specs.Option.{option_copied}
use Rattle.sc_record.specs.Writes.{Write}
use Rattle.sc_bucket.specs.Serving.{cells_of_leader}
use Rattle.sc_bucket.proofs.ServingLemmas.{IsLeft, are_last_writes, left_after, left_same, left_inside, left_past}
use Rattle.sc_bucket.proofs.TakenLemmas.{active_from_test, inactive_from_test}
use Rattle.sc_bucket.proofs.bucket.Bucket.nth.Goals as goal
use Rattle.sc_bucket.proofs.bucket.Bucket.nth.Goals.{then-eq+else-left-count, else-eq}

pub returns-then-left-count-clause-cell : goal.returns-then-left-count-clause-cell
returns-then-left-count-clause-cell c =
    let b = c.args.self.now in
    let slice = c.unwrap-slice.result.now in
    let there = sym c.get.ensures.slice ∙ ap option_copied c.unwrap-slice.ensures in
    let active = active_from_test slice.state (sym c.eq.ensures ∙ c.if-eq.true) in
    let cells : c.cells_of_leader-cells.result.now.writes ≡ cells_of_leader b.replicas slice = c.cells_of_leader-cells.ensures in
    let few : c.loop-at.left < length (cells_of_leader b.replicas slice) = omega (arith, c.if-left-count.true, c.len-count.ensures.len, ap (λ (these : List Write). length these) cells) in
    c.nth.ensures.cell ∙ ap (λ (these : List Write). slice_get these c.loop-at.left) cells
    ∙ left_inside b c.loop-at.at c.loop-at.left c.args.i slice there active few c.loop-at.invariant

pub returns-then-left-count-clause-each : goal.returns-then-left-count-clause-each
returns-then-left-count-clause-each c = are_last_writes c.args.self.now c.requires

pub loop-at-preserved : goal.loop-at-preserved
loop-at-preserved c =
    let b = c.args.self.now in
    let slice = c.unwrap-slice.result.now in
    let there = sym c.get.ensures.slice ∙ ap option_copied c.unwrap-slice.ensures in
    elim c.if-eq.branch [
      | then-eq+else-left-count w ↦
          let active = active_from_test slice.state (sym c.eq.ensures ∙ w.if-eq.true) in
          let count : w.len-count.result ≡ length (cells_of_leader b.replicas slice) =
          w.len-count.ensures.len ∙ ap (λ (these : List Write). length these) w.cells_of_leader-cells.ensures in
          let enough : length (cells_of_leader b.replicas slice) ≤ c.loop-at.left = omega (arith, w.if-left-count.false, count) in
          subst (λ left. IsLeft b (c.loop-at.at + 1) left c.args.i) (sym (w.left-is ∙ ap (λ n. c.loop-at.left - n) count))
          (left_after b c.loop-at.at c.loop-at.left c.args.i slice there active enough c.loop-at.invariant)
      | else-eq w ↦
          let inactive = inactive_from_test slice.state (sym c.eq.ensures ∙ w.if-eq.false) in
          subst (λ left. IsLeft b (c.loop-at.at + 1) left c.args.i) (sym w.left-is)
          (left_same b c.loop-at.at c.loop-at.left c.args.i slice there inactive c.loop-at.invariant)
    ]

pub returns-clause-cell : goal.returns-clause-cell
returns-clause-cell c =
    left_past c.args.self.now c.loop-at.at c.loop-at.left c.args.i (omega (arith, c.loop-at-test.false, c.len-at-end.ensures)) c.loop-at.invariant

pub returns-clause-each : goal.returns-clause-each
returns-clause-each c = are_last_writes c.args.self.now c.requires
