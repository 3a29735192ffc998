-- The next follower is counted where it is not down.
use Rattle.std.proofs.Common.{◌≡◌, ◌∙◌, ◌+◌, ◌-◌, ℕ, Bool, true, false, not, cond, count_by, sym, ap, arith}
use Rattle.sc_restored.proofs.OwingLemmas.{is_up, followers_to, up_next}
use Rattle.sc_restored.proofs.owing.followers_up.Goals as goal
use Rattle.sc_restored.proofs.owing.followers_up.Goals.{then-not-is_down, else-not-is_down}

pub loop-below-preserved : goal.loop-below-preserved
loop-below-preserved c =
    let id = c.args.slice.now.id.0 in
    let marks = c.args.marks.now in
    let below = c.loop-below.below in
    let up = c.loop-below.up in
    let next = up_next id below marks up c.loop-below.invariant.counted in
    elim c.if-not-is_down.branch [
      | then-not-is_down w ↦
          let test : is_up marks (id, below + 2) ≡ true = ap not (sym c.is_down.ensures ∙ w.if-not-is_down.true) in
          record {
            counted = w.up-is ∙ ap (λ (b : Bool). up + cond b 1 0) (sym test) ∙ next;
            few = omega (arith, w.up-is, c.loop-below.invariant.few);
          }
      | else-not-is_down w ↦
          let test : is_up marks (id, below + 2) ≡ false = ap not (sym c.is_down.ensures ∙ w.if-not-is_down.false) in
          let same : up ≡ up + 0 = omega arith in
          record {
            counted = w.up-is ∙ same ∙ ap (λ (b : Bool). up + cond b 1 0) (sym test) ∙ next;
            few = omega (arith, w.up-is, c.loop-below.invariant.few);
          }
    ]

pub returns-clause-count : goal.returns-clause-count
returns-clause-count c =
    let all : c.loop-below.below ≡ c.args.slice.now.replicas - 1 = omega (arith, c.loop-below-test.false, c.loop-below.auto.below-end) in
    c.loop-below.invariant.counted ∙ ap (λ (n : ℕ). count_by (is_up c.args.marks.now) (followers_to c.args.slice.now.id.0 n)) all
