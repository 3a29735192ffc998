-- One row more is marked as it was, or all of them at once where they are live.
use Rattle.std.proofs.Common.{◌≡◌, ◌+◌, ◌-◌, true, slice_get, refl, sym, ap, subst, ◌∙◌, arith}
use Rattle.sc_snapshot.proofs.SurveyLemmas.{kept-live, surveyed-run}
use Rattle.sc_snapshot.specs.Surveying.{AreSurveyed}
use Rattle.sc_snapshot.proofs.survey.Survey.keep_all.Goals as goal

pub loop-row-preserved : goal.loop-row-preserved
loop-row-preserved c =
    let row = c.loop-row.row in
    let first = c.loop-row.auto.row in
    let within = c.loop-row-test.true in
    let at = c.args.number + (row - c.args.from) in
    let marked = c.in_ok-mark.ensures in
    let i = c.loop-row.invariant in
    record {
      surveyed = λ rows others are is few alike.
          let place : c.args.from + (row - c.args.from) ≡ row = omega (arith, first) in
          let same = sym (ap (slice_get others) place) ∙ alike (row - c.args.from) (omega (arith, first, within)) in
          subst (λ n. AreSurveyed rows n c.mark.new.self) (let more : at + 1 ≡ c.args.number + (row + 1 - c.args.from) = omega (arith, first) in more)
          (marked.surveyed rows (i.surveyed rows others are is few alike) (omega (arith, few, first, within))
          (kept-live c.args.old.now others row (slice_get rows at) c.is_live.result are same c.is_live.ensures));
      size = marked.size ∙ i.size;
      least_hash = marked.least_hash ∙ i.least_hash;
      greatest_hash = marked.greatest_hash ∙ i.greatest_hash;
    }

pub returns-then-are_live-clause-surveyed : goal.returns-then-are_live-clause-surveyed
returns-then-are_live-clause-surveyed c = λ rows others are is few alike.
    let from = c.args.from in
    let live = c.are_live.ensures.0 c.if-are_live.true in
    surveyed-run rows c.args.number (c.args.to - from) c.args.self.now (record c.args.self.now { live_rows = c.put_run.new.list }) is few
    (λ k low. kept-live c.args.old.now others (from + k) (slice_get rows (c.args.number + k)) true are (alike k low) (live (from + k) (omega arith) (omega (arith, low))))
    c.in_ok-put_run.ensures refl

pub returns-clause-surveyed : goal.returns-clause-surveyed
returns-clause-surveyed c = λ rows others are is few alike.
    let first = c.loop-row.auto.row in
    let end = c.loop-row.auto.row-end in
    let last = c.loop-row-test.false in
    let order = c.requires.from in
    let all : c.loop-row.row ≡ c.args.to = omega (arith, first, end, last, order) in
    subst (λ n. AreSurveyed rows (c.args.number + (n - c.args.from)) c.loop-row.self) all (c.loop-row.invariant.surveyed rows others are is few alike)
