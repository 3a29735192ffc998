-- What is found of each operand stands beside what was found to the left of it, once that is joined.
use Rattle.std.proofs.Common.{◌-◌, ◌∙◌, ap, refl, arith}
use Rattle.sc_eval.specs.Criteria.{Criterion, criterion_of}
use Rattle.sc_eval.specs.Operands.{operand_criterion, criterion_with}
use Rattle.sc_eval.specs.Numbers.{numbers_of, is_match}
use Rattle.sc_eval.specs.declared.numbers.Numbers.TheVariants.{Lent}
use Rattle.sc_eval.specs.declared.operand.Operand.{Operand}
use Rattle.sc_eval.specs.declared.unjoined.Unjoined.TheVariants.{One}
use Rattle.sc_eval.proofs.OperandLemmas.{not-smaller, all-numbers}
use Rattle.sc_eval.proofs.StepLemmas.{no-steps, one-list, first-found, first-steps, so-far, right-steps, right-found, right-less, left-stays}
use Rattle.sc_eval.proofs.matching.+unjoined_operands.Goals.{in-All, in-Leaf, in-Not+in_ok-unjoined_operands-in-Not+in_ok-left_out-in-Not}
use Rattle.sc_eval.proofs.matching.+unjoined_operands.Goals as goal

pub unjoined_operands-requires : goal.unjoined_operands-requires
unjoined_operands-requires g t c κs within =
    let whole = criterion_of c.args.query.now in
    let waiting = c.first_operand.new.waiting.items in
    let less = not-smaller waiting whole (criterion_of c.in-Not.operand.now)
    (c.in_ok-first_operand.ensures ∙ ap (λ (o : Operand). criterion_with waiting (operand_criterion o)) c.in-Not.is) in
    (omega (arith, less, c.decreases), (within, c.requires))

pub returns-in_err-unjoined_operands-in-Not-clause-bound : goal.returns-in_err-unjoined_operands-in-Not-clause-bound
returns-in_err-unjoined_operands-in-Not-clause-bound g t c =
    let waiting = c.first_operand.new.waiting.items in
    first-steps c.args.snapshot.now.rows (criterion_of c.args.query.now) (Criterion.Not (criterion_of c.in-Not.operand.now)) waiting
    (c.unjoined_operands.new.steps - c.args.steps.now)
    (c.in_ok-first_operand.ensures ∙ ap (λ (o : Operand). criterion_with waiting (operand_criterion o)) c.in-Not.is)
    c.unjoined_operands.ensures.bound

pub returns-in_err-left_out-in-Not-clause-bound : goal.returns-in_err-left_out-in-Not-clause-bound
returns-in_err-left_out-in-Not-clause-bound g t c =
    let waiting = c.first_operand.new.waiting.items in
    first-steps c.args.snapshot.now.rows (criterion_of c.args.query.now) (Criterion.Not (criterion_of c.in-Not.operand.now)) waiting
    (c.unjoined_operands.new.steps - c.args.steps.now)
    (c.in_ok-first_operand.ensures ∙ ap (λ (o : Operand). criterion_with waiting (operand_criterion o)) c.in-Not.is)
    c.unjoined_operands.ensures.bound

pub loop-how-init : goal.loop-how-init
loop-how-init g t c =
    let rows = c.args.snapshot.now.rows in
    let whole = criterion_of c.args.query.now in
    let waiting = c.first_operand.new.waiting.items in
    let start = c.args.steps.now in
    let after = c.match-branch-2.steps in
    let found = c.match-branch-2.found in
    elim c.match-branch-2.branch [
      | in-All w ↦ record {
        far = first-found rows whole Criterion.All waiting (One (Lent w.live.result)) found start start after
            (c.in_ok-first_operand.ensures ∙ ap (λ (o : Operand). criterion_with waiting (operand_criterion o)) w.in-All.is)
            (one-list rows (is_match Criterion.All) (Lent w.live.result)
            (all-numbers rows w.live.result.now w.live.ensures.members w.live.ensures.ascending))
            w.found-is (no-steps rows Criterion.All start start refl) w.steps-is;
        counted = omega (arith, w.steps-is);
      }
      | in-Leaf w ↦
          let leaf = Criterion.Leaf w.in-Leaf.key.now.term in
          record {
            far = first-found rows whole leaf waiting (One w.numbers_with.result) found start w.numbers_with.new.steps after
                (c.in_ok-first_operand.ensures ∙ ap (λ (o : Operand). criterion_with waiting (operand_criterion o)) w.in-Leaf.is)
                (one-list rows (is_match leaf) w.numbers_with.result w.numbers_with.ensures.numbers)
                w.found-is w.numbers_with.ensures.bound w.steps-is;
            counted = omega (arith, w.steps-is, w.numbers_with.ensures.counted);
          }
      | in-Not+in_ok-unjoined_operands-in-Not+in_ok-left_out-in-Not w ↦
          let operand = criterion_of w.in-Not.operand.now in
          record {
            far = first-found rows whole (Criterion.Not operand) waiting w.all_but-found.result found start w.unjoined_operands.new.steps after
                (c.in_ok-first_operand.ensures ∙ ap (λ (o : Operand). criterion_with waiting (operand_criterion o)) w.in-Not.is)
                (w.all_but-found.ensures operand
                (w.in_ok-unjoined_operands-in-Not.ensures.numbers.joined (numbers_of w.in_ok-left_out-in-Not.left_out) w.in_ok-left_out-in-Not.ensures))
                w.found-is w.unjoined_operands.ensures.bound w.steps-is;
            counted = omega (arith, w.steps-is, w.unjoined_operands.ensures.counted);
          }
    ]

pub joined-requires-in-Some : goal.joined-requires-in-Some
joined-requires-in-Some g t c = c.loop-how.invariant.far.found.ready

pub returns-in_err-left-clause-bound : goal.returns-in_err-left-clause-bound
returns-in_err-left-clause-bound g t c =
    so-far c.args.snapshot.now.rows (criterion_of c.args.query.now) c.loop-how.waiting.items c.loop-how.found
    (c.loop-how.steps - c.args.steps.now) c.loop-how.invariant.far

pub unjoined_operands-requires-else-stays_empty : goal.unjoined_operands-requires-else-stays_empty
unjoined_operands-requires-else-stays_empty g t c κs within =
    let rows = c.args.snapshot.now.rows in
    let less = right-less rows (criterion_of c.args.query.now) c.loop-how.waiting.items c.pop.new.self.items c.in-Some.field-0 c.loop-how.found
    c.args.steps.now c.loop-how.steps c.loop-how.steps c.loop-how.invariant.far c.in-Some.ensures.items
    c.loop-how.invariant.counted (omega arith) (no-steps rows (criterion_of c.in-Some.field-0.operand.now) c.loop-how.steps c.loop-how.steps refl) in
    (omega (arith, less, c.decreases), (within, c.requires))

pub returns-in_err-unjoined_operands-clause-bound : goal.returns-in_err-unjoined_operands-clause-bound
returns-in_err-unjoined_operands-clause-bound g t c =
    right-steps c.args.snapshot.now.rows (criterion_of c.args.query.now) c.loop-how.waiting.items c.pop.new.self.items c.in-Some.field-0
    c.loop-how.found c.args.steps.now c.loop-how.steps c.unjoined_operands-else-stays_empty.new.steps c.loop-how.invariant.far
    c.in-Some.ensures.items c.loop-how.invariant.counted c.unjoined_operands-else-stays_empty.ensures.counted c.unjoined_operands-else-stays_empty.ensures.bound

pub returns-in_err-right-clause-bound : goal.returns-in_err-right-clause-bound
returns-in_err-right-clause-bound g t c =
    right-steps c.args.snapshot.now.rows (criterion_of c.args.query.now) c.loop-how.waiting.items c.pop.new.self.items c.in-Some.field-0
    c.loop-how.found c.args.steps.now c.loop-how.steps c.unjoined_operands-else-stays_empty.new.steps c.loop-how.invariant.far
    c.in-Some.ensures.items c.loop-how.invariant.counted c.unjoined_operands-else-stays_empty.ensures.counted c.unjoined_operands-else-stays_empty.ensures.bound

pub loop-how-preserved-then-stays_empty : goal.loop-how-preserved-then-stays_empty
loop-how-preserved-then-stays_empty g t c =
    let rows = c.args.snapshot.now.rows in
    record {
      far = left-stays rows (criterion_of c.args.query.now) c.loop-how.waiting.items c.pop.new.self.items c.in-Some.field-0
          c.loop-how.found c.args.steps.now c.loop-how.steps c.loop-how.steps c.loop-how.invariant.far
          c.in-Some.ensures.items c.loop-how.invariant.counted (omega arith)
          (no-steps rows (criterion_of c.in-Some.field-0.operand.now) c.loop-how.steps c.loop-how.steps refl)
          c.in_ok-left.left c.in_ok-left.ensures (c.stays_empty.ensures c.if-stays_empty.true);
      counted = c.loop-how.invariant.counted;
    }

pub loop-how-preserved : goal.loop-how-preserved
loop-how-preserved g t c = record {
  far = right-found c.args.snapshot.now.rows (criterion_of c.args.query.now) c.loop-how.waiting.items c.pop.new.self.items c.in-Some.field-0
      c.loop-how.found c.args.steps.now c.loop-how.steps c.unjoined_operands-else-stays_empty.new.steps c.loop-how.invariant.far
      c.in-Some.ensures.items c.loop-how.invariant.counted c.unjoined_operands-else-stays_empty.ensures.counted c.unjoined_operands-else-stays_empty.ensures.bound
      c.in_ok-left.left c.in_ok-right.right c.in_ok-left.ensures
      (c.in_ok-unjoined_operands.ensures.numbers.joined (numbers_of c.in_ok-right.right) c.in_ok-right.ensures);
  counted = omega (arith, c.loop-how.invariant.counted, c.unjoined_operands-else-stays_empty.ensures.counted);
}
