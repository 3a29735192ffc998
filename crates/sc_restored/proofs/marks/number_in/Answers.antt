-- One entry more is gone over.
use Rattle.std.proofs.Common.{◌≡◌, ◌<◌, ◌+◌, ◌-◌, ◌∙◌, ℕ, length, take, sym, subst, arith}
use Rattle.sc_journal.specs.Seats.{seats}
use Rattle.sc_restored.proofs.MarkLemmas.{number_before, number_here, all_taken}
use Rattle.sc_restored.proofs.marks.number_in.Goals as goal

pub loop-left-init : goal.loop-left-init
loop-left-init c = (omega arith, all_taken c.args.entries.now c.args.seat.slice c.args.seat.replica)

pub loop-left-preserved : goal.loop-left-preserved
loop-left-preserved c =
    let entries = c.args.entries.now in
    let slice = c.args.seat.slice in
    let number : ℕ = seats entries slice c.args.seat.replica in
    let at : ℕ = c.loop-left.at in
    let left : ℕ = c.loop-left.left - 1 in
    let back : c.loop-left.left ≡ left + 1 = omega (arith, c.loop-left-test.true) in
    let below : left < length entries = omega (arith, c.loop-left-test.true, c.loop-left.invariant.0) in (
      omega (arith, c.loop-left.invariant.0),
      number_before entries left c.index-entries-left.result slice at c.seat_before-at.result number below c.index-entries-left.is
          (sym c.resets.ensures ∙ c.if-resets.false) c.seat_before-at.ensures
          (subst (λ (n : ℕ). seats (take n entries) slice at ≡ number) back c.loop-left.invariant.1),
    )

pub returns-then-resets : goal.returns-then-resets
returns-then-resets c =
    let entries = c.args.entries.now in
    let slice = c.args.seat.slice in
    let number : ℕ = seats entries slice c.args.seat.replica in
    let at : ℕ = c.loop-left.at in
    let left : ℕ = c.loop-left.left - 1 in
    let back : c.loop-left.left ≡ left + 1 = omega (arith, c.loop-left-test.true) in
    let below : left < length entries = omega (arith, c.loop-left-test.true, c.loop-left.invariant.0) in
    number_here entries left c.index-entries-left.result slice at number below c.index-entries-left.is (sym c.resets.ensures ∙ c.if-resets.true)
    (subst (λ (n : ℕ). seats (take n entries) slice at ≡ number) back c.loop-left.invariant.1)

pub returns : goal.returns
returns c =
    let entries = c.args.entries.now in
    let slice = c.args.seat.slice in
    let number : ℕ = seats entries slice c.args.seat.replica in
    let at : ℕ = c.loop-left.at in
    let none : c.loop-left.left ≡ 0 = omega (arith, c.loop-left-test.false) in
    subst (λ (n : ℕ). seats (take n entries) slice at ≡ number) none c.loop-left.invariant.1
