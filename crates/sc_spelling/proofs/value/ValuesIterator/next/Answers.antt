-- The first of the values that are left is lent, and the others are left.
use Rattle.std.proofs.Common.{◌≡◌, ℕ, length, sym, ap, ◌∙◌, arith, rules}
use Rattle.sc_spelling.specs.Lent.{value_of}
use Rattle.sc_spelling.specs.Reading.{values_at, read_of}
use Rattle.sc_spelling.proofs.LoopLemmas.{values_over, values_next, values_end}
use Rattle.sc_spelling.proofs.KnownLemmas.{value_known}
use Rattle.sc_spelling.proofs.value.ValuesIterator.next.Goals as goal

pub known_value_at-requires : goal.known_value_at-requires
known_value_at-requires c =
    let at = c.self.inside in
    value_known at.kind at.left at.rest.now (omega arith) c.self.invariant

pub returns-then-self-eq0-clause-steps : goal.returns-then-self-eq0-clause-steps
returns-then-self-eq0-clause-steps c =
    let at = c.self.inside in
    let none : at.left ≡ 0 = omega arith in
    let over = sym c.self.view_is ∙ ap (λ (n : ℕ). read_of (values_at at.kind n at.rest.now)) none ∙ values_over at.kind at.rest.now in
    (over, over)

pub returns-in_err-value-clause-steps : goal.returns-in_err-value-clause-steps
returns-in_err-value-clause-steps c =
    let at = c.self.inside in
    absurd (values_end at.kind at.left at.rest.now (omega arith) c.in_err-value.ensures c.self.invariant)

pub invariant_of-self : goal.invariant_of-self
invariant_of-self c =
    let at = c.self.inside in
    (values_next at.kind at.left at.rest.now (value_of c.in_ok-value.value, c.in_ok-value.rest.now) (omega arith) c.in_ok-value.ensures c.self.invariant).1

pub returns-clause-steps : goal.returns-clause-steps
returns-clause-steps c =
    let at = c.self.inside in
    sym c.self.view_is ∙ (values_next at.kind at.left at.rest.now (value_of c.in_ok-value.value, c.in_ok-value.rest.now) (omega arith) c.in_ok-value.ensures c.self.invariant).0

pub returns-clause-goes : goal.returns-clause-goes
returns-clause-goes c =
    let at = c.self.inside in
    let shorter = ap length (sym c.self.view_is ∙ (values_next at.kind at.left at.rest.now (value_of c.in_ok-value.value, c.in_ok-value.rest.now) (omega arith) c.in_ok-value.ensures c.self.invariant).0) in
    search rules
