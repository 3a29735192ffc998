-- The first of the fields that are left is lent, and the others are left.
use Rattle.std.proofs.Common.{◌≡◌, ℕ, length, sym, ap, ◌∙◌, arith, rules}
use Rattle.sc_spelling.specs.Lent.{field_of}
use Rattle.sc_spelling.specs.Reading.{fields_at, read_of}
use Rattle.sc_spelling.proofs.LoopLemmas.{fields_over, fields_next, fields_end}
use Rattle.sc_spelling.proofs.KnownLemmas.{field_known}
use Rattle.sc_spelling.proofs.field.FieldsIterator.next.Goals as goal

pub known_field_after-requires : goal.known_field_after-requires
known_field_after-requires c =
    let at = c.self.inside in
    field_known at.before.now at.left at.rest.now (omega arith) c.self.invariant

pub returns-then-self-eq0-clause-steps : goal.returns-then-self-eq0-clause-steps
returns-then-self-eq0-clause-steps c =
    let at = c.self.inside in
    let none : at.left ≡ 0 = omega arith in
    let over = sym c.self.view_is ∙ ap (λ (n : ℕ). read_of (fields_at at.before.now n at.rest.now)) none ∙ fields_over at.before.now at.rest.now in
    (over, over)

pub returns-in_err-field-clause-steps : goal.returns-in_err-field-clause-steps
returns-in_err-field-clause-steps c =
    let at = c.self.inside in
    absurd (fields_end at.before.now at.left at.rest.now (omega arith) c.in_err-field.ensures c.self.invariant)

pub invariant_of-self : goal.invariant_of-self
invariant_of-self c =
    let at = c.self.inside in
    (fields_next at.before.now at.left at.rest.now (field_of c.in_ok-field.field, c.in_ok-field.rest.now) (omega arith) c.in_ok-field.ensures c.self.invariant).1

pub returns-clause-steps : goal.returns-clause-steps
returns-clause-steps c =
    let at = c.self.inside in
    sym c.self.view_is ∙ (fields_next at.before.now at.left at.rest.now (field_of c.in_ok-field.field, c.in_ok-field.rest.now) (omega arith) c.in_ok-field.ensures c.self.invariant).0

pub returns-clause-goes : goal.returns-clause-goes
returns-clause-goes c =
    let at = c.self.inside in
    let shorter = ap length (sym c.self.view_is ∙ (fields_next at.before.now at.left at.rest.now (field_of c.in_ok-field.field, c.in_ok-field.rest.now) (omega arith) c.in_ok-field.ensures c.self.invariant).0) in
    search rules
