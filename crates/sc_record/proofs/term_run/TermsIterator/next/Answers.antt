-- The first of the terms that are left is lent, and the others are left.
use Rattle.std.proofs.Common.{◌≡◌, ℕ, length, sym, ap, ◌∙◌, arith, rules}
use Rattle.sc_spelling.specs.Reading.{read_of}
use Rattle.sc_record.specs.TermRuns.{Source, term_of, terms_at}
use Rattle.sc_record.proofs.TermRunLemmas.{terms_over, terms_known, terms_next, terms_end}
use Rattle.sc_record.proofs.term_run.TermsIterator.next.Goals as goal

pub term_at-requires : goal.term_at-requires
term_at-requires c =
    let at = c.self.inside in
    terms_known at.field.now (record { id = at.id.now; doc = at.doc.now }) at.left at.rest.now (omega arith) c.self.invariant

pub returns-then-self-eq0-clause-steps : goal.returns-then-self-eq0-clause-steps
returns-then-self-eq0-clause-steps c =
    let at = c.self.inside in
    let source : Source = record { id = at.id.now; doc = at.doc.now } in
    let none : at.left ≡ 0 = omega arith in
    let over = sym c.self.view_is ∙ ap (λ (n : ℕ). read_of (terms_at at.field.now source n at.rest.now)) none ∙ terms_over at.field.now source at.rest.now in
    (over, over)

pub returns-in_err-term-clause-steps : goal.returns-in_err-term-clause-steps
returns-in_err-term-clause-steps c =
    let at = c.self.inside in
    let source : Source = record { id = at.id.now; doc = at.doc.now } in
    absurd (terms_end at.field.now source at.left at.rest.now (omega arith) c.in_err-term.ensures c.self.invariant)

pub invariant_of-self : goal.invariant_of-self
invariant_of-self c =
    let at = c.self.inside in
    let source : Source = record { id = at.id.now; doc = at.doc.now } in
    (terms_next at.field.now source at.left at.rest.now (term_of c.in_ok-term.term, c.in_ok-term.rest.now) (omega arith) c.in_ok-term.ensures c.self.invariant).1

pub returns-clause-steps : goal.returns-clause-steps
returns-clause-steps c =
    let at = c.self.inside in
    let source : Source = record { id = at.id.now; doc = at.doc.now } in
    sym c.self.view_is ∙ (terms_next at.field.now source at.left at.rest.now (term_of c.in_ok-term.term, c.in_ok-term.rest.now) (omega arith) c.in_ok-term.ensures c.self.invariant).0

pub returns-clause-goes : goal.returns-clause-goes
returns-clause-goes c =
    let at = c.self.inside in
    let source : Source = record { id = at.id.now; doc = at.doc.now } in
    let shorter = ap length (sym c.self.view_is ∙ (terms_next at.field.now source at.left at.rest.now (term_of c.in_ok-term.term, c.in_ok-term.rest.now) (omega arith) c.in_ok-term.ensures c.self.invariant).0) in
    search rules
