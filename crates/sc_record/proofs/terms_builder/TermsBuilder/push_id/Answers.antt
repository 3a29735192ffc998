-- The term of the id comes after the terms so far.
use Rattle.std.proofs.Common.{◌≡◌, ◌∙◌, List, suc, ap, arith}
use mathlib.Core.Bool.{false≢true}
use Rattle.sc_record.specs.TermsStates.{TermsState, with_id}
use Rattle.sc_record.specs.declared.term.Term.{Term}
use Rattle.sc_record.specs.declared.term_run.TermRun.{TermRun}
use Rattle.sc_record.proofs.TermRunLemmas.{with_id_read}
use Rattle.sc_record.proofs.terms_builder.TermsBuilder.push_id.Goals as goal

pub invariant_of-self-2 : goal.invariant_of-self-2
invariant_of-self-2 c =
    let at = c.self.inside in
    let new : TermRun = record { count = c.in-Some.count; bytes = c.push.new.self } in
    let count : c.in-Some.count ≡ suc at.run.count = omega (arith, c.in-Some.ensures) in
    let more = with_id_read at.id.now at.doc.now at.field.now at.has_begun at.run new c.self.invariant count c.in_ok-push.ensures.items in
    record { whole = more.whole; begun = λ h. absurd (false≢true h) }

pub returns-clause-ok : goal.returns-clause-ok
returns-clause-ok c =
    let at = c.self.inside in
    let new : TermRun = record { count = c.in-Some.count; bytes = c.push.new.self } in
    let count : c.in-Some.count ≡ suc at.run.count = omega (arith, c.in-Some.ensures) in
    let more = with_id_read at.id.now at.doc.now at.field.now at.has_begun at.run new c.self.invariant count c.in_ok-push.ensures.items in
    let made : List Term → TermsState = λ ts. record { id = at.id.now; fields = at.doc.now; field = at.field.now; terms = ts } in
    ap made more.terms ∙ ap with_id c.self.view_is
