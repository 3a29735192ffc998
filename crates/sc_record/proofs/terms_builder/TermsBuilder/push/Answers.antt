-- A key of the field comes after the terms so far.
use Rattle.std.proofs.Common.{◌≡◌, ◌∙◌, ℕ, List, Option, suc, ap, subst, arith}
use Rattle.std.specs.Option.{option_map}
use Rattle.sc_record.specs.TermRuns.{AddsTerm}
use Rattle.sc_record.specs.TermsStates.{TermsState, with_key}
use Rattle.sc_record.specs.declared.term.Term.{Term}
use Rattle.sc_record.specs.declared.term_push.Placed.{Placed}
use Rattle.sc_record.specs.declared.term_run.TermRun.{TermRun}
use Rattle.sc_record.proofs.TermRunLemmas.{with_key_read}
use Rattle.sc_record.proofs.terms_builder.TermsBuilder.push.Goals as goal

pub invariant_of-self-2 : goal.invariant_of-self-2
invariant_of-self-2 c =
    let at = c.self.inside in
    let new : TermRun = record { count = c.in-Some.count; bytes = c.push_term.new.out } in
    let count : c.in-Some.count ≡ suc at.run.count = omega (arith, c.in-Some.ensures) in
    let key : List ℕ = c.args.key.now in
    let name : Option (List ℕ) = option_map (λ (placed : Placed). placed.text.now) c.name_unless-name.result in
    let added = subst (λ (doc : List ℕ). AddsTerm doc name key at.run.bytes.items c.push_term.new.out.items) c.bytes.ensures.value c.in_ok-push_term.ensures.ok in
    let more = with_key_read at.id.now at.doc.now at.field.now at.has_begun name key at.run new c.self.invariant c.name_unless-name.ensures added count in
    record { whole = more.whole; begun = λ h. more.last }

pub returns-clause-ok : goal.returns-clause-ok
returns-clause-ok c =
    let at = c.self.inside in
    let new : TermRun = record { count = c.in-Some.count; bytes = c.push_term.new.out } in
    let count : c.in-Some.count ≡ suc at.run.count = omega (arith, c.in-Some.ensures) in
    let key : List ℕ = c.args.key.now in
    let name : Option (List ℕ) = option_map (λ (placed : Placed). placed.text.now) c.name_unless-name.result in
    let added = subst (λ (doc : List ℕ). AddsTerm doc name key at.run.bytes.items c.push_term.new.out.items) c.bytes.ensures.value c.in_ok-push_term.ensures.ok in
    let more = with_key_read at.id.now at.doc.now at.field.now at.has_begun name key at.run new c.self.invariant c.name_unless-name.ensures added count in
    let made : List Term → TermsState = λ ts. record { id = at.id.now; fields = at.doc.now; field = at.field.now; terms = ts } in
    ap made more.terms ∙ ap (with_key key) c.self.view_is
