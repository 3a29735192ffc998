-- One term more is looked at, and at last all.
use Rattle.std.proofs.Common.{List, ◌++◌, map, not, ◌&&◌, ◌||◌, sym, ap, ap₂, subst, ◌∙◌, arith}
use Rattle.std.specs.Str.{bytes_eq}
use Rattle.sc_record.specs.TermRuns.{term_of}
use Rattle.sc_record.specs.declared.term.Term.{Term}
use Rattle.sc_segment.specs.Index.{IsIndexOf}
use Rattle.sc_snapshot.specs.Postings.{is_id_alone, is_id_term, is_no_other_id, key_order, keyed, other_terms}
use Rattle.sc_snapshot.proofs.LoopLemmas.{any-more, all-more, others-next, lent-more, lent-all}
use Rattle.sc_snapshot.proofs.filing.file_others.Goals as goal

pub loop-term-preserved : goal.loop-term-preserved
loop-term-preserved c =
    let i = c.loop-term.invariant in
    let id = c.args.id.now in
    let before = c.loop-term.yielded in
    let term = c.in-Some.term in
    let is_id = c.in_ok-is_id.ensures.is_id in
    record {
      whole = lent-more before term c.loop-term.term-iterator c.next.new.self c.args.terms i.whole c.in-Some.ensures.steps;
      index = λ added filed. others-next c.args.number before term added c.file_other.new.builder.index
          (c.in_ok-is_id.ensures.index (added ++ keyed c.args.number (other_terms (map term_of before))) (i.index added filed));
      last_row = omega (arith, c.in_ok-is_id.ensures.last_row);
      has_id = ap₂ (λ b d. b || d) i.has_id is_id ∙ sym (any-more is_id_term before term);
      has_no_other = ap₂ (λ b d. b && d) i.has_no_other
          (c.is_no_other-has_no_other.ensures ∙ ap (λ b. not b || bytes_eq term.key.now id) is_id)
          ∙ sym (all-more (is_no_other_id id) before term);
    }

pub returns-clause-index : goal.returns-clause-index
returns-clause-index c = λ added filed.
    let i = c.loop-term.invariant in
    subst (λ (ts : List Term). IsIndexOf key_order (added ++ keyed c.args.number (other_terms ts)) c.loop-term.builder.index)
    (lent-all c.loop-term.yielded c.loop-term.term-iterator c.args.terms i.whole (c.in-None.ensures.steps).0) (i.index added filed)

pub returns-clause-alone : goal.returns-clause-alone
returns-clause-alone c =
    let i = c.loop-term.invariant in
    let all = lent-all c.loop-term.yielded c.loop-term.term-iterator c.args.terms i.whole (c.in-None.ensures.steps).0 in
    ap₂ (λ b d. b && d) i.has_id i.has_no_other ∙ ap (is_id_alone c.args.id.now) all
