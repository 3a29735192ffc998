-- The row is filed under one term more, and at last under all.
use Rattle.std.proofs.Common.{List, ◌++◌, map, subst, arith}
use Rattle.sc_record.specs.TermRuns.{term_of}
use Rattle.sc_record.specs.declared.term.Term.{Term}
use Rattle.sc_segment.specs.Index.{IsIndexOf}
use Rattle.sc_snapshot.specs.Postings.{key_order, keyed}
use Rattle.sc_snapshot.proofs.LoopLemmas.{terms-next, lent-more, lent-all}
use Rattle.sc_snapshot.proofs.filing.file_terms.Goals as goal

pub loop-term-preserved : goal.loop-term-preserved
loop-term-preserved c =
    let i = c.loop-term.invariant in
    let before = c.loop-term.yielded in
    let term = c.in-Some.term in
    record {
      whole = lent-more before term c.loop-term.term-iterator c.next.new.self c.args.terms i.whole c.in-Some.ensures.steps;
      index = λ added filed. terms-next c.args.number before term added c.in_ok-key.key c.add.new.self.index c.in_ok-key.ensures
          (c.in_ok-add.ensures.ok (added ++ keyed c.args.number (map term_of before)) (i.index added filed));
      last_row = omega (arith, c.in_ok-add.ensures.last_row);
    }

pub returns-clause-index : goal.returns-clause-index
returns-clause-index c = λ added filed.
    let i = c.loop-term.invariant in
    subst (λ (ts : List Term). IsIndexOf key_order (added ++ keyed c.args.number ts) c.loop-term.builder.index)
    (lent-all c.loop-term.yielded c.loop-term.term-iterator c.args.terms i.whole (c.in-None.ensures.steps).0) (i.index added filed)
