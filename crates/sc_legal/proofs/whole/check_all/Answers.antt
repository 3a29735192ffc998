-- An entry that may not follow ends the search, and each other is passed.
use Rattle.std.proofs.Common.{◌∙◌, List, ap, subst}
use Rattle.std.specs.Prelude.{Ok}
use Rattle.sc_cluster.specs.declared.slice.Slice.{Slice}
use Rattle.sc_journal.specs.Legal.{IsLegal}
use Rattle.sc_legal.specs.Passed.{Passed}
use Rattle.sc_legal.proofs.WholeLemmas.{not_legal, breaks_at, passed_more}
use Rattle.sc_legal.proofs.whole.check_all.Goals as goal

pub returns-then-not-branch-clause-first : goal.returns-then-not-branch-clause-first
returns-then-not-branch-clause-first c =
    let (same, are, legal) = c.loop-place.invariant in
    breaks_at c.loop-place.checker.first c.args.map.now c.args.entries.now c.loop-place.checker.journal c.loop-place.place c.index-entries-place.result
    c.in_ok-may_follow.field-0 same are legal c.loop-place-test.true c.index-entries-place.is c.in_ok-may_follow.ensures.exactly c.if-not-branch.true

pub returns-then-not-branch-clause-legal : goal.returns-then-not-branch-clause-legal
returns-then-not-branch-clause-legal c =
    let (same, are, legal) = c.loop-place.invariant in
    let breaks = breaks_at c.loop-place.checker.first c.args.map.now c.args.entries.now c.loop-place.checker.journal c.loop-place.place c.index-entries-place.result
    c.in_ok-may_follow.field-0 same are legal c.loop-place-test.true c.index-entries-place.is c.in_ok-may_follow.ensures.exactly c.if-not-branch.true in
    (λ is. absurd (cc), λ whole. absurd (not_legal c.args.map.now c.args.entries.now c.loop-place.place breaks whole))

pub loop-place-preserved : goal.loop-place-preserved
loop-place-preserved c =
    let (same, are, legal) = c.loop-place.invariant in
    let new = c.in_ok-may_follow.ensures.passed (ap Ok c.if-not-branch.false) in
    let first = ap (λ (p : Passed). p.first) new ∙ same in (
      first,
      ap (λ (p : Passed). p.journal) new
          ∙ passed_more c.args.entries.now c.loop-place.checker.journal c.loop-place.place c.index-entries-place.result are c.loop-place-test.true
          c.index-entries-place.is,
      subst (λ (slices : List Slice). IsLegal slices c.may_follow.new.self.journal) first c.may_follow.ensures.legal,
    )
