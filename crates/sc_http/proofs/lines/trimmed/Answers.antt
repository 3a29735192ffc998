-- The blanks at the front are passed first, then those at the back.
use Rattle.std.proofs.Common.{◌≡◌, ◌≤◌, ◌-◌, ℕ, List, [], length, reverse, slice_range, sym, ap, ◌∙◌, arith}
use Rattle.std.proofs.lemmas.List.{reverse-reverse, take_all}
use Rattle.httparse.specs.Grammar.{skip_ows, trim_ows}
use Rattle.httparse.proofs.TrimLemmas.{skip_ows_yes, skip_ows_no, slice_first, slice_last, slice_empty}
use Rattle.sc_http.proofs.lines.trimmed.Goals.{then-loop-start-test+else-is_blank, else-loop-start-test, then-loop-end-test+else-is_blank-2, else-loop-end-test}
use Rattle.sc_http.proofs.lines.trimmed.Goals as goal

pub loop-start-init : goal.loop-start-init
loop-start-init c =
    let all : length c.args.bytes.now ≤ length c.args.bytes.now - 0 = omega arith in
    record {
      ordered = omega arith;
      within = omega arith;
      skipped = ap skip_ows (sym (take_all (length c.args.bytes.now - 0) c.args.bytes.now all));
    }

pub loop-start-preserved : goal.loop-start-preserved
loop-start-preserved c = record {
  ordered = omega arith;
  within = c.loop-start.invariant.within;
  skipped = c.loop-start.invariant.skipped ∙ skip_ows_yes (slice_first _ _ _ c.loop-start-test.true c.loop-start.invariant.within) c.if-is_blank.ensures;
}

pub loop-end-init : goal.loop-end-init
unfolding trim_ows
loop-end-init c =
    let here = slice_range c.args.bytes.now c.loop-start.start (length c.args.bytes.now) in
    let inside : (length c.args.bytes.now) ≤ length c.args.bytes.now = omega arith in
    let stays : skip_ows here ≡ here =
    elim c.loop-start-test.branch [
      | then-loop-start-test+else-is_blank w ↦
          let first = slice_first _ _ _ w.loop-start-test.true inside in
          skip_ows_no first w.if-is_blank.ensures
      | else-loop-start-test w ↦
          let empty = slice_empty c.args.bytes.now c.loop-start.start (length c.args.bytes.now) (omega arith) inside in
          ap skip_ows empty ∙ sym empty
    ] in
    record {
      ordered = omega arith;
      within = omega arith;
      trimmed = ap (λ (t : List ℕ). reverse (skip_ows (reverse t))) (c.loop-start.invariant.skipped ∙ stays);
    }

pub loop-end-preserved : goal.loop-end-preserved
loop-end-preserved c =
    let last = slice_last c.args.bytes.now _ _ c.loop-end-test.true c.loop-end.invariant.within in
    record {
      ordered = omega arith;
      within = omega arith;
      trimmed = c.loop-end.invariant.trimmed ∙ ap reverse (skip_ows_yes last c.if-is_blank-2.ensures);
    }

pub returns : goal.returns
returns c =
    let here = slice_range c.args.bytes.now c.loop-start.start c.loop-end.end in
    let stays : skip_ows (reverse here) ≡ reverse here =
    elim c.loop-end-test.branch [
      | then-loop-end-test+else-is_blank-2 w ↦
          let last = slice_last c.args.bytes.now _ _ w.loop-end-test.true c.loop-end.invariant.within in
          skip_ows_no last w.if-is_blank-2.ensures
      | else-loop-end-test w ↦
          let empty : here ≡ [] = slice_empty c.args.bytes.now c.loop-start.start c.loop-end.end (omega arith) c.loop-end.invariant.within in
          ap (λ (t : List ℕ). skip_ows (reverse t)) empty ∙ sym (ap reverse empty)
    ] in
    sym (c.loop-end.invariant.trimmed ∙ ap reverse stays ∙ reverse-reverse here)
