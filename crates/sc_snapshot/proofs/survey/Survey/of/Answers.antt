-- One row more is surveyed.
use Rattle.std.proofs.Common.{◌≡◌, ◌≤ℤ◌, ◌<◌, ◌+◌, Bool, List, ℤ, Global, is_some, map, take, length, All, slice_get, sym, ap, subst, ◌∙◌, arith}
use Rattle.std.proofs.Math.Seq.{take-length}
use Rattle.std.proofs.lemmas.List.{length-map}
use Rattle.std.specs.Arc.{arc_value}
use Rattle.std.specs.declared.sync.Arc.{Arc}
use Rattle.sc_record.specs.Writes.{Write}
use Rattle.sc_snapshot.proofs.EditedLemmas.{row_at}
use Rattle.sc_snapshot.proofs.LoopLemmas.{all-next}
use Rattle.sc_snapshot.proofs.SurveyLemmas.{surveyed-same, surveyed-all, up_to}
use Rattle.sc_snapshot.specs.Postings.{is_live_at}
use Rattle.sc_snapshot.specs.Surveying.{AreSurveyed, BoundsHashOf}
use Rattle.sc_snapshot.proofs.survey.Survey.of.Goals as goal

pub overflow_add-number : goal.overflow_add-number
overflow_add-number c =
    let l = length-map c.args.rows.now arc_value in
    omega (arith, l, c.requires.bounded, c.loop-row.invariant.number, c.loop-row-test.true)

pub loop-row-preserved : goal.loop-row-preserved
loop-row-preserved c =
    let i = c.loop-row.invariant in
    let cells = c.args.rows.now in
    let rows = map arc_value cells in
    let at = c.loop-row.row-index in
    let number = c.loop-row.number in
    let size = length-map cells arc_value in
    let test = c.loop-row-test.true in
    let here = row_at arc_value cells at c.row-item.result test c.row-item.is in
    let old = c.loop-row.survey in
    let now = c.bound.new.self in
    let marked = c.in_ok-mark.ensures in
    let told : is_live_at (slice_get rows number) ≡ c.is_live.result =
    ap (λ n. is_live_at (slice_get rows n)) i.number ∙ ap is_live_at here
    ∙ sym (c.is_live.ensures ∙ ap (λ (w : Write). is_some w.doc) c.deref.ensures) in
    let within : number < length rows = omega (arith, size, test, i.number) in
    let surveyed = marked.surveyed rows (subst (λ n. AreSurveyed rows n old) (sym i.number) i.surveyed) within told in
    let least : now.least_hash ≤ℤ old.least_hash = subst (λ (z : ℤ). now.least_hash ≤ℤ z) marked.least_hash c.bound.ensures.least.1 in
    let greatest : old.greatest_hash ≤ℤ now.greatest_hash = subst (λ (z : ℤ). z ≤ℤ now.greatest_hash) marked.greatest_hash c.bound.ensures.greatest.1 in
    record {
      surveyed = subst (λ n. AreSurveyed rows n now) (let next : number + 1 ≡ at + 1 = omega (arith, i.number) in next)
          (surveyed-same rows (number + 1) c.mark.new.self now surveyed c.bound.ensures.live_rows c.bound.ensures.live_bits);
      size = ap (λ (l : List Bool). length l) c.bound.ensures.live_bits ∙ marked.size ∙ i.size;
      hashes = all-next arc_value cells at c.row-item.result test c.row-item.is (BoundsHashOf old) (BoundsHashOf now)
          (λ w within. (up_to now.least_hash old.least_hash w.hash least within.0, up_to w.hash old.greatest_hash now.greatest_hash within.1 greatest)) i.hashes
          (subst (BoundsHashOf now) c.deref-in-loop-row.ensures (c.bound.ensures.least.0, c.bound.ensures.greatest.0));
      number = omega (arith, i.number);
    }

pub returns : goal.returns
returns c =
    let i = c.loop-row.invariant in
    let cells = c.args.rows.now in
    let size = length-map cells arc_value in
    let all : c.loop-row.row-index ≡ length cells = omega (arith, c.loop-row-test.false, c.loop-row.auto.row-index-end) in
    let taken = ap (λ n. take n cells) all ∙ take-length cells in
    surveyed-all (map arc_value cells) c.loop-row.row-index c.loop-row.survey i.surveyed (omega (arith, size, all))
    (subst (λ (xs : List (Arc Write Global)). All (BoundsHashOf c.loop-row.survey) (map arc_value xs)) taken i.hashes)
