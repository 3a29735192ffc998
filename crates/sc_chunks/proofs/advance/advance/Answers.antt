-- Data goes on as it comes, and any other part byte by byte.
use Rattle.std.proofs.Common.{◌++◌, ℕ, take, drop, get_or, arith, ap, sym, subst, ◌∙◌, Result}
use Rattle.sc_chunks.specs.Progress.{ReachesPlace, IsStepOf, NeedsByte}
use Rattle.sc_chunks.specs.declared.error.DecodeError.{DecodeError}
use Rattle.sc_chunks.specs.declared.place.Place.{Place}
use Rattle.sc_chunks.proofs.AdvanceLemmas.{byte_taken, byte_refused, room_before, needs_byte, data_on}
use Rattle.sc_chunks.proofs.advance.advance.Goals.{in_default-via-in-Data+else-left-gt0, in_default-via-in_default}
use Rattle.sc_chunks.proofs.advance.advance.Goals as goal

pub loop-at-preserved-then-left-gt0 : goal.loop-at-preserved-then-left-gt0
loop-at-preserved-then-left-gt0 c = record {
  within = omega (arith, c.min-count.ensures);
  reached = λ coded before fits.
      let chunk = subst (λ (p : Place). ReachesPlace (coded ++ take c.loop-at.at c.args.bytes.now) c.loop-at.content.items p) c.in-Data.is (c.loop-at.invariant.reached coded before fits) in
      data_on coded c.args.bytes.now c.loop-at.content.items c.extend_from_slice.new.self.items c.loop-at.at c.min-count.result c.in-Data.left chunk
      (omega (arith, c.min-count.ensures)) (omega (arith, c.min-count.ensures))
      (c.in_ok-extend_from_slice-in-Data.ensures.items ∙ ap (λ (n : ℕ). c.loop-at.content.items ++ take n (drop c.loop-at.at c.args.bytes.now)) (omega arith));
}

pub loop-at-preserved : goal.loop-at-preserved
loop-at-preserved c = record {
  within = omega arith;
  reached = λ coded before fits.
      let needs : NeedsByte c.loop-at.place = elim c.in_default.branch [
        | in_default-via-in-Data+else-left-gt0 w ↦ subst NeedsByte (sym w.in-Data.is) (omega (arith, w.if-left-gt0.false))
        | in_default-via-in_default w ↦ needs_byte c.loop-at.place w.in_default.not-End (λ left is. absurd (w.in_default.not-Data left is))
      ] in
      let at = c.loop-at.at in
      let bytes = c.args.bytes.now in
      let content = c.loop-at.content.items in
      let step = c.step.ensures (coded ++ take at bytes) content (c.loop-at.invariant.reached coded before fits) (omega (arith, c.len.ensures))
      (room_before coded bytes at fits c.loop-at-test.true) needs in
      byte_taken coded bytes content at c.in-Ok.next c.loop-at-test.true (subst (λ (r : Result Place DecodeError). IsStepOf (coded ++ take at bytes) (get_or bytes at 0) content r) c.in-Ok.is step);
}

pub returns-in-Err-clause-advances : goal.returns-in-Err-clause-advances
returns-in-Err-clause-advances c coded before fits =
    let needs : NeedsByte c.loop-at.place = elim c.in_default.branch [
      | in_default-via-in-Data+else-left-gt0 w ↦ subst NeedsByte (sym w.in-Data.is) (omega (arith, w.if-left-gt0.false))
      | in_default-via-in_default w ↦ needs_byte c.loop-at.place w.in_default.not-End (λ left is. absurd (w.in_default.not-Data left is))
    ] in
    let at = c.loop-at.at in
    let bytes = c.args.bytes.now in
    let content = c.loop-at.content.items in
    let step = c.step.ensures (coded ++ take at bytes) content (c.loop-at.invariant.reached coded before fits) (omega (arith, c.len.ensures))
    (room_before coded bytes at fits c.loop-at-test.true) needs in
    byte_refused coded bytes content at c.loop-at.place c.in-Err.error c.loop-at-test.true
    (subst (λ (r : Result Place DecodeError). IsStepOf (coded ++ take at bytes) (get_or bytes at 0) content r) c.in-Err.is step)
