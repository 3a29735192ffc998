-- No stop that was passed made an entry of the board.
use Rattle.std.proofs.Common.{◌≡◌, false, Some, None, slice_get, length, ◌<◌, sym, ◌∙◌, arith}
use Rattle.sc_seen.specs.declared.stop.Stop.{Stop}
use Rattle.sc_session.proofs.PassingLemmas.{all_from, one_there}
use Rattle.sc_session.proofs.passing.has_noted.Goals.{in-Some+else-stop, else-stop-via-then-stop+else-stop-board, else-stop-via-else-stop, in_default}
use Rattle.sc_session.proofs.passing.has_noted.Goals as goal

pub loop-at-preserved : goal.loop-at-preserved
loop-at-preserved c =
    let stops = c.args.trail.now.stops in
    let at = c.loop-at.at in
    elim c.match-get.branch [
      | in-Some+else-stop w ↦
          (let there : slice_get stops at ≡ Some w.in-Some.stop = sym c.get.ensures ∙ w.in-Some.is in
          let unmade : w.in-Some.stop.lock ≡ c.args.board → w.in-Some.stop.made ≡ false =
          elim w.else-stop.branch [
            | else-stop-via-then-stop+else-stop-board w' ↦ (λ same. absurd (w'.if-stop-board.false same))
            | else-stop-via-else-stop w' ↦ (λ same. w'.if-stop.false)
          ] in
          λ rest. c.loop-at.invariant (all_from (λ (stop : Stop). stop.lock ≡ c.args.board → stop.made ≡ false) stops at w.in-Some.stop there unmade rest))
      | in_default w ↦
          (let none : slice_get stops at ≡ None = sym c.get.ensures ∙ w.in_default.is in
          let within : at < length stops = omega (arith, c.loop-at-test.true, c.len-at-end.ensures) in
          one_there stops at within none)
    ]
