-- A stop that made nothing changes nothing of whether all made nothing, and one that made an entry says so.
use Rattle.std.proofs.Common.{◌≡◌, true, false, Some, None, slice_get, length, ◌<◌, sym, ◌∙◌, arith}
use Rattle.sc_seen.specs.declared.stop.Stop.{Stop}
use Rattle.sc_session.proofs.PassingLemmas.{all_from, all_after, one_there}
use Rattle.sc_session.proofs.passing.has_made.Goals.{in-Some+else-stop, in_default}
use Rattle.sc_session.proofs.passing.has_made.Goals as goal

pub returns-then-stop : goal.returns-then-stop
returns-then-stop c =
    let stops = c.args.trail.now.stops in
    let there : slice_get stops c.loop-at.at ≡ Some c.in-Some.stop = sym c.get.ensures ∙ c.in-Some.is in (
      λ none. absurd (cc),
      λ nothing.
          let unmade : c.in-Some.stop.made ≡ false =
          (all_after (λ (stop : Stop). stop.made ≡ false) stops c.loop-at.at c.in-Some.stop there (c.loop-at.invariant.1 nothing)).0 in
          let both : true ≡ false = sym c.if-stop.true ∙ unmade in absurd (cc),
    )

pub loop-at-preserved : goal.loop-at-preserved
loop-at-preserved c =
    let stops = c.args.trail.now.stops in
    let at = c.loop-at.at in
    elim c.match-get.branch [
      | in-Some+else-stop w ↦
          (let there : slice_get stops at ≡ Some w.in-Some.stop = sym c.get.ensures ∙ w.in-Some.is in (
            λ rest. c.loop-at.invariant.0 (all_from (λ (stop : Stop). stop.made ≡ false) stops at w.in-Some.stop there w.if-stop.false rest),
            λ nothing. (all_after (λ (stop : Stop). stop.made ≡ false) stops at w.in-Some.stop there (c.loop-at.invariant.1 nothing)).1,
          ))
      | in_default w ↦
          (let none : slice_get stops at ≡ None = sym c.get.ensures ∙ w.in_default.is in
          let within : at < length stops = omega (arith, c.loop-at-test.true, c.len-at-end.ensures) in
          one_there stops at within none)
    ]
