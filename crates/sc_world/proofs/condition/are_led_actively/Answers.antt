-- So far it is true of each slice, and of the next, or not of all.
use Rattle.std.proofs.Common.{◌≡◌, ◌∙◌, Some, true, false, slice_get, refl, sym, ap, arith}
use Rattle.std.specs.Option.{option_copied}
use Rattle.sc_world.specs.Checks.{IsLedActively}
use Rattle.sc_world.proofs.ConditionLemmas.{led_actively, All-next, All-through, not_of_all}
use Rattle.sc_world.proofs.condition.are_led_actively.Goals as goal

pub returns-then-not-is_led_actively : goal.returns-then-not-is_led_actively
returns-then-not-is_led_actively c =
    let b = c.args.bucket.now in
    let slice = c.unwrap-slice.result.now in
    let there : slice_get b.map c.loop-at.at ≡ Some slice = sym c.get.ensures.slice ∙ ap option_copied c.unwrap-slice.ensures in
    led_actively b false c.requires (not_of_all (IsLedActively b) b.map c.loop-at.at slice c.is_led_actively.result there c.is_led_actively.ensures c.if-not-is_led_actively.true)

pub loop-at-preserved : goal.loop-at-preserved
loop-at-preserved c =
    let b = c.args.bucket.now in
    let slice = c.unwrap-slice.result.now in
    let there : slice_get b.map c.loop-at.at ≡ Some slice = sym c.get.ensures.slice ∙ ap option_copied c.unwrap-slice.ensures in
    All-next (IsLedActively b) b.map c.loop-at.at slice there c.loop-at.invariant (c.is_led_actively.ensures.0 c.if-not-is_led_actively.false)

pub returns : goal.returns
returns c =
    let b = c.args.bucket.now in
    led_actively b true c.requires (λ is. All-through (IsLedActively b) b.map c.loop-at.at (omega arith) c.loop-at.invariant, λ all. refl)
