-- So far it is true of each slice, and of the next, or not of all.
use Rattle.std.proofs.Common.{◌≡◌, ◌∙◌, Some, slice_get, refl, sym, ap, arith}
use Rattle.std.specs.Option.{option_copied}
use Rattle.sc_world.specs.Checks.{IsWholeSlice}
use Rattle.sc_world.proofs.ConditionLemmas.{All-next, All-through, not_of_all}
use Rattle.sc_world.proofs.condition.are_whole.Goals as goal

pub returns-then-not-is_whole : goal.returns-then-not-is_whole
returns-then-not-is_whole c =
    let b = c.args.bucket.now in
    let slice = c.unwrap-slice.result.now in
    let there : slice_get b.map c.loop-at.at ≡ Some slice = sym c.get.ensures.slice ∙ ap option_copied c.unwrap-slice.ensures in
    not_of_all (IsWholeSlice b) b.map c.loop-at.at slice c.is_whole.result there c.is_whole.ensures c.if-not-is_whole.true

pub loop-at-preserved : goal.loop-at-preserved
loop-at-preserved c =
    let b = c.args.bucket.now in
    let slice = c.unwrap-slice.result.now in
    let there : slice_get b.map c.loop-at.at ≡ Some slice = sym c.get.ensures.slice ∙ ap option_copied c.unwrap-slice.ensures in
    All-next (IsWholeSlice b) b.map c.loop-at.at slice there c.loop-at.invariant (c.is_whole.ensures.0 c.if-not-is_whole.false)

pub returns : goal.returns
returns c =
    let b = c.args.bucket.now in
    (λ is. All-through (IsWholeSlice b) b.map c.loop-at.at (omega arith) c.loop-at.invariant, λ all. refl)
