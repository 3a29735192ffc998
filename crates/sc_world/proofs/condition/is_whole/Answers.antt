-- It matters only where a split is making the slice.
use Rattle.std.proofs.Common.{◌∙◌, sym}
use Rattle.sc_world.proofs.condition.is_whole.Goals as goal

pub returns-else-not-is_forming : goal.returns-else-not-is_forming
returns-else-not-is_forming c =
    (λ is forming. c.has_all.ensures.0 is, λ all. c.has_all.ensures.1 (all (sym c.is_forming.ensures ∙ c.if-not-is_forming.false)))
