-- The core of this name is active, and the search finds no feed of it.
use Rattle.sc_world.proofs.condition.is_unfed_and_active.Goals as goal

pub returns-then-is_in_mode : goal.returns-then-is_in_mode
returns-then-is_in_mode c =
    (λ is. (c.is_in_mode.ensures.0 c.if-is_in_mode.true, c.has_feed.ensures.unfed.0 is), λ both. c.has_feed.ensures.unfed.1 both.1)
