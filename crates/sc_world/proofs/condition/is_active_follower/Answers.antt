-- The core is a follower, and is active and has no feed.
use Rattle.sc_world.proofs.condition.is_active_follower.Goals as goal

pub returns-then-is_follower : goal.returns-then-is_follower
returns-then-is_follower c = (
  λ is.
      let both = c.is_unfed_and_active.ensures.0 is in
      record { follower = c.is_follower.ensures.0 c.if-is_follower.true; active = both.0; unfed = both.1 },
  λ is. c.is_unfed_and_active.ensures.1 (is.active, is.unfed),
)
