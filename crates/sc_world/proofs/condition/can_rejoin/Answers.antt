-- The core is down, and has caught up.
use Rattle.std.proofs.Common.{◌∙◌, sym}
use Rattle.sc_world.proofs.condition.can_rejoin.Goals as goal

pub returns-then-is_down : goal.returns-then-is_down
returns-then-is_down c = (
  λ is.
      let (idle, caught_up) = c.is_caught_up.ensures.0 is in
      record {
        idle = idle;
        follower = caught_up.follower;
        down = sym c.is_down.ensures ∙ c.if-is_down.true;
        active = caught_up.active;
        unfed = caught_up.unfed;
      },
  λ can. c.is_caught_up.ensures.1 (can.idle, record { follower = can.follower; active = can.active; unfed = can.unfed }),
)
