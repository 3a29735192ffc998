-- A desk at rest, and how a call leaves it and a trail.
use Rattle.std.specs.Prelude.{◌≡◌}
use Rattle.sc_seen.specs.Moments.{View, view_of}
use Rattle.sc_collection.specs.declared.desk.Desk.{Ghosts as Desk}
use Rattle.sc_collection.specs.Desks.{IsDeskAtRest}
use Rattle.sc_collection.specs.Kept.{Kept}

module _ {D K : Type 0} (desks : Desk D K) where
  -- the desk is at rest: nothing is out, and what was seen of its collection is legal
  abbrev pub Rests : D → Type 0
  Rests desk = IsDeskAtRest (desks.layout desk) (desks.out desk) (desks.seen desk)

  -- what was looked at so far: what was seen at the desk, and the stops that the trail keeps
  abbrev pub looked_at : D → Kept → View
  looked_at desk trail = view_of (desks.seen desk) trail.stops

  -- A call leaves the desk at rest and its collection laid out as before. The trail counts no further request.
  pub record LeavesAtRest (old : D) (kept : Kept) (new : D) (keeps : Kept) : Type 0 where
    pub layout : desks.layout new ≡ desks.layout old
    pub rest : Rests new
    pub requests : keeps.requests ≡ kept.requests
