-- What stands beside a request at one moment, and how that goes on from one moment to another.
use Rattle.std.specs.Prelude.{◌≡◌, List, ◌++◌}
use Rattle.sc_seen.specs.Seen.{Layout, Seen, GoesOn}
use Rattle.sc_seen.specs.declared.stop.Stop.{Stop}

-- what was looked at so far: what was seen of a collection, and the stops that were kept
pub record View : Type 0 where
  pub seen : Seen
  pub stops : List Stop

-- what stands at one moment: what was looked at so far, and the clock
pub record Moment (C : Type 0) : Type 0 where
  pub view : View
  pub clock : C

-- the view of what was seen, with the stops that were kept
abbrev pub view_of : Seen → List Stop → View
view_of seen stops = record { seen = seen; stops = stops }

-- the moment at which that stands, with the clock
abbrev pub moment_of : {C : Type 0} → Seen → List Stop → C → Moment C
moment_of seen stops clock = record { view = view_of seen stops; clock = clock }

-- From one view to another these stops were kept, and what was seen went on by them.
pub record Keeps (layout : Layout) (old new : View) (stops : List Stop) : Type 0 where
  pub goes : GoesOn layout old.seen new.seen stops
  pub kept : new.stops ≡ old.stops ++ stops
