-- What a seat of the lock knows, which is its view, and how a step changes it.
use Rattle.std.specs.Prelude.{ℕ, ◌+◌, ◌^◌, Bool, true, false, [], Option, Some, None}
use mathlib.Core.Option as maybe
use Rattle.sc_lock.specs.declared.kept.Kept.{Ghosts as Kept}
use Rattle.sc_lock.specs.declared.view.View.{View}
use Rattle.sc_lock.specs.declared.view.Stage.{Stage}
use Rattle.sc_lock.specs.declared.view.Stage.TheVariants.{Idle, Waiting, Holding, Noted, Joined}
use Rattle.sc_lock.specs.Journal.{longer, merged_places}

module _ {K E P : Type 0} where
  -- the ticket that a seat has at this stage
  abbrev pub ticket_in : Stage K E P → maybe.Option ℕ
  ticket_in Idle = maybe.none
  ticket_in (Waiting ticket) = maybe.some ticket
  ticket_in (Holding ticket value) = maybe.some ticket
  ticket_in (Noted ticket entries part) = maybe.some ticket
  ticket_in (Joined seen places other_seen other_places) = maybe.none

  -- 1 where the seat has a ticket
  abbrev pub ticket_count_in : Stage K E P → ℕ
  ticket_count_in Idle = 0
  ticket_count_in (Waiting ticket) = 1
  ticket_count_in (Holding ticket value) = 1
  ticket_count_in (Noted ticket entries part) = 1
  ticket_count_in (Joined seen places other_seen other_places) = 0

  -- whether the value is out with the seat
  abbrev pub has_value : Stage K E P → Bool
  has_value Idle = false
  has_value (Waiting ticket) = false
  has_value (Holding ticket value) = true
  has_value (Noted ticket entries part) = true
  has_value (Joined seen places other_seen other_places) = false

  -- the ticket that a seat has
  abbrev pub ticket : View K E P → maybe.Option ℕ
  ticket v = ticket_in v.stage

  -- how many tickets a seat has
  abbrev pub ticket_count : View K E P → ℕ
  ticket_count v = ticket_count_in v.stage

  -- the seat's share of the right to draw tickets
  abbrev pub weight_of : View K E P → ℕ
  weight_of v = v.weight

  -- the first seat's view, of which the keeper's and the first pass's are made
  abbrev pub first_view : Kept K E P → K → View K E P
  first_view kept x = record {
    origin = Some x;
    seen = kept.journal x;
    places = [];
    weight = 2 ^ 31 + 2;
    part = Some (kept.part x);
    stage = Idle;
  }

  -- the same at another stage
  abbrev pub with_stage : View K E P → Stage K E P → View K E P
  with_stage v stage = record v { stage = stage }

  -- the same with another weight
  abbrev pub with_weight : ℕ → View K E P → View K E P
  with_weight weight v = record v { weight = weight }

  -- a new seat split off v, with this weight: it has seen the same, and has no places and no part
  abbrev pub split_off : ℕ → View K E P → View K E P
  split_off weight v = record v { places = []; weight = weight; part = None; stage = Idle }

  -- a new seat that has seen nothing and can draw no ticket
  abbrev pub visitor : View K E P → View K E P
  visitor v = record { origin = v.origin; seen = []; places = []; weight = 0; part = None; stage = Idle }

  -- what a join makes of the seat that goes on
  abbrev pub joined : View K E P → View K E P → View K E P
  joined v w = record {
    origin = v.origin;
    seen = longer v.seen w.seen;
    places = merged_places v.places w.places;
    weight = v.weight + w.weight;
    part = v.part;
    stage = Joined v.seen v.places w.seen w.places;
  }

  -- and of the other
  abbrev pub spent : View K E P
  spent = record { origin = None; seen = []; places = []; weight = 0; part = None; stage = Idle }

-- the part after a value with this part is given back: the keeper has it, and any other seat none
abbrev pub part_after : {P : Type 0} → Option P → P → Option P
part_after None p = None
part_after (Some x) p = Some p
