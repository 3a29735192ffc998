-- What each step of the lock shows the seat that takes it.
use Rattle.std.specs.Prelude.{◌≡◌, ◌≢◌, ℕ, ◌%◌, ◌^◌, List, [], ◌∷◌, Option, Some, None}
use mathlib.Core.List.{IsPrefix}
use Rattle.atomic_table.specs.Table.{Me, Step}
use Rattle.sc_lock.specs.declared.kept.Kept.{Ghosts as Kept}
use Rattle.sc_lock.specs.declared.view.View.{View}
use Rattle.sc_lock.specs.declared.view.Stage.TheVariants.{Idle, Waiting, Holding, Noted, Joined}
use Rattle.sc_lock.specs.Journal.{AreDisjoint, OneIsPrefix, ArePlacesIn, GrowsByAtMostOne, MayAppend, OwnsPlaceOf, places_after}
use Rattle.sc_lock.specs.Views.{with_stage, visitor, part_after}

-- a seat as one step sees it: its view, and the slot that it has with what is in it
abbrev pub SeatState : Type 0 → Type 0 → Type 0 → Type 0
SeatState K E P = Me (Option K) (View K E P)

module _ {K E P : Type 0} where
  -- a seat with this view that has the slot of the value x
  abbrev pub holding : View K E P → K → SeatState K E P
  holding v x = (v, (0, Some x) ∷ [])

  -- the seat has a ticket, of which this is the remainder modulo 2^64, and no slot
  abbrev pub IsWaitingFor : ℕ → SeatState K E P → Type 0
  IsWaitingFor remainder seat = (t : ℕ) × (seat.0.stage ≡ Waiting t) × (remainder ≡ t % 2 ^ 64) × (seat.1 ≡ [])

  -- the seat took the value x, at its ticket
  abbrev pub HasTaken : SeatState K E P → SeatState K E P → K → Type 0
  HasTaken before after x =
      (t : ℕ) × (before.0.stage ≡ Waiting t) × (after ≡ holding (with_stage before.0 (Holding t x)) x)

  -- a draw: the seat has a ticket, of which the answer is the remainder
  abbrev pub AfterDraw : Step (Option K) → SeatState K E P → ℕ → SeatState K E P → Type 0
  AfterDraw step before answer after =
      (t : ℕ) × (answer ≡ t % 2 ^ 64) × (after ≡ (with_stage before.0 (Waiting t), before.1))

  -- the value is put back and the turn passed on
  abbrev pub AfterPassOn : Step (Option K) → SeatState K E P → ℕ → SeatState K E P → Type 0
  AfterPassOn step before answer after = after ≡ (with_stage before.0 Idle, [])

  -- the look after a join: of what the two had seen one was a prefix of the other, and no place was both's
  abbrev pub AfterJoin : Step (Option K) → SeatState K E P → ℕ → SeatState K E P → Type 0
  AfterJoin step before answer after =
      (seen other_seen : List E) (places other_places : List ℕ)
      → before.0.stage ≡ Joined seen places other_seen other_places
      → (after ≡ (with_stage before.0 Idle, before.1)) × OneIsPrefix seen other_seen × AreDisjoint places other_places
      × ArePlacesIn before.0.places before.0.seen

  -- a seat comes that has seen nothing
  abbrev pub AfterVisit : Step (Option K) → SeatState K E P → ℕ → SeatState K E P → Type 0
  AfterVisit step before answer after = after.0 ≡ visitor before.0

module _ {K E P : Type 0} (kept : Kept K E P) where
  open kept use {journal, sound, part, name, owned}

  -- the value x was handed out to a seat with this view
  pub record IsHandedOut (v : View K E P) (x : K) : Type 0 where
    pub sound_is : sound x
    pub seen : IsPrefix v.seen (journal x)
    pub owner : OwnsPlaceOf owned v.seen v.places → journal x ≡ v.seen
    pub part_is : (p : P) → v.part ≡ Some p → part x ≡ p
    pub name_is : (y : K) → v.origin ≡ Some y → name x ≡ name y

  -- y may be given back in place of x by a seat with this view
  pub record MayGiveBack (v : View K E P) (x y : K) : Type 0 where
    pub sound_is : sound y
    pub grows : GrowsByAtMostOne (journal x) (journal y)
    pub allowed : MayAppend owned v.places (journal x) (journal y)
    pub part_is : v.part ≡ None → part y ≡ part x

  -- the seat holds the lock with an empty slot, and y may be given back in place of what was handed out
  abbrev pub MayPutBack : SeatState K E P → K → Type 0
  MayPutBack seat y =
      (t : ℕ) × (x : K) × (seat.0.stage ≡ Holding t x) × (seat.1 ≡ (0, None) ∷ []) × MayGiveBack seat.0 x y

  -- a look: where the ticket is served the seat takes the value, else nothing changes
  abbrev pub AfterLook : Step (Option K) → SeatState K E P → ℕ → SeatState K E P → Type 0
  AfterLook step before answer after =
      (t : ℕ) → before.0.stage ≡ Waiting t
      → (answer ≡ t % 2 ^ 64
      → (x : K) × (after ≡ holding (with_stage before.0 (Holding t x)) x) × IsHandedOut before.0 x)
      × (answer ≢ t % 2 ^ 64 → after ≡ before)

  -- the view once the journal and the part of y, which is to be put back in place of x, are noted
  abbrev pub noted : View K E P → ℕ → K → K → View K E P
  noted v t x y = record {
    origin = v.origin;
    seen = journal y;
    places = places_after v.places (journal x) (journal y);
    weight = v.weight;
    part = part_after v.part (part y);
    stage = Noted t (journal y) (part y);
  }

  -- a note: y is noted in place of x, which was handed out
  abbrev pub AfterNote : Step (Option K) → SeatState K E P → ℕ → SeatState K E P → Type 0
  AfterNote step before answer after =
      (t : ℕ) (x y : K) → before.0.stage ≡ Holding t x → before.1 ≡ (0, Some y) ∷ []
      → (after ≡ (noted before.0 t x y, before.1))
      × ArePlacesIn (places_after before.0.places (journal x) (journal y)) (journal y)
