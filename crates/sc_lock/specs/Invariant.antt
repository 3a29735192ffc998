-- The invariant of the lock, which holds between any two steps.
use Rattle.std.specs.Prelude.{◌≡◌, ◌≢◌, ℕ, ◌+◌, ◌%◌, ◌^◌, ◌<◌, ◌≤◌, true, List, [], ◌∷◌, length, Option, Some, None}
use Rattle.std.specs.List.{sum_by, Contains}
use mathlib.Core.Option as maybe
use mathlib.Core.List.{IsPrefix}
use lib.ListN.{get_elem?}
use Rattle.atomic_table.specs.Table.{State}
use Rattle.sc_lock.specs.declared.kept.Kept.{Ghosts as Kept}
use Rattle.sc_lock.specs.declared.view.View.{View}
use Rattle.sc_lock.specs.declared.view.Stage.{Stage}
use Rattle.sc_lock.specs.declared.view.Stage.TheVariants.{Idle, Waiting, Holding, Noted, Joined}
use Rattle.sc_lock.specs.Journal.{AreDisjoint, ArePlacesIn, OneIsPrefix}
use Rattle.sc_lock.specs.Views.{ticket, ticket_count, weight_of, has_value}

-- what all steps so far have made: how many tickets are drawn and served, the journal, the part, which seat is the
-- keeper's, and the value while it is at rest, which is while nobody holds it
pub record LockState (K E P : Type 0) : Type 0 where
  pub drawn : ℕ
  pub served : ℕ
  pub entries : List E
  pub part : P
  pub keeper : ℕ
  pub at_rest : maybe.Option (Option K)

-- the value is out with a seat that has the ticket t, which is the one that is served
pub record HasTurn {K E P : Type 0} (n : LockState K E P) (t : ℕ) : Type 0 where
  pub is_served : t ≡ n.served
  pub is_drawn : n.served < n.drawn
  pub out : n.at_rest ≡ maybe.none

-- the lock's table as plain data: its three words, its one slot and the view of each seat
abbrev pub TableState : Type 0 → Type 0 → Type 0 → Type 0
TableState K E P = State (Option K) (View K E P)

-- two seats have no place and no ticket in common
pub record SeatsAreDisjoint {K E P : Type 0} (v w : View K E P) : Type 0 where
  pub places : AreDisjoint v.places w.places
  pub tickets : (t : ℕ) → ticket v ≡ maybe.some t → ticket w ≡ maybe.some t → ⊥

module _ {K E P : Type 0} (kept : Kept K E P) (origin : K) where
  open kept use {journal, sound, part, name, owned}

  -- the value has the journal, the part and the lock's name
  pub record IsCurrent (n : LockState K E P) (x : K) : Type 0 where
    pub journal_is : journal x ≡ n.entries
    pub part_is : part x ≡ n.part
    pub name_is : name x ≡ name origin

  -- the invariant of a seat's stage
  abbrev pub StageInvariant : LockState K E P → Stage K E P → Type 0
  StageInvariant n Idle = Unit {0}
  StageInvariant n (Waiting t) = (n.served ≤ t) × (t < n.drawn)
  StageInvariant n (Holding t x) = HasTurn n t × IsCurrent n x
  StageInvariant n (Noted t entries p) = HasTurn n t × (entries ≡ n.entries) × (p ≡ n.part)
  StageInvariant n (Joined seen places other_seen other_places) =
      OneIsPrefix seen other_seen × AreDisjoint places other_places

  -- the invariant of each seat
  pub record SeatInvariant (n : LockState K E P) (seat : ℕ) (v : View K E P) : Type 0 where
    pub named : (x : K) → v.origin ≡ Some x → name x ≡ name origin
    pub seen : IsPrefix v.seen n.entries
    pub places : ArePlacesIn v.places v.seen
    pub owner : (p : ℕ) → owned v.seen ≡ Some p → Contains v.places p → v.seen ≡ n.entries
    pub part : (x : P) → v.part ≡ Some x → (seat ≡ n.keeper) × (x ≡ n.part)
    pub weight : ticket_count v ≤ v.weight
    pub stage : StageInvariant n v.stage

  -- the invariant of the value: it is at rest and sound, or out with the seat whose ticket is served
  abbrev pub ValueInvariant : LockState K E P → List (View K E P) → maybe.Option (Option K) → Type 0
  ValueInvariant n views (maybe.some (Some x)) = sound x × IsCurrent n x
  ValueInvariant n views (maybe.some None) = ⊥
  ValueInvariant n views maybe.none =
      (seat : ℕ) × (v : View K E P) × (get_elem? views seat ≡ maybe.some v)
      × (ticket v ≡ maybe.some n.served) × (has_value v.stage ≡ true)

  -- The invariant of the table: its words are the tickets drawn and served, modulo 2^64, and the journal's length. As
  -- many tickets are out as seats have one, and no seat weighs less than its ticket. So at most 2^31 + 2 tickets are
  -- out at once: the keeper's, the first pass's, and one for each of the 2^31 passes that may be split off.
  pub record TableInvariant (n : LockState K E P) (s : TableState K E P) : Type 0 where
    pub words : s.words ≡ (n.drawn % 2 ^ 64) ∷ (n.served % 2 ^ 64) ∷ length n.entries ∷ []
    pub slots : s.homes ≡ n.at_rest ∷ []
    pub weights : sum_by weight_of s.views ≡ 2 ^ 31 + 2
    pub tickets : n.drawn ≡ n.served + sum_by ticket_count s.views
    pub each : (seat : ℕ) (v : View K E P) → get_elem? s.views seat ≡ maybe.some v → SeatInvariant n seat v
    pub pairs : (i j : ℕ) (v w : View K E P) → i ≢ j → get_elem? s.views i ≡ maybe.some v
        → get_elem? s.views j ≡ maybe.some w → SeatsAreDisjoint v w
    pub value : ValueInvariant n s.views n.at_rest

  -- the invariant of the lock
  abbrev pub LockInvariant : TableState K E P → Type 0
  LockInvariant s = (n : LockState K E P) × TableInvariant n s
