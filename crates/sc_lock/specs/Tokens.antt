-- Locks, passes, keepers, turns and badges as contracts see them.
use Rattle.std.specs.Prelude.{◌≡◌, ℕ, ◌-◌, ◌<◌, List, [], ◌∷◌, Option, Some, None}
use Rattle.atomic_table.specs.Seated.{TableId}
use Rattle.atomic_table.specs.declared.shared.Seat.{Seat}
use Rattle.sc_lock.specs.declared.view.View.{View}
use Rattle.sc_lock.specs.declared.view.Stage.TheVariants.{Idle, Holding}
use Rattle.sc_lock.specs.declared.lock.Lock.{Lock}
use Rattle.sc_lock.specs.declared.pass.Pass.{Pass}
use Rattle.sc_lock.specs.declared.keeper.Keeper.{Keeper}
use Rattle.sc_lock.specs.declared.turn.Turn.{Turn}
use Rattle.sc_lock.specs.declared.badge.Badge.{Badge}
use Rattle.sc_lock.specs.Journal.{ArePlacesIn}

-- which lock it is: its table, and the value that it was made with
abbrev pub LockId : Type 0 → Type 0
LockId K = TableId × Option K

-- a seat of the lock's table, which is what a pass and the keeper are made of
abbrev pub SeatToken : Type 0 → Type 0 → Type 0 → Type 0
SeatToken K E P = Seat (Option K) (View K E P)

module _ {K E P : Type 0} where
  -- the value that the lock was made with
  abbrev pub origin_of : Lock K E P → K
  origin_of lock = lock.table.shared.key.value

  -- which lock it is
  abbrev pub lock_id : Lock K E P → LockId K
  lock_id lock = (lock.table.shared.table_id, Some (origin_of lock))

  -- the name of each value that is kept behind the lock
  abbrev pub lock_name : {N : Type 0} → (K → N) → Lock K E P → N
  lock_name name lock = name (origin_of lock)

  -- the seat is one of the lock's table
  abbrev pub IsOfTable : Lock K E P → SeatToken K E P → Type 0
  IsOfTable lock seat = seat.table_id ≡ lock.table.shared.table_id

  -- the seat after a step is the one that was before
  abbrev pub IsSameSeat : SeatToken K E P → SeatToken K E P → Type 0
  IsSameSeat before after = (after.table_id ≡ before.table_id) × (after.id ≡ before.id)

  -- the lock that a seat is of
  abbrev pub seat_lock : SeatToken K E P → LockId K
  seat_lock seat = (seat.table_id, seat.me.0.origin)

  -- the journal as far as the seat has seen it
  abbrev pub seat_seen : SeatToken K E P → List E
  seat_seen seat = seat.me.0.seen

  -- the places in it of the seat's own entries
  abbrev pub seat_places : SeatToken K E P → List ℕ
  seat_places seat = seat.me.0.places

  -- the part that the keeper left, and none in the seat of a pass
  abbrev pub seat_part : SeatToken K E P → Option P
  seat_part seat = seat.me.0.part

  -- the seat's share of the right to draw tickets
  abbrev pub seat_weight : SeatToken K E P → ℕ
  seat_weight seat = seat.me.0.weight

  -- the seat has no ticket, and no value is out with it
  abbrev pub IsIdleSeat : SeatToken K E P → Type 0
  IsIdleSeat seat = (seat.me.0.stage ≡ Idle) × (seat.me.1 ≡ [])

  -- it is a seat of this lock, and may draw tickets
  pub record IsSeatOf (lock : LockId K) (seat : SeatToken K E P) : Type 0 where
    pub of_lock : seat_lock seat ≡ lock
    pub own : ArePlacesIn (seat_places seat) (seat_seen seat)
    pub weighs : 0 < seat_weight seat

  -- the journal as far as the pass has seen it
  abbrev pub seen : Pass K E P → List E
  seen pass = seat_seen pass.seat

  -- the places in it of the pass's own entries
  abbrev pub own_places : Pass K E P → List ℕ
  own_places pass = seat_places pass.seat

  -- how many passes may still be split off
  abbrev pub splits_left : Pass K E P → ℕ
  splits_left pass = seat_weight pass.seat - 1

  -- no turn of the pass is out
  abbrev pub IsFree : Pass K E P → Type 0
  IsFree pass = IsIdleSeat pass.seat

  -- it is a pass of this lock, which has no part
  pub record IsPassOf (lock : LockId K) (pass : Pass K E P) : Type 0 where
    pub seat : IsSeatOf lock pass.seat
    pub no_part : seat_part pass.seat ≡ None

  -- the journal as far as the keeper has seen it
  abbrev pub keeper_seen : Keeper K E P → List E
  keeper_seen keeper = seat_seen keeper.seat

  -- the places in it of the keeper's own entries
  abbrev pub keeper_places : Keeper K E P → List ℕ
  keeper_places keeper = seat_places keeper.seat

  -- the part that the keeper left
  abbrev pub keeper_part : Keeper K E P → Option P
  keeper_part keeper = seat_part keeper.seat

  -- no turn of the keeper is out
  abbrev pub IsFreeKeeper : Keeper K E P → Type 0
  IsFreeKeeper keeper = IsIdleSeat keeper.seat

  -- it is the keeper of this lock, which has a part
  pub record IsKeeperOf (lock : LockId K) (keeper : Keeper K E P) : Type 0 where
    pub seat : IsSeatOf lock keeper.seat
    pub has_part : (p : P) × (keeper_part keeper ≡ Some p)

  -- the value that was handed out with the turn
  abbrev pub handed : Turn K E P → K
  handed turn = turn.handed.value

  -- the turn was got with this seat, which took no step since, and what was handed out has the lock's name
  pub record IsTurnAt {N : Type 0} (name : K → N) (seat : SeatToken K E P) (turn : Turn K E P) : Type 0 where
    pub same : turn.seat.value ≡ seat
    pub holds : (t : ℕ) × (seat.me.0.stage ≡ Holding t (handed turn))
    pub empty : seat.me.1 ≡ (0, None) ∷ []
    pub named : (x : K) → seat.me.0.origin ≡ Some x → name (handed turn) ≡ name x

  -- the turn was got by this pass and is out
  abbrev pub IsTurnOf : {N : Type 0} → (K → N) → Pass K E P → Turn K E P → Type 0
  IsTurnOf name pass turn = IsTurnAt name pass.seat turn

  -- the turn was got by this keeper and is out
  abbrev pub IsTurnOfKeeper : {N : Type 0} → (K → N) → Keeper K E P → Turn K E P → Type 0
  IsTurnOfKeeper name keeper turn = IsTurnAt name keeper.seat turn

  -- what the lock of the badge's seat was made with
  abbrev pub origin_in : List (View K E P) → Option K
  origin_in [] = None
  origin_in (v ∷ vs) = v.origin

  -- the lock that the badge is of
  abbrev pub badge_lock : Badge K E P → LockId K
  badge_lock badge = (badge.badge.table_id, origin_in badge.badge.views)
