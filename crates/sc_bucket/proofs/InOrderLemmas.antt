-- What is true of every core, whatever its room, stays true as it leads, is fed, receives and replays.
use Rattle.std.proofs.Common.{◌≡◌, ◌<ℤ◌, ◌≤ℤ◌, pos, List, [], ◌∷◌, All, refl, sym, subst, take, drop, arith}
use Rattle.std.specs.List.Sorted.{IsStrictlySortedBy}
use Rattle.std.proofs.lemmas.Int.{ints}
use Rattle.std.proofs.lemmas.List.Elements.{All-nil}
use Rattle.sc_record.specs.Writes.{AscendById, Write}
use Rattle.sc_ulog.specs.declared.mode.Mode.TheVariants.{Active, Buffering, Replaying}
use Rattle.sc_ulog.specs.LogState.{IsEmptyWhereActive}
use Rattle.sc_replica.specs.Core.{Core, IsCore, led, fed, received, received_in, fed_all, replay_limit, replayed, mode_left}
use Rattle.sc_replica.specs.Deliveries.{replaying}
use Rattle.sc_replica.proofs.CoreLemmas.{IsCore-led, IsCore-fed, IsCore-received}
use Rattle.sc_replicas.specs.Cores.{IsNewCore, without_room, IsCoreWithoutRoom}

-- so it is of each core
pub in_order-of : (core : Core) → IsCore core → IsCoreWithoutRoom core
in_order-of core is = record {
  ascends = is.ascends;
  from_zero = is.from_zero;
  clocked = is.clocked;
  active = is.active;
  cell_room = omega arith;
  buffer_room = omega arith;
}

-- of one without cells, with an empty buffer and with its clock at 0
pub in_order-empty : (core : Core) → core.cells ≡ [] → core.buffer ≡ [] → core.clock ≡ pos 0 → IsCoreWithoutRoom core
unfolding IsStrictlySortedBy
in_order-empty core no_cells no_buffer no_clock = record {
  ascends = subst AscendById (sym no_cells) tt;
  from_zero = omega (arith, ints, no_clock);
  clocked = subst (All (λ (cell : Write). cell.version ≤ℤ core.clock)) (sym no_cells)
      (All-nil (λ (cell : Write). cell.version ≤ℤ core.clock));
  active = λ active. no_buffer;
  cell_room = omega arith;
  buffer_room = omega arith;
}

-- as one that was made
pub in_order-new : (core : Core) → IsNewCore core → IsCoreWithoutRoom core
in_order-new core new = in_order-empty core new.cells new.buffer new.clock

-- and it stays so as the core leads a write that comes after its clock
pub in_order-led : (core : Core) (write : Write) → core.clock <ℤ write.version → IsCoreWithoutRoom core → IsCoreWithoutRoom (led core write)
in_order-led core write above is = in_order-of (led (without_room core) write) (IsCore-led (without_room core) write is above)

-- as it is fed
pub in_order-fed : (core : Core) (write : Write) → IsCoreWithoutRoom core → IsCoreWithoutRoom (fed core write)
in_order-fed core write is = in_order-of (fed (without_room core) write) (IsCore-fed (without_room core) write is)

pub in_order-fed_all : (core : Core) (writes : List Write) → IsCoreWithoutRoom core → IsCoreWithoutRoom (fed_all core writes)
in_order-fed_all core [] is = is
in_order-fed_all core (write ∷ writes) is = in_order-fed_all (fed core write) writes (in_order-fed core write is)

-- as it is sent a write
pub in_order-received : (core : Core) (write : Write) → IsCoreWithoutRoom core → IsCoreWithoutRoom (received core write)
in_order-received core write is =
    subst IsCore same (in_order-of (received (without_room core) write) (IsCore-received (without_room core) write is))
  where
    same : without_room (received (without_room core) write) ≡ without_room (received core write)
    same = elim core.mode as (λ mode. without_room (received_in mode (without_room core) write) ≡ without_room (received_in mode core write)) [
      | Active ↦ refl
      | Buffering ↦ refl
      | Replaying ↦ refl
    ]

-- as it begins to replay
pub in_order-replaying : (core : Core) → IsCoreWithoutRoom core → IsCoreWithoutRoom (replaying core)
in_order-replaying core is = record {
  ascends = is.ascends;
  from_zero = is.from_zero;
  clocked = is.clocked;
  active = λ (active : Replaying ≡ Active). cc;
  cell_room = omega arith;
  buffer_room = omega arith;
}

-- and as it replays
pub in_order-replayed : (core : Core) → IsCoreWithoutRoom core → IsCoreWithoutRoom (replayed core)
in_order-replayed core is =
    let applied : IsCoreWithoutRoom (fed_all core (take replay_limit core.buffer)) =
    in_order-fed_all core (take replay_limit core.buffer) is in
    record {
      ascends = applied.ascends;
      from_zero = applied.from_zero;
      clocked = applied.clocked;
      active = left (drop replay_limit core.buffer);
      cell_room = omega arith;
      buffer_room = omega arith;
    }
  where
    left : (buffer : List Write) → IsEmptyWhereActive (mode_left buffer) buffer
    left [] = λ active. refl
    left (write ∷ writes) = λ active. cc
