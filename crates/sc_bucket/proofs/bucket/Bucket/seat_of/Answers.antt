-- The core of the number is found in its seat; one that is not there yet is to sit in the seat of its number.
use Rattle.std.proofs.Common.{◌≡◌, ◌<◌, ℕ, sym, subst, arith}
use Rattle.sc_journal.specs.Seats.{seats}
use Rattle.sc_replicas.specs.Cores.{HasCore}
use Rattle.sc_bucket.proofs.SeatLemmas.{seat_found}
use Rattle.sc_bucket.proofs.bucket.Bucket.seat_of.Goals as goal

pub returns-then-has_core-clause-none : goal.returns-then-has_core-clause-none
returns-then-has_core-clause-none c =
    let has = c.has_core.ensures.0 c.if-has_core.true in
    let found = seat_found c.args.self.now c.args.slice c.args.core c.seat_of.result c.requires has c.seat_of.ensures in
    let (slice, inside, own, low, high) =
    subst (HasCore c.args.self.now.map c.args.slice) (sym c.unwrap_or.ensures) found.0 in (
      λ zero. let none : 0 < c.unwrap_or.result = low in absurd (omega (arith, none, zero)),
      λ no. absurd (no has),
    )

pub returns-then-has_core-clause-within : goal.returns-then-has_core-clause-within
returns-then-has_core-clause-within c some =
    let has = c.has_core.ensures.0 c.if-has_core.true in
    let found = seat_found c.args.self.now c.args.slice c.args.core c.seat_of.result c.requires has c.seat_of.ensures in
    subst (HasCore c.args.self.now.map c.args.slice) (sym c.unwrap_or.ensures) found.0

pub returns-then-has_core-clause-seat : goal.returns-then-has_core-clause-seat
returns-then-has_core-clause-seat c some =
    let has = c.has_core.ensures.0 c.if-has_core.true in
    let found = seat_found c.args.self.now c.args.slice c.args.core c.seat_of.result c.requires has c.seat_of.ensures in
    subst (λ (seat : ℕ). seats c.args.self.now.journal.entries c.args.slice seat ≡ c.args.core) (sym c.unwrap_or.ensures) found.1
