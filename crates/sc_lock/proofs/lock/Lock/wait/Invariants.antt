-- `wait`: its loop leaves the seat as it is until the ticket is served.
use Rattle.std.proofs.Common.{◌≡◌, ◌≤◌}
use Rattle.sc_lock.specs.Tokens.{IsSameSeat}
use Rattle.sc_lock.proofs.lock.Lock.wait.Given as goal

abbrev pub invariant-loop : goal.invariant-loop
invariant-loop g l =
    IsSameSeat l.initial.seat l.seat × (l.seat.me ≡ l.initial.seat.me) × (l.looks ≤ 7)
