-- As many trails were made as were counted, and there is room for all.
use Rattle.std.proofs.Common.{◌≡◌, ◌≤◌, vec_len, vec_capacity}
use Rattle.sc_session.proofs.listener.empty_trails.Given as goal

-- as many trails were made as were counted, and there is room for all
abbrev pub invariant-loop : goal.invariant-loop
invariant-loop l = (vec_len l.trails ≡ l.counter) × (l.count ≤ vec_capacity l.trails)
