-- `commit`: an empty trail has room for the stops of two buckets.
use Rattle.std.proofs.Common.{◌≤◌, ◌+◌, ℕ, length, sym, subst, arith}
use Rattle.sc_collection.specs.Kept.{Kept, trail_room}
use Rattle.sc_shared.specs.Collections.{Locks, layout_of}
use Rattle.sc_tests.proofs.collections.commit.Goals as goal

pub commit_all-fault-requires-clause-room : goal.commit_all-fault-requires-clause-room
commit_all-fault-requires-clause-room g c =
    subst (λ (kept : Kept). length kept.stops + (layout_of c.new-desk.result.locks).buckets ≤ trail_room) (sym c.in_ok-trail.ensures)
    (subst (λ (locks : Locks). 0 + (layout_of locks).buckets ≤ trail_room) (sym c.new-desk.ensures.locks)
    (subst (λ (n : ℕ). 0 + n ≤ trail_room) (sym c.requires.two) (omega arith)))

pub passes_of-passes-requires-clause-nothing_out : goal.passes_of-passes-requires-clause-nothing_out
passes_of-passes-requires-clause-nothing_out g c = c.commit_all-fault.ensures.rest.nothing_out
