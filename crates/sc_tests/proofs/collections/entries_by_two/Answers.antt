-- `entries_by_two`: both desks are over a collection of two buckets.
use Rattle.std.proofs.Common.{◌<◌, ℕ, sym, subst, arith}
use Rattle.sc_shared.specs.Collections.{Locks, layout_of}
use Rattle.sc_tests.proofs.collections.entries_by_two.Goals as goal

pub entries_of_both-entries-requires-clause-one : goal.entries_of_both-entries-requires-clause-one
entries_of_both-entries-requires-clause-one g c = (
  c.new-one.ensures.nothing_out,
  subst (λ (locks : Locks). 1 < (layout_of locks).buckets) (sym c.new-one.ensures.locks)
      (subst (λ (n : ℕ). 1 < n) (sym c.requires.two) (omega arith)),
)

pub entries_of_both-entries-requires-clause-other : goal.entries_of_both-entries-requires-clause-other
entries_of_both-entries-requires-clause-other g c = (
  c.new-other.ensures.nothing_out,
  subst (λ (locks : Locks). 1 < (layout_of locks).buckets) (sym c.new-other.ensures.locks)
      (subst (λ (n : ℕ). 1 < n) (sym c.requires.two) (omega arith)),
)
