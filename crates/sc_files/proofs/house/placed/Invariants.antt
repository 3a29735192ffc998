-- Each so far stands in its place, and in the other list nothing does; there is room for all.
use Rattle.std.proofs.Common.{◌≡◌, ◌≤◌, map, Some, None, vec_len, vec_capacity}
use Rattle.sc_files.proofs.house.placed.Given as goal

abbrev pub invariant-loop-one : goal.invariant-loop-one
invariant-loop-one g l =
    (goal.iterator-loop-one g).can_next l.one-iterator ×
    (goal.iterator-loop-one g).is_finite l.one-iterator ×
    (l.given.items ≡ map (λ one. Some one) l.yielded) × (l.back.items ≡ map (λ one. None) l.yielded) ×
    (vec_len l.fn.all ≤ vec_capacity l.given) × (vec_len l.fn.all ≤ vec_capacity l.back)
