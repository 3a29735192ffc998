-- The terms of the keys so far are at the end.
use Rattle.std.proofs.Common.{◌≡◌, map, take}
use Rattle.sc_schema.specs.Keys.{with_keys}
use Rattle.sc_schema.proofs.terms.push_lent_keys.Given as goal

abbrev pub invariant-loop-key : goal.invariant-loop-key
invariant-loop-key l = l.terms ≡ with_keys (take l.key-index (map (λ k. k.now) l.keys)) l.initial.terms
