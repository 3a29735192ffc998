-- The rows that were passed are sifted.
use Rattle.std.proofs.Common.{◌≡◌, ◌++◌, ℕ, List, take}
use Rattle.sc_rows.specs.Sifting.{IsSieve, sifted}
use Rattle.sc_rows.proofs.sifting.Sieve.sift.Given as goal

abbrev pub invariant-loop-row : goal.invariant-loop-row
invariant-loop-row l = (others : List ℕ) → IsSieve others l.self → l.kept.items ≡ l.initial.kept.items ++ sifted others l.wanted (take l.row-index l.rows)
