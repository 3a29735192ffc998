-- So far the first replicas stand at the end, and all are new.
use Rattle.std.proofs.Common.{◌≡◌, ◌++◌, ℕ, All, map}
use Rattle.std.specs.List.{range_with_len}
use Rattle.sc_replicas.specs.Cores.{core_key, IsCounted, IsNewCore}
use Rattle.sc_replicas.proofs.replicas.push_replicas.Given as goal

abbrev pub invariant-loop-below : goal.invariant-loop-below
invariant-loop-below l = record {
  keys : map core_key l.replicas.items ≡ map core_key l.initial.replicas.items ++ map (λ (replica : ℕ). (l.slice.id.0, replica)) (range_with_len 1 l.below);
  new : All IsNewCore l.initial.replicas.items → All IsNewCore l.replicas.items;
  counted : All IsCounted l.initial.replicas.items → All IsCounted l.replicas.items;
}
