-- The name is none of the keys before the index.
use Rattle.std.proofs.Common.{◌≡◌, List, ℕ, Bor, map, drop}
use Rattle.std.specs.List.{list_any}
use Rattle.std.specs.Str.{bytes_eq}
use Rattle.sc_commands.proofs.keys.is_one_of.Given as goal

abbrev pub invariant-loop-key : goal.invariant-loop-key
invariant-loop-key l =
    list_any (bytes_eq l.name) (map (λ (key : Bor (List ℕ)). key.now) (drop l.key-index l.keys)) ≡ list_any (bytes_eq l.name) (map (λ (key : Bor (List ℕ)). key.now) l.keys)
