-- The keys of the members that are left decide.
use Rattle.std.proofs.Common.{◌≡◌, List, ℕ, Bor, map}
use Rattle.serde_json.specs.View.{members_view}
use Rattle.sc_commands.specs.Commands.{has_only}
use Rattle.sc_commands.proofs.keys.has_only.Given as goal

abbrev pub invariant-loop-name : goal.invariant-loop-name
invariant-loop-name l =
    has_only (map (λ (key : Bor (List ℕ)). key.now) l.keys) (members_view l.name-iterator) ≡ has_only (map (λ (key : Bor (List ℕ)). key.now) l.keys) (members_view l.fn.members.entries)
