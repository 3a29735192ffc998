-- Spaces are passed over.
use Rattle.std.proofs.Common.{◌≡◌, ◌-◌, ◌≤◌, length, drop}
use Rattle.std.specs.Str.{IsCharBoundary}
use Rattle.sc_query.specs.Tokens.{tokens_from}
use Rattle.sc_query.proofs.lexeme.next.Given as goal

-- the tokens from here on are those from the start on
abbrev pub invariant-loop-at : goal.invariant-loop-at
invariant-loop-at l = record {
  forward : l.from ≤ l.at;
  boundary : IsCharBoundary l.text l.at;
  same : tokens_from 0 l.at (drop l.at l.text) ≡ tokens_from 0 l.from (drop l.from l.text);
}

abbrev pub decreases-loop-at : goal.decreases-loop-at
decreases-loop-at l = length l.text - l.at
