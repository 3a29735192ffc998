-- What is written so far, and what the rest stands for.
use Rattle.std.proofs.Common.{◌≡◌, ◌++◌, ◌-◌, ◌≤◌, length, take, drop, string_bytes}
use Rattle.std.specs.Str.{IsCharBoundary}
use Rattle.sc_query.specs.Tokens.{plain}
use Rattle.sc_query.proofs.lexeme.plain.Given as goal

-- what is written, what is passed since, and what the rest stands for are the whole
abbrev pub invariant-loop-at : goal.invariant-loop-at
invariant-loop-at l = record {
  within : l.at ≤ length l.bytes;
  passed : l.from ≤ l.at;
  boundary : IsCharBoundary l.bytes l.from;
  whole : string_bytes l.text ++ (take (l.at - l.from) (drop l.from l.bytes) ++ plain (drop l.at l.bytes)) ≡ plain l.bytes;
}

abbrev pub decreases-loop-at : goal.decreases-loop-at
decreases-loop-at l = length l.bytes - l.at
