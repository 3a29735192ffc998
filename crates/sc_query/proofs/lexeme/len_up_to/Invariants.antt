-- How far a part was passed, and what is left of it.
use Rattle.std.proofs.Common.{◌≡◌, ◌+◌, ◌-◌, ◌≤◌, length, drop}
use Rattle.sc_query.specs.Tokens.{up_to}
use Rattle.sc_query.proofs.BytesLemmas.{ends_of}
use Rattle.sc_query.proofs.lexeme.len_up_to.Given as goal

-- the bytes passed, and those that are left to pass, are all
abbrev pub invariant-loop-at : goal.invariant-loop-at
invariant-loop-at l = record {
  within : l.at ≤ length l.bytes;
  counted : l.at + length (up_to (ends_of l.part) (drop l.at l.bytes)) ≡ length (up_to (ends_of l.part) l.bytes);
}

abbrev pub decreases-loop-at : goal.decreases-loop-at
decreases-loop-at l = length l.bytes - l.at
