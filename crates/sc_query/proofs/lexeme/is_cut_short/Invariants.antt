-- Whether the rest is cut short says whether the whole is.
use Rattle.std.proofs.Common.{◌≡◌, ◌-◌, ◌≤◌, length, drop}
use Rattle.sc_query.specs.Tokens.{is_cut_short}
use Rattle.sc_query.proofs.lexeme.is_cut_short.Given as goal

abbrev pub invariant-loop-at : goal.invariant-loop-at
invariant-loop-at l = record {
  within : l.at ≤ length l.bytes;
  same : is_cut_short (drop l.at l.bytes) ≡ is_cut_short l.bytes;
}

abbrev pub decreases-loop-at : goal.decreases-loop-at
decreases-loop-at l = length l.bytes - l.at
