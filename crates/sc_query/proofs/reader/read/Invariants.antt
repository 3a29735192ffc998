-- The rest is read as the whole is.
use Rattle.std.proofs.Common.{◌≡◌, ◌-◌, length, drop}
use Rattle.std.specs.Str.{IsCharBoundary}
use Rattle.sc_query.specs.Tokens.{tokens_from}
use Rattle.sc_query.proofs.Reading.{reader_of}
use Rattle.sc_query.proofs.Runs.{run, reading}
use Rattle.sc_query.proofs.reader.read.Given as goal

-- from here on the rest is read as the whole is from its start
abbrev pub invariant-loop-lexeme : goal.invariant-loop-lexeme
invariant-loop-lexeme l = record {
  boundary : IsCharBoundary l.text l.from;
  same : run (length l.text) (reader_of l.outer.items l.level l.operand) (tokens_from 0 l.from (drop l.from l.text)) ≡ reading l.text;
}

abbrev pub decreases-loop-lexeme : goal.decreases-loop-lexeme
decreases-loop-lexeme l = length l.text - l.from
