-- The bucket is sound, and no bucket and no board is out of the desk, between two lines.
use Rattle.std.proofs.Common.{◌≡◌, None}
use Rattle.sc_bucket.specs.Sound.{IsSound}
use Rattle.sc_examples.proofs.answer_lines.Given as goal

abbrev pub invariant-loop-line : goal.invariant-loop-line
invariant-loop-line g l =
    (goal.iterator-loop-line g).can_next l.line-iterator × (goal.iterator-loop-line g).is_finite l.line-iterator
    × IsSound l.stage.bucket × (l.stage.collection.desk.out ≡ None) × (l.stage.collection.desk.board_out ≡ None)
