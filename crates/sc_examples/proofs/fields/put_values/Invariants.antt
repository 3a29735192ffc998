-- What stands before the next value is text.
use denote.Text.{Utf8}
use denote.Shadow.{shadow}
use Rattle.sc_examples.proofs.fields.put_values.Given as goal

-- what the iterator keeps, and that the text before the next value is one
abbrev pub invariant-loop-value : goal.invariant-loop-value
invariant-loop-value l =
    (goal.iterator-loop-value).can_next l.value-iterator × (goal.iterator-loop-value).is_finite l.value-iterator × shadow (Utf8 l.before)
