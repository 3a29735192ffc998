-- The fields that are left, after those so far, are all that were left.
use Rattle.std.proofs.Common.{◌≡◌, ◌+◌, ◌++◌, length}
use Rattle.std.specs.List.{flat_map}
use Rattle.sc_spelling.specs.Spellings.{spelling_of_field}
use Rattle.sc_partial.specs.Runs.{next_fields}
use Rattle.sc_partial.proofs.merge.push_left.Given as goal

abbrev pub invariant-loop-field : goal.invariant-loop-field
invariant-loop-field l =
    (l.made.count + length l.field-iterator ≡ l.fn.made.count + length (next_fields l.fn.next l.fn.others))
    × (l.made.bytes ++ flat_map spelling_of_field l.field-iterator
    ≡ l.fn.made.bytes ++ flat_map spelling_of_field (next_fields l.fn.next l.fn.others))
