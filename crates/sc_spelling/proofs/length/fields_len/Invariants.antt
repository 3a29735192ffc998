-- So far the sum is the bytes of the number of the fields and of the first of them.
use Rattle.std.proofs.Common.{◌≡◌, ◌+◌, length, take}
use Rattle.std.specs.List.{flat_map}
use Rattle.sc_spelling.specs.Spellings.{spelling_of_field}
use Rattle.sc_spelling.proofs.length.fields_len.Given as goal

abbrev pub invariant-loop-field : goal.invariant-loop-field
invariant-loop-field l = l.sum ≡ 4 + length (flat_map spelling_of_field (take l.field-index l.fields))
