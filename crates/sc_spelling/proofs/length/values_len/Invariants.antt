-- So far the sum is the bytes of the first values.
use Rattle.std.proofs.Common.{◌≡◌, length, take}
use Rattle.std.specs.List.{flat_map}
use Rattle.sc_spelling.specs.Spellings.{spelling_of_value}
use Rattle.sc_spelling.proofs.length.values_len.Given as goal

abbrev pub invariant-loop-value : goal.invariant-loop-value
invariant-loop-value l = l.sum ≡ length (flat_map spelling_of_value (take l.value-index l.values))
