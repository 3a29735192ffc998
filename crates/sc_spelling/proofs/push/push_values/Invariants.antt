-- So far the number of the values and the spellings of the first of them stand at the end.
use Rattle.std.proofs.Common.{◌≡◌, ◌++◌, length, take}
use Rattle.std.specs.Int.{w32, to_le_bytes}
use Rattle.std.specs.List.{flat_map, AllByRecursion}
use Rattle.sc_values.specs.Fields.{FitsValue}
use Rattle.sc_spelling.specs.Spellings.{spelling_of_value}
use Rattle.sc_spelling.proofs.push.push_values.Given as goal

abbrev pub invariant-loop-value : goal.invariant-loop-value
invariant-loop-value l =
    (l.out.items ≡ l.fn.out.items ++ (to_le_bytes w32 (length l.values) ++ flat_map spelling_of_value (take l.value-index l.values)))
    × AllByRecursion FitsValue (take l.value-index l.values)
