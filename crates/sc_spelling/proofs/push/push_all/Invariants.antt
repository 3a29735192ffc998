-- So far the number of the fields and the spellings of the first of them stand at the end.
use Rattle.std.proofs.Common.{◌≡◌, ◌++◌, length, take}
use Rattle.std.specs.Int.{w32, to_le_bytes}
use Rattle.std.specs.List.{flat_map, AllByRecursion}
use Rattle.sc_values.specs.Fields.{FitsField}
use Rattle.sc_spelling.specs.Spellings.{spelling_of_field}
use Rattle.sc_spelling.proofs.push.push_all.Given as goal

abbrev pub invariant-loop-field : goal.invariant-loop-field
invariant-loop-field l =
    (l.out.items ≡ l.fn.out.items ++ (to_le_bytes w32 (length l.fields) ++ flat_map spelling_of_field (take l.field-index l.fields)))
    × AllByRecursion FitsField (take l.field-index l.fields)
