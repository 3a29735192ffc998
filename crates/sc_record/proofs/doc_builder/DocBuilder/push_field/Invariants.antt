-- So far what stands before the values and the spellings of the first of them stand at the end.
use Rattle.std.proofs.Common.{◌≡◌, ◌++◌, suc, length, take}
use Rattle.std.specs.List.{flat_map, AllByRecursion}
use Rattle.sc_values.specs.Fields.{FitsValue}
use Rattle.sc_spelling.specs.Spellings.{spelling_of_value}
use Rattle.sc_record.specs.DocParts.{spelling_before_values}
use Rattle.sc_record.proofs.doc_builder.DocBuilder.push_field.Given as goal

abbrev pub invariant-loop-value : goal.invariant-loop-value
invariant-loop-value l =
    (l.self.count ≡ suc l.fn.self.count)
    × (l.self.bytes ≡ (l.fn.self.bytes ++ spelling_before_values l.name (length l.values)) ++ flat_map spelling_of_value (take l.value-index l.values))
    × AllByRecursion FitsValue (take l.value-index l.values)
