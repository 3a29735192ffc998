-- The spellings of the values that are left, after what was put at the end so far, are those of all values after what stands before them.
use Rattle.std.proofs.Common.{◌≡◌, ◌++◌, suc, length}
use Rattle.std.specs.List.{flat_map}
use Rattle.sc_spelling.specs.Spellings.{spelling_of_value}
use Rattle.sc_record.specs.DocParts.{spelling_before_values}
use Rattle.sc_record.proofs.doc_builder.DocBuilder.push_lent.Given as goal

abbrev pub invariant-loop-value : goal.invariant-loop-value
invariant-loop-value l =
    (l.self.count ≡ suc l.fn.self.count)
    × (l.self.bytes ++ flat_map spelling_of_value l.value-iterator
    ≡ (l.fn.self.bytes ++ spelling_before_values l.fn.field.name.now (length l.fn.field.values)) ++ flat_map spelling_of_value l.fn.field.values)
