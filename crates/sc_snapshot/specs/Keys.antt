-- The order of the terms as keys of posting lists.
use Rattle.std.specs.Cmp.Lexicographic.{slice_cmp}
use Rattle.std.specs.Ordering.{nat_cmp, ordering_then}
use Rattle.std.specs.declared.cmp.Ordering.{Ordering}
use Rattle.sc_record.specs.declared.term.Term.{Term}

-- keys ascend by the text that is looked for, and then by its field
abbrev pub key_cmp : Term → Term → Ordering
key_cmp x y = ordering_then (slice_cmp nat_cmp x.key y.key) (slice_cmp nat_cmp x.field y.field)
