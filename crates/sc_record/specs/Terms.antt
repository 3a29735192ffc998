-- The order of terms.
use Rattle.std.specs.Cmp.Lexicographic.{slice_cmp}
use Rattle.std.specs.Ordering.{nat_cmp, ordering_then}
use Rattle.std.specs.declared.cmp.Ordering.{Ordering}
use Rattle.sc_record.specs.declared.term.Term.{Term}

-- terms ascend by field, then by key, each by its bytes
abbrev pub term_cmp : Term → Term → Ordering
term_cmp x y = ordering_then (slice_cmp nat_cmp x.field y.field) (slice_cmp nat_cmp x.key y.key)
