-- The rows are of one document.
use Rattle.std.proofs.Common.{◌≡◌, [], ◌∷◌, ◌++◌, map, sym, ap, subst, ◌∙◌, arith}
use Rattle.std.specs.Arc.{arc_value}
use Rattle.std.specs.List.Sorted.{IsStrictlySortedBy}
use Rattle.sc_record.specs.Writes.{Write}
use Rattle.sc_snapshot.specs.Rows.{AreRows}
use Rattle.sc_tests.proofs.parts.snapshot.Goals as goal

one : (row : Write) → AreRows (row ∷ [])
unfolding IsStrictlySortedBy
one row = record { ascend = (tt, tt); bounded = omega arith }

pub from_list-requires : goal.from_list-requires
from_list-requires c =
    subst AreRows (sym (ap (map arc_value) (c.in_ok-push.ensures.ok ∙ ap (λ xs. xs ++ c.in_ok-document.field-0 ∷ []) c.new-cells.ensures))) (one _)
