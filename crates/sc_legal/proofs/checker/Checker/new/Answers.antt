-- Nothing was passed, and the map is one of a cluster in which no split is open.
use Rattle.std.proofs.Common.{◌≡◌, List, [], sym, subst}
use Rattle.sc_cluster.specs.declared.slice.Slice.{Slice}
use Rattle.sc_cluster.specs.Slices.{forming}
use Rattle.sc_cluster.specs.Map.{IsMap}
use Rattle.sc_journal.proofs.LegalLemmas.{IsLegal-none}
use Rattle.sc_legal.specs.declared.kept.Kept.{Kept}
use Rattle.sc_legal.specs.Kept.{IsKept, IsChecked}
use Rattle.sc_legal.proofs.checker.Checker.new.Goals as goal

-- this is kept of no entries, where the first map is a copy of this
nothing_passed : (first slices : List Slice) (kept : Kept) → first ≡ slices → IsMap slices → forming slices ≡ []
    → IsKept slices [] kept → IsChecked first [] kept
nothing_passed first slices kept same is_map idle kept_is =
    subst (λ (s : List Slice). IsChecked s [] kept) (sym same)
    (record { begins = is_map; idle = idle; legal = IsLegal-none slices; kept_is = kept_is })

pub invariant_of-result : goal.invariant_of-result
invariant_of-result c =
    subst (λ items. IsChecked c.in_ok-first.first (Rattle.sc_legal.specs.Kept.entries_of items) c.in_ok-kept.kept) (sym c.new-2.ensures)
    (nothing_passed c.in_ok-first.first c.args.map.now c.in_ok-kept.kept c.in_ok-first.ensures c.get.ensures.map c.requires c.in_ok-kept.ensures)
