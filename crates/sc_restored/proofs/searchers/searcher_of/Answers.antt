-- The last writes of a range may be rows.
use Rattle.std.proofs.Common.{◌∙◌, List, Global, map, refl, sym, ap, subst, arith}
use Rattle.std.specs.Arc.{arc_value}
use Rattle.std.specs.declared.sync.Arc.{Arc}
use Rattle.std.proofs.lemmas.List.{length-map}
use Rattle.sc_record.specs.Writes.{Write}
use Rattle.sc_snapshot.specs.Rows.{AreRows}
use Rattle.sc_replicas.specs.declared.standing.Standing.{Standing}
use Rattle.sc_restored.proofs.LastLemmas.{last_are_few}
use Rattle.sc_restored.proofs.ShownLemmas.{shown_by}
use Rattle.sc_restored.proofs.searchers.searcher_of.Goals as goal

pub from_list-requires : goal.from_list-requires
from_list-requires c =
    let cells = map arc_value c.in_ok-rows.rows.items in
    let few = last_are_few c.args.slice.now.range (map arc_value c.args.writes.now) cells c.in_ok-rows.ensures.ascend c.in_ok-rows.ensures.last in
    subst (λ (these : List (Arc Write Global)). AreRows (map arc_value these)) (sym c.from_vec.ensures)
    (record { ascend = c.in_ok-rows.ensures.ascend; bounded = omega (arith, few, length-map c.args.writes.now arc_value, c.requires) })

pub returns : goal.returns
returns c =
    let searcher : Standing = record { slice = c.args.slice.now.id; range = c.args.slice.now.range; snapshot = c.in_ok-new.field-0 } in
    shown_by c.args.place (map arc_value c.args.writes.now) c.args.slice.now (map arc_value c.in_ok-rows.rows.items) searcher refl refl
    (c.in_ok-new.ensures.ok ∙ c.in_ok-snapshot.ensures
    ∙ ap (λ (cells : List (Arc Write Global)). record { place = c.args.place; rows = map arc_value cells }) c.from_vec.ensures)
    c.in_ok-rows.ensures.ascend c.in_ok-rows.ensures.last
