-- A recovery is one step of `after`.
use Rattle.std.proofs.Common.{◌∙◌, map, subst, sym, ap, arith}
use Rattle.sc_cluster.specs.Changes.{Change, IsBeingSplit, recovering_slice}
use Rattle.sc_cluster.proofs.ItemLemmas.{take-written_map}
use Rattle.sc_cluster.proofs.MapAnswerLemmas.{IsMap-changed}
use Rattle.sc_cluster.proofs.MapLemmas.{recovering_is_split}
use Rattle.sc_cluster.proofs.map.ClusterMap.recovering.Goals as goal

pub invariant_of-self : goal.invariant_of-self
invariant_of-self c =
    let old = c.self.inside.slices in
    let written = take-written_map recovering_slice old.len c.start_recovery.new.slices old.items (omega arith) (c.start_recovery.ensures ∙ ap (map recovering_slice) c.deref_mut.ensures.value) in
    IsMap-changed old.items c.args.self.now _ (Change.Recovering c.args.parent) c.self.view_is written c.self.invariant c.requires

pub returns-clause-split : goal.returns-clause-split
returns-clause-split c =
    let old = c.self.inside.slices in
    let written = take-written_map recovering_slice old.len c.start_recovery.new.slices old.items (omega arith) (c.start_recovery.ensures ∙ ap (map recovering_slice) c.deref_mut.ensures.value) in
    let split = subst (λ slices. IsBeingSplit slices c.args.parent) (sym c.self.view_is) c.requires.0 in
    subst (λ slices. IsBeingSplit slices c.args.parent) (sym written) (recovering_is_split old.items c.args.parent split)

pub returns-clause-map : goal.returns-clause-map
returns-clause-map c =
    let old = c.self.inside.slices in
    let written = take-written_map recovering_slice old.len c.start_recovery.new.slices old.items (omega arith) (c.start_recovery.ensures ∙ ap (map recovering_slice) c.deref_mut.ensures.value) in
    IsMap-changed old.items c.args.self.now _ (Change.Recovering c.args.parent) c.self.view_is written c.self.invariant c.requires
