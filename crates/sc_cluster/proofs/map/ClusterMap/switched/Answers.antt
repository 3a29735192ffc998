-- A switch is one step of `after`.
use Rattle.std.proofs.Common.{◌∙◌, map, ap, arith}
use Rattle.sc_cluster.specs.Slices.{forming}
use Rattle.sc_cluster.specs.Changes.{Change, switched_slice}
use Rattle.sc_cluster.proofs.ItemLemmas.{take-written_map}
use Rattle.sc_cluster.proofs.MapAnswerLemmas.{IsMap-changed}
use Rattle.sc_cluster.proofs.MapLemmas.{switched_is_idle}
use Rattle.sc_cluster.proofs.map.ClusterMap.switched.Goals as goal

pub invariant_of-self : goal.invariant_of-self
invariant_of-self c =
    let old = c.self.inside.slices in
    let step = switched_slice c.args.parent in
    let written = take-written_map step old.len c.replace_parent.new.slices old.items (omega arith) (c.replace_parent.ensures ∙ ap (map step) c.deref_mut.ensures.value) in
    IsMap-changed old.items c.args.self.now _ (Change.Switched c.args.parent) c.self.view_is written c.self.invariant c.requires

pub returns-clause-idle : goal.returns-clause-idle
returns-clause-idle c =
    let old = c.self.inside.slices in
    let step = switched_slice c.args.parent in
    let written = take-written_map step old.len c.replace_parent.new.slices old.items (omega arith) (c.replace_parent.ensures ∙ ap (map step) c.deref_mut.ensures.value) in
    ap forming written ∙ switched_is_idle old.items c.args.parent

pub returns-clause-map : goal.returns-clause-map
returns-clause-map c =
    let old = c.self.inside.slices in
    let step = switched_slice c.args.parent in
    let written = take-written_map step old.len c.replace_parent.new.slices old.items (omega arith) (c.replace_parent.ensures ∙ ap (map step) c.deref_mut.ensures.value) in
    IsMap-changed old.items c.args.self.now _ (Change.Switched c.args.parent) c.self.view_is written c.self.invariant c.requires
