-- A drop is one step of `after`.
use Rattle.std.proofs.Common.{◌∙◌, ap}
use Rattle.sc_cluster.specs.Slices.{forming}
use Rattle.sc_cluster.specs.Changes.{Change}
use Rattle.sc_cluster.proofs.MapAnswerLemmas.{IsMap-changed}
use Rattle.sc_cluster.proofs.MapLemmas.{dropped_is_idle}
use Rattle.sc_cluster.proofs.map.ClusterMap.dropped.Goals as goal

pub invariant_of-self : goal.invariant_of-self
invariant_of-self c =
    IsMap-changed c.self.inside.slices.items c.args.self.now _ (Change.Dropped c.args.slice) c.self.view_is c.remove_slice.ensures c.self.invariant c.requires

pub returns-clause-idle : goal.returns-clause-idle
returns-clause-idle c = ap forming c.remove_slice.ensures ∙ dropped_is_idle c.self.inside.slices.items c.args.slice (ap forming c.self.view_is ∙ c.requires.0)

pub returns-clause-map : goal.returns-clause-map
returns-clause-map c =
    IsMap-changed c.self.inside.slices.items c.args.self.now _ (Change.Dropped c.args.slice) c.self.view_is c.remove_slice.ensures c.self.invariant c.requires
