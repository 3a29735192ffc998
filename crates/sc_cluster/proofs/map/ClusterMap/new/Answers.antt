-- The first slices are a map.
use Rattle.sc_cluster.proofs.MapLemmas.{first_is_map, first_is_idle}
use Rattle.sc_cluster.proofs.map.ClusterMap.new.Goals as goal

pub invariant_of-result : goal.invariant_of-result
invariant_of-result c =
    first_is_map c.args.shards c.args.replicas c.args.nodes _ c.requires.least c.requires.most c.in_ok-first_slices.ensures

pub returns-clause-map : goal.returns-clause-map
returns-clause-map c =
    first_is_map c.args.shards c.args.replicas c.args.nodes _ c.requires.least c.requires.most c.in_ok-first_slices.ensures

pub returns-clause-idle : goal.returns-clause-idle
returns-clause-idle c = first_is_idle c.args.shards c.args.replicas c.args.nodes _ c.in_ok-first_slices.ensures
