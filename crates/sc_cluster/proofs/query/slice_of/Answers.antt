-- What the search by the id finds.
use Rattle.sc_cluster.proofs.FindLemmas.{slice_from_find}
use Rattle.sc_cluster.proofs.query.slice_of.Goals as goal

pub returns : goal.returns
returns c = slice_from_find c.args.slices.now c.args.id c.find.result c.find.ensures
