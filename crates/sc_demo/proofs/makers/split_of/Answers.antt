-- The last maker made the split that is told.
use Rattle.sc_demo.proofs.TellLemmas.{tells_split}
use Rattle.sc_demo.proofs.makers.split_of.Goals as goal

pub returns : goal.returns
returns g c =
    tells_split c.args.makers.now c.split_told.result c.index-makers-makers.result c.requires.some c.index-makers-makers.is c.split_told.ensures
