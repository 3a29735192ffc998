-- The lines tell what is found.
use Rattle.sc_shared.specs.Passes.{seen_of}
use Rattle.sc_shared.specs.Collections.{layout_of}
use Rattle.sc_demo.proofs.TellLemmas.{lines_told}
use Rattle.sc_demo.proofs.telling.lines_on.Goals as goal

pub returns : goal.returns
returns g c =
    lines_told (layout_of c.args.collection.now) (seen_of c.args.passes) c.args.orders c.args.accepted c.args.split.now c.in_ok-found.found c.lines_of.result
    c.in_ok-found.ensures c.lines_of.ensures
