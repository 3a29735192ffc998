-- The desk is over the collection, and has seen what the passes have.
use Rattle.std.proofs.Common.{◌≡◌, ap, refl, sym, ◌∙◌}
use Rattle.sc_shared.specs.Passes.{seen_of}
use Rattle.sc_shared.specs.Collections.{layout_of}
use Rattle.sc_demo.proofs.TellLemmas.{counted_at}
use Rattle.sc_demo.proofs.telling.count_at.Goals as goal

pub returns : goal.returns
returns g c =
    counted_at (layout_of c.new-desk.result.locks) (layout_of c.args.collection.now) (seen_of c.new-desk.result.passes) (seen_of c.args.passes)
    (seen_of c.count_on-found.new.desk.passes) c.count_on-found.result (ap layout_of c.new-desk.ensures.locks) (ap seen_of c.new-desk.ensures.passes)
    c.count_on-found.ensures.found
