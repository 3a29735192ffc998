-- Each place takes the byte that comes next.
use Rattle.std.proofs.Common.{subst, inr}
use Rattle.sc_chunks.specs.Progress.{ReachesPlace}
use Rattle.sc_chunks.specs.declared.place.Place.{Place}
use Rattle.sc_chunks.proofs.step.step.Goals as goal

pub returns-in-Pad : goal.returns-in-Pad
returns-in-Pad c coded content before long room next =
    let pad = subst (λ (p : Place). ReachesPlace coded content p) c.in-Pad.is before in
    c.after_size.ensures coded content pad.0 pad.1 (inr pad.2)

pub returns-in-Extension : goal.returns-in-Extension
returns-in-Extension c coded content before long room next = c.after_extension.ensures coded content (subst (λ (p : Place). ReachesPlace coded content p) c.in-Extension.is before)

pub returns-in-DataFeed : goal.returns-in-DataFeed
returns-in-DataFeed c coded content before long room next = c.after_data_return.ensures coded content (subst (λ (p : Place). ReachesPlace coded content p) c.in-DataFeed.is before)
