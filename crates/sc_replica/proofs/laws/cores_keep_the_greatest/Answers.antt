-- The laws are the lemmas of these names.
use Rattle.sc_replica.proofs.CellLemmas.{put-ascends, write_of-put}
use Rattle.sc_replica.proofs.CoreLemmas.{IsCore-led, IsCore-fed, IsCore-received, IsCore-replayed}
use Rattle.sc_replica.proofs.GreatestLemmas.{keeps-greatest, led-fed, fed-older}
use Rattle.sc_replica.proofs.ConvergeLemmas.{converge}
use Rattle.sc_replica.proofs.ReplayLemmas.{replays-what-it-buffered}
use Rattle.sc_replica.proofs.CoverLemmas.{loses-nothing}
use Rattle.sc_replica.proofs.laws.cores_keep_the_greatest.Goals as goal

pub returns-clause-puts : goal.returns-clause-puts
returns-clause-puts c = record { one_cell = write_of-put; order = put-ascends }

pub returns-clause-core : goal.returns-clause-core
returns-clause-core c = λ core write is. (IsCore-led core write is, IsCore-fed core write is, IsCore-received core write is, IsCore-replayed core is)

pub returns-clause-greatest : goal.returns-clause-greatest
returns-clause-greatest c = keeps-greatest

pub returns-clause-leads : goal.returns-clause-leads
returns-clause-leads c = led-fed

pub returns-clause-same : goal.returns-clause-same
returns-clause-same c = converge

pub returns-clause-replays : goal.returns-clause-replays
returns-clause-replays c = replays-what-it-buffered

pub returns-clause-older : goal.returns-clause-older
returns-clause-older c = fed-older

pub returns-clause-nothing_lost : goal.returns-clause-nothing_lost
returns-clause-nothing_lost c = loses-nothing
