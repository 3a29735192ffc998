-- How many slots there are, and what was seen is legal.
use Rattle.std.proofs.Common.{subst}
use Rattle.sc_seen.specs.Seen.{AreLegal}
use Rattle.sc_collection.specs.Alone.{AloneState, seen_alone}
use Rattle.sc_collection.proofs.DeskLemmas.{desk_is_legal}
use Rattle.sc_collection.proofs.alone.AloneDesk.buckets.Goals as goal

pub returns-clause-legal : goal.returns-clause-legal
returns-clause-legal c =
    subst (λ (desk : AloneState). AreLegal desk.layout (seen_alone desk)) c.self.view_is (desk_is_legal _ c.self.invariant)
