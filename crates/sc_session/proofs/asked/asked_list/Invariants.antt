-- The ids are the texts that were yielded, each of which is an id, and no more than may be.
use Rattle.std.proofs.Common.{◌≡◌, ◌≤◌, map, length, true, List, ℕ}
use Rattle.std.proofs.Common.{Bor}
use Rattle.std.specs.List.{list_all}
use Rattle.sc_session.specs.Requests as asking
use Rattle.sc_session.proofs.asked.asked_list.Given as goal

abbrev pub invariant-loop-part : goal.invariant-loop-part
invariant-loop-part l =
    (l.ids ≡ map (λ (part : Bor (List ℕ)). part.now) l.yielded)
    × (list_all asking.is_id l.ids ≡ true)
    × (length l.ids ≤ asking.most_ids)
