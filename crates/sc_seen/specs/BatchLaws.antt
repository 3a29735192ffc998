-- A law of the orders of one request, above their definitions.
use Rattle.std.specs.Prelude.{◌≡◌, true, take}
use Rattle.sc_journal.specs.Journal.{is_settled}
use Rattle.sc_seen.specs.Seen.{Seen, place_after}
use Rattle.sc_seen.specs.Batches.{IsSettling}
use Rattle.sc_seen.specs.declared.stop.Stop.{Stop}

-- whether it made an entry or not, after an accepted order's last stop the write of the first is settled
abbrev pub LastStopsSettle : Type 0
LastStopsSettle = (seen : Seen) (first last : Stop) → IsSettling seen first last
    → is_settled (take (place_after last) (seen.journals last.lock)) first.place ≡ true
