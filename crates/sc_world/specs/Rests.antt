-- How a bucket comes to rest.
use Rattle.std.specs.Prelude.{◌≡◌, ◌≤◌, Bool, true, false, List, length, All}
use Rattle.sc_record.specs.Writes.{Write}
use Rattle.sc_journal.specs.Splits.{owed}
use Rattle.sc_journal.specs.Laws.{IsJournalAtRest}
use Rattle.sc_bucket.specs.Sound.{IsSound}
use Rattle.sc_bucket.specs.declared.bucket.Bucket.{Bucket}
use Rattle.sc_world.specs.declared.event.Event.{Event}
use Rattle.sc_world.specs.declared.event.Event.TheVariants as events
use Rattle.sc_world.specs.Runs.{Runs, EventsRunOut}

-- the event settles a write, gives up a split or drops a slice
abbrev pub is_closing : Event → Bool
is_closing (events.Settle place) = true
is_closing events.Abort = true
is_closing (events.Drop slice) = true
is_closing _ = false

-- Such events bring a bucket to rest, and they are no more than the entries that it owes. Memory doesn't run out at any. Once they
-- came the journal is within its limit, each write is settled, no split is open, and no slice is inactive.
pub record BringToRest (old : Bucket) (closing : List Event) : Type 0 where
  pub close : All (λ (event : Event). is_closing event ≡ true) closing
  pub few : length closing ≤ owed old.first old.journal.entries
  pub in_memory : (added : List Write) (new : Bucket) → ¬ EventsRunOut old closing added new
  pub within : (added : List Write) (new : Bucket) → Runs old closing added new → length new.journal.entries ≤ old.limit
  pub at_rest : (added : List Write) (new : Bucket) → Runs old closing added new → IsJournalAtRest new.first new.journal.entries

-- every sound bucket can be brought to rest, within the entries that it owes
abbrev pub BucketsComeToRest : Type 0
BucketsComeToRest = (old : Bucket) → IsSound old → (closing : List Event) × BringToRest old closing
