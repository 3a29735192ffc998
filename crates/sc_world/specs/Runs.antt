-- What becomes of a bucket by a list of events.
use Rattle.std.specs.Prelude.{◌≡◌, ◌⊎◌, List, [], ◌∷◌, ◌++◌}
use Rattle.sc_record.specs.Writes.{Write}
use Rattle.sc_bucket.specs.declared.bucket.Bucket.{Bucket}
use Rattle.sc_world.specs.declared.event.Event.{Event}
use Rattle.sc_world.specs.Steps.{Can, IsDone, IsRefused, FindsNoMemory}

-- the event came: it was done, or refused, and some writes were added
abbrev pub IsStepped : Bucket → Event → Bucket → Type 0
IsStepped old event new = (added : List Write) × (IsDone old event added new ⊎ ((added ≡ []) × IsRefused old event new))

-- the event was passed over, since its condition doesn't hold; or it was done, or refused; and these writes were added
abbrev pub IsPassed : Bucket → Event → List Write → Bucket → Type 0
IsPassed old event added new =
    ((¬ Can old event) × (added ≡ []) × (new ≡ old))
    ⊎ (Can old event × (IsDone old event added new ⊎ ((added ≡ []) × IsRefused old event new)))

-- the events came one after another, and these writes were added, in order
abbrev pub Runs : Bucket → List Event → List Write → Bucket → Type 0
Runs old [] added new = (added ≡ []) × (new ≡ old)
Runs old (event ∷ events) added new =
    (between : Bucket) × (first : List Write) × (rest : List Write)
    × IsPassed old event first between × Runs between events rest new × (added ≡ first ++ rest)

-- the events came up to one at which memory ran out
pub record EventsRunOut (old : Bucket) (events : List Event) (added : List Write) (new : Bucket) : Type 0 where
  pub before : List Event
  pub event : Event
  pub after : List Event
  pub parts : events ≡ before ++ event ∷ after
  pub between : Bucket
  pub runs : Runs old before added between
  pub can : Can between event
  pub out : FindsNoMemory between event new
