-- Each event of a bucket, whoever holds it, adds one entry to the journal's end, or none.
use Rattle.std.proofs.Common.{◌≡◌, ◌⊎◌, inl, inr, List, [], ◌∷◌, ◌++◌, ap}
use Rattle.sc_record.specs.declared.entry.Entry.{Entry}
use Rattle.sc_record.specs.declared.entry.Entry.TheVariants as entry
use Rattle.sc_bucket.specs.Events.{IsStep}
use Rattle.sc_bucket.specs.declared.bucket.Bucket.{Bucket}
use Rattle.sc_handover.specs.AnyEvent.{IsEvent, IsKeeperEvent}

-- the second journal is the first, or has one entry more
abbrev pub AddsAtMostOne : List Entry → List Entry → Type 0
AddsAtMostOne old new = (new ≡ old) ⊎ ((one : Entry) × (new ≡ old ++ one ∷ []))

-- so it is after each event of the bucket's own
step_adds : (old new : Bucket) → IsStep old new → AddsAtMostOne old.journal.entries new.journal.entries
step_adds old new (IsStep.stays same) = inl same.entries
step_adds old new (IsStep.accepts accepted) = inr (entry.Write accepted.cell, accepted.entries)
step_adds old new (IsStep.delivers delivered) = inl delivered.entries
step_adds old new (IsStep.settles {place = place} written still settled) = inr (entry.Settled place, settled.entries)
step_adds old new (IsStep.commits committed) = inr (entry.Committed, committed.entries)
step_adds old new (IsStep.detaches {name = name} can detached) = inr (entry.Down name, detached.entries)
step_adds old new (IsStep.notes_filed n noted) = inl (ap (λ (bucket : Bucket). bucket.journal.entries) noted)

-- after each that only its keeper does
keeper_adds : (old new : Bucket) → IsKeeperEvent old new → AddsAtMostOne old.journal.entries new.journal.entries
keeper_adds old new (IsKeeperEvent.stays same) = inl same.entries
keeper_adds old new (IsKeeperEvent.begins {parent = parent} {subs = subs} can begun) = inr (entry.Begun parent subs, begun.entries)
keeper_adds old new (IsKeeperEvent.feeds can fed) = inl fed.rest.entries
keeper_adds old new (IsKeeperEvent.starts_replay can started) = inl started.rest.entries
keeper_adds old new (IsKeeperEvent.replays can replayed) = inl replayed.rest.entries
keeper_adds old new (IsKeeperEvent.gets_ready can ready) = inl ready.entries
keeper_adds old new (IsKeeperEvent.grows can grown) = inl grown.entries
keeper_adds old new (IsKeeperEvent.finds_no_memory can delivered) = inl delivered.entries
keeper_adds old new (IsKeeperEvent.switches {parent = parent} can switched) = inr (entry.Switched parent, switched.entries)
keeper_adds old new (IsKeeperEvent.aborts {parent = parent} can aborted) = inr (entry.Failed parent, aborted.entries)
keeper_adds old new (IsKeeperEvent.drops {slice = slice} can dropped) = inr (entry.Dropped slice, dropped.entries)
keeper_adds old new (IsKeeperEvent.rejoins {name = name} can rejoined) = inr (entry.Up name, rejoined.entries)
keeper_adds old new (IsKeeperEvent.leads {name = name} can led) = inr (entry.Led name, led.entries)

-- and after each event
pub event_adds : (old new : Bucket) → IsEvent old new → AddsAtMostOne old.journal.entries new.journal.entries
event_adds old new (IsEvent.of_bucket step) = step_adds old new step
event_adds old new (IsEvent.of_keeper event) = keeper_adds old new event
