-- What leaves a bucket's part as it was, and which entries the keeper's events make.
use Rattle.std.proofs.Common.{◌≡◌, ◌∙◌, inl, inr, true, false, refl, ap}
use Rattle.std.specs.List.{filter}
use Rattle.sc_record.specs.declared.slice.CoreId.{CoreId}
use Rattle.sc_record.specs.declared.entry.Entry.TheVariants as entry
use Rattle.sc_replica.specs.Core.{led}
use Rattle.sc_bucket.specs.Flight.{is_of_write}
use Rattle.sc_bucket.specs.Events.{IsStep, IsSameButRoom, DeliversAllTo}
use Rattle.sc_bucket.specs.declared.bucket.Bucket.{Bucket}
use Rattle.sc_bucket.proofs.SoundLemmas.{set-kept}
use Rattle.sc_handover.specs.AnyEvent.{IsKeeperEvent}
use Rattle.sc_keeper.specs.Part.{keeper_entries, part_of_core, part_of}
use Rattle.sc_keeper.specs.Laws.{AddsAtMost}
use Rattle.sc_keeper.proofs.PartLemmas.{part_of-same, parts_of, parts-same_cores, parts-delivered, parts-delivered_all, parts-arrived, parts-detached, keeper_entries-other}

-- a refusal leaves it
pub part-refused : (old new : Bucket) → IsSameButRoom old new → part_of new ≡ part_of old
part-refused old new same =
    part_of-same old new same.split same.map_is (parts-same_cores old.replicas new.replicas same.cores) (ap keeper_entries same.entries)

-- and the delivery of all that is in flight to a core
pub part-delivered_all_to : (old new : Bucket) (name : CoreId) → DeliversAllTo old name new → part_of new ≡ part_of old
part-delivered_all_to old new name delivered =
    part_of-same old new delivered.split delivered.map_is
    (ap parts_of delivered.cores ∙ parts-arrived old.flight.messages name old.replicas) (ap keeper_entries delivered.entries)

-- and each of the bucket's own events
pub part-step : (old new : Bucket) → IsStep old new → part_of new ≡ part_of old
part-step old new (IsStep.stays same) = part-refused old new same
part-step old new (IsStep.accepts accepted) =
    let leader = accepted.leader in
    let after = led leader.core accepted.cell.value in
    part_of-same old new accepted.split accepted.map_is
    (parts-same_cores _ new.replicas accepted.cores ∙ set-kept part_of_core old.replicas accepted.at leader.core after leader.found refl)
    (keeper_entries-other old.journal.entries new.journal.entries (entry.Write accepted.cell) refl accepted.entries)
part-step old new (IsStep.delivers {message = message} delivered) =
    part_of-same old new delivered.split delivered.map_is (ap parts_of delivered.cores ∙ parts-delivered message old.replicas)
    (ap keeper_entries delivered.entries)
part-step old new (IsStep.settles {place = place} written still settled) =
    part_of-same old new settled.split settled.map_is
    (ap parts_of settled.cores ∙ parts-delivered_all (filter (is_of_write place) old.flight.messages) old.replicas)
    (keeper_entries-other old.journal.entries new.journal.entries (entry.Settled place) refl settled.entries)
part-step old new (IsStep.commits committed) =
    part_of-same old new committed.split committed.map_is (ap parts_of committed.cores)
    (keeper_entries-other old.journal.entries new.journal.entries entry.Committed refl committed.entries)
part-step old new (IsStep.detaches {name = name} can detached) =
    part_of-same old new detached.split detached.map_is (ap parts_of detached.cores ∙ parts-detached name old.replicas)
    (keeper_entries-other old.journal.entries new.journal.entries (entry.Down name) refl detached.entries)
part-step old new (IsStep.notes_filed n noted) = ap part_of noted

-- none of them makes an entry of the keeper
pub step_adds_no_keeper_entry : (old new : Bucket) → IsStep old new → AddsAtMost false old.journal.entries new.journal.entries
step_adds_no_keeper_entry old new (IsStep.stays same) = inl same.entries
step_adds_no_keeper_entry old new (IsStep.accepts accepted) = inr (entry.Write accepted.cell, refl, accepted.entries)
step_adds_no_keeper_entry old new (IsStep.delivers delivered) = inl delivered.entries
step_adds_no_keeper_entry old new (IsStep.settles {place = place} written still settled) =
    inr (entry.Settled place, refl, settled.entries)
step_adds_no_keeper_entry old new (IsStep.commits committed) = inr (entry.Committed, refl, committed.entries)
step_adds_no_keeper_entry old new (IsStep.detaches {name = name} can detached) = inr (entry.Down name, refl, detached.entries)
step_adds_no_keeper_entry old new (IsStep.notes_filed n noted) = inl (ap (λ (bucket : Bucket). bucket.journal.entries) noted)

-- and the keeper's events no other
pub keeper_adds_no_pass_entry : (old new : Bucket) → IsKeeperEvent old new → AddsAtMost true old.journal.entries new.journal.entries
keeper_adds_no_pass_entry old new (IsKeeperEvent.stays same) = inl same.entries
keeper_adds_no_pass_entry old new (IsKeeperEvent.begins {parent = parent} {subs = subs} can begun) =
    inr (entry.Begun parent subs, refl, begun.entries)
keeper_adds_no_pass_entry old new (IsKeeperEvent.feeds can fed) = inl fed.rest.entries
keeper_adds_no_pass_entry old new (IsKeeperEvent.starts_replay can started) = inl started.rest.entries
keeper_adds_no_pass_entry old new (IsKeeperEvent.replays can replayed) = inl replayed.rest.entries
keeper_adds_no_pass_entry old new (IsKeeperEvent.gets_ready can ready) = inl ready.entries
keeper_adds_no_pass_entry old new (IsKeeperEvent.grows can grown) = inl grown.entries
keeper_adds_no_pass_entry old new (IsKeeperEvent.finds_no_memory can delivered) = inl delivered.entries
keeper_adds_no_pass_entry old new (IsKeeperEvent.switches {parent = parent} can switched) =
    inr (entry.Switched parent, refl, switched.entries)
keeper_adds_no_pass_entry old new (IsKeeperEvent.aborts {parent = parent} can aborted) =
    inr (entry.Failed parent, refl, aborted.entries)
keeper_adds_no_pass_entry old new (IsKeeperEvent.drops {slice = slice} can dropped) = inr (entry.Dropped slice, refl, dropped.entries)
keeper_adds_no_pass_entry old new (IsKeeperEvent.rejoins {name = name} can rejoined) = inr (entry.Up name, refl, rejoined.entries)
keeper_adds_no_pass_entry old new (IsKeeperEvent.leads {name = name} can lead) = inr (entry.Led name, refl, lead.entries)
