-- A bucket may be given back after each event that its keeper may do.
use Rattle.std.proofs.Common.{◌≡◌, inl, inr, true, List, [], ◌∷◌, ◌++◌, refl, sym, ap, ◌∙◌, subst}
use Rattle.std.specs.List.{AllByRecursion}
use Rattle.sc_record.specs.Writes.{Write}
use Rattle.sc_record.specs.declared.entry.Entry.{Entry}
use Rattle.sc_record.specs.declared.entry.Entry.TheVariants as entry
use Rattle.sc_router.specs.Route.{bucket_of}
use Rattle.sc_journal.specs.Journal.{writes}
use Rattle.sc_seen.specs.Seen.{Layout}
use Rattle.sc_journal.proofs.JournalLemmas.{writes-push_other}
use Rattle.sc_bucket.specs.declared.bucket.Bucket.{Bucket}
use Rattle.sc_bucket.specs.Sound.{IsSound}
use Rattle.sc_bucket.specs.Events.{HasSameFixedParts}
use Rattle.sc_handover.specs.AnyEvent.{IsKeeperEvent}
use Rattle.sc_keeper.specs.Part.{is_of_keeper}
use Rattle.sc_keeper.specs.Laws.{AddsAtMost}
use Rattle.sc_keeper.proofs.PassLemmas.{keeper_adds_no_pass_entry}
use Rattle.sc_collection.specs.Desks.{Held, IsBucketOf, KeeperMayReplace}

-- no event of a keeper changes with what the bucket began
keeper_same_name : (old new : Bucket) → IsKeeperEvent old new → HasSameFixedParts old new
keeper_same_name old new (IsKeeperEvent.stays same) = same.name
keeper_same_name old new (IsKeeperEvent.begins can begun) = begun.name
keeper_same_name old new (IsKeeperEvent.feeds can fed) = fed.rest.name
keeper_same_name old new (IsKeeperEvent.starts_replay can started) = started.rest.name
keeper_same_name old new (IsKeeperEvent.replays can replayed) = replayed.rest.name
keeper_same_name old new (IsKeeperEvent.gets_ready can ready) = ready.name
keeper_same_name old new (IsKeeperEvent.grows can grown) = grown.kept
keeper_same_name old new (IsKeeperEvent.finds_no_memory can delivered) = delivered.name
keeper_same_name old new (IsKeeperEvent.switches can switched) = switched.name
keeper_same_name old new (IsKeeperEvent.aborts can aborted) = aborted.name
keeper_same_name old new (IsKeeperEvent.drops can dropped) = dropped.name
keeper_same_name old new (IsKeeperEvent.rejoins can rejoined) = rejoined.kept
keeper_same_name old new (IsKeeperEvent.leads can led) = led.kept

-- an entry of the keeper is no write
pub writes-push_keeper : (journal : List Entry) (one : Entry) → is_of_keeper one ≡ true → writes (journal ++ one ∷ []) ≡ writes journal
writes-push_keeper journal (entry.Write cell) is = absurd (cc)
writes-push_keeper journal (entry.Settled place) is = absurd (cc)
writes-push_keeper journal entry.Committed is = absurd (cc)
writes-push_keeper journal (entry.Down core) is = absurd (cc)
writes-push_keeper journal one is = writes-push_other journal one refl

-- none makes a write
keeper_same_writes : (old new : Bucket) → AddsAtMost true old.journal.entries new.journal.entries
    → writes new.journal.entries ≡ writes old.journal.entries
keeper_same_writes old new (inl same) = ap writes same
keeper_same_writes old new (inr added) = ap writes added.2 ∙ writes-push_keeper old.journal.entries added.0 added.1

-- so a bucket may be given back after it
pub keeper_may_replace : (layout : Layout) (held : Held) (given : Bucket) → IsBucketOf layout held.number held.bucket → IsSound given
    → held.by_keeper ≡ true → IsKeeperEvent held.bucket given → KeeperMayReplace layout held given
keeper_may_replace layout held given is sound by_keeper event = record {
  sound = sound;
  is_of = record { first = name.first ∙ is.first; limit = name.limit ∙ is.limit; ids = ids };
  event = event;
  by_keeper = by_keeper;
} where
  name : HasSameFixedParts held.bucket given
  name = keeper_same_name held.bucket given event

  ids : AllByRecursion (λ (write : Write). bucket_of write.id layout.buckets ≡ held.number) (writes given.journal.entries)
  ids =
      subst (AllByRecursion (λ (write : Write). bucket_of write.id layout.buckets ≡ held.number))
      (sym (keeper_same_writes held.bucket given (keeper_adds_no_pass_entry held.bucket given event))) is.ids
