-- Each event that comes is one of those that come to any bucket.
use Rattle.std.proofs.Common.{◌≡◌, inl, inr, List, map, ap}
use Rattle.sc_record.specs.Writes.{Write}
use Rattle.sc_replicas.specs.Cores.{without_room}
use Rattle.sc_bucket.specs.Events.{IsSameButRoom, IsStep}
use Rattle.sc_bucket.specs.declared.bucket.Bucket.{Bucket}
use Rattle.sc_handover.specs.AnyEvent.{IsEvent, IsKeeperEvent}
use Rattle.sc_world.specs.declared.event.Event.{Event}
use Rattle.sc_world.specs.declared.event.Event.TheVariants as events
use Rattle.sc_world.specs.Steps.{Can, IsDone, FindsNoMemory}
use Rattle.sc_world.specs.Laws.{EventsAreOfTheTable}
use Rattle.sc_world.proofs.RunLemmas.{same_if_refused}

-- nothing changed but room
stays : (old new : Bucket) → IsSameButRoom old new → IsEvent old new
stays old new same = IsEvent.of_bucket (IsStep.stays same)

-- nothing changed
stays_itself : (old new : Bucket) → new ≡ old → IsEvent old new
stays_itself old new same = stays old new (record {
  name = record {
    first = ap (λ (b : Bucket). b.first) same;
    limit = ap (λ (b : Bucket). b.limit) same;
    filed = ap (λ (b : Bucket). b.journal.filed) same;
  };
  split = record { phase = ap (λ (b : Bucket). b.phase) same; feeds = ap (λ (b : Bucket). b.feeds) same };
  map_is = ap (λ (b : Bucket). b.map) same;
  entries = ap (λ (b : Bucket). b.journal.entries) same;
  messages = ap (λ (b : Bucket). b.flight.messages) same;
  cores = ap (λ (b : Bucket). map without_room b.replicas) same;
  searchers_are = ap (λ (b : Bucket). b.searchers) same;
})

-- an event that is done
done : (old : Bucket) (event : Event) (added : List Write) (new : Bucket) → Can old event → IsDone old event added new → IsEvent old new
done old (events.Accept order now) added new can (version, is, added_is) = IsEvent.of_bucket (IsStep.accepts is)
done old (events.DeliverNth k) added new can (none, inl (same, past)) = stays_itself old new same
done old (events.DeliverNth k) added new can (none, inr (message, is)) = IsEvent.of_bucket (IsStep.delivers is)
done old (events.Deliver place) added new can (none, inl (same, past)) = stays_itself old new same
done old (events.Deliver place) added new can (none, inr (core, is)) = IsEvent.of_bucket (IsStep.delivers is.delivers)
done old (events.Settle place) added new (written, once) (none, is) = IsEvent.of_bucket (IsStep.settles written once is)
done old events.Commit added new can (none, is) = IsEvent.of_bucket (IsStep.commits is)
done old (events.Detach core) added new can (none, is) = IsEvent.of_bucket (IsStep.detaches can is)
done old (events.Rejoin core) added new can (none, is) = IsEvent.of_keeper (IsKeeperEvent.rejoins can is)
done old (events.Lead core) added new can (none, (is, whole)) = IsEvent.of_keeper (IsKeeperEvent.leads can is)
done old (events.Begin plan) added new can (none, is) = IsEvent.of_keeper (IsKeeperEvent.begins can is)
done old (events.Feed core) added new can (none, (last, is)) = IsEvent.of_keeper (IsKeeperEvent.feeds can is)
done old (events.StartReplay core) added new can (none, is) = IsEvent.of_keeper (IsKeeperEvent.starts_replay can is)
done old (events.Replay core) added new can (none, (last, is)) = IsEvent.of_keeper (IsKeeperEvent.replays can is)
done old events.Ready added new can (none, (parent, ready, is)) = IsEvent.of_keeper (IsKeeperEvent.gets_ready ready is)
done old (events.Grow core) added new can (none, (sub, grows, is)) = IsEvent.of_keeper (IsKeeperEvent.grows grows is)
done old events.Switch added new can (none, (parent, switches, is, last)) = IsEvent.of_keeper (IsKeeperEvent.switches switches is)
done old events.Abort added new can (none, (parent, aborts, is)) = IsEvent.of_keeper (IsKeeperEvent.aborts aborts is)
done old (events.Drop slice) added new can (none, is) = IsEvent.of_keeper (IsKeeperEvent.drops can is)

-- one at which memory ran out
out : (old : Bucket) (event : Event) (new : Bucket) → Can old event → FindsNoMemory old event new → IsEvent old new
out old (events.Accept order now) new can (met, same) = stays old new same
out old (events.DeliverNth k) new can none = absurd none
out old (events.Deliver place) new can none = absurd none
out old (events.Settle place) new can none = absurd none
out old events.Commit new can same = stays old new same
out old (events.Detach core) new can none = absurd none
out old (events.Rejoin core) new can same = stays old new same
out old (events.Lead core) new can none = absurd none
out old (events.Begin plan) new can same = stays old new same
out old (events.Feed core) new can none = absurd none
out old (events.StartReplay core) new can none = absurd none
out old (events.Replay core) new can none = absurd none
out old events.Ready new can none = absurd none
out old (events.Grow core) new (sub, grows) delivers = IsEvent.of_keeper (IsKeeperEvent.finds_no_memory grows delivers)
out old events.Switch new can none = absurd none
out old events.Abort new can none = absurd none
out old (events.Drop slice) new can none = absurd none

pub events_are_of_the_table : EventsAreOfTheTable
events_are_of_the_table old new event can (inl (added, inl is)) = done old event added new can is
events_are_of_the_table old new event can (inl (added, inr (none, refused))) = stays old new (same_if_refused old event new refused)
events_are_of_the_table old new event can (inr none) = out old event new can none
