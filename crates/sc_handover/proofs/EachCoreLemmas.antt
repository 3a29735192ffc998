-- A bucket is sound where each of its cores is, and all else of it is as it has to be.
use Rattle.std.proofs.Common.{◌≡◌, List, All, Contains, sym, subst}
use Rattle.sc_record.specs.declared.entry.Entry.{Entry}
use Rattle.sc_cluster.specs.declared.slice.Slice.{Slice}
use Rattle.sc_replica.specs.Core.{Core}
use Rattle.sc_bucket.specs.Kept.{Sent, FeedState}
use Rattle.sc_bucket.specs.Flight.{in_flight}
use Rattle.sc_bucket.specs.Pending.{pending}
use Rattle.sc_bucket.specs.Searchers.{ArePrepared}
use Rattle.sc_bucket.specs.Sound.{HasJournal, HasSearchers, AreSent, HasCores, AreFeeds, IsInPhase, IsSound}
use Rattle.sc_bucket.specs.declared.bucket.Bucket.{Bucket}
use Rattle.sc_bucket.proofs.DeliveredLemmas.{IsSoundCore}
use Rattle.sc_bucket.proofs.DeliverLemmas.{IsSoundIn, core_is_sound}
use Rattle.sc_replicas.specs.Cores.{IsCoreWithoutRoom}

-- a core of a sound bucket is sound
pub core_in : (b : Bucket) (core : Core) → IsSound b → Contains b.replicas core → IsSoundIn b b.flight.messages core
core_in b core sound (k, below, is) = subst (IsSoundIn b b.flight.messages) is (core_is_sound b k core below sound)

-- the core is sound, where these are the map, the journal, the messages in flight and the feeds
abbrev pub IsSoundWith : List Slice → List Entry → List Sent → List FeedState → Core → Type 0
IsSoundWith slices journal messages feeds core =
    IsSoundCore slices journal (in_flight messages core.core) (pending messages feeds core) core

-- so is each core of a bucket that has them
pub each_with : (b : Bucket) (slices : List Slice) (journal : List Entry) (messages : List Sent) (feeds : List FeedState)
    (cores : List Core) → b.map ≡ slices → b.journal.entries ≡ journal → b.flight.messages ≡ messages → b.feeds ≡ feeds
    → b.replicas ≡ cores → All (IsSoundWith slices journal messages feeds) cores
    → All (IsSoundIn b b.flight.messages) b.replicas
each_with b slices journal messages feeds cores same_map same_entries same_messages same_feeds same_cores each =
    subst (λ these. All (IsSoundWith these b.journal.entries b.flight.messages b.feeds) b.replicas) (sym same_map)
    (subst (λ these. All (IsSoundWith slices these b.flight.messages b.feeds) b.replicas) (sym same_entries)
    (subst (λ these. All (IsSoundWith slices journal these b.feeds) b.replicas) (sym same_messages)
    (subst (λ these. All (IsSoundWith slices journal messages these) b.replicas) (sym same_feeds)
    (subst (All (IsSoundWith slices journal messages feeds)) (sym same_cores) each))))

-- The bucket is sound where each core is and is in order, and the journal, the searchers, those that a switch leaves, the messages, the
-- names of the cores, the feeds and the phase are as they have to be.
pub IsSound-each : (b : Bucket) → All (IsSoundIn b b.flight.messages) b.replicas → All IsCoreWithoutRoom b.replicas → HasJournal b → HasSearchers b
    → ArePrepared b.phase b.map b.searchers b.spares → AreSent b → HasCores b → AreFeeds b → IsInPhase b b.phase
    → IsSound b
IsSound-each b each in_order journal searchers prepared messages cores feeds phase = record {
  journal = journal;
  leaders = λ k d below. (each k d below).serves;
  written = λ k d below. (each k d below).written;
  held = λ k d below. (each k d below).held;
  in_range = λ k d below. (each k d below).in_range;
  clocks = λ k d below. (each k d below).clock;
  in_order = in_order;
  searchers = searchers;
  prepared = prepared;
  messages = messages;
  room = λ k d below. record { cells = (each k d below).cell_room; buffer = (each k d below).buffer_room };
  cores = cores;
  feeds = feeds;
  phase = phase;
}
