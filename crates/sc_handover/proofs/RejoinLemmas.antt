-- A new core that was put in the place of a follower that was down is that of the event, and it may come with more room for the
-- journal.
use Rattle.std.proofs.Common.{◌≡◌, ◌∙◌, ℕ, ◌+◌, ◌-◌, ◌≤◌, List, [], ◌∷◌, ◌++◌, length, map, set, refl, sym, ap, subst}
use Rattle.std.proofs.lemmas.List.{map-set}
use Rattle.sc_record.specs.Names.{key_of_core}
use Rattle.sc_record.specs.declared.slice.CoreId.{CoreId}
use Rattle.sc_record.specs.declared.entry.Entry.{Entry}
use Rattle.sc_record.specs.declared.entry.Entry.TheVariants as entry
use Rattle.sc_cluster.specs.declared.slice.Slice.{Slice}
use Rattle.sc_replica.specs.Core.{Core}
use Rattle.sc_journal.specs.Down.{is_down}
use Rattle.sc_journal.specs.Splits.{owed}
use Rattle.sc_bucket.specs.Kept.{JournalState, FeedState}
use Rattle.sc_replicas.specs.Cores.{IsLeaderOf, without_room}
use Rattle.sc_bucket.specs.Pending.{new_feed}
use Rattle.sc_bucket.specs.Room.{BucketHasRoom}
use Rattle.sc_bucket.specs.declared.bucket.Bucket.{Bucket}
use Rattle.sc_handover.specs.Conditions.{CanRejoin}
use Rattle.sc_handover.specs.Made.{empty_core}
use Rattle.sc_handover.specs.Seats.{Rejoins}
use Rattle.sc_handover.proofs.RejoinedLemmas.{MayRejoin, with_rejoined, numbered, longer}

-- and that is the event
pub Rejoins-put : (b : Bucket) (name : CoreId) (slice : Slice) (fresh : Core) (feed : FeedState) (at : ℕ) (before : Core)
    (journal : JournalState) (feeds : List FeedState) (cores : List Core) → MayRejoin b name slice fresh feed at before
    → BucketHasRoom 2 b → journal ≡ record b.journal { entries = longer b name; room = b.journal.room - 1 }
    → feeds ≡ b.feeds ++ feed ∷ [] → cores ≡ set b.replicas at (numbered before.number fresh)
    → Rejoins b name (with_rejoined b journal feeds cores)
Rejoins-put b name slice fresh feed at before journal feeds cores may has_room journal_is feeds_are cores_are =
    let made = may.ready.made in
    let as_made : Core = numbered before.number (empty_core name) in
    record {
      kept = record { first = refl; limit = refl; filed = ap (λ (j : JournalState). j.filed) journal_is };
      room = has_room;
      map_is = refl;
      entries = ap (λ (j : JournalState). j.entries) journal_is;
      phase_is = refl;
      messages = refl;
      at = at;
      core = before;
      core_at = record { found = may.there; named = may.named };
      cores = ap (map without_room) cores_are ∙ map-set without_room b.replicas at (numbered before.number fresh)
          ∙ ap (set (map without_room b.replicas) at) (ap (numbered before.number) made.core_is)
          ∙ sym (map-set without_room b.replicas at as_made);
      slice = slice;
      slice_there = may.ready.can.there;
      slice_is = sym may.ready.can.of_slice;
      leader = made.leader;
      leader_there = made.leader_there;
      leader_is = subst (λ id. IsLeaderOf id made.leader) (sym may.ready.can.of_slice) made.leader_is;
      feeds_are = feeds_are ∙ ap (λ (f : FeedState). b.feeds ++ f ∷ []) made.feed_is;
      searchers_are = refl;
    }

-- which is the same without the room that was made for the journal
pub Rejoins-reserved : (b new : Bucket) (journal : JournalState) (name : CoreId) → journal.entries ≡ b.journal.entries
    → journal.filed ≡ b.journal.filed → Rejoins (record b { journal = journal }) name new → Rejoins b name new
Rejoins-reserved b new journal name same same_filed is = record {
  kept = record { first = is.kept.first; limit = is.kept.limit; filed = is.kept.filed ∙ same_filed };
  room = subst (λ (entries : List Entry). length entries + owed b.first entries + 2 ≤ b.limit) same is.room;
  map_is = is.map_is;
  entries = is.entries ∙ ap (λ (entries : List Entry). entries ++ entry.Up name ∷ []) same;
  phase_is = is.phase_is;
  messages = is.messages;
  at = is.at;
  core = is.core;
  core_at = record { found = is.core_at.found; named = is.core_at.named };
  cores = is.cores;
  slice = is.slice;
  slice_there = is.slice_there;
  slice_is = is.slice_is;
  leader = is.leader;
  leader_there = is.leader_there;
  leader_is = is.leader_is;
  feeds_are = is.feeds_are
      ∙ ap (λ (entries : List Entry). b.feeds
      ++ new_feed name is.slice.range (record { place = length entries; rows = is.leader.cells }) ∷ []) same;
  searchers_are = is.searchers_are;
}

-- and may come still with that room
pub CanRejoin-reserved : (b : Bucket) (journal : JournalState) (name : CoreId) → journal.entries ≡ b.journal.entries → CanRejoin b name
    → CanRejoin (record b { journal = journal }) name
CanRejoin-reserved b journal name same can = record {
  idle = can.idle;
  follower = can.follower;
  down = ap (λ (entries : List Entry). is_down entries (key_of_core name)) same ∙ can.down;
  active = can.active;
  unfed = can.unfed;
}
