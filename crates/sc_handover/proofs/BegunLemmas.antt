-- A bucket is sound once a split has begun.
use Rattle.std.proofs.Common.{◌≡◌, ◌≤◌, ◌+◌, ◌∙◌, List, ◌++◌, get_or, map, filter, All, Contains, refl, sym, ap, subst}
use Rattle.std.specs.List.{AllZip}
use Rattle.std.proofs.lemmas.List.Elements.{All-append, All-weaker, Contains-get_or}
use Rattle.sc_record.specs.declared.slice.SliceId.{SliceId}
use Rattle.sc_record.specs.declared.slice.SubSlice.{SubSlice}
use Rattle.sc_record.specs.declared.entry.Entry.{Entry}
use Rattle.sc_record.specs.declared.entry.Entry.TheVariants as entry
use Rattle.sc_cluster.specs.Slices.{is_active}
use Rattle.sc_cluster.specs.Map.{IsMap}
use Rattle.sc_cluster.specs.Changes.{Change}
use Rattle.sc_cluster.proofs.MapLemmas.{change_is_map}
use Rattle.sc_replica.specs.Core.{Core}
use Rattle.sc_journal.specs.Splits.{entries_of_split}
use Rattle.sc_journal.proofs.DownLemmas.{LeavesCores-begun}
use Rattle.sc_bucket.specs.Kept.{FeedState}
use Rattle.sc_replicas.specs.Cores.{IsLeaderOf, without_room, IsCoreWithoutRoom}
use Rattle.sc_bucket.specs.Searchers.{ArePrepared}
use Rattle.sc_bucket.specs.Sound.{HasJournal, IsIdle, IsInPhase, IsSound}
use Rattle.sc_bucket.specs.declared.bucket.Bucket.{Bucket}
use Rattle.sc_bucket.specs.declared.phase.Phase.TheVariants as phases
use Rattle.sc_bucket.proofs.AcceptLemmas.{bucket_has_map}
use Rattle.sc_bucket.proofs.CommitLemmas.{HasSearchers-taken}
use Rattle.sc_bucket.proofs.DeliverLemmas.{IsSoundIn, core_is_sound}
use Rattle.sc_handover.proofs.SentLemmas.{AreSent-more}
use Rattle.sc_handover.specs.Conditions.{CanBegin}
use Rattle.sc_handover.specs.Made.{first_feed, IsRoomyFor, first_core, cells_now}
use Rattle.sc_handover.specs.Events.{Begins}
use Rattle.sc_handover.proofs.EachCoreLemmas.{IsSoundWith, each_with, IsSound-each}
use Rattle.sc_handover.proofs.MadeLemmas.{made_core, IsMade, All-made, in_order-made}
use Rattle.sc_handover.proofs.BegunJournalLemmas.{active-begun, HasJournal-begun, IsOpen-begun}
use Rattle.sc_handover.proofs.BegunCoreLemmas.{begun_map, longer, core_below, old_is_sound, made_is_sound}
use Rattle.sc_handover.proofs.BegunPartsLemmas.{HasCores-begun, AreFeeds-begun}

-- what a begin does with the parts of a bucket that its event doesn't name
pub record BeginsParts (old : Bucket) (parent : SliceId) (subs : List SubSlice) (made : List Core)
    (new : Bucket) : Type 0 where
  pub unsettled_are : new.unsettled.places ≡ old.unsettled.places
  pub owed_is : new.owed + 1 ≡ old.owed + entries_of_split subs
  pub room : new.owed ≤ new.journal.room
  pub replicas_are : new.replicas ≡ old.replicas ++ made
  pub made_are : map without_room made ≡ map made_core subs
  pub roomy : AllZip IsRoomyFor new.feeds made
  pub prepared : ArePrepared (phases.Building parent) new.map new.searchers new.spares

-- each core is sound
pub cores_are_sound : (old : Bucket) (parent : SliceId) (subs : List SubSlice) (leader : Core) (made : List Core)
    → IsSound old → CanBegin old parent subs → Contains old.replicas leader
    → IsLeaderOf parent leader → IsMap (begun_map old subs) → All (IsMade (cells_now old leader) subs) made
    → All (IsSoundWith (begun_map old subs) (longer old (entry.Begun parent subs)) old.flight.messages
    (map (first_feed (cells_now old leader)) subs)) (old.replicas ++ made)
cores_are_sound old parent subs leader made sound can there leads is_map each =
    All-append IsNow old.replicas made
    (λ k d below. old_is_sound old parent subs (cells_now old leader) one (get_or old.replicas k d) can.plan can.unfed refl
    (core_below old (get_or old.replicas k d) sound.cores (Contains-get_or old.replicas k d below))
    (core_is_sound old k d below sound))
    (All-weaker (IsMade (cells_now old leader) subs) IsNow
    (λ core is. made_is_sound old parent subs leader one core sound can.plan is_map refl there leads is) made each)
  where
    one : Entry
    one = entry.Begun parent subs

    IsNow : Core → Type 0
    IsNow = IsSoundWith (begun_map old subs) (longer old one) old.flight.messages (map (first_feed (cells_now old leader)) subs)

-- so the bucket is sound
pub IsSound-begun : (old new : Bucket) (parent : SliceId) (subs : List SubSlice) (made : List Core) → IsSound old
    → CanBegin old parent subs → Begins old parent subs new → BeginsParts old parent subs made new → IsSound new
IsSound-begun old new parent subs made sound can begins parts =
    IsSound-each new each
    (subst (All IsCoreWithoutRoom) (sym parts.replicas_are)
    (All-append IsCoreWithoutRoom old.replicas made sound.in_order
    (All-weaker (IsMade (cells_now old begins.leader) subs) IsCoreWithoutRoom
    (λ core is. in_order-made (first_core is.sub) core is.core_is) made made_for)))
    journal
    (HasSearchers-taken old new one sound begins.entries (record {
      commits_all = refl;
      is_map = bucket_has_map new journal;
      same_active = ap (filter is_active) begins.map_is ∙ active-begun old.map subs;
      taken = begins.searchers_are;
    }))
    (subst (λ phase. ArePrepared phase new.map new.searchers new.spares) (sym begins.phase_is) parts.prepared)
    (AreSent-more old new one made sound.messages begins.entries (λ _. refl) (LeavesCores-begun parent subs) parts.replicas_are
    begins.messages)
    (HasCores-begun old new parent subs (cells_now old begins.leader) made sound.journal sound.cores can.active can.plan is_map begins.map_is
    begins.entries parts.replicas_are parts.made_are made_for)
    (AreFeeds-begun new old.map parent subs (cells_now old begins.leader) old.replicas made can.plan begins.map_is
    parts.replicas_are begins.feeds_are parts.made_are)
    (subst (IsInPhase new) (sym begins.phase_is) (IsOpen-begun old new parent subs sound.journal idle can.plan begins))
  where
    one : Entry
    one = entry.Begun parent subs

    idle : IsIdle old
    idle = subst (IsInPhase old) can.idle sound.phase

    journal : HasJournal new
    journal =
        HasJournal-begun old new parent subs sound.journal idle can.plan begins parts.unsettled_are parts.owed_is parts.room

    is_map : IsMap (begun_map old subs)
    is_map = change_is_map old.map (Change.Begun parent subs) (bucket_has_map old sound.journal) can.plan

    made_for : All (IsMade (cells_now old begins.leader) subs) made
    made_for =
        All-made old.map parent subs (cells_now old begins.leader) made can.plan parts.made_are
        (subst (λ (feeds : List FeedState). AllZip IsRoomyFor feeds made) begins.feeds_are parts.roomy)

    each : All (IsSoundIn new new.flight.messages) new.replicas
    each =
        each_with new (begun_map old subs) (longer old one) old.flight.messages
        (map (first_feed (cells_now old begins.leader)) subs) (old.replicas ++ made) begins.map_is begins.entries begins.messages
        begins.feeds_are parts.replicas_are
        (cores_are_sound old parent subs begins.leader made sound can begins.leader_there begins.leader_is is_map
        made_for)
