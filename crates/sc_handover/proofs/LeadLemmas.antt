-- What is in flight to a follower is delivered, and then it changes seats with the core that leads: so it takes the lead.
use Rattle.std.proofs.Common.{◌≡◌, ◌≢◌, ◌∙◌, ℕ, ◌<◌, true, false, cond, not, List, ◌∷◌, ◌++◌, [], length, map, filter, set, slice_get, Option, Some, None, IsSome, All, Contains, refl, sym, ap, subst, arith}
use Rattle.std.proofs.lemmas.Bool.{false_from_ne_true}
use Rattle.std.proofs.lemmas.List.Elements.{All-contains}
use Rattle.std.proofs.lemmas.Option.{slice_get_within}
use Rattle.sc_record.specs.Names.{key_of_core, is_core}
use Rattle.sc_record.specs.declared.slice.CoreId.{CoreId}
use Rattle.sc_record.specs.declared.entry.Entry.{Entry}
use Rattle.sc_record.specs.declared.entry.Entry.TheVariants as entry
use Rattle.sc_cluster.specs.declared.slice.Slice.{Slice}
use Rattle.sc_cluster.proofs.ListLemmas.{Contains-map}
use Rattle.sc_cluster.proofs.PairLemmas.{Contains-from_map}
use Rattle.sc_ulog.specs.declared.mode.Mode.{Mode}
use Rattle.sc_ulog.specs.declared.mode.Mode.TheVariants.{Active}
use Rattle.sc_replica.specs.Core.{Core}
use Rattle.sc_replica.specs.Deliveries.{received_all}
use Rattle.sc_journal.specs.Down.{is_down, IsFollower}
use Rattle.sc_journal.proofs.FollowerLemmas.{follower_is}
use Rattle.sc_bucket.specs.Kept.{Sent, FeedState}
use Rattle.sc_replicas.specs.Cores.{core_key, seated}
use Rattle.sc_bucket.specs.Flight.{in_flight, is_to, arrived}
use Rattle.sc_bucket.specs.Pending.{is_feed_of}
use Rattle.sc_bucket.specs.Sound.{IsSound}
use Rattle.sc_bucket.specs.Events.{DeliversAllTo}
use Rattle.sc_bucket.specs.declared.bucket.Bucket.{Bucket}
use Rattle.sc_bucket.proofs.ChangedLemmas.{changed_at}
use Rattle.sc_replicas.proofs.CoreLemmas.{IsCoreFound, is_core-Decides, AreApart-from_ascending, leader_is_found}
use Rattle.sc_bucket.proofs.DeliverLemmas.{place_of_core}
use Rattle.sc_bucket.proofs.SoundLemmas.{name_and_mode, AreAlike}
use Rattle.sc_handover.specs.Conditions.{IsInMode, CanLead}
use Rattle.sc_handover.specs.Made.{leader_of}
use Rattle.sc_handover.specs.Parts.{ChangesSeats}
use Rattle.sc_handover.specs.Seats.{TakesLead}
use Rattle.sc_handover.proofs.KeptLemmas.{same_number}
use Rattle.sc_handover.proofs.PlacedLemmas.{set-over, from_mapped, filter-neither}
use Rattle.sc_handover.proofs.SettleSubsLemmas.{name-arrived, AreAlike-arrived}

-- a core of this name is found
pub core_is_found : (b : Bucket) (name : CoreId) (mode : Mode) (found : Option ℕ) → IsInMode b name mode
    → IsCoreFound b.replicas name found → IsSome found
core_is_found b name mode (Some at) is found = refl
core_is_found b name mode None (core, there, named, in_mode) none =
    let apart = All-contains (λ (other : Core). is_core name other.core ≡ false) b.replicas core none there in
    let both : true ≡ false = sym ((is_core-Decides name core.core).1 (sym named)) ∙ apart in
    absurd (cc)

-- and so is the core that leads its slice
pub leader_of_follower_is_found : (b : Bucket) (name leader : CoreId) (found : Option ℕ) → IsSound b → IsFollower b.map name
    → leader ≡ leader_of name.slice → IsCoreFound b.replicas leader found → IsSome found
leader_of_follower_is_found b name leader found sound (slice, there, active, follower) leads =
    leader_is_found b.replicas slice.id leader found
    (All-contains (λ (s : Slice). Contains (map core_key b.replicas) (s.id.0, 1)) b.map slice sound.cores.leaders there)
    (same_number slice.id leader.slice (sym (follower_is slice (key_of_core name) follower).0
    ∙ ap (λ (n : CoreId). n.slice.0) (sym leads)))
    (ap (λ (n : CoreId). n.replica) leads)

-- at a place of the list
pub place_of_leader : (b : Bucket) (name leading : CoreId) (found : Option ℕ) (at : ℕ) → leading ≡ leader_of name.slice
    → IsCoreFound b.replicas leading found → found ≡ Some at → at < length b.replicas
place_of_leader b name leading found at leads is same =
    let (core, there, own) = place_of_core b.replicas leading found at is same in
    slice_get_within b.replicas at core there

-- it may take the lead still once all is delivered to it
pub CanLead-delivered : (old new : Bucket) (name : CoreId) → DeliversAllTo old name new → CanLead old name → CanLead new name
CanLead-delivered old new name all can = record {
  idle = all.split.phase ∙ can.idle;
  follower = subst (λ slices. IsFollower slices name) (sym all.map_is) can.follower;
  up = ap (λ entries. is_down entries (key_of_core name)) all.entries ∙ can.up;
  active = still can.active;
  unfed = subst (All (λ (feed : FeedState). is_feed_of name feed ≡ false)) (sym all.split.feeds) can.unfed;
} where
  alike : AreAlike old.replicas new.replicas
  alike = subst (AreAlike old.replicas) (sym all.cores) (AreAlike-arrived old.flight.messages name old.replicas)

  still : IsInMode old name Active → IsInMode new name Active
  still (core, there, named, active) =
      let pair = subst (λ pairs. Contains pairs (name_and_mode core)) (sym alike) (Contains-map name_and_mode old.replicas core there) in
      let (other, other_there, same) = Contains-from_map name_and_mode new.replicas (name_and_mode core) pair in
      (other, other_there, ap (λ (p : CoreId × Mode). p.0) same ∙ named, ap (λ (p : CoreId × Mode). p.1) same ∙ active)

-- a follower is not the leader
follower_leads_not : (b : Bucket) (name leader : CoreId) → IsFollower b.map name → leader.replica ≡ 1 → is_core name leader ≡ false
follower_leads_not b name leader (slice, there, active, follower) first =
    false_from_ne_true (is_core name leader) (λ same.
    let one : name ≡ leader = (is_core-Decides name leader).0 same in
    let above = (follower_is slice (key_of_core name) follower).1 in
    absurd (omega (arith, above, ap (λ (n : CoreId). n.replica) one, first)))

-- so both together are the event
pub TakesLead-changed : (old mid new : Bucket) (name : CoreId) → IsSound old → IsFollower old.map name → DeliversAllTo old name mid
    → ChangesSeats mid name new → TakesLead old name new
TakesLead-changed old mid new name sound follower all changes =
    let (leader, leader_found, leader_same) =
    from_mapped arrive old.replicas changes.leader_at changes.leader (ap (λ cores. slice_get cores changes.leader_at) (sym all.cores) ∙ changes.leader_found) in
    let (core, found, same) =
    from_mapped arrive old.replicas changes.at changes.core (ap (λ cores. slice_get cores changes.at) (sym all.cores) ∙ changes.core_at.found) in
    let named : core.core ≡ name =
    sym (name-arrived messages name core) ∙ ap (λ (c : Core). c.core) same ∙ changes.core_at.named in
    let apart : is_core name leader.core ≡ false =
    follower_leads_not old name leader.core follower
    (ap (λ (n : CoreId). n.replica) (sym (name-arrived messages name leader) ∙ ap (λ (c : Core). c.core) leader_same) ∙ changes.leader_is.1) in
    let still : leader ≡ changes.leader = sym (stays leader apart) ∙ leader_same in
    let other : changes.at ≢ changes.leader_at = λ places.
    let one : Some core ≡ Some leader = sym found ∙ ap (slice_get old.replicas) places ∙ leader_found in
    let cores : core ≡ leader = cc in
    let both : true ≡ false =
    sym ((is_core-Decides name leader.core).1 (sym named ∙ ap (λ (c : Core). c.core) cores)) ∙ apart in
    absurd (cc) in
    let mid_is : mid.replicas ≡ set old.replicas changes.at (received_all core (in_flight messages name)) =
    all.cores
    ∙ changed_at name (λ c. received_all c (in_flight messages name)) old.replicas changes.at core
    (AreApart-from_ascending old.replicas sound.cores.ascend) found ((is_core-Decides name core.core).1 (sym named)) in
    let lead : Core = seated changes.leader.core false changes.core in
    let follow : Core = seated name true changes.leader in
    record {
      kept = record {
        first = changes.kept.first ∙ all.name.first;
        limit = changes.kept.limit ∙ all.name.limit;
        filed = changes.kept.filed ∙ all.name.filed;
      };
      split = record {
        phase = changes.split.phase ∙ all.split.phase;
        feeds = changes.split.feeds ∙ all.split.feeds;
      };
      map_is = changes.map_is ∙ all.map_is;
      entries = changes.entries ∙ ap (λ (entries : List Entry). entries ++ entry.Led name ∷ []) all.entries;
      leader_at = changes.leader_at;
      leader = changes.leader;
      leader_found = leader_found ∙ ap (λ c. Some c) still;
      leader_is = changes.leader_is;
      at = changes.at;
      core = core;
      core_at = record { found = found; named = named };
      cores = changes.cores
          ∙ ap (λ (cores : List Core). set (set cores changes.leader_at lead) changes.at follow) mid_is
          ∙ set-over old.replicas changes.leader_at changes.at (received_all core (in_flight messages name)) lead follow other
          ∙ ap (λ c. set (set old.replicas changes.leader_at (seated changes.leader.core false c)) changes.at follow) (sym same);
      messages = changes.messages
          ∙ ap (filter (λ (message : Sent). not (is_to changes.leader.core message))) all.messages
          ∙ filter-neither (is_to name) (is_to changes.leader.core) messages;
      searchers_are = changes.searchers_are ∙ all.searchers_are;
    }
  where
    messages : List Sent
    messages = old.flight.messages

    arrive : Core → Core
    arrive = arrived messages name

    stays : (core : Core) → is_core name core.core ≡ false → arrive core ≡ core
    stays core apart = ap (λ b. cond b (received_all core (in_flight messages name)) core) apart
