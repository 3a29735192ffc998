-- What is in flight to a sub's leader is delivered, and then a further replica joins.
use Rattle.std.proofs.Common.{◌≡◌, true, false, nat_eq, List, [], ◌∷◌, ◌++◌, length, map, filter, not, All, Contains, sym, ap, ◌∙◌, subst}
use Rattle.std.proofs.lemmas.Bool.Decides.{Decides-and, Decides-eqb}
use Rattle.std.proofs.lemmas.List.Elements.{All-contains}
use Rattle.sc_record.specs.declared.slice.SliceId.{SliceId}
use Rattle.sc_record.specs.declared.slice.CoreId.{CoreId}
use Rattle.sc_record.specs.declared.entry.Entry.{Entry}
use Rattle.sc_cluster.specs.declared.slice.Slice.{Slice}
use Rattle.sc_cluster.specs.Slices.{is_forming}
use Rattle.sc_ulog.specs.declared.mode.Mode.TheVariants.{Active}
use Rattle.sc_replica.specs.Core.{Core}
use Rattle.sc_bucket.specs.Kept.{Sent, FlightState, FeedState}
use Rattle.sc_record.specs.Names.{is_core}
use Rattle.sc_replicas.specs.Cores.{IsLeaderOf, IsCoreWithoutRoom, put_by_name, without_room}
use Rattle.sc_bucket.specs.Flight.{is_to, arrived}
use Rattle.sc_bucket.specs.Sound.{HasLastWrites, IsSound}
use Rattle.sc_bucket.specs.Events.{DeliversAllTo}
use Rattle.sc_bucket.specs.declared.bucket.Bucket.{Bucket}
use Rattle.sc_replicas.proofs.CoreLemmas.{name_of, is_core-Decides}
use Rattle.sc_bucket.proofs.SoundLemmas.{AreAlike, names-alike, All-alike}
use Rattle.sc_bucket.specs.Pending.{new_feed}
use Rattle.sc_handover.specs.Conditions.{CanGrow}
use Rattle.sc_handover.specs.Made.{leader_of, empty_core}
use Rattle.sc_handover.specs.Events.{Grows}
use Rattle.sc_handover.specs.Parts.{CanFollow, IsMade, Joins}
use Rattle.sc_handover.proofs.LastWriteLemmas.{last_where_settled}
use Rattle.sc_handover.proofs.SubLemmas.{attached_where_forming}
use Rattle.sc_handover.proofs.SettleSubsLemmas.{AreAlike-arrived, none_left, in_flight-no_message}
use Rattle.sc_handover.proofs.SwitchedMapLemmas.{split_is_open}

-- nothing is in flight to the leader then
pub none_to_leader : (old new : Bucket) (leader : CoreId) → DeliversAllTo old leader new
    → All (λ (message : Sent). is_to leader message ≡ false) new.flight.messages
none_to_leader old new leader all =
    subst (All (λ (message : Sent). is_to leader message ≡ false)) (sym all.messages) (none_left leader old.flight.messages)

-- and the replica may join still
pub CanGrow-delivered : (old new : Bucket) (leader name : CoreId) (sub : Slice) → DeliversAllTo old leader new → CanGrow old name sub
    → CanGrow new name sub
CanGrow-delivered old new leader name sub all can = record {
  parent = can.parent;
  recovering = all.split.phase ∙ can.recovering;
  there = subst (λ slices. Contains slices sub) (sym all.map_is) can.there;
  forming = can.forming;
  of_sub = can.of_sub;
  above = can.above;
  planned = can.planned;
  missing = All-alike name_of (λ (other : CoreId). is_core name other ≡ false) old.replicas new.replicas
      (names-alike old.replicas new.replicas alike) can.missing;
} where
  alike : AreAlike old.replicas new.replicas
  alike = subst (AreAlike old.replicas) (sym all.cores) (AreAlike-arrived old.flight.messages leader old.replicas)

-- a slice has one leader
pub same_leader : (one other : CoreId) → one.slice ≡ other.slice → one.replica ≡ 1 → other.replica ≡ 1 → one ≡ other
same_leader one other slice first other_first =
    (is_core-Decides one other).0
    ((Decides-and (nat_eq one.slice.0 other.slice.0) (nat_eq one.replica other.replica)
    (Decides-eqb one.slice.0 other.slice.0) (Decides-eqb one.replica other.replica)).1
    (ap (λ (id : SliceId). id.0) slice, first ∙ sym other_first))

-- the leader is active then, and has the last writes, so that the replica may be fed from it
pub CanFollow-grown : (b : Bucket) (name leader : CoreId) (sub : Slice) → IsSound b → CanGrow b name sub
    → leader ≡ leader_of name.slice → All (λ (message : Sent). is_to leader message ≡ false) b.flight.messages
    → CanFollow b name sub
CanFollow-grown b name leader sub sound can leads none = record {
  there = can.there;
  of_slice = can.of_sub;
  above = can.above;
  led = last;
} where
  last : (core : Core) → Contains b.replicas core → IsLeaderOf sub.id core → HasLastWrites b.journal.entries sub core
  last core there is =
      let led = (split_is_open b can.parent sound can.recovering).1 in
      let active : core.mode ≡ Active =
      All-contains (λ (c : Core). (s : Slice) → Contains b.map s → s.id ≡ c.core.slice → is_forming s ≡ true → c.core.replica ≡ 1 → c.mode ≡ Active)
      b.replicas core led there sub can.there (sym is.0) can.forming is.1 in
      let named : leader ≡ core.core =
      same_leader leader core.core (ap (λ (n : CoreId). n.slice) leads ∙ can.of_sub ∙ sym is.0)
      (ap (λ (n : CoreId). n.replica) leads) is.1 in
      last_where_settled b sub core sound can.there (sym is.0)
      (attached_where_forming b sub core sound can.there (sym is.0) can.forming there) there active
      ((All-contains IsCoreWithoutRoom b.replicas core sound.in_order there).active active)
      (in_flight-no_message b.flight.messages core.core
      (subst (λ (n : CoreId). All (λ (message : Sent). is_to n message ≡ false) b.flight.messages) named none))

-- so the bucket grows
pub Grows-joined : (old mid new : Bucket) (leader name : CoreId) (sub : Slice) (core : Core) (feed : FeedState)
    → DeliversAllTo old leader mid → leader.slice ≡ name.slice → leader.replica ≡ 1 → CanGrow old name sub
    → IsMade mid name sub core feed → Joins mid core.core feed new → Grows old name sub new
Grows-joined old mid new leader name sub core feed all slice first can made joins = record {
  kept = record { first = joins.kept.first ∙ all.name.first; limit = joins.kept.limit ∙ all.name.limit; filed = joins.kept.filed ∙ all.name.filed };
  map_is = joins.map_is ∙ all.map_is;
  entries = joins.entries ∙ all.entries;
  phase_is = joins.phase_is ∙ all.split.phase;
  searchers_are = joins.searchers_are ∙ all.searchers_are;
  leader = made.leader;
  leader_there = subst (λ (cores : List Core). Contains cores made.leader) cores made.leader_there;
  leader_is = made.leader_is;
  messages = ap (λ (flight : FlightState). flight.messages) joins.flight_is ∙ all.messages
      ∙ ap (λ (n : CoreId). filter (λ (message : Sent). not (is_to n message)) old.flight.messages) named;
  cores = joins.cores
      ∙ ap (λ (n : CoreId). map without_room (put_by_name (empty_core n) mid.replicas)) (ap (λ (c : Core). c.core) made.core_is)
      ∙ ap (λ (these : List Core). map without_room (put_by_name (empty_core name) these)) cores;
  feeds_are = joins.feeds_are ∙ ap (λ (feeds : List FeedState). feeds ++ feed ∷ []) all.split.feeds
      ∙ ap (λ (f : FeedState). old.feeds ++ f ∷ []) made.feed_is
      ∙ ap (λ (entries : List Entry). old.feeds
      ++ new_feed name sub.range (record { place = length entries; rows = made.leader.cells }) ∷ []) all.entries;
} where
  named : leader ≡ made.leader.core
  named = same_leader leader made.leader.core (slice ∙ can.of_sub ∙ sym made.leader_is.0) first made.leader_is.1

  cores : mid.replicas ≡ map (arrived old.flight.messages made.leader.core) old.replicas
  cores = all.cores ∙ ap (λ (n : CoreId). map (arrived old.flight.messages n) old.replicas) named
