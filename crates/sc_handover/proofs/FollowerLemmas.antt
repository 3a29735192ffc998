-- The leader of a slice is found; so what a further replica is fed is all that it has to have, where the leader has the last writes.
use Rattle.std.proofs.Common.{◌≡◌, ℕ, ◌<◌, ◌^◌, List, length, map, slice_get, Option, Some, Bor, Result, Ok, Err, Contains, sym, ap, ◌∙◌, subst}
use Rattle.std.specs.Prelude.{IfOk, IsSome}
use Rattle.std.proofs.lemmas.List.Elements.{All-contains}
use Rattle.sc_hash.specs.declared.range.Range.{Range}
use Rattle.sc_record.specs.declared.slice.CoreId.{CoreId}
use Rattle.sc_record.specs.Writes.{Write}
use Rattle.sc_cluster.specs.declared.slice.Slice.{Slice}
use Rattle.sc_replica.specs.Core.{Core}
use Rattle.sc_bucket.specs.Kept.{FeedState}
use Rattle.sc_replicas.specs.Cores.{core_key, IsLeaderOf, without_room}
use Rattle.sc_bucket.specs.Sound.{HasLastWrites, IsSound}
use Rattle.sc_bucket.specs.declared.bucket.Bucket.{Bucket}
use Rattle.sc_bucket.proofs.AcceptLemmas.{bucket_has_map}
use Rattle.sc_replicas.proofs.CoreLemmas.{IsCoreFound, leader_is_found}
use Rattle.sc_bucket.proofs.TakenLemmas.{found_leads}
use Rattle.sc_bucket.specs.Pending.{new_feed}
use Rattle.sc_handover.specs.Made.{leader_of, empty_core, IsRoomyFor, cells_now}
use Rattle.sc_handover.specs.Parts.{CanFollow, IsMade}
use Rattle.sc_handover.proofs.SubLemmas.{IsSliceFound, found_by_id}
use Rattle.sc_snapshot.specs.Rows.{SnapshotState}

-- the leader of the slice is found
pub leader_of_slice_is_found : (b : Bucket) (name leader : CoreId) (one : Slice) (found : Option ℕ) → IsSound b → CanFollow b name one
    → leader ≡ leader_of name.slice → IsCoreFound b.replicas leader found → IsSome found
leader_of_slice_is_found b name leader one found sound can leads is =
    leader_is_found b.replicas one.id leader found
    (All-contains (λ (slice : Slice). Contains (map core_key b.replicas) (slice.id.0, 1)) b.map one sound.cores.leaders can.there)
    (sym can.of_slice ∙ ap (λ (n : CoreId). n.slice) (sym leads)) (ap (λ (n : CoreId). n.replica) leads) is

-- and what is found is that leader
pub leader_of_slice_is : (b : Bucket) (name leader : CoreId) (one : Slice) (found : Option ℕ) (at : ℕ) (core : Core) → CanFollow b name one
    → leader ≡ leader_of name.slice → IsCoreFound b.replicas leader found → found ≡ Some at → slice_get b.replicas at ≡ Some core
    → Contains b.replicas core × IsLeaderOf one.id core
leader_of_slice_is b name leader one found at core can leads is found_at there =
    let (inside, leads_slice) = found_leads b.replicas leader found at core is found_at there (ap (λ (n : CoreId). n.replica) leads) in
    (inside, subst (λ id. IsLeaderOf id core) (ap (λ (n : CoreId). n.slice) leads ∙ can.of_slice) leads_slice)

-- the slice that is found is this one
pub found_slice : (b : Bucket) (name : CoreId) (one : Slice) (found : Option (Bor Slice)) (slice : Bor Slice) → IsSound b
    → CanFollow b name one → IsSliceFound b.map name found → found ≡ Some slice → slice.now ≡ one
found_slice b name one found slice sound can is same =
    found_by_id b.map name.slice found slice one (bucket_has_map b sound.journal) is same can.there (sym can.of_slice)

-- a snapshot of the core's cells, taken when the journal has as many entries as now
pub taken_now : (b : Bucket) (core : Core) (snapshot : SnapshotState) (place : ℕ) (rows : List Write)
    → snapshot ≡ record { place = place; rows = rows } → place ≡ length b.journal.entries → rows ≡ core.cells
    → snapshot ≡ cells_now b core
taken_now b core snapshot place rows is at all =
    is ∙ ap (λ (n : ℕ). record { place = n; rows = rows }) at
    ∙ ap (λ (these : List Write). record { place = length b.journal.entries; rows = these }) all

-- what is known of the leader from which a core is fed
pub record FeedsFrom (b : Bucket) (name : CoreId) (range : Range) (snapshot : SnapshotState) (one : Slice) : Type 0 where
  pub counted : name.replica < 2 ^ 8
  pub leader : Core
  pub leader_there : Contains b.replicas leader
  pub leader_is : IsLeaderOf one.id leader
  pub last : HasLastWrites b.journal.entries one leader
  pub snapshot_is : snapshot ≡ cells_now b leader
  pub range_is : range ≡ one.range

-- so the core and its feed are made as they have to be
pub IsMade-fed : {F : Type 0} (result : Result (Core × FeedState) F) (b : Bucket) (name : CoreId) (range : Range) (snapshot : SnapshotState)
    → IfOk result (λ made. without_room made.0 ≡ empty_core name)
    → IfOk result (λ made. made.1 ≡ new_feed name range snapshot)
    → IfOk result (λ made. IsRoomyFor made.1 made.0)
    → ((one : Slice) → CanFollow b name one → FeedsFrom b name range snapshot one)
    → IfOk result (λ made. (one : Slice) → CanFollow b name one → IsMade b name one made.0 made.1)
IsMade-fed (Err refused) b name range snapshot core feed roomy from = tt
IsMade-fed (Ok made) b name range snapshot core feed roomy from = λ one can.
    let is = from one can in
    record {
      core_is = core;
      counted = subst (λ (n : CoreId). n.replica < 2 ^ 8) (sym (ap (λ (c : Core). c.core) core)) is.counted;
      leader = is.leader;
      leader_there = is.leader_there;
      leader_is = is.leader_is;
      last = is.last;
      feed_is = feed ∙ ap (λ (r : Range). new_feed name r snapshot) is.range_is ∙ ap (new_feed name one.range) is.snapshot_is;
      roomy = roomy;
    }
