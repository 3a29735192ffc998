-- What rejoining and taking the lead make of a bucket they make of the bucket's part.
use Rattle.std.proofs.Common.{◌≡◌, ◌∙◌, ℕ, true, false, List, [], ◌∷◌, length, set, slice_get, Some, Contains, refl, sym, ap}
use Rattle.std.proofs.lemmas.List.{map-append, map-set}
use Rattle.sc_record.specs.Names.{is_core, key_of_core}
use Rattle.sc_record.specs.declared.slice.SliceId.{SliceId}
use Rattle.sc_record.specs.declared.slice.CoreId.{CoreId}
use Rattle.sc_record.specs.declared.entry.Entry.TheVariants as entry
use Rattle.sc_cluster.specs.declared.slice.Slice.{Slice}
use Rattle.sc_ulog.specs.declared.mode.Mode.{Mode}
use Rattle.sc_ulog.specs.declared.mode.Mode.TheVariants.{Active}
use Rattle.sc_replica.specs.Core.{Core}
use Rattle.sc_replicas.specs.Cores.{IsLeaderOf, seated}
use Rattle.sc_replicas.proofs.CoreLemmas.{same_name_by}
use Rattle.sc_journal.proofs.FollowerLemmas.{follower_is}
use Rattle.sc_bucket.specs.Flight.{in_flight, arrived}
use Rattle.sc_bucket.specs.Pending.{new_feed}
use Rattle.sc_bucket.specs.Sound.{IsSound, Serves}
use Rattle.sc_bucket.specs.declared.bucket.Bucket.{Bucket}
use Rattle.sc_bucket.proofs.SoundLemmas.{All-slice_get}
use Rattle.sc_handover.specs.Conditions.{CanLead}
use Rattle.sc_handover.specs.Made.{leader_of, empty_core, cells_now}
use Rattle.sc_handover.specs.Seats.{Rejoins, TakesLead}
use Rattle.sc_keeper.specs.declared.part.CorePart.{CorePart}
use Rattle.sc_keeper.specs.Part.{left_in, part_of_core, part_of_feed, part_of}
use Rattle.sc_keeper.specs.Events.{PartRejoins, PartLeads}
use Rattle.sc_keeper.proofs.PartLemmas.{parts_of, parts-same_cores, part-received_where, keeper_entries-own}
use Rattle.sc_keeper.proofs.EventLemmas.{feeds_of, found-map, same_part, mode_at}

-- a core rejoins
pub rejoins_part : (old new : Bucket) (name : CoreId) → Rejoins old name new → PartRejoins (part_of old) name (part_of new)
rejoins_part old new name rejoined = record {
  map_is = rejoined.map_is;
  phase_is = rejoined.phase_is;
  changed = record {
    core_at = rejoined.at;
    core = part_of_core rejoined.core;
    core_found = found-map part_of_core old.replicas rejoined.at rejoined.core rejoined.core_at.found;
    core_is = rejoined.core_at.named;
    cores_are = parts-same_cores (set old.replicas rejoined.at fresh) new.replicas rejoined.cores
        ∙ map-set part_of_core old.replicas rejoined.at fresh;
  };
  rows = length rejoined.leader.cells;
  feeds_are = ap feeds_of rejoined.feeds_are
      ∙ map-append part_of_feed old.feeds (new_feed name rejoined.slice.range (cells_now old rejoined.leader) ∷ []);
  entries_are = keeper_entries-own old.journal.entries new.journal.entries (entry.Up name) refl rejoined.entries;
} where
  fresh : Core
  fresh = record (empty_core name) { number = rejoined.core.number }

-- the core at a place that leads the slice of a follower is active
leader_active : (b : Bucket) (name : CoreId) (at : ℕ) (leader : Core) → IsSound b → CanLead b name → slice_get b.replicas at ≡ Some leader
    → IsLeaderOf name.slice leader → leader.mode ≡ Active
leader_active b name at leader sound can there (of_slice, first) =
    let (slice, in_map, active, follower) = can.follower in
    let number = follower_is slice (key_of_core name) follower in
    let same : slice.id ≡ leader.core.slice = sym (ap (λ (n : ℕ). record { 0 = n }) number.0) ∙ sym of_slice in
    (All-slice_get (λ (core : Core). (slice : Slice) → Contains b.map slice → slice.id ≡ core.core.slice → Serves b.journal.entries slice core)
    b.replicas at leader sound.leaders there slice in_map same active first).0

-- nothing is left to replay for an active core
left-active : (core : Core) → core.mode ≡ Active → (part_of_core core).left ≡ 0
left-active core active = ap (λ (mode : Mode). left_in mode (length core.buffer)) active

-- a core takes the lead
pub leads_part : (old new : Bucket) (name : CoreId) → IsSound old → CanLead old name → TakesLead old name new
    → PartLeads (part_of old) name (part_of new)
leads_part old new name sound can taken = record {
  map_is = taken.map_is;
  phase_is = taken.split.phase;
  leader_at = taken.leader_at;
  leader = part_of_core leader;
  leader_found = found-map part_of_core old.replicas taken.leader_at leader taken.leader_found;
  leader_is = same_name_by leader.core (leader_of name.slice) (ap (λ (id : SliceId). id.0) taken.leader_is.0) taken.leader_is.1;
  core_at = taken.at;
  core = part_of_core core;
  core_found = found-map part_of_core old.replicas taken.at core taken.core_at.found;
  core_is = taken.core_at.named;
  cores_are = ap parts_of taken.cores
      ∙ map-set part_of_core (set old.replicas taken.leader_at first) taken.at second
      ∙ ap (λ (parts : List CorePart). set parts taken.at (part_of_core second)) (map-set part_of_core old.replicas taken.leader_at first)
      ∙ ap (λ (part : CorePart). set (set (parts_of old.replicas) taken.leader_at part) taken.at (part_of_core second)) first_is
      ∙ ap (set (set (parts_of old.replicas) taken.leader_at (record (part_of_core leader) { number = core.number })) taken.at) second_is;
  feeds_are = ap feeds_of taken.split.feeds;
  entries_are = keeper_entries-own old.journal.entries new.journal.entries (entry.Led name) refl taken.entries;
} where
  leader : Core
  leader = taken.leader

  core : Core
  core = taken.core

  came : Core
  came = arrived old.flight.messages name core

  first : Core
  first = seated leader.core false came

  second : Core
  second = seated name true leader

  stays : part_of_core came ≡ part_of_core core
  stays = part-received_where (is_core name core.core) core (in_flight old.flight.messages name)

  led : leader.mode ≡ Active
  led = leader_active old name taken.leader_at leader sound can taken.leader_found taken.leader_is

  follows : core.mode ≡ Active
  follows = mode_at old name Active taken.at core sound can.active taken.core_at.found taken.core_at.named

  first_is : part_of_core first ≡ record (part_of_core leader) { number = core.number }
  first_is =
      same_part (part_of_core first) (record (part_of_core leader) { number = core.number }) refl
      (ap (λ (p : CorePart). p.number) stays) (ap (λ (p : CorePart). p.mode) stays ∙ follows ∙ sym led)
      (ap (λ (p : CorePart). p.left) stays ∙ left-active core follows ∙ sym (left-active leader led))

  second_is : part_of_core second ≡ record (part_of_core core) { number = leader.number }
  second_is =
      same_part (part_of_core second) (record (part_of_core core) { number = leader.number }) (sym taken.core_at.named)
      refl (led ∙ sym follows) (left-active leader led ∙ sym (left-active core follows))
