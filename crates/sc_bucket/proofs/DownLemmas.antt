-- Which cores of a bucket are down, and which may be marked so.
use Rattle.std.proofs.Common.{◌≡◌, ◌≢◌, ◌∙◌, ◌↔◌, ◌≤◌, ◌<◌, ℕ, ◌+◌, ◌-◌, Bool, true, false, not, IsTrue, List, map, slice_get, Some, All, Contains, refl, sym, ap, subst, arith}
use Rattle.std.specs.List.{range_with_len}
use Rattle.std.proofs.lemmas.List.Elements.{All-contains}
use Rattle.std.proofs.lemmas.List.FromFn.{length-range_with_len, get_or-range_with_len}
use Rattle.sc_record.specs.Names.{key_of_core, is_core}
use Rattle.sc_record.specs.declared.slice.SliceId.{SliceId}
use Rattle.sc_record.specs.declared.slice.CoreId.{CoreId}
use Rattle.sc_cluster.specs.declared.slice.State.TheVariants as states
use Rattle.sc_cluster.specs.declared.slice.Slice.{Slice}
use Rattle.sc_cluster.specs.Slices.{is_forming}
use Rattle.sc_cluster.proofs.LeaderLemmas.{same_from_id}
use Rattle.sc_cluster.proofs.ListLemmas.{Contains-map}
use Rattle.sc_cluster.proofs.StateLemmas.{active_settled}
use Rattle.sc_replica.specs.Core.{Core}
use Rattle.sc_journal.specs.Down.{is_down, follower_keys}
use Rattle.sc_journal.proofs.FollowerLemmas.{follower_is}
use Rattle.sc_journal.proofs.LegalDownLemmas.{legal_down}
use Rattle.sc_bucket.specs.declared.bucket.Bucket.{Bucket}
use Rattle.sc_replicas.specs.Cores.{core_key, slice_keys}
use Rattle.sc_bucket.specs.Sound.{IsMarked, HasCores, IsSound}
use Rattle.sc_bucket.specs.Events.{CanDetach}
use Rattle.sc_replicas.proofs.CoreLemmas.{name_of, same_name_by, is_core-Decides, element_from_map}
use Rattle.sc_bucket.proofs.SoundLemmas.{All-slice_get}
use Rattle.sc_bucket.proofs.TakenLemmas.{Contains-slice_get}
use Rattle.sc_bucket.proofs.FollowerLemmas.{negated}
use Rattle.sc_bucket.proofs.AcceptLemmas.{bucket_has_map}

-- the numbers of a range
in_range : (from n number : ℕ) → from ≤ number → number < from + n → Contains (range_with_len from n) number
in_range from n number least most =
    let below : number - from < n = omega (arith, least, most) in
    let at = get_or-range_with_len from n (number - from) number below in
    (number - from, omega (arith, below, length-range_with_len from n), omega (arith, at, least))

-- a replica of the slice by its number
pub slice_key : (slice : Slice) (replica : ℕ) → 1 ≤ replica → replica ≤ slice.replicas
    → Contains (slice_keys slice) (slice.id.0, replica)
slice_key slice replica least most =
    Contains-map (λ (number : ℕ). (slice.id.0, number)) (range_with_len 1 slice.replicas) replica
    (in_range 1 slice.replicas replica least (omega (arith, most)))

-- and a follower
pub follower_key : (slice : Slice) (replica : ℕ) → 1 < replica → replica ≤ slice.replicas
    → Contains (follower_keys slice) (slice.id.0, replica)
follower_key slice replica least most =
    Contains-map (λ (number : ℕ). (slice.id.0, number)) (range_with_len 2 (slice.replicas - 1)) replica
    (in_range 2 (slice.replicas - 1) replica (omega (arith, least)) (omega (arith, least, most)))

-- where a core of the name is found, it is marked as the journal says
pub mark_found : (b : Bucket) (name : CoreId) (at : ℕ) (core : Core) → HasCores b → slice_get b.replicas at ≡ Some core
    → is_core name core.core ≡ true → core.down ≡ is_down b.journal.entries (key_of_core name)
mark_found b name at core cores there named =
    (All-slice_get (IsMarked b.journal.entries) b.replicas at core cores.marked there).down
    ∙ ap (λ (id : CoreId). is_down b.journal.entries (key_of_core id)) (sym ((is_core-Decides name core.core).0 named))

-- a follower of a slice that no split is making is there
pub follower_there : (b : Bucket) (slice : Slice) (name : CoreId) → HasCores b → Contains b.map slice → is_forming slice ≡ false
    → Contains (follower_keys slice) (key_of_core name) → Contains (map name_of b.replicas) name
follower_there b slice name cores inside settled follower =
    let (of_slice, least, most) = follower_is slice (key_of_core name) follower in
    let key : Contains (slice_keys slice) (key_of_core name) =
    subst (λ (n : ℕ). Contains (slice_keys slice) (n, name.replica)) (sym of_slice)
    (slice_key slice name.replica (omega (arith, least)) most) in
    let all = All-contains
    (λ (one : Slice). is_forming one ≡ false → All (Contains (map core_key b.replicas)) (slice_keys one)) b.map slice cores.whole inside settled in
    let among = All-contains (Contains (map core_key b.replicas)) (slice_keys slice) (key_of_core name) all key in
    let (k, core, at, is) = element_from_map core_key b.replicas (key_of_core name) among in
    let same : core.core ≡ name = same_name_by core.core name (ap (λ (pair : ℕ × ℕ). pair.0) is) (ap (λ (pair : ℕ × ℕ). pair.1) is) in
    subst (Contains (map name_of b.replicas)) same (Contains-map name_of b.replicas core (Contains-slice_get b.replicas k core at))

-- so a core that is not there is not down
pub absent_not_down : (b : Bucket) (name : CoreId) → IsSound b → All (λ (other : Core). is_core name other.core ≡ false) b.replicas
    → is_down b.journal.entries (key_of_core name) ≡ false
absent_not_down b name sound none = by (is_down b.journal.entries (key_of_core name)) refl where
  by : (down : Bool) → is_down b.journal.entries (key_of_core name) ≡ down → is_down b.journal.entries (key_of_core name) ≡ false
  by false is = is
  by true is =
      let (slice, inside, settled, follower) = legal_down b.first b.journal.entries (key_of_core name) sound.journal.legal is in
      let there = follower_there b slice name sound.cores
      (subst (λ (slices : List Slice). Contains slices slice) (sym sound.journal.map_is) inside) settled follower in
      let (k, core, at, same) = element_from_map name_of b.replicas name there in
      let no = All-slice_get (λ (other : Core). is_core name other.core ≡ false) b.replicas k core none at in
      let yes : is_core name core.core ≡ true = (is_core-Decides name core.core).1 (sym same) in
      let both : true ≡ false = sym yes ∙ no in
      absurd (cc)

-- a follower of an active slice of the map can be marked as down, where it is not
pub can_detach : (b : Bucket) (name : CoreId) (slice : Slice) → IsSound b → Contains b.map slice → slice.id ≡ name.slice
    → slice.state ≡ states.Active → 1 < name.replica → name.replica ≤ slice.replicas
    → is_down b.journal.entries (key_of_core name) ≡ false → CanDetach b name
can_detach b name slice sound inside named active least most up =
    let follower : Contains (follower_keys slice) (key_of_core name) =
    subst (λ (id : SliceId). Contains (follower_keys slice) (id.0, name.replica)) named (follower_key slice name.replica least most) in
    record {
      follower = (slice, inside, active, follower);
      there = follower_there b slice name sound.cores inside (active_settled slice active) follower;
      up = up;
    }

-- and no other core
pub detached_is : (b : Bucket) (name : CoreId) (slice : Slice) → IsSound b → Contains b.map slice → slice.id ≡ name.slice
    → CanDetach b name → (slice.state ≡ states.Active) × (1 < name.replica) × (name.replica ≤ slice.replicas)
detached_is b name slice sound inside named can =
    let (other, there, active, follower) = can.follower in
    let (of_slice, least, most) = follower_is other (key_of_core name) follower in
    let same : slice ≡ other = same_from_id b.map slice other (bucket_has_map b sound.journal) inside there
    (named ∙ ap (λ (n : ℕ). record { 0 = n }) of_slice) in
    (ap (λ (s : Slice). s.state) same ∙ active, omega (arith, least), omega (arith, most, ap (λ (s : Slice). s.replicas) same))

-- so it can be marked exactly where it is not down
pub can_detach_where : (b : Bucket) (name : CoreId) (slice : Slice) (down : Bool) → IsSound b → Contains b.map slice
    → slice.id ≡ name.slice → slice.state ≡ states.Active → 1 < name.replica → name.replica ≤ slice.replicas
    → down ≡ is_down b.journal.entries (key_of_core name) → IsTrue (not down) ↔ CanDetach b name
can_detach_where b name slice down sound inside named active least most same = (
  λ up. can_detach b name slice sound inside named active least most (sym same ∙ negated down up),
  λ can. ap not (same ∙ can.up),
)

-- a core can't where its slice is not there
pub cannot_detach : (b : Bucket) (name : CoreId) → All (λ (slice : Slice). slice.id ≢ name.slice) b.map → CanDetach b name → ⊥
cannot_detach b name none can =
    let (other, there, active, follower) = can.follower in
    let (of_slice, least, most) = follower_is other (key_of_core name) follower in
    All-contains (λ (slice : Slice). slice.id ≢ name.slice) b.map other none there
    (ap (λ (n : ℕ). record { 0 = n }) (sym of_slice))
