-- Cores at the places of a list: what doesn't depend on their room, and which core is at which place.
use Rattle.std.proofs.Common.{◌≡◌, ◌≢◌, ℕ, ℤ, ◌<◌, ◌⊎◌, inl, inr, List, length, map, get_or, set, Some, sym, ap, ◌∙◌, subst, All, slice_get, arith}
use Rattle.std.specs.Option.{option_map}
use Rattle.std.proofs.lemmas.Bool.{cases_eq}
use Rattle.std.proofs.lemmas.Grind.{get_or-set_at}
use Rattle.std.proofs.lemmas.List.{get_or-set_same, get_or-set_other, length-map, length-set, map-set}
use Rattle.std.proofs.lemmas.Option.{slice_get_within, slice_get-get_or, slice_get-map, same_Some}
use Rattle.sc_record.specs.Writes.{Write}
use Rattle.sc_record.specs.declared.slice.CoreId.{CoreId}
use Rattle.sc_cluster.specs.declared.slice.Slice.{Slice}
use Rattle.sc_replica.specs.Core.{Core, led}
use Rattle.sc_replicas.specs.Cores.{IsLeaderAt, without_room}
use Rattle.sc_replicas.proofs.FindLemmas.{some_at}
use Rattle.sc_bucket.specs.Events.{AreSameCores}

-- the element that was written
pub slice_get-set : {X : Type 0} (xs : List X) (k : ℕ) (y : X) → k < length xs → slice_get (set xs k y) k ≡ Some y
slice_get-set xs k y within =
    slice_get-get_or (set xs k y) k y (omega (arith, length-set xs k y)) ∙ ap (λ x. Some x) (get_or-set_same xs k y y within)

-- what holds of an element that is written, and of each at another place, holds of each
pub All-set_apart : {X : Type 0} (P : X → Type 0) (xs : List X) (at : ℕ) (y : X) → P y
    → ((k : ℕ) (x : X) → k ≢ at → slice_get xs k ≡ Some x → P x) → All P (set xs at y)
All-set_apart {X} P xs at y here others k d below = by (cases_eq k at) where
  within : k < length xs
  within = omega (arith, length-set xs at y)

  by : (k ≡ at) ⊎ (k ≢ at) → P (get_or (set xs at y) k d)
  by (inl same) = subst P (sym (get_or-set_at xs at k y d same (omega (arith, within)))) here
  by (inr other) =
      subst P (sym (get_or-set_other xs at k y d other)) (others k (get_or xs k d) other (slice_get-get_or xs k d within))

-- at each place of the same cores are cores that differ in their room alone
pub same_core_at : (one other : List Core) (at : ℕ) (core other_core : Core) → AreSameCores one other
    → slice_get one at ≡ Some core → slice_get other at ≡ Some other_core → without_room other_core ≡ without_room core
same_core_at one other at core other_core same there other_there =
    same_Some (without_room other_core) (without_room core)
    (sym (slice_get-map without_room other at ∙ ap (option_map without_room) other_there)
    ∙ ap (λ (cores : List Core). slice_get cores at) same ∙ slice_get-map without_room one at ∙ ap (option_map without_room) there)

-- and there are as many
pub length-same_cores : (one other : List Core) → AreSameCores one other → length other ≡ length one
length-same_cores one other same = sym (length-map other without_room) ∙ ap length same ∙ length-map one without_room

-- the core that leads a hash is at the same place
pub IsLeaderAt-same_cores : (slices : List Slice) (one other : List Core) (hash : ℤ) (at : ℕ) → AreSameCores one other
    → IsLeaderAt slices one hash at → IsLeaderAt slices other hash at
IsLeaderAt-same_cores slices one other hash at same leader =
    let inside = slice_get_within one at leader.core leader.found in
    let there = some_at other at (omega (arith, length-same_cores one other same)) in
    let alike = same_core_at one other at leader.core there.0 same leader.found there.1 in
    let named : there.0.core ≡ leader.core.core = ap (λ (core : Core). core.core) alike in
    record {
      slice = leader.slice;
      core = there.0;
      leads = leader.leads;
      found = there.1;
      leader = (ap (λ (id : CoreId). id.slice) named ∙ leader.leader.0, ap (λ (id : CoreId). id.replica) named ∙ leader.leader.1);
    }

-- once they led a write at the same place they are the same again
pub AreSameCores-led : (one other : List Core) (at : ℕ) (core other_core : Core) (write : Write) → AreSameCores one other
    → slice_get one at ≡ Some core → slice_get other at ≡ Some other_core
    → AreSameCores (set one at (led core write)) (set other at (led other_core write))
AreSameCores-led one other at core other_core write same there other_there =
    let alike = same_core_at one other at core other_core same there other_there in
    let led_alike : without_room (led other_core write) ≡ without_room (led core write) =
    ap (λ (c : Core). without_room (led c write)) alike in
    map-set without_room other at (led other_core write) ∙ ap (λ (cores : List Core). set cores at (without_room (led other_core write))) same
    ∙ ap (set (map without_room one) at) led_alike ∙ sym (map-set without_room one at (led core write))
