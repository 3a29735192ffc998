-- What the slice that has an id says of a core, and of the id.
use Rattle.std.proofs.Common.{◌≡◌, ◌≢◌, ◌↔◌, ◌∙◌, ℕ, ◌<◌, ◌≤◌, Bool, false, List, All, Contains, IsTrue, refl, sym, ap, arith}
use Rattle.std.proofs.lemmas.Bool.{false≢true}
use Rattle.std.proofs.lemmas.List.Elements.{All-contains}
use denote.Enum.Bare.{sameb}
use Rattle.sc_record.specs.declared.slice.SliceId.{SliceId}
use Rattle.sc_record.specs.declared.slice.CoreId.{CoreId}
use Rattle.sc_record.specs.Names.{key_of_core}
use Rattle.sc_cluster.specs.contracts.slice.State as state_type
use Rattle.sc_cluster.specs.declared.slice.State.{State}
use Rattle.sc_cluster.specs.declared.slice.State.TheVariants as states
use Rattle.sc_cluster.specs.declared.slice.Slice.{Slice}
use Rattle.sc_cluster.specs.Map.{IsMap}
use Rattle.sc_cluster.specs.Changes.{IsInactive}
use Rattle.sc_cluster.proofs.LeaderLemmas.{same_from_id}
use Rattle.sc_journal.specs.Down.{IsFollower}
use Rattle.sc_journal.proofs.FollowerLemmas.{follower_is, follower_from}

-- the slice of this id
abbrev pub IsSliceFound : List Slice → SliceId → Slice → Type 0
IsSliceFound slices id slice = Contains slices slice × (slice.id ≡ id)

-- the slice of the core tells whether that is a follower
pub follower_where_found : (slices : List Slice) (core : CoreId) (slice : Slice) (test : Bool) → IsMap slices
    → IsSliceFound slices core.slice slice
    → IsTrue test ↔ ((slice.state ≡ states.Active) × (1 < core.replica) × (core.replica ≤ slice.replicas))
    → IsTrue test ↔ IsFollower slices core
follower_where_found slices core slice test is_map (there, named) says = (forth, back) where
  forth : IsTrue test → IsFollower slices core
  forth is =
      let (active, least, most) = says.0 is in
      let own : core.slice.0 ≡ slice.id.0 = ap (λ (id : SliceId). id.0) (sym named) in
      (slice, there, active, follower_from slice (key_of_core core) own (omega (arith, least)) most)

  back : IsFollower slices core → IsTrue test
  back (other, other_there, active, follower) =
      let (of_slice, least, most) = follower_is other (key_of_core core) follower in
      let same : slice ≡ other = same_from_id slices slice other is_map there other_there
      (named ∙ ap (λ (n : ℕ). record { 0 = n }) of_slice) in
      says.1 (ap (λ (s : Slice). s.state) same ∙ active, omega (arith, least), omega (arith, most, ap (λ (s : Slice). s.replicas) same))

-- where there is none it is not
pub no_follower : (slices : List Slice) (core : CoreId) → All (λ (slice : Slice). slice.id ≢ core.slice) slices
    → IsTrue false ↔ IsFollower slices core
no_follower slices core none = (λ is. absurd (false≢true is), back) where
  back : IsFollower slices core → IsTrue false
  back (other, there, active, follower) =
      let of_slice = (follower_is other (key_of_core core) follower).0 in
      absurd (All-contains (λ (slice : Slice). slice.id ≢ core.slice) slices other none there
      (ap (λ (n : ℕ). record { 0 = n }) (sym of_slice)))

-- whether a state is that of an inactive slice
pub inactive_test : (state : State) → IsTrue (sameb state_type.the_type state states.Inactive) ↔ (state ≡ states.Inactive)
inactive_test states.Active = (λ is. cc, λ same. cc)
inactive_test states.Inactive = (λ is. refl, λ same. refl)
inactive_test states.Construction = (λ is. cc, λ same. cc)
inactive_test states.Recovery = (λ is. cc, λ same. cc)

-- the slice of the id tells whether that is inactive
pub inactive_where_found : (slices : List Slice) (id : SliceId) (slice : Slice) (test : Bool) → IsMap slices
    → IsSliceFound slices id slice → IsTrue test ↔ (slice.state ≡ states.Inactive) → IsTrue test ↔ IsInactive slices id
inactive_where_found slices id slice test is_map (there, named) says = (λ is. (slice, there, named, says.0 is), back) where
  back : IsInactive slices id → IsTrue test
  back (other, other_there, other_named, inactive) =
      says.1 (ap (λ (s : Slice). s.state) (same_from_id slices slice other is_map there other_there (named ∙ sym other_named)) ∙ inactive)
