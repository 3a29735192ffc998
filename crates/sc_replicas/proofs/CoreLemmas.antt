-- The cores of a bucket by their names, and which of them serves a hash.
use Rattle.std.proofs.Common.{[], ◌∷◌, get_or, take, ◌++◌, ◌≡◌, ◌∙◌, ℕ, ℤ, zero, suc, ◌+◌, ◌<◌, Bool, List, length, map, slice_get, Some, None, Option, All, AllPairs, Contains, MatchOption, IsSome, true, false, ◌⊎◌, inl, inr, refl, sym, ap, subst, append_assoc, arith}
use Rattle.std.specs.Bool.{Decides}
use Rattle.std.specs.List.{IsDistinct, flat_map, range_with_len, AllWithin, HoldsAt}
use Rattle.std.specs.List.Sorted.{IsStrictlyIncreasing}
use Rattle.std.proofs.lemmas.Bool.{cases_order}
use Rattle.std.proofs.lemmas.Bool.Decides.{Decides-and, Decides-like, Decides-eqb}
use Rattle.std.proofs.lemmas.Grind.{flat_map-append}
use Rattle.std.proofs.lemmas.List.{append-nil, length-map, get_or-map, map-append, take_more}
use Rattle.std.proofs.lemmas.List.Elements.{All-weaker, All-contains_itself, Contains-append_left, Contains-append_right}
use Rattle.std.proofs.lemmas.List.FromFn.{length-range_with_len, get_or-range_with_len, map-range_with_len_more}
use Rattle.std.proofs.lemmas.List.Kept.{AllPairs-from_increasing}
use Rattle.std.proofs.lemmas.Map.Keys.{apart_from_distinct, IsDistinct-from_apart}
use Rattle.std.proofs.lemmas.Option.{slice_get-get_or, slice_get_within, get_or_from_slice_get}
use Rattle.std.proofs.lemmas.Simd.{map-map}
use Rattle.sc_record.specs.declared.slice.SliceId.{SliceId}
use Rattle.sc_record.specs.declared.slice.CoreId.{CoreId}
use Rattle.sc_cluster.specs.declared.slice.Slice.{Slice}
use Rattle.sc_cluster.specs.Map.{Leads}
use Rattle.sc_cluster.proofs.ListLemmas.{Contains-map}
use Rattle.sc_cluster.proofs.PairLemmas.{AllPairs-from_map}
use Rattle.sc_replica.specs.Core.{Core}
use Rattle.sc_record.specs.Names.{is_core}
use Rattle.sc_replicas.specs.Cores.{core_key, core_keys, slice_keys, core_number, CoresAscend, IsLeaderOf, IsLeaderAt}
use Rattle.sc_replicas.proofs.FindLemmas.{some_at}
use mathlib.Core.HLevel.{is_prop→PathP}
use native.Mathlib.Bridge.{le_prop}

-- a name by its parts
pub same_name_by : (one other : CoreId) → one.slice.0 ≡ other.slice.0 → one.replica ≡ other.replica → one ≡ other
same_name_by one other slice replica = λ i. record {
  slice = record { 0 = slice i };
  replica = replica i;
  counted = is_prop→PathP (λ j. 0 < replica j) (λ j. le_prop) one.counted other.counted i;
}

-- the two names are those of one core exactly where they are the same
pub is_core-Decides : (one other : CoreId) → Decides (is_core one other) (one ≡ other)
is_core-Decides one other =
    Decides-like (is_core one other) (λ parts. same_name_by one other parts.0 parts.1)
    (λ same. (ap (λ (name : CoreId). name.slice.0) same, ap (λ (name : CoreId). name.replica) same))
    (Decides-and _ _ (Decides-eqb one.slice.0 other.slice.0) (Decides-eqb one.replica other.replica))

pub is_core-itself : (name : CoreId) → is_core name name ≡ true
is_core-itself name = (is_core-Decides name name).1 refl

-- the name of a core
abbrev pub name_of : Core → CoreId
name_of core = core.core

-- no two cores have one name
abbrev pub AreApart : List Core → Type 0
AreApart cores = IsDistinct is_core (map name_of cores)

-- two names of which one has the lower number are of two cores
apart_by_number : (one other : CoreId) → core_number one < core_number other → is_core one other ≡ false
apart_by_number one other less = by (is_core one other) refl where
  by : (b : Bool) → is_core one other ≡ b → is_core one other ≡ false
  by false is = is
  by true is = absurd (omega (arith, less, ap core_number ((is_core-Decides one other).0 is)))

-- cores that ascend by their names are apart
pub AreApart-from_ascending : (cores : List Core) → CoresAscend cores → AreApart cores
AreApart-from_ascending cores ascend =
    let names : List CoreId = map name_of cores in
    let numbers : IsStrictlyIncreasing (map core_number names) =
    subst IsStrictlyIncreasing (sym (map-map core_number name_of cores)) ascend in
    let pairs : AllPairs (λ (one other : CoreId). core_number one < core_number other) names =
    AllPairs-from_map (λ (one other : ℕ). one < other) core_number names
    (AllPairs-from_increasing (map core_number names) numbers) in
    IsDistinct-from_apart is_core names
    (λ i j d before within. apart_by_number (get_or names i d) (get_or names j d) (pairs i j d before within))

-- cores of the same names ascend too
pub AscendByName-same : (old new : List Core) → map name_of new ≡ map name_of old → CoresAscend old → CoresAscend new
AscendByName-same old new same ascend =
    subst IsStrictlyIncreasing
    (sym (sym (map-map core_number name_of new) ∙ ap (map core_number) same ∙ map-map core_number name_of old)) ascend

-- two cores of one name are at one place
pub core_alone : (cores : List Core) (i j : ℕ) (one other : Core) → AreApart cores → slice_get cores i ≡ Some one
    → slice_get cores j ≡ Some other → one.core ≡ other.core → i ≡ j
core_alone cores i j one other apart at_i at_j same = by (cases_order i j) where
  name : Core → CoreId
  name core = core.core

  name_at : (k : ℕ) (core : Core) → slice_get cores k ≡ Some core → get_or (map (λ (c : Core). c.core) cores) k one.core ≡ core.core
  name_at k core at =
      get_or-map (λ (c : Core). c.core) cores k core one.core (slice_get_within cores k core at)
      ∙ ap (λ (c : Core). c.core) (get_or_from_slice_get cores k core core at)

  within : (k : ℕ) (core : Core) → slice_get cores k ≡ Some core → k < length (map (λ (c : Core). c.core) cores)
  within k core at = let inside = slice_get_within cores k core at in omega (arith, length-map cores (λ (c : Core). c.core))

  clash : (k l : ℕ) (here there : Core) → slice_get cores k ≡ Some here → slice_get cores l ≡ Some there → here.core ≡ there.core
      → k < l → ⊥
  clash k l here there at_k at_l alike less =
      let differ = apart_from_distinct is_core (map (λ (c : Core). c.core) cores) k l one.core apart less (within l there at_l) in
      let both : is_core here.core there.core ≡ false =
      ap (λ (n : CoreId). is_core n there.core) (sym (name_at k here at_k))
      ∙ ap (λ (n : CoreId). is_core (get_or (map (λ (c : Core). c.core) cores) k one.core) n) (sym (name_at l there at_l)) ∙ differ in
      let yes : is_core here.core there.core ≡ true = (is_core-Decides here.core there.core).1 alike in
      let no : true ≡ false = sym yes ∙ both in
      absurd (cc)

  by : (i ≡ j) ⊎ ((i < j) ⊎ (j < i)) → i ≡ j
  by (inl equal) = equal
  by (inr (inl less)) = absurd (clash i j one other at_i at_j same less)
  by (inr (inr more)) = absurd (clash j i other one at_j at_i (sym same) more)

-- a core of this name leads the slice
pub IsLeaderOf-from_key : (slice : SliceId) (core : Core) → core_key core ≡ (slice.0, 1) → IsLeaderOf slice core
IsLeaderOf-from_key slice core same =
    (ap (λ (key : ℕ × ℕ). record { 0 = key.0 }) same, ap (λ (key : ℕ × ℕ). key.1) same)

-- the names of a slice's cores begin with that of its leader
leader_of_slice : (slice : Slice) → Contains (slice_keys slice) (slice.id.0, 1)
leader_of_slice slice =
    Contains-map (λ (replica : ℕ). (slice.id.0, replica)) (range_with_len 1 slice.replicas) 1
    (0, omega (arith, length-range_with_len 1 slice.replicas, slice.replicated), get_or-range_with_len 1 slice.replicas 0 1 slice.replicated)

-- a slice's names are among those of the map
pub keys_among : (slices : List Slice) (slice : Slice) (key : ℕ × ℕ) → Contains slices slice
    → Contains (slice_keys slice) key → Contains (core_keys slices) key
keys_among [] slice key (k, below, is) there = absurd (omega arith)
keys_among (first ∷ slices) slice key (zero, below, is) there =
    Contains-append_left (slice_keys first) (core_keys slices) key (subst (λ (s : Slice). Contains (slice_keys s) key) (sym is) there)
keys_among (first ∷ slices) slice key (suc k, below, is) there =
    Contains-append_right (slice_keys first) (core_keys slices) key (keys_among slices slice key (k, omega arith, is) there)

-- where every slice has all its cores, there is a core of each leader's name
has_leader : (slices : List Slice) (cores : List Core) (slice : Slice) → map core_key cores ≡ core_keys slices
    → Contains slices slice → Contains (map core_key cores) (slice.id.0, 1)
has_leader slices cores slice same there =
    subst (λ keys. Contains keys (slice.id.0, 1)) (sym same) (keys_among slices slice (slice.id.0, 1) there (leader_of_slice slice))

-- for each slice
pub have_leaders : (slices : List Slice) (cores : List Core) → map core_key cores ≡ core_keys slices
    → All (λ (slice : Slice). Contains (map core_key cores) (slice.id.0, 1)) slices
have_leaders slices cores same =
    All-weaker (Contains slices) (λ (slice : Slice). Contains (map core_key cores) (slice.id.0, 1))
    (λ slice. has_leader slices cores slice same) slices (All-contains_itself slices)

-- an element of a mapped list is that of an element
pub element_from_map : {A B : Type 0} (f : A → B) (xs : List A) (y : B) → Contains (map f xs) y
    → (k : ℕ) × (x : A) × (slice_get xs k ≡ Some x) × (f x ≡ y)
element_from_map f [] y (k, below, is) = absurd (omega arith)
element_from_map f (x ∷ xs) y (k, below, is) =
    let within : k < length (x ∷ xs) = omega (arith, length-map (x ∷ xs) f) in
    (k, get_or (x ∷ xs) k x, slice_get-get_or (x ∷ xs) k x within, sym (get_or-map f (x ∷ xs) k x y within) ∙ is)

-- what a search for a core of this name finds
abbrev pub IsCoreFound : List Core → CoreId → Option ℕ → Type 0
IsCoreFound cores name found =
    MatchOption found (All (λ (other : Core). is_core name other.core ≡ false) cores)
    (λ at. (there : Core) × (slice_get cores at ≡ Some there) × (is_core name there.core ≡ true))

pub core_found : (cores : List Core) (name : CoreId) (found : Option ℕ)
    → MatchOption found (AllWithin (λ (core : Core). is_core name core.core ≡ false) cores 0 (length cores))
    (λ i. (i < length cores) × HoldsAt (λ (core : Core). is_core name core.core ≡ true) cores i × AllWithin (λ (core : Core). is_core name core.core ≡ false) cores 0 i)
    → IsCoreFound cores name found
core_found cores name None none = λ k d below. none k d (omega arith) below
core_found cores name (Some i) (within, here, before) =
    let (core, found) = some_at cores i within in
    (core, found, subst (λ (c : Core). is_core name c.core ≡ true) (get_or_from_slice_get cores i core core found) (here core))

-- a core that is there is found
pub core_is_found : (cores : List Core) (name : CoreId) (found : Option ℕ) → Contains (map (λ (core : Core). core.core) cores) name
    → IsCoreFound cores name found → IsSome found
core_is_found cores name (Some at) there is = refl
core_is_found cores name None there none =
    let (k, core, at, is) = element_from_map (λ (core : Core). core.core) cores name there in
    let no : is_core name (get_or cores k core).core ≡ false = none k core (slice_get_within cores k core at) in
    let yes : is_core name (get_or cores k core).core ≡ true =
    (is_core-Decides name (get_or cores k core).core).1 (sym is ∙ ap (λ (c : Core). c.core) (sym (get_or_from_slice_get cores k core core at))) in
    let both : true ≡ false = sym yes ∙ no in
    absurd (cc)

-- so the search for a slice's leader finds one
pub leader_is_found : (cores : List Core) (slice : SliceId) (name : CoreId) (found : Option ℕ)
    → Contains (map core_key cores) (slice.0, 1) → slice ≡ name.slice → name.replica ≡ 1
    → IsCoreFound cores name found → IsSome found
leader_is_found cores slice name (Some at) there same first is = refl
leader_is_found cores slice name None there same first none =
    let (k, core, at, is) = element_from_map core_key cores (slice.0, 1) there in
    let of_slice : core.core.slice.0 ≡ name.slice.0 = ap (λ (key : ℕ × ℕ). key.0) is ∙ ap (λ (id : SliceId). id.0) same in
    let alike : name ≡ core.core = same_name_by name core.core (sym of_slice) (first ∙ sym (ap (λ (key : ℕ × ℕ). key.1) is)) in
    let no : is_core name (get_or cores k core).core ≡ false = none k core (slice_get_within cores k core at) in
    let yes : is_core name (get_or cores k core).core ≡ true =
    (is_core-Decides name (get_or cores k core).core).1 (alike ∙ ap (λ (c : Core). c.core) (sym (get_or_from_slice_get cores k core core at))) in
    let both : true ≡ false = sym yes ∙ no in
    absurd (cc)

-- and what it finds serves the hash that the slice leads
pub leader_at : (slices : List Slice) (cores : List Core) (hash : ℤ) (slice : Slice) (name : CoreId) (found : Option ℕ) (at : ℕ)
    → Leads slices hash slice → slice.id ≡ name.slice → name.replica ≡ 1 → IsCoreFound cores name found → found ≡ Some at
    → IsLeaderAt slices cores hash at
leader_at slices cores hash slice name found at leads same first is found_at =
    let (core, there, named) = subst (IsCoreFound cores name) found_at is in
    let alike : name ≡ core.core = (is_core-Decides name core.core).0 named in
    record {
      slice = slice;
      core = core;
      leads = leads;
      found = there;
      leader = (
        ap (λ (n : CoreId). n.slice) (sym alike) ∙ sym same,
        ap (λ (n : CoreId). n.replica) (sym alike) ∙ first,
      );
    }

-- a core at a place is one of the cores
pub IsLeaderAt-within : (slices : List Slice) (cores : List Core) (hash : ℤ) (at : ℕ) → IsLeaderAt slices cores hash at → at < length cores
IsLeaderAt-within slices cores hash at leader = slice_get_within cores at leader.core leader.found

-- what is joined of the first slices, and of the next
pub joined-push : {X : Type 0} (f : Slice → List X) (slices : List Slice) (at : ℕ) (slice : Slice) → slice_get slices at ≡ Some slice
    → flat_map f (take at slices) ++ f slice ≡ flat_map f (take (at + 1) slices)
joined-push f slices at slice there =
    ap (λ xs. flat_map f (take at slices) ++ xs) (sym (append-nil (f slice)))
    ∙ sym (flat_map-append f (take at slices) (slice ∷ []))
    ∙ ap (flat_map f) (sym (take_more slices at slice (slice_get_within slices at slice there)
    ∙ ap (λ (s : Slice). take at slices ++ s ∷ []) (get_or_from_slice_get slices at slice slice there)))

-- as the names of the first slices' cores, and those of the next
pub keys-push : (slices : List Slice) (at : ℕ) (slice : Slice) → slice_get slices at ≡ Some slice
    → core_keys (take at slices) ++ slice_keys slice ≡ core_keys (take (at + 1) slices)
keys-push slices at slice there = joined-push slice_keys slices at slice there

-- the names of one core more of a slice
pub keys_more : (id below : ℕ) (before : List (ℕ × ℕ)) (cores : List Core) (core : Core)
    → map core_key cores ≡ before ++ map (λ (replica : ℕ). (id, replica)) (range_with_len 1 below) → core_key core ≡ (id, below + 1)
    → map core_key (cores ++ core ∷ []) ≡ before ++ map (λ (replica : ℕ). (id, replica)) (range_with_len 1 (below + 1))
keys_more id below before cores core so_far is =
    let name : ℕ → ℕ × ℕ = λ replica. (id, replica) in
    map-append core_key cores (core ∷ [])
    ∙ ap (λ keys. keys ++ core_key core ∷ []) so_far
    ∙ append_assoc before (map name (range_with_len 1 below)) (core_key core ∷ [])
    ∙ ap (λ (key : ℕ × ℕ). before ++ (map name (range_with_len 1 below) ++ key ∷ [])) is
    ∙ ap (λ keys. before ++ keys) (sym (map-range_with_len_more name 1 below (below + 1) (omega arith)))
