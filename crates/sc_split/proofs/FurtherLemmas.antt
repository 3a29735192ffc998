-- The further replicas of a split's subs join a bucket one after another: none is there before it joins.
use Rattle.std.proofs.Common.{◌≡◌, ◌≢◌, ◌⊎◌, inl, inr, ◌<◌, ◌+◌, ◌-◌, ℕ, zero, suc, Bool, true, false, List, [], ◌∷◌, ◌++◌, length, get_or, take, map, refl, sym, ap, ◌∙◌, subst, append_assoc, arith}
use Rattle.std.specs.Prelude.{All, Contains}
use Rattle.std.specs.List.{IsDistinct, AllByRecursion, AllPairs, range_with_len, flat_map}
use Rattle.std.proofs.lemmas.List.{append-nil, get_or-map, get_or-take, length-map, length-take-le}
use Rattle.std.proofs.lemmas.List.Elements.{Contains-append_cases, Contains-append_right, Contains-get_or}
use Rattle.std.proofs.lemmas.List.Kept.{AllPairs-from_increasing}
use Rattle.std.proofs.lemmas.Map.Keys.{apart_from_distinct}
use Rattle.sc_record.specs.declared.slice.SliceId.{SliceId}
use Rattle.sc_record.specs.declared.slice.SubSlice.{SubSlice}
use Rattle.sc_record.specs.declared.slice.CoreId.{CoreId}
use Rattle.sc_record.specs.Names.{is_core}
use Rattle.sc_cluster.specs.declared.slice.Slice.{Slice}
use Rattle.sc_cluster.specs.declared.plan.SplitPlan.{SplitPlan}
use Rattle.sc_cluster.specs.Plans.{IsPlan}
use Rattle.sc_cluster.specs.Changes.{begun_slice}
use Rattle.sc_cluster.proofs.ListLemmas.{Contains-map}
use Rattle.sc_cluster.proofs.PairLemmas.{Contains-from_map}
use Rattle.sc_bucket.specs.declared.phase.Phase.TheVariants as phases
use Rattle.sc_replicas.proofs.CoreLemmas.{is_core-Decides, is_core-itself}
use Rattle.sc_bucket.proofs.FollowerLemmas.{IsDistinct-append, All-from_contains}
use Rattle.sc_handover.specs.Made.{first_core}
use Rattle.sc_handover.proofs.PlanLemmas.{leader_number, leaders_rise}
use Rattle.sc_keeper.specs.Conditions.{MayGrow}
use Rattle.sc_collection.specs.Known.{Known}
use Rattle.sc_split.specs.Buckets.{part_in, IsAllSeen, KeeperHeld, IsUnderway, HasSubCores, HasGrown, first_cores}
use Rattle.sc_split.specs.Stages.{OpenSplit, Stage, IsAtStage, filled, recovering, whole, further_cores_of, further_names, follower_of}
use Rattle.sc_split.proofs.StageLemmas.{may_grow}
use Rattle.sc_split.proofs.OpenLemmas.{open-held}
use Rattle.sc_split.proofs.SwitchLemmas.{in-range}

-- its further replicas so far are these, and are to be filled
abbrev pub joining : SplitPlan → List CoreId → Stage
joining plan names = record { phase = phases.Recovering plan.parent; to_fill = names; there = first_cores plan.subs ++ names }

-- names that differ are those of different cores
not_core : (one other : CoreId) → one ≢ other → is_core one other ≡ false
not_core one other differ = by (is_core one other) refl where
  by : (b : Bool) → is_core one other ≡ b → is_core one other ≡ false
  by false is = is
  by true is = absurd (differ ((is_core-Decides one other).0 is))

-- an element of lists that are joined is one of one of them
from-joined : {X Y : Type 0} (f : X → List Y) (xs : List X) (y : Y) → Contains (flat_map f xs) y
    → (x : X) × Contains xs x × Contains (f x) y
from-joined f [] y (k, below, is) = absurd (omega (arith, below))
from-joined {X} {Y} f (x ∷ xs) y there = by (Contains-append_cases (f x) (flat_map f xs) y there) (from-joined f xs y) where
  by : Contains (f x) y ⊎ Contains (flat_map f xs) y
      → (Contains (flat_map f xs) y → (one : X) × Contains xs one × Contains (f one) y)
      → (one : X) × Contains (x ∷ xs) one × Contains (f one) y
  by (inl here) later = (x, (0, omega arith, refl), here)
  by (inr rest) later =
      let (one, (k, below, is), inside) = later rest in
      (one, (suc k, omega (arith, below), is), inside)

-- a further replica of a sub, by its name
of-sub : (sub : SubSlice) (name : CoreId) → Contains (further_names sub) name
    → (k : ℕ) × (k < sub.replicas - 1) × (follower_of sub k ≡ name)
of-sub sub name there =
    let (number, among, is) = Contains-from_map (follower_of sub) (range_with_len 0 (sub.replicas - 1)) name there in
    let (k, below, at) = in-range 0 (sub.replicas - 1) number among in
    let same : number ≡ k = omega (arith, at) in
    (k, below, ap (follower_of sub) (sym same) ∙ is)

-- no two further replicas of a sub are one
later-differ : (sub : SubSlice) (k from n : ℕ) → k < from
    → AllByRecursion (λ name. is_core (follower_of sub k) name ≡ false) (map (follower_of sub) (range_with_len from n))
later-differ sub k from zero less = tt
later-differ sub k from (suc n) less = (
  not_core (follower_of sub k) (follower_of sub from) (λ same. absurd (omega (arith, less, ap (λ (name : CoreId). name.replica) same))),
  later-differ sub k (from + 1) n (omega arith),
)

replicas-apart : (sub : SubSlice) (from n : ℕ) → IsDistinct is_core (map (follower_of sub) (range_with_len from n))
unfolding IsDistinct
replicas-apart sub from zero = tt
replicas-apart sub from (suc n) = (later-differ sub from (from + 1) n (omega arith), replicas-apart sub (from + 1) n)

-- one sub has a lower id than another
abbrev IsSubBefore : SubSlice → SubSlice → Type 0
IsSubBefore one other = one.id.0 < other.id.0

-- the ids of a plan's subs ascend
subs-ascend : (slices : List Slice) (parent : SliceId) (subs : List SubSlice) → IsPlan slices parent subs → AllPairs IsSubBefore subs
subs-ascend slices parent subs plan i j d less below =
    let up = AllPairs-from_increasing (map leader_number subs) (leaders_rise slices parent subs plan) i j (leader_number d) less (omega (arith, length-map subs leader_number)) in
    omega (arith, up, get_or-map leader_number subs i d (leader_number d) (omega arith), get_or-map leader_number subs j d (leader_number d) below)

-- so no two further replicas are one
further-apart : (subs : List SubSlice) → AllPairs IsSubBefore subs → IsDistinct is_core (flat_map further_names subs)
unfolding IsDistinct
further-apart [] up = tt
further-apart (sub ∷ subs) up =
    IsDistinct-append is_core (further_names sub) (flat_map further_names subs) (replicas-apart sub 0 (sub.replicas - 1))
    (further-apart subs (λ i j d less below. up (suc i) (suc j) d (omega arith) (omega arith)))
    (All-from_contains (λ name. All (λ later. is_core name later ≡ false) (flat_map further_names subs)) (further_names sub)
    (λ name here. All-from_contains (λ later. is_core name later ≡ false) (flat_map further_names subs)
    (λ later among. apart name later here (from-joined further_names subs later among))))
  where
    apart : (name later : CoreId) → Contains (further_names sub) name
        → (other : SubSlice) × Contains subs other × Contains (further_names other) later → is_core name later ≡ false
    apart name later here (other, (k, below, is), inside) =
        let (m, few, one) = of-sub sub name here in
        let (n, less, two) = of-sub other later inside in
        let lower : sub.id.0 < (get_or subs k other).id.0 = up 0 (suc k) other (omega arith) (omega (arith, below)) in
        let at : (get_or subs k other).id.0 ≡ other.id.0 = ap (λ (s : SubSlice). s.id.0) is in
        let first : sub.id.0 ≡ name.slice.0 = ap (λ (c : CoreId). c.slice.0) one in
        let second : other.id.0 ≡ later.slice.0 = ap (λ (c : CoreId). c.slice.0) two in
        not_core name later (λ same. absurd (omega (arith, lower, at, first, second, ap (λ (c : CoreId). c.slice.0) same)))

-- the next of some names that differ is none of those before it
next-missing : (names : List CoreId) (i : ℕ) (name : CoreId) → IsDistinct is_core names → i < length names → name ≡ get_or names i name
    → Contains (take i names) name → ⊥
next-missing names i name apart below is (k, within, at) =
    let few : length (take i names) ≡ i = length-take-le i names (omega arith) in
    let less : k < i = omega (arith, within, few) in
    let here : name ≡ get_or names k name = sym at ∙ get_or-take i names k name less in
    let differ = apart_from_distinct is_core names k i name apart less below in
    let same : is_core (get_or names k name) (get_or names i name) ≡ true =
    ap (λ (one : CoreId). is_core one (get_or names i name)) (sym here) ∙ ap (is_core name) (sym is) ∙ is_core-itself name in
    cc

-- a further replica is no leader
not-leader : (subs : List SubSlice) (sub : SubSlice) (k : ℕ) (name : CoreId) → follower_of sub k ≡ name → Contains (first_cores subs) name → ⊥
not-leader subs sub k name is there =
    let (other, among, same) = Contains-from_map first_core subs name there in
    omega (arith, ap (λ (c : CoreId). c.replica) is, ap (λ (c : CoreId). c.replica) same)

-- the next of the further replicas may join
pub may-join : (split : OpenSplit) (cores : List CoreId) (known : Known) (b i : ℕ) (name : CoreId) → further_cores_of split.plan ≡ cores
    → i < length cores → name ≡ get_or cores i name → IsAtStage split (joining split.plan (take i cores)) known b
    → (sub : Slice) × MayGrow (part_in known b) name sub
may-join split cores known b i name all below is was =
    by (from-joined further_names plan.subs name
    (subst (λ (names : List CoreId). Contains names name) (sym all)
    (subst (Contains cores) (sym is) (Contains-get_or cores i name below)))) where
      plan : SplitPlan
      plan = split.plan

      apart : IsDistinct is_core cores
      apart = subst (IsDistinct is_core) all
          (further-apart plan.subs (subs-ascend (part_in split.base b).map plan.parent plan.subs was.opened.underway.planned))

      by : (sub : SubSlice) × Contains plan.subs sub × Contains (further_names sub) name → (sub : Slice) × MayGrow (part_in known b) name sub
      by (sub, begun, inside) =
          let (k, few, same) = of-sub sub name inside in
          let there : Contains (part_in known b).map (begun_slice sub) =
          subst (λ (slices : List Slice). Contains slices (begun_slice sub)) (sym was.opened.underway.map_is)
          (Contains-append_right (part_in split.base b).map (map begun_slice plan.subs) (begun_slice sub)
          (Contains-map begun_slice plan.subs sub begun)) in
          let replica : suc (k + 1) ≡ name.replica = ap (λ (c : CoreId). c.replica) same in (
            begun_slice sub,
            may_grow (part_in known b) (first_cores plan.subs ++ take i cores) name (begun_slice sub) plan.parent was.phase_is there refl
                (ap (λ (c : CoreId). c.slice) (sym same)) (omega (arith, replica)) (omega (arith, replica, few)) was.there
                (missing sub k same),
          )
        where
          missing : (sub : SubSlice) (k : ℕ) → follower_of sub k ≡ name → Contains (first_cores plan.subs ++ take i cores) name → ⊥
          missing sub k same among = cases (Contains-append_cases (first_cores plan.subs) (take i cores) name among) where
            cases : Contains (first_cores plan.subs) name ⊎ Contains (take i cores) name → ⊥
            cases (inl leads) = not-leader plan.subs sub k name same leads
            cases (inr joined) = next-missing cores i name apart below is joined

-- none has joined yet
pub joining-none : (split : OpenSplit) (known : Known) (b : ℕ) → IsAtStage split (recovering split.plan) known b
    → IsAtStage split (joining split.plan []) known b
joining-none split known b was = record {
  opened = was.opened;
  phase_is = was.phase_is;
  to_fill = was.to_fill;
  there = subst (HasSubCores (part_in known b)) (sym (append-nil (first_cores split.plan.subs))) was.there;
}

-- one more has joined
pub stage-grown : (split : OpenSplit) (names : List CoreId) (name : CoreId) (old new : Known) (b : ℕ) → KeeperHeld b old new []
    → IsAllSeen b new → IsUnderway (part_in split.base b) split.plan (part_in new b) → HasGrown (part_in old b) name (part_in new b)
    → IsAtStage split (joining split.plan names) old b → IsAtStage split (joining split.plan (names ++ name ∷ [])) new b
stage-grown split names name old new b held seen underway grown was = record {
  opened = open-held split old new b held seen underway was.opened;
  phase_is = grown.rest.phase_is ∙ was.phase_is;
  to_fill = grown.to_fill names was.to_fill;
  there = subst (HasSubCores (part_in new b)) (append_assoc (first_cores split.plan.subs) names (name ∷ []))
      (grown.sub_cores (first_cores split.plan.subs ++ names) was.there);
}

-- all have joined, and are filled
pub whole-filled : (split : OpenSplit) (names : List CoreId) (known : Known) (b : ℕ) → further_cores_of split.plan ≡ names
    → IsAtStage split (filled (joining split.plan names)) known b → IsAtStage split (whole split.plan) known b
whole-filled split names known b all was = record {
  opened = was.opened;
  phase_is = was.phase_is;
  to_fill = was.to_fill;
  there = subst (λ (these : List CoreId). HasSubCores (part_in known b) (first_cores split.plan.subs ++ these)) (sym all) was.there;
}
