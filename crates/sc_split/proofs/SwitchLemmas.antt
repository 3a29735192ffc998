-- Once all cores of a split are there and filled, its subs may take their parent's place, and do.
use Rattle.std.proofs.Common.{◌≡◌, ◌<◌, ℕ, zero, suc, ◌+◌, ◌-◌, true, List, [], ◌∷◌, ◌++◌, map, refl, sym, ap, ◌∙◌, subst, arith}
use Rattle.std.specs.Prelude.{Contains, All}
use Rattle.std.specs.List.{range_with_len, flat_map}
use Rattle.std.proofs.lemmas.List.Elements.{Contains-append_left, Contains-append_right}
use Rattle.sc_record.specs.declared.slice.SubSlice.{SubSlice}
use Rattle.sc_record.specs.declared.slice.CoreId.{CoreId}
use Rattle.sc_record.specs.declared.entry.Entry.TheVariants as entry
use Rattle.sc_record.specs.Names.{key_of_core}
use Rattle.sc_cluster.specs.declared.slice.Slice.{Slice}
use Rattle.sc_cluster.specs.declared.plan.SplitPlan.{SplitPlan}
use Rattle.sc_cluster.specs.Slices.{is_forming, forming}
use Rattle.sc_cluster.specs.Changes.{Change, after, begun_slice}
use Rattle.sc_cluster.proofs.ListLemmas.{Contains-map, Contains-filter}
use Rattle.sc_cluster.proofs.PairLemmas.{Contains-from_map}
use Rattle.sc_cluster.proofs.StateLemmas.{forming-begun}
use Rattle.sc_ulog.specs.declared.mode.Mode.TheVariants.{Active}
use Rattle.sc_replicas.specs.Cores.{slice_keys}
use Rattle.sc_keeper.specs.declared.part.CorePart.{CorePart}
use Rattle.sc_keeper.specs.declared.part.Part.{Part}
use Rattle.sc_keeper.specs.Conditions.{MaySwitch}
use Rattle.sc_keeper.specs.Events.{PartSwitches}
use Rattle.sc_handover.specs.Made.{first_core}
use Rattle.sc_collection.specs.Known.{Known, IsSameIn}
use Rattle.sc_split.specs.Buckets.{part_in, IsAllSeen, KeeperHeld, first_cores}
use Rattle.sc_split.specs.Stages.{OpenSplit, IsAtStage, IsDoneIn, HasEndedSplit, whole, further_cores_of, further_names, follower_of}
use Rattle.sc_split.proofs.StageLemmas.{may_switch}
use Rattle.sc_split.proofs.EndLemmas.{ended-held}

-- an element of one of the lists is one of them joined
joined : {X Y : Type 0} (f : X → List Y) (xs : List X) (x : X) (y : Y) → Contains xs x → Contains (f x) y → Contains (flat_map f xs) y
joined f [] x y (k, below, is) there = absurd (omega (arith, below))
joined f (first ∷ xs) x y (zero, below, is) there =
    Contains-append_left (f first) (flat_map f xs) y (subst (λ z. Contains (f z) y) (sym is) there)
joined f (first ∷ xs) x y (suc k, below, is) there =
    Contains-append_right (f first) (flat_map f xs) y (joined f xs x y (k, omega arith, is) there)

-- a number of a range
pub in-range : (from n r : ℕ) → Contains (range_with_len from n) r → (k : ℕ) × (k < n) × (r ≡ from + k)
in-range from zero r (k, below, is) = absurd (omega (arith, below))
in-range from (suc n) r (zero, below, is) = (0, omega arith, (let same : from ≡ from + 0 = omega arith in sym is ∙ same))
in-range from (suc n) r (suc k, below, is) =
    let (j, within, at) = in-range (from + 1) n r (k, omega arith, is) in
    (suc j, omega arith, (let same : (from + 1) + j ≡ from + suc j = omega arith in at ∙ same))

-- it is there
range-has : (from n k : ℕ) → k < n → Contains (range_with_len from n) (from + k)
range-has from zero k below = absurd (omega arith)
range-has from (suc n) zero below = (0, omega arith, (let same : from ≡ from + 0 = omega arith in same))
range-has from (suc n) (suc k) below =
    let same : (from + 1) + k ≡ from + suc k = omega arith in
    let moved : Contains (range_with_len (from + 1) n) (from + suc k) =
    subst (Contains (range_with_len (from + 1) n)) same (range-has (from + 1) n k (omega arith)) in
    (suc moved.0, omega (arith, moved.1), moved.2)

-- each replica of a sub has its name among those of the split's cores
sub-key : (plan : SplitPlan) (sub : SubSlice) (key : ℕ × ℕ) → Contains plan.subs sub → Contains (slice_keys (begun_slice sub)) key
    → (name : CoreId) × Contains (first_cores plan.subs ++ further_cores_of plan) name × (key_of_core name ≡ key)
sub-key plan sub key begun inside =
    let (replica, among, is) = Contains-from_map (λ (replica : ℕ). (sub.id.0, replica)) (range_with_len 1 sub.replicas) key inside in
    let (k, below, at) = in-range 1 sub.replicas replica among in
    by k below (ap (λ r. (sub.id.0, r)) (sym at) ∙ is) where
      by : (k : ℕ) → k < sub.replicas → (sub.id.0, 1 + k) ≡ key
          → (name : CoreId) × Contains (first_cores plan.subs ++ further_cores_of plan) name × (key_of_core name ≡ key)
      by zero below is = (
        first_core sub,
        Contains-append_left (first_cores plan.subs) (further_cores_of plan) (first_core sub) (Contains-map first_core plan.subs sub begun),
        is,
      )
      by (suc k) below is =
          let within : k < sub.replicas - 1 = omega arith in
          let same : suc (k + 1) ≡ 1 + suc k = omega arith in (
            follower_of sub k,
            Contains-append_right (first_cores plan.subs) (further_cores_of plan) (follower_of sub k)
                (joined further_names plan.subs sub (follower_of sub k) begun
                (Contains-map (follower_of sub) (range_with_len 0 (sub.replicas - 1)) k
                (let at : 0 + k ≡ k = omega arith in subst (Contains (range_with_len 0 (sub.replicas - 1))) at (range-has 0 (sub.replicas - 1) k within)))),
            ap (λ r. (sub.id.0, r)) same ∙ is,
          )

-- the subs may take their parent's place once all replicas are there, and filled
pub may-switch : (split : OpenSplit) (known : Known) (b : ℕ) → IsAtStage split (whole split.plan) known b
    → MaySwitch (part_in known b) split.plan.parent
may-switch split known b was =
    may_switch (part_in known b) (first_cores split.plan.subs ++ further_cores_of split.plan) split.plan.parent was.phase_is was.to_fill
    was.there named where
      plan : SplitPlan
      plan = split.plan

      subs_are : forming (part_in known b).map ≡ map begun_slice plan.subs
      subs_are = ap forming was.opened.underway.map_is
          ∙ forming-begun (part_in split.base b).map plan.subs was.opened.underway.planned.idle

      named : (sub : Slice) (key : ℕ × ℕ) → Contains (part_in known b).map sub → is_forming sub ≡ true → Contains (slice_keys sub) key
          → (name : CoreId) × Contains (first_cores plan.subs ++ further_cores_of plan) name × (key_of_core name ≡ key)
      named sub key there is_sub inside =
          let among : Contains (map begun_slice plan.subs) sub =
          subst (λ (slices : List Slice). Contains slices sub) subs_are (Contains-filter is_forming (part_in known b).map sub there is_sub) in
          let (planned, begun, is) = Contains-from_map begun_slice plan.subs sub among in
          let of_sub : Contains (slice_keys (begun_slice planned)) key = subst (λ (s : Slice). Contains (slice_keys s) key) (sym is) inside in
          sub-key plan planned key begun of_sub

-- they do
pub done-held : (split : OpenSplit) (old new : Known) (b : ℕ) → KeeperHeld b old new (entry.Switched split.plan.parent ∷ []) → IsAllSeen b new
    → PartSwitches (part_in old b) split.plan.parent (part_in new b) → IsAtStage split (whole split.plan) old b → IsDoneIn split new b
done-held split old new b held seen switches was = record {
  ended = ended-held split (entry.Switched split.plan.parent) old new b refl held seen was.opened;
  map_is = switches.map_is ∙ ap (λ (slices : List Slice). after slices (Change.Switched split.plan.parent)) was.opened.underway.map_is;
  idle = switches.phase_is;
  active = subst (All (λ (core : CorePart). core.mode ≡ Active)) (sym switches.cores_are) was.to_fill.cores.modes;
  unfed = switches.feeds_are;
}

-- where nothing was done they have
pub done-same : (split : OpenSplit) (old new : Known) (b : ℕ) → IsSameIn old new b → IsDoneIn split old b → IsDoneIn split new b
done-same split old new b same was = record {
  ended = record {
    own = same.own ∙ was.ended.own;
    journal = subst (HasEndedSplit split.plan (entry.Switched split.plan.parent) (split.base.seen.journals b)) (sym same.journal) was.ended.journal;
  };
  map_is = ap (λ (part : Part). part.map) same.part_is ∙ was.map_is;
  idle = ap (λ (part : Part). part.phase) same.part_is ∙ was.idle;
  active = subst (λ (part : Part). All (λ (core : CorePart). core.mode ≡ Active) part.cores) (sym same.part_is) was.active;
  unfed = ap (λ (part : Part). part.feeds) same.part_is ∙ was.unfed;
}
