-- What a part is once a split has begun in its bucket.
use Rattle.std.proofs.Common.{◌≡◌, ◌≤◌, ◌<◌, ℕ, Bool, true, false, cond, List, [], ◌∷◌, ◌++◌, map, All, Contains, refl, sym, ap, ◌∙◌, subst, arith}
use Rattle.std.specs.Prelude.{◌||◌}
use Rattle.std.specs.List.{IsDistinct, AllByRecursion, list_any}
use Rattle.std.proofs.lemmas.List.{map-append}
use Rattle.std.proofs.lemmas.List.Elements.{All-nil, All-cons, All-head, All-tail, All-append, All-map, All-weaker, All-contains, All-contains_itself, Contains-append_right}
use Rattle.std.proofs.lemmas.List.Folds.{list_any_at}
use Rattle.std.proofs.lemmas.Map.Keys.{IsDistinct-head, IsDistinct-tail}
use Rattle.std.proofs.lemmas.Simd.{map-map}
use Rattle.sc_record.specs.Names.{is_core}
use Rattle.sc_record.specs.declared.slice.SliceId.{SliceId}
use Rattle.sc_record.specs.declared.slice.SubSlice.{SubSlice}
use Rattle.sc_record.specs.declared.slice.CoreId.{CoreId}
use Rattle.sc_cluster.specs.declared.slice.Slice.{Slice}
use Rattle.sc_cluster.specs.declared.plan.SplitPlan.{SplitPlan}
use Rattle.sc_cluster.specs.Slices.{greatest_id, forming}
use Rattle.sc_cluster.specs.Changes.{begun_slice}
use Rattle.sc_cluster.proofs.IdLemmas.{greatest_id-bounds}
use Rattle.sc_cluster.proofs.ListLemmas.{Contains-map}
use Rattle.sc_cluster.proofs.PairLemmas.{Contains-from_map}
use Rattle.sc_cluster.proofs.StateLemmas.{forming-begun}
use Rattle.sc_ulog.specs.declared.mode.Mode.TheVariants.{Active, Buffering}
use Rattle.sc_replicas.specs.Cores.{is_of_one}
use Rattle.sc_bucket.specs.Sound.{IsSound}
use Rattle.sc_bucket.specs.declared.bucket.Bucket.{Bucket}
use Rattle.sc_replicas.proofs.CoreLemmas.{AreApart-from_ascending, is_core-itself}
use Rattle.sc_handover.specs.Conditions.{split_of}
use Rattle.sc_handover.specs.Made.{first_core}
use Rattle.sc_handover.proofs.PlanLemmas.{sub_above}
use Rattle.sc_handover.proofs.KeptLemmas.{slice_of_one}
use Rattle.sc_handover.proofs.BegunCoreLemmas.{core_below}
use Rattle.sc_keeper.specs.declared.part.CorePart.{CorePart}
use Rattle.sc_keeper.specs.declared.part.FeedPart.{FeedPart}
use Rattle.sc_keeper.specs.declared.part.Part.{Part}
use Rattle.sc_keeper.specs.Part.{part_of}
use Rattle.sc_keeper.specs.Conditions.{MayBegin}
use Rattle.sc_keeper.specs.Events.{PartBegins, made_core, made_feed}
use Rattle.sc_split.specs.Buckets.{core_names, fed_names, mode_among, IsToFill, HasSubCores, HasBegun, first_cores}
use Rattle.sc_split.proofs.ModeLemmas.{core_name}

-- no two cores of a bucket have one name
pub apart_part : (b : Bucket) → IsSound b → IsDistinct is_core (core_names (part_of b))
apart_part b sound = subst (IsDistinct is_core) (sym (map-map core_name _ b.replicas))
    (AreApart-from_ascending b.replicas sound.cores.ascend)

-- no core of a bucket has two feeds
pub once_fed : (b : Bucket) → IsSound b → IsDistinct is_core (fed_names (part_of b))
once_fed b sound = subst (IsDistinct is_core) (sym (map-map _ _ b.feeds)) sound.feeds.once

-- a name of its cores is of a slice whose id is no greater than the greatest
pub names_below : (b : Bucket) → IsSound b → All (λ (name : CoreId). name.slice.0 ≤ greatest_id b.map) (core_names (part_of b))
names_below b sound =
    subst (All Low) (sym (map-map core_name _ b.replicas))
    (All-map Low _ b.replicas (All-weaker (Contains b.replicas) _ (λ core there. core_below b core sound.cores there) b.replicas
    (All-contains_itself b.replicas)))
  where
    Low : CoreId → Type 0
    Low name = name.slice.0 ≤ greatest_id b.map

-- the elements of a list without repeats differ from those that come later
cross : {X : Type 0} (e : X → X → Bool) (xs ys : List X) → IsDistinct e (xs ++ ys) → All (λ x. AllByRecursion (λ y. e x y ≡ false) ys) xs
cross e [] ys once = All-nil (λ x. AllByRecursion (λ y. e x y ≡ false) ys)
cross e (x ∷ xs) ys once =
    All-cons (λ x. AllByRecursion (λ y. e x y ≡ false) ys) x xs (later xs (IsDistinct-head e x (xs ++ ys) once))
    (cross e xs ys (IsDistinct-tail e x (xs ++ ys) once))
  where
    later : (zs : List _) → AllByRecursion (λ y. e x y ≡ false) (zs ++ ys) → AllByRecursion (λ y. e x y ≡ false) ys
    later [] all = all
    later (z ∷ zs) all = later zs all.1

-- a name that is none of these, or one of them
any-none : (name : CoreId) (names : List CoreId) → AllByRecursion (λ other. is_core name other ≡ false) names → list_any
    (is_core name) names ≡ false
any-none name [] none = refl
any-none name (other ∷ names) none = ap (λ (b : Bool). b || list_any (is_core name) names) none.0 ∙ any-none name names none.1

any-there : (name : CoreId) (names : List CoreId) → Contains names name → list_any (is_core name) names ≡ true
any-there name names (k, below, is) =
    list_any_at (is_core name) names k name below (ap (is_core name) is ∙ is_core-itself name)

-- the mode of a core of none of these names, and that of one of them
mode_of_none : (name : CoreId) (names : List CoreId) → AllByRecursion (λ other. is_core name other ≡ false) names
    → mode_among names name ≡ Active
mode_of_none name names none = ap (λ (b : Bool). cond b Buffering Active) (any-none name names none)

mode_of_one : (name : CoreId) (names : List CoreId) → Contains names name → mode_among names name ≡ Buffering
mode_of_one name names there = ap (λ (b : Bool). cond b Buffering Active) (any-there name names there)

-- what is true of each name is true of each core's
All-named : (P : CoreId → Type 0) (cores : List CorePart) → All P (map core_name cores) → All (λ (core : CorePart). P core.name) cores
All-named P [] all = All-nil (λ (core : CorePart). P core.name)
All-named P (core ∷ cores) all =
    All-cons (λ (c : CorePart). P c.name) core cores (All-head P core.name (map core_name cores) all)
    (All-named P cores (All-tail P core.name (map core_name cores) all))

-- the subs' leaders by their names
names-made : (subs : List SubSlice) → map core_name (map (λ sub. made_core (first_core sub)) subs) ≡ first_cores subs
names-made [] = refl
names-made (sub ∷ subs) = ap (λ rest. first_core sub ∷ rest) (names-made subs)

fed-made : (rows : ℕ) (subs : List SubSlice) → map (λ (feed : FeedPart). feed.core) (map (λ sub. made_feed rows
    (first_core sub)) subs) ≡ first_cores subs
fed-made rows [] = refl
fed-made rows (sub ∷ subs) = ap (λ rest. first_core sub ∷ rest) (fed-made rows subs)

-- A split begins in a bucket whose part was `old`.
module _ (old new : Part) (plan : SplitPlan) (may : MayBegin old plan.parent plan.subs)
    (low : All (λ (name : CoreId). name.slice.0 ≤ greatest_id old.map) (core_names old))
    (begins : PartBegins old plan.parent plan.subs new)
    (apart : IsDistinct is_core (core_names new)) (once : IsDistinct is_core (fed_names new)) where
  abbrev firsts : List CoreId
  firsts = first_cores plan.subs

  abbrev made : List CorePart
  made = map (λ sub. made_core (first_core sub)) plan.subs

  -- the names of all cores
  names-begun : core_names new ≡ core_names old ++ firsts
  names-begun = ap (map core_name) begins.cores_are ∙ map-append core_name old.cores made ∙ ap (λ rest. core_names old ++ rest)
      (names-made plan.subs)

  fed-begun : fed_names new ≡ firsts
  fed-begun = ap (map (λ (feed : FeedPart). feed.core)) begins.feeds_are ∙ fed-made begins.rows plan.subs

  -- no core from before is a sub's leader
  none_first : All (λ (name : CoreId). AllByRecursion (λ other. is_core name other ≡ false) firsts) (core_names old)
  none_first = cross is_core (core_names old) firsts (subst (IsDistinct is_core) names-begun apart)

  firsts_there : All (Contains (core_names new)) firsts
  firsts_there =
      All-weaker (Contains firsts) (Contains (core_names new))
      (λ name there. subst (λ names. Contains names name) (sym names-begun) (Contains-append_right (core_names old) firsts name there))
      firsts (All-contains_itself firsts)

  modes : All (λ (core : CorePart). core.mode ≡ mode_among firsts core.name) new.cores
  modes =
      subst (All IsSo) (sym begins.cores_are)
      (All-append IsSo old.cores made
      (λ k d below. may.active k d below ∙ sym (none k d below))
      (All-map IsSo (λ sub. made_core (first_core sub)) plan.subs
      (All-weaker (Contains plan.subs) (λ sub. IsSo (made_core (first_core sub)))
      (λ sub there. sym (mode_of_one (first_core sub) firsts (Contains-map first_core plan.subs sub there)))
      plan.subs (All-contains_itself plan.subs))))
    where
      IsSo : CorePart → Type 0
      IsSo core = core.mode ≡ mode_among firsts core.name

      none : All (λ (core : CorePart). mode_among firsts core.name ≡ Active) old.cores
      none =
          All-named (λ name. mode_among firsts name ≡ Active) old.cores
          (All-weaker (λ (name : CoreId). AllByRecursion (λ other. is_core name other ≡ false) firsts)
          (λ name. mode_among firsts name ≡ Active)
          (λ name. mode_of_none name firsts) (core_names old) none_first)

  to_fill : IsToFill new firsts
  to_fill = record {
    cores = record { apart = apart; once = subst (IsDistinct is_core) fed-begun once; there = firsts_there; modes = modes };
    fed = fed-begun;
  }

  -- a sub's leader is of no slice from before
  first_is_new : (sub : SubSlice) → Contains plan.subs sub → is_of_one old.map (first_core sub) ≡ true → ⊥
  first_is_new sub there of_old =
      let (slice, inside, same) = slice_of_one old.map (first_core sub) of_old in
      let above : greatest_id old.map < sub.id.0 = sub_above old.map plan.parent plan.subs sub may.plan there in
      let below : slice.id.0 ≤ greatest_id old.map =
      All-contains (λ (s : Slice). s.id.0 ≤ greatest_id old.map) old.map slice (greatest_id-bounds old.map) inside in
      let number : slice.id.0 ≡ sub.id.0 = ap (λ (id : SliceId). id.0) same in
      omega arith

  active : All (λ (core : CorePart). is_of_one old.map core.name ≡ true → core.mode ≡ Active) new.cores
  active =
      subst (All IsSo) (sym begins.cores_are)
      (All-append IsSo old.cores made (λ k d below of_old. may.active k d below)
      (All-map IsSo (λ sub. made_core (first_core sub)) plan.subs
      (All-weaker (Contains plan.subs) (λ sub. IsSo (made_core (first_core sub)))
      (λ sub there of_old. absurd (first_is_new sub there of_old)) plan.subs (All-contains_itself plan.subs))))
    where
      IsSo : CorePart → Type 0
      IsSo core = is_of_one old.map core.name ≡ true → core.mode ≡ Active

  -- a core from before is of no sub
  old_of_none : (name : CoreId) → name.slice.0 ≤ greatest_id old.map → is_of_one (map begun_slice plan.subs) name ≡ true → ⊥
  old_of_none name below of_sub =
      let (slice, inside, same) = slice_of_one (map begun_slice plan.subs) name of_sub in
      let (sub, there, is) = Contains-from_map begun_slice plan.subs slice inside in
      let above : greatest_id old.map < sub.id.0 = sub_above old.map plan.parent plan.subs sub may.plan there in
      let number : sub.id.0 ≡ name.slice.0 = ap (λ (s : Slice). s.id.0) is ∙ ap (λ (id : SliceId). id.0) same in
      omega arith

  sub_cores : HasSubCores new firsts
  sub_cores = record {
    there = firsts_there;
    no_other = subst (All IsSo) (sym names-begun)
        (All-append IsSo (core_names old) firsts
        (All-weaker (λ (name : CoreId). name.slice.0 ≤ greatest_id old.map) IsSo
        (λ name below of_sub. absurd (old_of_none name below (subst (λ slices. is_of_one slices name ≡ true) forming_now of_sub)))
        (core_names old) low)
        (All-weaker (Contains firsts) IsSo (λ name there of_sub. there) firsts (All-contains_itself firsts)));
  }
    where
      IsSo : CoreId → Type 0
      IsSo name = is_of_one (forming new.map) name ≡ true → Contains firsts name

      forming_now : forming new.map ≡ map begun_slice plan.subs
      forming_now = ap forming begins.map_is ∙ forming-begun old.map plan.subs may.plan.idle

  pub has_begun : HasBegun old plan new
  has_begun = record {
    underway = record {
      planned = may.plan;
      map_is = begins.map_is;
      is_open = ap split_of begins.phase_is;
      entries = begins.entries_are;
      active = active;
    };
    building = begins.phase_is;
    to_fill = to_fill;
    sub_cores = sub_cores;
  }
