-- What a part is once a further replica of a sub has joined.
use Rattle.std.proofs.Common.{◌≡◌, ◌<◌, ℕ, zero, suc, Bool, true, false, cond, List, [], ◌∷◌, ◌++◌, length, get_or, map, All, Contains, refl, sym, ap, ◌∙◌, subst, arith}
use Rattle.std.specs.Prelude.{◌||◌, nat_lt}
use Rattle.std.specs.List.{IsDistinct, AllByRecursion, list_any}
use Rattle.std.proofs.lemmas.List.{map-append}
use Rattle.std.proofs.lemmas.List.Elements.{All-nil, All-cons, All-head, All-tail, All-push, All-weaker, All-contains, All-from_recursion, Contains-append_left, Contains-push}
use Rattle.std.proofs.lemmas.List.Folds.{list_any_at}
use Rattle.std.proofs.lemmas.Map.Keys.{IsDistinct-head, IsDistinct-tail}
use Rattle.sc_record.specs.Names.{is_core}
use Rattle.sc_record.specs.declared.slice.CoreId.{CoreId}
use Rattle.sc_cluster.specs.Slices.{forming}
use Rattle.sc_ulog.specs.declared.mode.Mode.TheVariants.{Active, Buffering}
use Rattle.sc_replicas.specs.Cores.{core_number, is_of_one}
use Rattle.sc_replicas.proofs.CoreLemmas.{is_core-itself}
use Rattle.sc_bucket.proofs.LeftOutLemmas.{apart_too}
use Rattle.sc_keeper.specs.declared.part.CorePart.{CorePart}
use Rattle.sc_keeper.specs.declared.part.FeedPart.{FeedPart}
use Rattle.sc_keeper.specs.declared.part.Part.{Part}
use Rattle.sc_keeper.specs.Events.{PartGrows, made_core, made_feed, put_part_by_name}
use Rattle.sc_split.specs.Buckets.{core_names, fed_names, mode_among, AreToFill, HasGrown}
use Rattle.sc_split.proofs.ModeLemmas.{core_name}

-- what is true of a core and of each other is true once the core joined
pub All-put : (P : CorePart → Type 0) (core : CorePart) (cores : List CorePart) → P core → All P cores → All P (put_part_by_name core cores)
All-put P core [] here all = All-cons P core [] here all
All-put P core (other ∷ cores) here all = by (nat_lt (core_number core.name) (core_number other.name)) (All-put P core cores here
    (All-tail P other cores all)) where
      by : (b : Bool) → All P (put_part_by_name core cores) → All P (cond b (core ∷ other ∷ cores) (other ∷ put_part_by_name core cores))
      by true rest = All-cons P core (other ∷ cores) here all
      by false rest = All-cons P other (put_part_by_name core cores) (All-head P other cores all) rest

-- a name that was there is
Contains-put_other : (core : CorePart) (cores : List CorePart) (name : CoreId) → Contains (map core_name cores) name
    → Contains (map core_name (put_part_by_name core cores)) name
Contains-put_other core [] name (k, below, is) = absurd (omega arith)
Contains-put_other core (other ∷ cores) name there =
    by (nat_lt (core_number core.name) (core_number other.name)) (rest there.0 there.1 there.2 (Contains-put_other core cores name))
  where
    later : (first : CoreId) (names : List CoreId) → Contains names name → Contains (first ∷ names) name
    later first names (k, below, is) = (suc k, omega arith, is)

    rest : (k : ℕ) → k < length (map core_name (other ∷ cores)) → get_or (map core_name (other ∷ cores)) k name ≡ name
        → (Contains (map core_name cores) name → Contains (map core_name (put_part_by_name core cores)) name)
        → Contains (other.name ∷ map core_name (put_part_by_name core cores)) name
    rest zero below is among = (0, omega arith, is)
    rest (suc k) below is among = later other.name (map core_name (put_part_by_name core cores)) (among (k, omega arith, is))

    by : (b : Bool) → Contains (other.name ∷ map core_name (put_part_by_name core cores)) name
        → Contains (map core_name (cond b (core ∷ other ∷ cores) (other ∷ put_part_by_name core cores))) name
    by true among = later core.name (other.name ∷ map core_name cores) there
    by false among = among

-- and so is that of the core
Contains-put_own : (core : CorePart) (cores : List CorePart) → Contains (map core_name (put_part_by_name core cores)) core.name
Contains-put_own core [] = (0, omega arith, refl)
Contains-put_own core (other ∷ cores) =
    by (nat_lt (core_number core.name) (core_number other.name)) (later (Contains-put_own core cores))
  where
    later : Contains (map core_name (put_part_by_name core cores)) core.name
        → Contains (other.name ∷ map core_name (put_part_by_name core cores)) core.name
    later (k, below, is) = (suc k, omega arith, is)

    by : (b : Bool) → Contains (other.name ∷ map core_name (put_part_by_name core cores)) core.name
        → Contains (map core_name (cond b (core ∷ other ∷ cores) (other ∷ put_part_by_name core cores))) core.name
    by true among = (0, omega arith, refl)
    by false among = among

-- the names are those from before and that of the core
All-put_names : (P : CoreId → Type 0) (core : CorePart) (cores : List CorePart) → P core.name → All P (map core_name cores)
    → All P (map core_name (put_part_by_name core cores))
All-put_names P core [] here all = All-cons P core.name [] here all
All-put_names P core (other ∷ cores) here all =
    by (nat_lt (core_number core.name) (core_number other.name))
    (All-put_names P core cores here (All-tail P other.name (map core_name cores) all))
  where
    by : (b : Bool) → All P (map core_name (put_part_by_name core cores))
        → All P (map core_name (cond b (core ∷ other ∷ cores) (other ∷ put_part_by_name core cores)))
    by true rest = All-cons P core.name (other.name ∷ map core_name cores) here all
    by false rest =
        All-cons P other.name (map core_name (put_part_by_name core cores)) (All-head P other.name (map core_name cores) all) rest

-- where no two have one name, none from before has that of the core
apart-put : (core : CorePart) (cores : List CorePart) → IsDistinct is_core (map core_name (put_part_by_name core cores))
    → All (λ (other : CorePart). is_core other.name core.name ≡ false) cores
apart-put core [] apart = All-nil (λ (other : CorePart). is_core other.name core.name ≡ false)
apart-put core (other ∷ cores) apart = by (nat_lt (core_number core.name) (core_number other.name)) apart (apart-put core cores) where
  Differs : CorePart → Type 0
  Differs one = is_core one.name core.name ≡ false

  names : List CoreId
  names = map core_name (put_part_by_name core cores)

  each : (some : List CorePart) → AllByRecursion (λ name. is_core core.name name ≡ false) (map core_name some) → All Differs some
  each [] none = All-nil Differs
  each (one ∷ some) none = All-cons Differs one some (apart_too core.name one.name none.0) (each some none.1)

  by : (b : Bool) → IsDistinct is_core (map core_name (cond b (core ∷ other ∷ cores) (other ∷ put_part_by_name core cores)))
      → (IsDistinct is_core names → All Differs cores) → All Differs (other ∷ cores)
  by true once rest = each (other ∷ cores) (IsDistinct-head is_core core.name (map core_name (other ∷ cores)) once)
  by false once rest =
      All-cons Differs other cores
      (All-contains (λ name. is_core other.name name ≡ false) names core.name
      (All-from_recursion (λ name. is_core other.name name ≡ false) names (IsDistinct-head is_core other.name names once))
      (Contains-put_own core cores))
      (rest (IsDistinct-tail is_core other.name names once))

-- one more name changes the mode of its own core alone
any-push : (p : CoreId → Bool) (names : List CoreId) (name : CoreId) → p name ≡ false → list_any p (names ++ name ∷ []) ≡ list_any p names
any-push p [] name other = ap (λ (b : Bool). b || false) other
any-push p (first ∷ names) name other = ap (λ (b : Bool). p first || b) (any-push p names name other)

module _ (old new : Part) (name : CoreId) (grows : PartGrows old name new)
    (apart : IsDistinct is_core (core_names new)) (once : IsDistinct is_core (fed_names new)) where
  abbrev made : CorePart
  made = made_core name

  now : core_names new ≡ map core_name (put_part_by_name made old.cores)
  now = ap (map core_name) grows.cores_are

  fed-grown : (names : List CoreId) → fed_names old ≡ names → fed_names new ≡ names ++ name ∷ []
  fed-grown names fed =
      ap (map (λ (feed : FeedPart). feed.core)) grows.feeds_are
      ∙ map-append (λ (feed : FeedPart). feed.core) old.feeds (made_feed grows.rows name ∷ []) ∙ ap (λ some. some ++ name ∷ []) fed

  there : (names : List CoreId) → All (Contains (core_names old)) names → All (Contains (core_names new)) (names ++ name ∷ [])
  there names all =
      All-push (Contains (core_names new)) names name
      (All-weaker (Contains (core_names old)) (Contains (core_names new))
      (λ one inside. subst (λ some. Contains some one) (sym now) (Contains-put_other made old.cores one inside)) names all)
      (subst (λ some. Contains some name) (sym now) (Contains-put_own made old.cores))

  modes : (names : List CoreId) → AreToFill old names → All (λ (core : CorePart). core.mode ≡ mode_among
      (names ++ name ∷ []) core.name) new.cores
  modes names to_fill =
      subst (All IsSo) (sym grows.cores_are)
      (All-put IsSo made old.cores
      (sym (ap (λ (b : Bool). cond b Buffering Active) own))
      (λ k d below. to_fill.modes k d below
      ∙ sym (ap (λ (b : Bool). cond b Buffering Active)
      (any-push (is_core (get_or old.cores k d).name) names name
      (apart-put made old.cores (subst (IsDistinct is_core) now apart) k d below)))))
    where
      IsSo : CorePart → Type 0
      IsSo core = core.mode ≡ mode_among (names ++ name ∷ []) core.name

      own : list_any (is_core name) (names ++ name ∷ []) ≡ true
      own =
          let (k, below, is) = Contains-push names name in
          list_any_at (is_core name) (names ++ name ∷ []) k name below (ap (is_core name) is ∙ is_core-itself name)

  pub has_grown : HasGrown old name new
  has_grown = record {
    rest = grows.rest;
    to_fill = λ names to_fill. record {
      cores = record {
        apart = apart;
        once = subst (IsDistinct is_core) (fed-grown names to_fill.fed) once;
        there = there names to_fill.cores.there;
        modes = modes names to_fill.cores;
      };
      fed = fed-grown names to_fill.fed;
    };
    sub_cores = λ names has. record {
      there = there names has.there;
      no_other = subst (All (IsSo names)) (sym now)
          (All-put_names (IsSo names) made old.cores (λ of_sub. Contains-push names name)
          (All-weaker (Was names) (IsSo names)
          (λ one was of_sub. Contains-append_left names (name ∷ []) one
          (was (subst (λ slices. is_of_one (forming slices) one ≡ true) grows.rest.map_is of_sub))) (core_names old) has.no_other));
    };
  } where
    IsSo : List CoreId → CoreId → Type 0
    IsSo names one = is_of_one (forming new.map) one ≡ true → Contains (names ++ name ∷ []) one

    Was : List CoreId → CoreId → Type 0
    Was names one = is_of_one (forming old.map) one ≡ true → Contains names one
