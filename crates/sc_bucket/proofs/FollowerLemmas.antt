-- Which cores are sent a write: each other core that is not down and whose slice takes it, and each once.
use Rattle.std.proofs.Common.{◌≡◌, ◌≢◌, ℕ, zero, suc, ℤ, ◌<◌, Bool, true, false, cond, not, ◌&&◌, eqb, List, [], ◌∷◌, ◌++◌, map, filter, get_or, All, Contains, refl, sym, ap, ◌∙◌, subst, arith}
use Rattle.std.specs.List.{IsDistinct, flat_map, AllPairs}
use Rattle.std.proofs.lemmas.Bool.{eqb-true, eq-eqb, and_parts, and_from, and_left, and_right}
use Rattle.std.proofs.lemmas.List.{length-map, get_or-map}
use Rattle.std.proofs.lemmas.List.Elements.{All-nil, All-head, All-tail, All-append, All-filter, All-map, All-weaker, All-from_recursion, recursion_from_All, Contains-get_or, Contains-append_left, Contains-append_right}
use Rattle.std.proofs.lemmas.List.Kept.{AllPairs-from_increasing, AllPairs-filter}
use Rattle.std.proofs.lemmas.Map.Keys.{IsDistinct-head, IsDistinct-tail, IsDistinct-cons, IsDistinct-from_apart}
use Rattle.sc_hash.specs.Range.{IsWithin}
use Rattle.sc_hash.proofs.BoundsLemmas.{contains-Decides}
use Rattle.sc_record.specs.declared.slice.CoreId.{CoreId}
use Rattle.sc_record.specs.Writes.{Write}
use Rattle.sc_cluster.specs.declared.slice.Slice.{Slice}
use Rattle.sc_cluster.specs.Map.{IsMap}
use Rattle.sc_cluster.specs.Slices.{is_inactive}
use Rattle.sc_cluster.proofs.ListLemmas.{Contains-map, Contains-filter, Contains-from_filter}
use Rattle.sc_cluster.proofs.PairLemmas.{Contains-from_map}
use Rattle.sc_replica.specs.Core.{Core}
use Rattle.sc_bucket.specs.Kept.{Sent}
use Rattle.sc_record.specs.Names.{is_core}
use Rattle.sc_replicas.specs.Cores.{is_attached, has_hash, follows, followers}
use Rattle.sc_bucket.specs.Flight.{is_same_message, sent_to}
use Rattle.sc_replicas.proofs.CoreLemmas.{AreApart, is_core-Decides, name_of}
use Rattle.sc_bucket.proofs.SendLemmas.{takes, followers_in}

-- what is true of each element is so at each place
pub All-from_contains : {X : Type 0} (P : X → Type 0) (xs : List X) → ((x : X) → Contains xs x → P x) → All P xs
All-from_contains P xs each k d below = each (get_or xs k d) (Contains-get_or xs k d below)

-- lists that are joined: what is true of each element, and what is among them
All-joined : {X Y : Type 0} (P : Y → Type 0) (f : X → List Y) (xs : List X) → ((x : X) → Contains xs x → All P (f x)) → All P (flat_map f xs)
All-joined P f [] each = All-nil P
All-joined P f (x ∷ xs) each =
    All-append P (f x) (flat_map f xs) (each x (0, omega arith, refl))
    (All-joined P f xs (λ y there. each y (suc there.0, omega (arith, there.1), there.2)))

Contains-joined : {X Y : Type 0} (f : X → List Y) (xs : List X) (x : X) (y : Y) → Contains xs x → Contains (f x) y → Contains (flat_map f xs) y
Contains-joined f [] x y (k, below, is) there = absurd (omega arith)
Contains-joined {X} {Y} f (first ∷ xs) x y (zero, below, is) there =
    Contains-append_left (f first) (flat_map f xs) y (subst (λ (z : X). Contains (f z) y) (sym is) there)
Contains-joined f (first ∷ xs) x y (suc k, below, is) there =
    Contains-append_right (f first) (flat_map f xs) y (Contains-joined f xs x y (k, omega arith, is) there)

-- lists without repeats, where no element of one is that of the other
pub IsDistinct-append : {X : Type 0} (e : X → X → Bool) (xs ys : List X) → IsDistinct e xs → IsDistinct e ys
    → All (λ x. All (λ y. e x y ≡ false) ys) xs → IsDistinct e (xs ++ ys)
IsDistinct-append e [] ys first second cross = second
IsDistinct-append e (x ∷ xs) ys first second cross =
    IsDistinct-cons e x (xs ++ ys)
    (recursion_from_All (λ y. e x y ≡ false) (xs ++ ys)
    (All-append (λ y. e x y ≡ false) xs ys (All-from_recursion (λ y. e x y ≡ false) xs (IsDistinct-head e x xs first))
    (All-head (λ z. All (λ y. e z y ≡ false) ys) x xs cross)))
    (IsDistinct-append e xs ys (IsDistinct-tail e x xs first) second (All-tail (λ z. All (λ y. e z y ≡ false) ys) x xs cross))

-- nor has a part of one
pub IsDistinct-filter : {X : Type 0} (e : X → X → Bool) (p : X → Bool) (xs : List X) → IsDistinct e xs → IsDistinct e (filter p xs)
IsDistinct-filter e p [] apart = apart
IsDistinct-filter e p (x ∷ xs) apart = by (p x) (IsDistinct-filter e p xs (IsDistinct-tail e x xs apart)) where
  by : (b : Bool) → IsDistinct e (filter p xs) → IsDistinct e (cond b (x ∷ filter p xs) (filter p xs))
  by false rest = rest
  by true rest =
      IsDistinct-cons e x (filter p xs)
      (recursion_from_All (λ y. e x y ≡ false) (filter p xs)
      (All-filter p (λ y. e x y ≡ false) xs (All-from_recursion (λ y. e x y ≡ false) xs (IsDistinct-head e x xs apart)))) rest

-- what is true of each name is true of each core's
pub All-named : (P : CoreId → Type 0) (cores : List Core) → All P (map name_of cores) → All (λ (core : Core). P core.core) cores
All-named P cores all k d below =
    subst P (get_or-map name_of cores k d d.core below) (all k d.core (omega (arith, length-map cores name_of)))

-- the names of some cores are apart where those of all are
names_apart : (cores : List Core) (p : Core → Bool) → AreApart cores → IsDistinct is_core (map name_of (filter p cores))
names_apart [] p apart = apart
names_apart (core ∷ cores) p apart =
    by (p core) (names_apart cores p (IsDistinct-tail is_core core.core (map name_of cores) apart)) where
      by : (b : Bool) → IsDistinct is_core (map name_of (filter p cores))
          → IsDistinct is_core (map name_of (cond b (core ∷ filter p cores) (filter p cores)))
      by false rest = rest
      by true rest =
          IsDistinct-cons is_core core.core (map name_of (filter p cores))
          (recursion_from_All (λ name. is_core core.core name ≡ false) (map name_of (filter p cores))
          (All-map (λ name. is_core core.core name ≡ false) name_of (filter p cores)
          (All-filter p (λ (other : Core). is_core core.core other.core ≡ false) cores
          (All-named (λ name. is_core core.core name ≡ false) cores
          (All-from_recursion (λ name. is_core core.core name ≡ false) (map name_of cores)
          (IsDistinct-head is_core core.core (map name_of cores) apart)))))) rest

-- names of different slices are those of different cores
not_core : (one other : CoreId) → one.slice.0 ≢ other.slice.0 → is_core one other ≡ false
not_core one other differ = by (is_core one other) refl where
  by : (b : Bool) → is_core one other ≡ b → is_core one other ≡ false
  by false is = is
  by true is = absurd (differ (ap (λ (name : CoreId). name.slice.0) ((is_core-Decides one other).0 is)))

-- the core of this name is sent what the leader led
pub record IsFollower (slices : List Slice) (cores : List Core) (hash : ℤ) (leader name : CoreId) : Type 0 where
  pub slice : Slice
  pub there : Contains slices slice
  pub within : IsWithin slice.range.min slice.range.max hash
  pub of_slice : name.slice.0 ≡ slice.id.0
  pub other : is_core leader name ≡ false
  pub core : Core
  pub core_there : Contains cores core
  pub core_is : core.core ≡ name
  pub up : core.down ≡ false

-- what is false is not true
pub negated : (b : Bool) → not b ≡ true → b ≡ false
negated true is = absurd (cc)
negated false is = refl

-- a slice's follower by its test
follows_parts : (leader : CoreId) (slice : Slice) (core : Core) → follows leader slice core ≡ true
    → (core.core.slice.0 ≡ slice.id.0) × (is_core leader core.core ≡ false) × (core.down ≡ false)
follows_parts leader slice core is =
    let (both, up) = and_parts (eqb core.core.slice.0 slice.id.0 && not (is_core leader core.core)) (not core.down) is in
    let (of_slice, other) = and_parts (eqb core.core.slice.0 slice.id.0) (not (is_core leader core.core)) both in
    (eqb-true core.core.slice.0 slice.id.0 of_slice, negated (is_core leader core.core) other, negated core.down up)

-- a follower in the slice is one of its cores
follower_in : (cores : List Core) (leader : CoreId) (slice : Slice) (name : CoreId) → Contains (followers_in cores leader slice) name
    → (core : Core) × Contains cores core × (core.core ≡ name) × (follows leader slice core ≡ true)
follower_in cores leader slice name there =
    let (core, inside, named) = Contains-from_map name_of (filter (follows leader slice) cores) name there in
    let (among, passes) = Contains-from_filter (follows leader slice) cores core inside in
    (core, among, named, passes)

-- so its name is of the slice
of_slice_in : (cores : List Core) (leader : CoreId) (slice : Slice) (name : CoreId) → Contains (followers_in cores leader slice) name
    → name.slice.0 ≡ slice.id.0
of_slice_in cores leader slice name there =
    let (core, inside, named, passes) = follower_in cores leader slice name there in
    ap (λ (n : CoreId). n.slice.0) (sym named) ∙ (follows_parts leader slice core passes).0

-- and so are all of the followers
pub are_followers : (slices : List Slice) (cores : List Core) (hash : ℤ) (leader : CoreId)
    → All (IsFollower slices cores hash leader) (followers slices cores hash leader)
are_followers slices cores hash leader =
    All-joined (IsFollower slices cores hash leader) (followers_in cores leader) (filter (takes hash) slices) (λ slice there.
    All-from_contains (IsFollower slices cores hash leader) (followers_in cores leader slice) (λ name here.
    let taken = Contains-from_filter (takes hash) slices slice there in
    let (core, inside, named, passes) = follower_in cores leader slice name here in
    let tests = and_parts (not (is_inactive slice)) (has_hash hash slice) taken.1 in
    let (of_slice, other, up) = follows_parts leader slice core passes in
    record {
      slice = slice;
      there = taken.0;
      within = (contains-Decides hash slice.range.min slice.range.max).0 tests.1;
      of_slice = of_slice_in cores leader slice name here;
      other = ap (is_core leader) (sym named) ∙ other;
      core = core;
      core_there = inside;
      core_is = named;
      up = up;
    }))

-- each is the name of a core
pub follower_is_there : (slices : List Slice) (cores : List Core) (hash : ℤ) (leader name : CoreId)
    → IsFollower slices cores hash leader name → Contains (map name_of cores) name
follower_is_there slices cores hash leader name follower =
    subst (Contains (map name_of cores)) follower.core_is (Contains-map name_of cores follower.core follower.core_there)

-- each other core that is attached to a slice that takes the write is one
pub is_follower : (slices : List Slice) (cores : List Core) (hash : ℤ) (leader : CoreId) (core : Core) (slice : Slice)
    → Contains slices slice → is_attached slice core ≡ true → IsWithin slice.range.min slice.range.max hash → Contains cores core
    → core.core.slice.0 ≡ slice.id.0 → is_core leader core.core ≡ false → Contains (followers slices cores hash leader) core.core
is_follower slices cores hash leader core slice there attached within inside same other =
    let (stays, up) = and_parts (not (is_inactive slice)) (not core.down) attached in
    let taken : takes hash slice ≡ true =
    and_from (not (is_inactive slice)) (has_hash hash slice) stays ((contains-Decides hash slice.range.min slice.range.max).1 within) in
    let not_leader : not (is_core leader core.core) ≡ true = ap not other in
    let passes : follows leader slice core ≡ true =
    and_from (eqb core.core.slice.0 slice.id.0 && not (is_core leader core.core)) (not core.down)
    (and_from (eqb core.core.slice.0 slice.id.0) (not (is_core leader core.core)) (eq-eqb core.core.slice.0 slice.id.0 same) not_leader)
    up in
    Contains-joined (followers_in cores leader) (filter (takes hash) slices) slice core.core (Contains-filter (takes hash) slices slice there taken)
    (Contains-map name_of (filter (follows leader slice) cores) core (Contains-filter (follows leader slice) cores core inside passes))

-- the slices' numbers ascend
abbrev IsBefore : Slice → Slice → Type 0
IsBefore one other = one.id.0 < other.id.0

slices_ascend : (slices : List Slice) → IsMap slices → AllPairs IsBefore slices
slices_ascend slices is_map i j d less below =
    let up = AllPairs-from_increasing (map (λ (slice : Slice). slice.id.0) slices) is_map.ids i j d.id.0 less (omega (arith, length-map slices (λ (slice : Slice). slice.id.0))) in
    omega (arith, up, get_or-map (λ (slice : Slice). slice.id.0) slices i d d.id.0 (omega arith), get_or-map (λ (slice : Slice). slice.id.0) slices j d d.id.0 below)

-- so no two followers are of one name
joined_apart : (cores : List Core) (leader : CoreId) (slices : List Slice) → AreApart cores → AllPairs IsBefore slices
    → IsDistinct is_core (flat_map (followers_in cores leader) slices)
joined_apart cores leader [] apart up = IsDistinct-from_apart is_core [] (λ i j d less below. absurd (omega arith))
joined_apart cores leader (slice ∷ slices) apart up =
    IsDistinct-append is_core (followers_in cores leader slice) (flat_map (followers_in cores leader) slices)
    (names_apart cores (follows leader slice) apart)
    (joined_apart cores leader slices apart (λ i j d less below. up (suc i) (suc j) d (omega arith) (omega arith)))
    (All-from_contains (λ name. All (λ later. is_core name later ≡ false) (flat_map (followers_in cores leader) slices)) (followers_in cores leader slice)
    (λ name here. All-joined (λ later. is_core name later ≡ false) (followers_in cores leader) slices (λ other there.
    All-from_contains (λ later. is_core name later ≡ false) (followers_in cores leader other) (λ later among.
    let one = of_slice_in cores leader slice name here in
    let two = of_slice_in cores leader other later among in
    let less = up 0 (suc there.0) other (omega arith) (omega (arith, there.1)) in
    let at : (get_or slices there.0 other).id.0 ≡ other.id.0 = ap (λ (s : Slice). s.id.0) there.2 in
    not_core name later (λ same. absurd (omega (arith, less, at, one, two, same)))))))

pub followers_apart : (slices : List Slice) (cores : List Core) (hash : ℤ) (leader : CoreId) → IsMap slices → AreApart cores
    → IsDistinct is_core (followers slices cores hash leader)
followers_apart slices cores hash leader is_map apart =
    joined_apart cores leader (filter (takes hash) slices) apart (AllPairs-filter IsBefore (takes hash) slices (slices_ascend slices is_map))

less_differs : (one other : ℕ) → one < other → eqb one other ≡ false
less_differs one other less = by (eqb one other) refl where
  by : (b : Bool) → eqb one other ≡ b → eqb one other ≡ false
  by false is = is
  by true is = absurd (omega (arith, eqb-true one other is))

-- messages of one write to different cores are different ones
pub sent_apart : (place : ℕ) (write : Write) (names : List CoreId) → IsDistinct is_core names → IsDistinct is_same_message (sent_to place write names)
sent_apart place write [] apart = IsDistinct-from_apart is_same_message [] (λ i j d less below. absurd (omega arith))
sent_apart place write (name ∷ names) apart =
    IsDistinct-cons is_same_message (record { place = place; core = name; write = write }) (sent_to place write names)
    (recursion_from_All (λ (other : Sent). is_same_message (record { place = place; core = name; write = write }) other ≡ false) (sent_to place write names)
    (differ place write name names (All-from_recursion (λ other. is_core name other ≡ false) names (IsDistinct-head is_core name names apart))))
    (sent_apart place write names (IsDistinct-tail is_core name names apart)) where
      differ : (place : ℕ) (write : Write) (name : CoreId) (names : List CoreId) → All (λ other. is_core name other ≡ false) names
          → All (λ (other : Sent). is_same_message (record { place = place; core = name; write = write }) other ≡ false) (sent_to place write names)
      differ place write name names none =
          All-map (λ (other : Sent). is_same_message (record { place = place; core = name; write = write }) other ≡ false)
          (λ (other : CoreId). record { place = place; core = other; write = write }) names
          (All-weaker (λ other. is_core name other ≡ false)
          (λ other. is_same_message (record { place = place; core = name; write = write }) (record { place = place; core = other; write = write }) ≡ false)
          (λ other apart. and_right (eqb place place) (is_core name other) apart) names none)

-- and those of a later write are different from those of earlier ones
pub sent_later : (messages : List Sent) (place : ℕ) (write : Write) (names : List CoreId) → All (λ (message : Sent). message.place < place) messages
    → All (λ one. All (λ other. is_same_message one other ≡ false) (sent_to place write names)) messages
sent_later messages place write names earlier =
    All-weaker (λ (message : Sent). message.place < place) (λ one. All (λ other. is_same_message one other ≡ false) (sent_to place write names))
    (λ one before. All-map (λ (other : Sent). is_same_message one other ≡ false)
    (λ (name : CoreId). record { place = place; core = name; write = write }) names
    (All-from_contains (λ name. is_same_message one (record { place = place; core = name; write = write }) ≡ false) names
    (λ name there. and_left (eqb one.place place) (is_core one.core name) (less_differs one.place place before)))) messages earlier
