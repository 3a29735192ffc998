-- An event of a split changes no core and no searcher but those of its own slices.
use Rattle.std.proofs.Common.{◌≡◌, ◌≢◌, ◌≤◌, ◌<◌, ℕ, zero, suc, nat_lt, nat_eq, eqb, Bool, true, false, not, cond, List, [], ◌∷◌, ◌++◌, map, filter, set, take, slice_get, Some, All, Contains, refl, sym, ap, ◌∙◌, subst, arith}
use Rattle.std.proofs.Math.Bool.{or-false}
use Rattle.std.proofs.lemmas.Bool.{false≢true, not-true, eqb-true}
use Rattle.std.proofs.lemmas.List.{append-nil}
use Rattle.std.proofs.lemmas.List.Elements.{All-contains, All-contains_itself, All-map, All-weaker, filter-append}
use Rattle.std.proofs.lemmas.Option.{same_Some}
use Rattle.sc_record.specs.declared.slice.SliceId.{SliceId}
use Rattle.sc_record.specs.declared.slice.SubSlice.{SubSlice}
use Rattle.sc_record.specs.declared.slice.CoreId.{CoreId}
use Rattle.sc_record.specs.Writes.{Write}
use Rattle.sc_cluster.specs.declared.slice.Slice.{Slice}
use Rattle.sc_cluster.specs.Slices.{is_forming, forming, greatest_id}
use Rattle.sc_cluster.specs.Changes.{begun_slice}
use Rattle.sc_cluster.proofs.ListLemmas.{filter-map, filter-all, filter-none, filter-filter, Contains-map, Contains-filter}
use Rattle.sc_cluster.proofs.PairLemmas.{Contains-from_map}
use Rattle.sc_cluster.proofs.StateLemmas.{is_settled, is_other, forming-begun}
use Rattle.sc_ulog.specs.declared.mode.Mode.{Mode}
use Rattle.sc_ulog.specs.declared.mode.Mode.TheVariants.{Active, Buffering, Replaying}
use Rattle.sc_replica.specs.Core.{Core, fed_all, received, replay_limit, replayed}
use Rattle.sc_replica.specs.Deliveries.{received_all, replaying}
use Rattle.sc_bucket.specs.Kept.{Sent, FeedState}
use Rattle.sc_record.specs.Names.{is_core}
use Rattle.sc_replicas.specs.Cores.{core_number, is_of_one, put_by_name, without_room}
use Rattle.sc_bucket.specs.Events.{AreSameCores}
use Rattle.sc_bucket.specs.Flight.{in_flight, arrived}
use Rattle.sc_replicas.specs.Searchers.{StandingState, standing_of}
use Rattle.sc_bucket.specs.Searchers.{cut_to}
use Rattle.sc_bucket.specs.Sound.{may_catch_up, IsFeed, IsSound}
use Rattle.sc_bucket.specs.declared.bucket.Bucket.{Bucket}
use Rattle.sc_bucket.specs.declared.phase.Phase.{Phase}
use Rattle.sc_bucket.specs.declared.phase.Phase.TheVariants as phases
use Rattle.sc_replicas.specs.declared.standing.Standing.{Standing}
use Rattle.sc_replicas.proofs.CoreLemmas.{is_core-Decides}
use Rattle.sc_bucket.proofs.DeliverLemmas.{name-received}
use Rattle.sc_bucket.proofs.SoundLemmas.{All-slice_get}
use Rattle.sc_handover.specs.Conditions.{IsInMode, CanBegin, CanGrow}
use Rattle.sc_handover.specs.Events.{ChangesCore, Begins, Grows, Switches, Aborts, Drops}
use Rattle.sc_handover.specs.Made.{leader_of, first_core, empty_core, piece_of, settled_sub}
use Rattle.sc_handover.specs.Parts.{is_of_sub}
use Rattle.sc_handover.proofs.BegunCoreLemmas.{core_below}
use Rattle.sc_handover.proofs.DropLemmas.{filter-left}
use Rattle.sc_handover.proofs.FedLemmas.{name-fed_all}
use Rattle.sc_handover.proofs.KeptLemmas.{same_number, slice_of_one, is_of_one-there}
use Rattle.sc_handover.proofs.PlanLemmas.{sub_above}
use Rattle.sc_handover.proofs.SubLemmas.{slice_of_core, of_sub_where_forming}
use Rattle.sc_world.specs.Others.{cores_apart, searchers_apart, cores_but, SplitsLeaveOthersAlone}

-- the core is of none of the slices
abbrev is_apart : List Slice → Core → Bool
is_apart slices core = not (is_of_one slices core.core)

-- a filter passes over an element that was changed, where it leaves out both
pub filter-set_apart : {A : Type 0} (p : A → Bool) (xs : List A) (at : ℕ) (x y : A) → slice_get xs at ≡ Some x
    → p x ≡ false → p y ≡ false → filter p (set xs at y) ≡ filter p xs
filter-set_apart p [] zero x y is left out = refl
filter-set_apart p [] (suc at) x y is left out = refl
filter-set_apart p (z ∷ xs) zero x y is left out =
    let first : p z ≡ false = ap p (same_Some z x is) ∙ left in
    ap (λ b. cond b (y ∷ filter p xs) (filter p xs)) out ∙ sym (ap (λ b. cond b (z ∷ filter p xs) (filter p xs)) first)
filter-set_apart p (z ∷ xs) (suc at) x y is left out =
    ap (λ rest. cond (p z) (z ∷ rest) rest) (filter-set_apart p xs at x y is left out)

-- and over what a map changed, where that leaves alone what passes
pub filter-map_apart : {A : Type 0} (p : A → Bool) (f : A → A) → ((x : A) → p (f x) ≡ p x) → ((x : A) → p x ≡ true → f x ≡ x)
    → (xs : List A) → filter p (map f xs) ≡ filter p xs
filter-map_apart p f kept fixed [] = refl
filter-map_apart {A} p f kept fixed (x ∷ xs) = by (p x) refl (filter-map_apart p f kept fixed xs) where
  by : (t : Bool) → p x ≡ t → filter p (map f xs) ≡ filter p xs
      → filter p (f x ∷ map f xs) ≡ cond t (x ∷ filter p xs) (filter p xs)
  by t is rest =
      ap (λ b. cond b (f x ∷ filter p (map f xs)) (filter p (map f xs))) (kept x ∙ is)
      ∙ ap (λ ys. cond t (f x ∷ ys) ys) rest ∙ head t is
    where
      head : (t : Bool) → p x ≡ t → cond t (f x ∷ filter p xs) (filter p xs) ≡ cond t (x ∷ filter p xs) (filter p xs)
      head true passes = ap (λ y. y ∷ filter p xs) (fixed x passes)
      head false fails = refl

-- and over a core that was put among the others
filter-put_apart : (p : Core → Bool) (core : Core) (cores : List Core) → p core ≡ false
    → filter p (put_by_name core cores) ≡ filter p cores
filter-put_apart p core [] out = ap (λ b. cond b (core ∷ []) []) out
filter-put_apart p core (other ∷ cores) out =
    by (nat_lt (core_number core.core) (core_number other.core)) (filter-put_apart p core cores out)
  where
    by : (b : Bool) → filter p (put_by_name core cores) ≡ filter p cores
        → filter p (cond b (core ∷ other ∷ cores) (other ∷ put_by_name core cores)) ≡ filter p (other ∷ cores)
    by true rest = ap (λ b. cond b (core ∷ filter p (other ∷ cores)) (filter p (other ∷ cores))) out
    by false rest = ap (λ these. cond (p other) (other ∷ these) these) rest

-- cores that are the same but for their room are so where some are left out by their names
pub same_where : (p : CoreId → Bool) (old new : List Core) → AreSameCores old new
    → AreSameCores (filter (λ (core : Core). p core.core) old) (filter (λ (core : Core). p core.core) new)
same_where p old new same =
    sym (filter-map (λ (core : Core). p core.core) without_room new) ∙ ap (filter (λ (core : Core). p core.core)) same
    ∙ filter-map (λ (core : Core). p core.core) without_room old

-- a change of a core that keeps its name leaves the others
changed_alone : (old new : Bucket) (name : CoreId) (change : Core → Core) → ((core : Core) → (change core).core ≡ core.core)
    → ChangesCore old name change new → cores_but name new ≡ cores_but name old
changed_alone old new name change keeps changed =
    ap (filter is_other) changed.cores
    ∙ filter-set_apart is_other old.replicas changed.core_at changed.core (change changed.core) changed.core_found
    (own changed.core changed.core_is) (own (change changed.core) (keeps changed.core ∙ changed.core_is))
  where
    is_other : Core → Bool
    is_other core = not (is_core name core.core)

    own : (core : Core) → core.core ≡ name → is_other core ≡ false
    own core is = ap not ((is_core-Decides name core.core).1 (sym is))

-- where a split is open, only cores of its subs may catch up
of_open_split : (phase : Phase) (slices : List Slice) (slice : Slice) (name : CoreId) → phase ≢ phases.Idle → Contains slices slice
    → slice.id ≡ name.slice → may_catch_up phase slice name ≡ true → is_of_sub slices name ≡ true
of_open_split phases.Idle slices slice name opened there named may = absurd (opened refl)
of_open_split (phases.Building parent) slices slice name opened there named may =
    of_sub_where_forming slices name slice there named (sym (or-false (is_forming slice)) ∙ may)
of_open_split (phases.Recovering parent) slices slice name opened there named may =
    of_sub_where_forming slices name slice there named (sym (or-false (is_forming slice)) ∙ may)

-- so is one that has a feed
fed_is_of_sub : (b : Bucket) (at : ℕ) (feed : FeedState) → IsSound b → slice_get b.feeds at ≡ Some feed → b.phase ≢ phases.Idle
    → is_of_sub b.map feed.core ≡ true
fed_is_of_sub b at feed sound found opened =
    let is : IsFeed b feed = All-slice_get (IsFeed b) b.feeds at feed sound.feeds.each found in
    of_open_split b.phase b.map is.slice feed.core opened is.there (sym is.of_slice) is.catches_up

-- and one that is not active
inactive_is_of_sub : (b : Bucket) (name : CoreId) (mode : Mode) → IsSound b → mode ≢ Active → IsInMode b name mode → b.phase ≢ phases.Idle
    → is_of_sub b.map name ≡ true
inactive_is_of_sub b name mode sound other (core, there, named, is) opened =
    let (slice, in_map, of_slice, key) = slice_of_core b core sound there in
    subst (λ n. is_of_sub b.map n ≡ true) named (by slice in_map of_slice (may_catch_up b.phase slice core.core) refl)
  where
    by : (slice : Slice) → Contains b.map slice → slice.id ≡ core.core.slice → (t : Bool) → may_catch_up b.phase slice core.core ≡ t
        → is_of_sub b.map core.core ≡ true
    by slice in_map of_slice true may = of_open_split b.phase b.map slice core.core opened in_map of_slice may
    by slice in_map of_slice false settled =
        let active = All-contains (λ (c : Core). (s : Slice) → Contains b.map s → s.id ≡ c.core.slice → may_catch_up b.phase s c.core ≡ false → c.mode ≡ Active)
        b.replicas core sound.cores.active there slice in_map of_slice settled in
        absurd (other (sym is ∙ active))

-- what comes to a core keeps its name
name-received_all : (core : Core) (writes : List Write) → (received_all core writes).core ≡ core.core
name-received_all core [] = refl
name-received_all core (write ∷ writes) = name-received_all (received core write) writes ∙ name-received core write

-- what is delivered to the core of a sub leaves the others
arrived_apart : (slices : List Slice) (messages : List Sent) (name : CoreId) (cores : List Core) → is_of_sub slices name ≡ true
    → filter (is_apart (forming slices)) (map (arrived messages name) cores) ≡ filter (is_apart (forming slices)) cores
arrived_apart slices messages name cores of_sub =
    filter-map_apart (is_apart (forming slices)) (arrived messages name) kept fixed cores
  where
    kept : (core : Core) → is_apart (forming slices) (arrived messages name core) ≡ is_apart (forming slices) core
    kept core = ap (λ n. not (is_of_sub slices n)) (by (is_core name core.core)) where
      by : (b : Bool) → (cond b (received_all core (in_flight messages name)) core).core ≡ core.core
      by true = name-received_all core (in_flight messages name)
      by false = refl

    fixed : (core : Core) → is_apart (forming slices) core ≡ true → arrived messages name core ≡ core
    fixed core apart = by (is_core name core.core) refl where
      by : (b : Bool) → is_core name core.core ≡ b → cond b (received_all core (in_flight messages name)) core ≡ core
      by false is = refl
      by true is =
          let same : name ≡ core.core = (is_core-Decides name core.core).0 is in
          let both : false ≡ true =
          sym (not-true (is_of_sub slices core.core) apart) ∙ ap (is_of_sub slices) (sym same) ∙ of_sub in
          absurd (false≢true both)

-- so does what is delivered to all of them
settled_apart : (slices : List Slice) (messages : List Sent) (cores : List Core)
    → filter (is_apart (forming slices)) (map (settled_sub slices messages) cores) ≡ filter (is_apart (forming slices)) cores
settled_apart slices messages cores =
    filter-map_apart (is_apart (forming slices)) (settled_sub slices messages) kept fixed cores
  where
    kept : (core : Core) → is_apart (forming slices) (settled_sub slices messages core) ≡ is_apart (forming slices) core
    kept core = ap (λ n. not (is_of_sub slices n)) (by (is_of_one (forming slices) core.core)) where
      by : (b : Bool) → (cond b (received_all core (in_flight messages core.core)) core).core ≡ core.core
      by true = name-received_all core (in_flight messages core.core)
      by false = refl

    fixed : (core : Core) → is_apart (forming slices) core ≡ true → settled_sub slices messages core ≡ core
    fixed core apart =
        ap (λ b. cond b (received_all core (in_flight messages core.core)) core)
        (not-true (is_of_one (forming slices) core.core) apart)

-- a split that begins leaves the cores that were there
begun_apart : (old new : Bucket) (parent : SliceId) (subs : List SubSlice) → IsSound old → CanBegin old parent subs
    → Begins old parent subs new → AreSameCores old.replicas (cores_apart (forming new.map) new)
begun_apart old new parent subs sound can begins =
    ap (λ slices. map without_room (filter (is_apart slices) new.replicas)) made
    ∙ same_where (λ (name : CoreId). not (is_of_one made_slices name)) (old.replicas ++ leaders) new.replicas begins.cores
    ∙ ap (map without_room) (filter-append (is_apart made_slices) old.replicas leaders
    ∙ ap (λ these. these ++ filter (is_apart made_slices) leaders) (filter-all (is_apart made_slices) old.replicas before)
    ∙ ap (λ these. old.replicas ++ these) (filter-none (is_apart made_slices) leaders after)
    ∙ append-nil old.replicas)
  where
    made_slices : List Slice
    made_slices = map begun_slice subs

    leader : SubSlice → Core
    leader sub = empty_core (first_core sub)

    leaders : List Core
    leaders = map leader subs

    made : forming new.map ≡ made_slices
    made = ap forming begins.map_is ∙ forming-begun old.map subs can.plan.idle

    old_is_apart : (core : Core) → Contains old.replicas core → is_apart made_slices core ≡ true
    old_is_apart core there = by (is_of_one made_slices core.core) refl where
      by : (b : Bool) → is_of_one made_slices core.core ≡ b → not b ≡ true
      by false is = refl
      by true is =
          let (slice, inside, named) = slice_of_one made_slices core.core is in
          let (sub, sub_there, same) = Contains-from_map begun_slice subs slice inside in
          let above : greatest_id old.map < sub.id.0 = sub_above old.map parent subs sub can.plan sub_there in
          let low : core.core.slice.0 ≤ greatest_id old.map = core_below old core sound.cores there in
          let of_sub : sub.id.0 ≡ core.core.slice.0 =
          ap (λ (s : Slice). s.id.0) same ∙ ap (λ (id : SliceId). id.0) named in
          absurd (omega (arith, above, low, of_sub))

    before : All (λ core. is_apart made_slices core ≡ true) old.replicas
    before =
        All-weaker (Contains old.replicas) (λ core. is_apart made_slices core ≡ true) old_is_apart old.replicas
        (All-contains_itself old.replicas)

    leader_is_of_sub : (sub : SubSlice) → Contains subs sub → is_apart made_slices (leader sub) ≡ false
    leader_is_of_sub sub there =
        ap not (is_of_one-there made_slices (begun_slice sub) (first_core sub) (Contains-map begun_slice subs sub there) refl)

    after : All (λ core. is_apart made_slices core ≡ false) leaders
    after =
        All-map (λ core. is_apart made_slices core ≡ false) leader subs
        (All-weaker (Contains subs) (λ sub. is_apart made_slices (leader sub) ≡ false) leader_is_of_sub subs (All-contains_itself subs))

-- a replica that joins a sub leaves the cores of the others
grown_apart : (old new : Bucket) (name : CoreId) (sub : Slice) → CanGrow old name sub → Grows old name sub new
    → AreSameCores (cores_apart (forming old.map) old) (cores_apart (forming old.map) new)
grown_apart old new name sub can grows =
    let arrive : List Core = map (arrived old.flight.messages grows.leader.core) old.replicas in
    let of_sub = of_sub_where_forming old.map name sub can.there (sym can.of_sub) can.forming in
    let leads = of_sub_where_forming old.map grows.leader.core sub can.there (sym grows.leader_is.0) can.forming in
    same_where (λ (id : CoreId). not (is_of_one (forming old.map) id)) (put_by_name (empty_core name) arrive) new.replicas grows.cores
    ∙ ap (map without_room) (filter-put_apart (is_apart (forming old.map)) (empty_core name) arrive (ap not of_sub)
    ∙ arrived_apart old.map old.flight.messages grows.leader.core old.replicas leads)

-- the searchers that a switch leaves, but those of the parent and its subs
handed_apart : (old new : Bucket) (parent : Slice) → Switches old parent.id new
    → searchers_apart (parent ∷ forming old.map) new ≡ searchers_apart (parent ∷ forming old.map) old
handed_apart old new parent switches =
    let handed = switches.searchers_are in
    let olds : List StandingState = map standing_of old.searchers in
    let cut : Slice → StandingState = λ sub. cut_to sub (standing_of handed.searcher) in
    ap (filter is_left) handed.handed
    ∙ filter-append is_left (filter is_not_of_parent olds) (map cut (forming old.map))
    ∙ ap (λ these. these ++ filter is_left (map cut (forming old.map))) (filter-filter is_left is_not_of_parent weaker olds)
    ∙ ap (λ these. filter is_left olds ++ these) (filter-none is_left (map cut (forming old.map))
    (All-map (λ searcher. is_left searcher ≡ false) cut (forming old.map)
    (All-weaker (Contains (forming old.map)) (λ sub. is_left (cut sub) ≡ false) (of_sub handed.searcher) (forming old.map)
    (All-contains_itself (forming old.map)))))
    ∙ append-nil (filter is_left olds)
  where
    slices : List Slice
    slices = parent ∷ forming old.map

    is_left : StandingState → Bool
    is_left searcher = not (is_of_one slices (leader_of searcher.slice))

    is_not_of_parent : StandingState → Bool
    is_not_of_parent searcher = not (nat_eq searcher.slice.0 parent.id.0)

    weaker : (searcher : StandingState) → is_left searcher ≡ true → is_not_of_parent searcher ≡ true
    weaker searcher left = by (nat_eq searcher.slice.0 parent.id.0) refl where
      by : (b : Bool) → nat_eq searcher.slice.0 parent.id.0 ≡ b → not b ≡ true
      by false is = refl
      by true is =
          let same : searcher.slice ≡ parent.id = same_number searcher.slice parent.id (eqb-true searcher.slice.0 parent.id.0 is) in
          let own = is_of_one-there slices parent (leader_of searcher.slice) (0, omega arith, refl) (sym same) in
          absurd (false≢true (sym (not-true (is_of_one slices (leader_of searcher.slice)) left) ∙ own))

    of_sub : (searcher : Standing) (sub : Slice) → Contains (forming old.map) sub → is_left (cut_to sub (standing_of searcher)) ≡ false
    of_sub searcher sub (k, below, is) =
        ap not (is_of_one-there slices sub (leader_of sub.id) (suc k, omega arith, is) refl)

-- where slices leave the map, the cores of the others stay
kept_apart : (old new : Bucket) (slices : List Slice) → IsSound old
    → new.replicas ≡ filter (λ (core : Core). is_of_one new.map core.core) old.replicas
    → ((slice : Slice) (core : Core) → Contains old.map slice → slice.id ≡ core.core.slice → is_apart slices core ≡ true
    → Contains new.map slice)
    → cores_apart slices new ≡ cores_apart slices old
kept_apart old new slices sound cores stays =
    ap (filter (is_apart slices)) cores
    ∙ filter-left (is_apart slices) (λ (core : Core). is_of_one new.map core.core) old.replicas
    (All-weaker (Contains old.replicas) (λ (core : Core). is_apart slices core ≡ true → is_of_one new.map core.core ≡ true) stay
    old.replicas (All-contains_itself old.replicas))
  where
    stay : (core : Core) → Contains old.replicas core → is_apart slices core ≡ true → is_of_one new.map core.core ≡ true
    stay core there apart =
        let (slice, in_map, named, key) = slice_of_core old core sound there in
        is_of_one-there new.map slice core.core (stays slice core in_map named apart) named

-- a split that is given up leaves the cores that are of no sub
aborted_apart : (old new : Bucket) (parent : SliceId) → IsSound old → Aborts old parent new
    → cores_apart (forming old.map) new ≡ cores_apart (forming old.map) old
aborted_apart old new parent sound aborts = kept_apart old new (forming old.map) sound aborts.cores stays where
  stays : (slice : Slice) (core : Core) → Contains old.map slice → slice.id ≡ core.core.slice → is_apart (forming old.map) core ≡ true
      → Contains new.map slice
  stays slice core there named apart = by (is_forming slice) refl where
    by : (t : Bool) → is_forming slice ≡ t → Contains new.map slice
    by true forms =
        absurd (false≢true (sym (not-true (is_of_sub old.map core.core) apart) ∙ of_sub_where_forming old.map core.core slice there named forms))
    by false settled =
        subst (λ slices. Contains slices slice) (sym aborts.map_is) (Contains-filter is_settled old.map slice there (ap not settled))

-- a slice that is dropped leaves those of the other slices
dropped_apart : (old new : Bucket) (dropped : Slice) → IsSound old → Drops old dropped.id new
    → cores_apart (dropped ∷ []) new ≡ cores_apart (dropped ∷ []) old
dropped_apart old new dropped sound drops = kept_apart old new (dropped ∷ []) sound drops.cores stays where
  stays : (slice : Slice) (core : Core) → Contains old.map slice → slice.id ≡ core.core.slice → is_apart (dropped ∷ []) core ≡ true
      → Contains new.map slice
  stays slice core there named apart = by (eqb slice.id.0 dropped.id.0) refl where
    by : (t : Bool) → eqb slice.id.0 dropped.id.0 ≡ t → Contains new.map slice
    by true is =
        let same : slice.id ≡ dropped.id = same_number slice.id dropped.id (eqb-true slice.id.0 dropped.id.0 is) in
        let own = is_of_one-there (dropped ∷ []) dropped core.core (0, omega arith, refl) (sym same ∙ named) in
        absurd (false≢true (sym (not-true (is_of_one (dropped ∷ []) core.core) apart) ∙ own))
    by false other =
        subst (λ slices. Contains slices slice) (sym drops.map_is)
        (Contains-filter (is_other dropped.id) old.map slice there (ap not other))

pub splits_leave_others_alone : SplitsLeaveOthersAlone
splits_leave_others_alone old new sound = record {
  begins = λ parent subs can begins. begun_apart old new parent subs sound can begins;
  feeds = λ core is_done feeds. record {
    alone = record {
      cores = changed_alone old new core (λ one. fed_all one (piece_of feeds.feed)) (λ one. name-fed_all one (piece_of feeds.feed)) feeds.changed;
      searchers = feeds.rest.searchers_are;
    };
    of_split = λ opened.
        subst (λ name. is_of_sub old.map name ≡ true) feeds.feed_is (fed_is_of_sub old feeds.feed_at feeds.feed sound feeds.feed_found opened);
  };
  starts = λ core can starts. record {
    alone = record {
      cores = changed_alone old new core replaying (λ _. refl) starts.changed;
      searchers = starts.rest.searchers_are;
    };
    of_split = inactive_is_of_sub old core Buffering sound (λ same. cc) can.0;
  };
  replays = λ core is_done can replays. record {
    alone = record {
      cores = changed_alone old new core replayed (λ one. name-fed_all one (take replay_limit one.buffer)) replays.changed;
      searchers = replays.rest.searchers_are;
    };
    of_split = inactive_is_of_sub old core Replaying sound (λ same. cc) can;
  };
  gets_ready = λ parent ready. record { cores = ap (filter (is_apart [])) ready.cores; searchers = ready.searchers_are };
  grows = λ core sub can grows. record { cores = grown_apart old new core sub can grows; searchers = grows.searchers_are };
  switches = λ parent switches. record {
    cores =
        ap (filter (is_apart (forming old.map))) switches.cores ∙ settled_apart old.map old.flight.messages old.replicas;
    searchers = handed_apart old new parent switches;
  };
  aborts = λ parent aborts. record { cores = aborted_apart old new parent sound aborts; searchers = aborts.searchers_are };
  drops = λ slice drops. record { cores = dropped_apart old new slice sound drops; searchers = drops.searchers_are };
}
