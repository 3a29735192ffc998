-- What is in flight to the cores of the subs is delivered, core after core.
use Rattle.std.proofs.Common.{◌≡◌, ◌⊎◌, inl, inr, Bool, true, false, not, cond, ℕ, ◌+◌, ◌<◌, ◌≤◌, List, [], ◌∷◌, length, map, filter, slice_get, Option, Some, None, All, Contains, refl, sym, ap, ◌∙◌, subst, arith}
use Rattle.std.specs.Option.{option_map}
use Rattle.std.proofs.lemmas.Bool.{cases_lt, false_from_ne_true, not-true}
use Rattle.std.proofs.lemmas.List.{length-map}
use Rattle.std.proofs.lemmas.List.Elements.{All-map, All-weaker, All-filter, All-contains, All-contains_itself, All-head, All-tail, filter_passes}
use Rattle.std.proofs.lemmas.Option.{slice_get-map, slice_get_within, none-some, same_Some}
use Rattle.sc_record.specs.declared.slice.CoreId.{CoreId}
use Rattle.sc_record.specs.Writes.{Write}
use Rattle.sc_cluster.specs.declared.slice.Slice.{Slice}
use Rattle.sc_cluster.proofs.ListLemmas.{filter-all, filter-filter, All-from_slice_get}
use Rattle.sc_ulog.specs.declared.mode.Mode.{Mode}
use Rattle.sc_ulog.specs.declared.mode.Mode.TheVariants.{Active, Buffering, Replaying}
use Rattle.sc_replica.specs.Core.{Core, received, received_in}
use Rattle.sc_replica.specs.Deliveries.{received_all}
use Rattle.sc_bucket.specs.Kept.{Sent}
use Rattle.sc_record.specs.Names.{is_core}
use Rattle.sc_bucket.specs.Flight.{in_flight, is_to, arrived}
use Rattle.sc_bucket.specs.Sound.{IsSent, IsSound}
use Rattle.sc_bucket.specs.Events.{HasSameFixedParts, HasSameSplit, DeliversAllTo}
use Rattle.sc_bucket.specs.declared.bucket.Bucket.{Bucket}
use Rattle.sc_replicas.proofs.CoreLemmas.{name_of, is_core-Decides, element_from_map}
use Rattle.sc_bucket.proofs.PendingLemmas.{goes_to, in_flight-none}
use Rattle.sc_bucket.proofs.SoundLemmas.{name_and_mode, AreAlike, AreAlike-map}
use Rattle.sc_handover.specs.Made.{settled_sub}
use Rattle.sc_handover.specs.Parts.{is_of_sub, IsQuiet, DeliversToSubs, NoneIsToASub}

-- what keeps each element leaves the list
map-kept : {A : Type 0} (f : A → A) (xs : List A) → All (λ x. f x ≡ x) xs → map f xs ≡ xs
map-kept f [] each = refl
map-kept f (x ∷ xs) each =
    ap (λ y. y ∷ map f xs) (All-head (λ y. f y ≡ y) x xs each)
    ∙ ap (λ ys. x ∷ ys) (map-kept f xs (All-tail (λ y. f y ≡ y) x xs each))

-- the messages that are not to the core
abbrev pub left_by : CoreId → List Sent → List Sent
left_by name messages = filter (λ (message : Sent). not (is_to name message)) messages

-- those that are to no core of a sub
abbrev pub to_no_sub : List Slice → List Sent → List Sent
to_no_sub slices messages = filter (λ (message : Sent). not (is_of_sub slices message.core)) messages

-- the name and the mode of a core that was sent writes
name_and_mode-all : (core : Core) (writes : List Write) → name_and_mode (received_all core writes) ≡ name_and_mode core
name_and_mode-all core [] = refl
name_and_mode-all core (write ∷ writes) =
    name_and_mode-all (received core write) writes
    ∙ elim core.mode as (λ mode. name_and_mode (received_in mode core write) ≡ name_and_mode core) [
      | Active ↦ refl
      | Buffering ↦ refl
      | Replaying ↦ refl
    ]

-- and its buffer stays empty where it is active
IsQuiet-all : (core : Core) (writes : List Write) → IsQuiet core → IsQuiet (received_all core writes)
IsQuiet-all core [] quiet = quiet
IsQuiet-all core (write ∷ writes) quiet = IsQuiet-all (received core write) writes (by core.mode refl) where
  by : (mode : Mode) → core.mode ≡ mode → IsQuiet (received_in mode core write)
  by Active is = quiet
  by Buffering is = λ active. let both : Buffering ≡ Active = sym is ∙ active in absurd (cc)
  by Replaying is = quiet

-- so it is once all that was in flight to a core arrived
name_and_mode-arrived : (messages : List Sent) (name : CoreId) (core : Core)
    → name_and_mode (arrived messages name core) ≡ name_and_mode core
name_and_mode-arrived messages name core = by (is_core name core.core) where
  by : (b : Bool) → name_and_mode (cond b (received_all core (in_flight messages name)) core) ≡ name_and_mode core
  by true = name_and_mode-all core (in_flight messages name)
  by false = refl

pub name-arrived : (messages : List Sent) (name : CoreId) (core : Core) → (arrived messages name core).core ≡ core.core
name-arrived messages name core = ap (λ (pair : CoreId × Mode). pair.0) (name_and_mode-arrived messages name core)

pub AreAlike-arrived : (messages : List Sent) (name : CoreId) (cores : List Core)
    → AreAlike cores (map (arrived messages name) cores)
AreAlike-arrived messages name cores = AreAlike-map (arrived messages name) (name_and_mode-arrived messages name) cores

IsQuiet-arrived : (messages : List Sent) (name : CoreId) (core : Core) → IsQuiet core → IsQuiet (arrived messages name core)
IsQuiet-arrived messages name core quiet = by (is_core name core.core) where
  by : (b : Bool) → IsQuiet (cond b (received_all core (in_flight messages name)) core)
  by true = IsQuiet-all core (in_flight messages name) quiet
  by false = quiet

-- nothing is left to it
pub none_left : (name : CoreId) (messages : List Sent) → All (λ (message : Sent). is_to name message ≡ false) (left_by name messages)
none_left name messages =
    All-weaker (λ (message : Sent). not (is_to name message) ≡ true) (λ (message : Sent). is_to name message ≡ false)
    (λ message passes. not-true (is_to name message) passes) (left_by name messages)
    (filter_passes (λ (message : Sent). not (is_to name message)) messages)

pub in_flight-no_message : (messages : List Sent) (name : CoreId) → All (λ (message : Sent). is_to name message ≡ false) messages
    → in_flight messages name ≡ []
in_flight-no_message messages name none =
    in_flight-none messages name (All-map (λ other. is_core name other ≡ false) goes_to messages none)

-- and to another core what was
in_flight-left : (name other : CoreId) (messages : List Sent) → is_core name other ≡ false
    → in_flight (left_by name messages) other ≡ in_flight messages other
in_flight-left name other messages differ =
    ap (map (λ (message : Sent). message.write))
    (filter-filter (is_to other) (λ (message : Sent). not (is_to name message)) apart messages)
  where
    apart : (message : Sent) → is_to other message ≡ true → not (is_to name message) ≡ true
    apart message to =
        ap not (ap (is_core name) (sym ((is_core-Decides other message.core).0 to)) ∙ differ)

-- so what is still to be done for the cores of the subs leads to the same
settled_sub-arrived : (slices : List Slice) (messages : List Sent) (name : CoreId) (core : Core)
    → is_of_sub slices name ≡ true
    → settled_sub slices (left_by name messages) (arrived messages name core) ≡ settled_sub slices messages core
settled_sub-arrived slices messages name core of_sub = by (is_core name core.core) refl where
  own : is_core name core.core ≡ true
      → settled_sub slices (left_by name messages) (received_all core (in_flight messages name)) ≡ settled_sub slices messages core
  own is =
      let same : name ≡ core.core = (is_core-Decides name core.core).0 is in
      let after : Core = received_all core (in_flight messages name) in
      let named : after.core ≡ name =
      ap (λ (pair : CoreId × Mode). pair.0) (name_and_mode-all core (in_flight messages name)) ∙ sym same in
      let none : in_flight (left_by name messages) after.core ≡ [] =
      ap (in_flight (left_by name messages)) named ∙ in_flight-no_message (left_by name messages) name (none_left name messages) in
      ap (λ b. cond b (received_all after (in_flight (left_by name messages) after.core)) after)
      (ap (is_of_sub slices) named ∙ of_sub)
      ∙ ap (received_all after) none
      ∙ ap (λ (n : CoreId). received_all core (in_flight messages n)) same
      ∙ ap (λ b. cond b (received_all core (in_flight messages core.core)) core) (sym (ap (is_of_sub slices) (sym same) ∙ of_sub))

  by : (b : Bool) → is_core name core.core ≡ b
      → settled_sub slices (left_by name messages) (cond b (received_all core (in_flight messages name)) core)
      ≡ settled_sub slices messages core
  by true is = own is
  by false differ =
      ap (λ sent. cond (is_of_sub slices core.core) (received_all core sent) core)
      (in_flight-left name core.core messages differ)

-- a core of a sub is none that is of no sub
other_than_sub : (slices : List Slice) (name other : CoreId) → is_of_sub slices name ≡ true
    → is_of_sub slices other ≡ false → is_core name other ≡ false
other_than_sub slices name other of_sub of_none =
    false_from_ne_true (is_core name other) (λ same.
    let sub : is_of_sub slices other ≡ true =
    ap (is_of_sub slices) (sym ((is_core-Decides name other).0 same)) ∙ of_sub in
    let both : true ≡ false = sym sub ∙ of_none in
    cc)

-- so nothing is in flight to it where no message is to a core of a sub
pub in_flight-to_sub : (b : Bucket) (name : CoreId) → NoneIsToASub b → is_of_sub b.map name ≡ true
    → in_flight b.flight.messages name ≡ []
in_flight-to_sub b name none of_sub =
    in_flight-no_message b.flight.messages name
    (All-weaker (λ (message : Sent). is_of_sub b.map message.core ≡ false)
    (λ (message : Sent). is_to name message ≡ false)
    (λ message. other_than_sub b.map name message.core of_sub) b.flight.messages none)

-- what is to no core of a sub stays
to_no_sub-left : (slices : List Slice) (messages : List Sent) (name : CoreId) → is_of_sub slices name ≡ true
    → to_no_sub slices (left_by name messages) ≡ to_no_sub slices messages
to_no_sub-left slices messages name of_sub =
    filter-filter (λ (message : Sent). not (is_of_sub slices message.core)) (λ (message : Sent). not (is_to name message)) weaker messages
  where
    weaker : (message : Sent) → not (is_of_sub slices message.core) ≡ true → not (is_to name message) ≡ true
    weaker message other =
        ap not (other_than_sub slices name message.core of_sub (not-true (is_of_sub slices message.core) other))

-- What was in flight to those of the subs' cores that stand before a place is delivered; what is still to be done leads to the same
-- as before.
pub record DeliversSome (old : Bucket) (at : ℕ) (new : Bucket) : Type 0 where
  pub name : HasSameFixedParts old new
  pub split : HasSameSplit old new
  pub map_is : new.map ≡ old.map
  pub entries : new.journal.entries ≡ old.journal.entries
  pub messages : to_no_sub old.map new.flight.messages ≡ to_no_sub old.map old.flight.messages
  pub cores : map (settled_sub old.map new.flight.messages) new.replicas ≡ map (settled_sub old.map old.flight.messages) old.replicas
  pub searchers_are : new.searchers ≡ old.searchers
  pub settled : (k : ℕ) (core : Core) → k < at → slice_get new.replicas k ≡ Some core → is_of_sub old.map core.core ≡ true
      → All (λ (message : Sent). is_to core.core message ≡ false) new.flight.messages
  pub quiet : (k : ℕ) (core : Core) → k < at → slice_get new.replicas k ≡ Some core → IsQuiet core

-- there are as many cores
pub length-some : (old : Bucket) (at : ℕ) (new : Bucket) → DeliversSome old at new → length new.replicas ≡ length old.replicas
length-some old at new some =
    sym (length-map new.replicas (settled_sub old.map new.flight.messages)) ∙ ap length some.cores
    ∙ length-map old.replicas (settled_sub old.map old.flight.messages)

-- the core at a place, before what was in flight to another arrived
before_arrived : (f : Core → Core) (cores : List Core) (k : ℕ) (core : Core) → slice_get (map f cores) k ≡ Some core
    → (one : Core) × (slice_get cores k ≡ Some one) × (f one ≡ core)
before_arrived f cores k core there = by (slice_get cores k) refl (sym (slice_get-map f cores k) ∙ there) where
  by : (found : Option Core) → slice_get cores k ≡ found → option_map f found ≡ Some core
      → (one : Core) × (slice_get cores k ≡ Some one) × (f one ≡ core)
  by None none is = absurd (none-some core is)
  by (Some one) found is = (one, found, same_Some (f one) core is)

-- one core of a sub more
some_more_of_sub : (old : Bucket) (at : ℕ) (mid new : Bucket) (core : Core) → DeliversSome old at mid
    → slice_get mid.replicas at ≡ Some core → IsQuiet core → is_of_sub old.map core.core ≡ true
    → DeliversAllTo mid core.core new → DeliversSome old (at + 1) new
some_more_of_sub old at mid new core some there quiet of_sub one = record {
  name = record { first = one.name.first ∙ some.name.first; limit = one.name.limit ∙ some.name.limit; filed = one.name.filed ∙ some.name.filed };
  split = record { phase = one.split.phase ∙ some.split.phase; feeds = one.split.feeds ∙ some.split.feeds };
  map_is = one.map_is ∙ some.map_is;
  entries = one.entries ∙ some.entries;
  messages = ap (to_no_sub old.map) one.messages ∙ to_no_sub-left old.map mid.flight.messages core.core of_sub ∙ some.messages;
  cores = ap (λ messages. map (settled_sub old.map messages) new.replicas) one.messages
      ∙ ap (map (settled_sub old.map (left_by core.core mid.flight.messages))) one.cores
      ∙ same_cores mid.replicas ∙ some.cores;
  searchers_are = one.searchers_are ∙ some.searchers_are;
  settled = λ k other below at_k is.
      let (before, before_at, same) = before_arrived (arrived mid.flight.messages core.core) mid.replicas k other (now k other at_k) in
      let named : before.core ≡ other.core =
      sym (name-arrived mid.flight.messages core.core before) ∙ ap (λ (c : Core). c.core) same in
      subst (All (λ (message : Sent). is_to other.core message ≡ false)) (sym one.messages)
      (subst (λ (n : CoreId). All (λ (message : Sent). is_to n message ≡ false) (left_by core.core mid.flight.messages)) named
      (settled k before (cases_lt k at) below before_at (ap (is_of_sub old.map) named ∙ is)));
  quiet = λ k other below at_k.
      let (before, before_at, same) = before_arrived (arrived mid.flight.messages core.core) mid.replicas k other (now k other at_k) in
      subst IsQuiet same (IsQuiet-arrived mid.flight.messages core.core before (still k before (cases_lt k at) below before_at));
} where
  now : (k : ℕ) (other : Core) → slice_get new.replicas k ≡ Some other
      → slice_get (map (arrived mid.flight.messages core.core) mid.replicas) k ≡ Some other
  now k other at_k = ap (λ (cores : List Core). slice_get cores k) (sym one.cores) ∙ at_k

  here : (k : ℕ) (before : Core) → at ≤ k → k < at + 1 → slice_get mid.replicas k ≡ Some before → core ≡ before
  here k before low high before_at =
      let same : k ≡ at = omega arith in
      same_Some core before (sym there ∙ ap (slice_get mid.replicas) (sym same) ∙ before_at)

  settled : (k : ℕ) (before : Core) → (k < at) ⊎ (at ≤ k) → k < at + 1 → slice_get mid.replicas k ≡ Some before
      → is_of_sub old.map before.core ≡ true
      → All (λ (message : Sent). is_to before.core message ≡ false) (left_by core.core mid.flight.messages)
  settled k before (inl early) below before_at is =
      All-filter (λ (message : Sent). not (is_to core.core message)) (λ (message : Sent). is_to before.core message ≡ false)
      mid.flight.messages (some.settled k before early before_at is)
  settled k before (inr late) below before_at is =
      subst (λ (c : Core). All (λ (message : Sent). is_to c.core message ≡ false) (left_by core.core mid.flight.messages))
      (here k before late below before_at) (none_left core.core mid.flight.messages)

  still : (k : ℕ) (before : Core) → (k < at) ⊎ (at ≤ k) → k < at + 1 → slice_get mid.replicas k ≡ Some before → IsQuiet before
  still k before (inl early) below before_at = some.quiet k before early before_at
  still k before (inr late) below before_at = subst IsQuiet (here k before late below before_at) quiet

  same_cores : (cores : List Core)
      → map (settled_sub old.map (left_by core.core mid.flight.messages)) (map (arrived mid.flight.messages core.core) cores)
      ≡ map (settled_sub old.map mid.flight.messages) cores
  same_cores [] = refl
  same_cores (first ∷ cores) =
      let head = settled_sub-arrived old.map mid.flight.messages core.core first of_sub in
      let rest = same_cores cores in
      cc

-- or one of another slice
some_more_other : (old : Bucket) (at : ℕ) (mid : Bucket) (core : Core) → DeliversSome old at mid
    → slice_get mid.replicas at ≡ Some core → IsQuiet core → is_of_sub old.map core.core ≡ false
    → DeliversSome old (at + 1) mid
some_more_other old at mid core some there quiet other = record {
  name = some.name;
  split = some.split;
  map_is = some.map_is;
  entries = some.entries;
  messages = some.messages;
  cores = some.cores;
  searchers_are = some.searchers_are;
  settled = λ k one below at_k is. settled k one (cases_lt k at) below at_k is;
  quiet = λ k one below at_k. still k one (cases_lt k at) below at_k;
} where
  here : (k : ℕ) (one : Core) → at ≤ k → k < at + 1 → slice_get mid.replicas k ≡ Some one → core ≡ one
  here k one low high at_k =
      let same : k ≡ at = omega arith in
      same_Some core one (sym there ∙ ap (slice_get mid.replicas) (sym same) ∙ at_k)

  settled : (k : ℕ) (one : Core) → (k < at) ⊎ (at ≤ k) → k < at + 1 → slice_get mid.replicas k ≡ Some one
      → is_of_sub old.map one.core ≡ true → All (λ (message : Sent). is_to one.core message ≡ false) mid.flight.messages
  settled k one (inl early) below at_k is = some.settled k one early at_k is
  settled k one (inr late) below at_k is =
      let same = here k one late below at_k in
      let both : true ≡ false = sym is ∙ (ap (λ (c : Core). is_of_sub old.map c.core) (sym same) ∙ other) in
      absurd (cc)

  still : (k : ℕ) (one : Core) → (k < at) ⊎ (at ≤ k) → k < at + 1 → slice_get mid.replicas k ≡ Some one → IsQuiet one
  still k one (inl early) below at_k = some.quiet k one early at_k
  still k one (inr late) below at_k = subst IsQuiet (here k one late below at_k) quiet

-- so one more of either kind
pub DeliversSome-more : (old : Bucket) (at : ℕ) (mid new : Bucket) (core : Core) → DeliversSome old at mid
    → slice_get mid.replicas at ≡ Some core → IsQuiet core
    → (is_of_sub mid.map core.core ≡ true → DeliversAllTo mid core.core new)
    → (is_of_sub mid.map core.core ≡ false → new ≡ mid) → DeliversSome old (at + 1) new
DeliversSome-more old at mid new core some there quiet of_sub other = by (is_of_sub old.map core.core) refl where
  same : is_of_sub mid.map core.core ≡ is_of_sub old.map core.core
  same = ap (λ slices. is_of_sub slices core.core) some.map_is

  by : (b : Bool) → is_of_sub old.map core.core ≡ b → DeliversSome old (at + 1) new
  by true is = some_more_of_sub old at mid new core some there quiet is (of_sub (same ∙ is))
  by false is =
      subst (DeliversSome old (at + 1)) (sym (other (same ∙ is))) (some_more_other old at mid core some there quiet is)

-- once all cores were looked at no message is to a core of a sub
pub none_is_to_a_sub : (old : Bucket) (at : ℕ) (new : Bucket) → length old.replicas ≤ at → DeliversSome old at new
    → IsSound new → NoneIsToASub new
none_is_to_a_sub old at new all some sound =
    All-weaker (Contains new.flight.messages) (λ (message : Sent). is_of_sub new.map message.core ≡ false) other
    new.flight.messages (All-contains_itself new.flight.messages)
  where
    other : (message : Sent) → Contains new.flight.messages message → is_of_sub new.map message.core ≡ false
    other message there = false_from_ne_true (is_of_sub new.map message.core) (λ is.
        let sent = All-contains (IsSent new) new.flight.messages message sound.messages.each there in
        let (k, core, at_k, named) = element_from_map name_of new.replicas message.core sent.core in
        let within = slice_get_within new.replicas k core at_k in
        let sub : is_of_sub old.map core.core ≡ true =
        ap (is_of_sub old.map) named ∙ (ap (λ slices. is_of_sub slices message.core) (sym some.map_is) ∙ is) in
        let none = some.settled k core (omega (arith, within, length-some old at new some)) at_k sub in
        let differ : is_core core.core message.core ≡ false =
        All-contains (λ (m : Sent). is_to core.core m ≡ false) new.flight.messages message none there in
        let both : true ≡ false = sym ((is_core-Decides core.core message.core).1 named) ∙ differ in
        cc)

-- so a core that was settled stays
settled_already : (b : Bucket) (core : Core) → NoneIsToASub b → settled_sub b.map b.flight.messages core ≡ core
settled_already b core none = by (is_of_sub b.map core.core) refl where
  by : (t : Bool) → is_of_sub b.map core.core ≡ t
      → cond t (received_all core (in_flight b.flight.messages core.core)) core ≡ core
  by false other = refl
  by true is = ap (received_all core) (in_flight-to_sub b core.core none is)

-- and all that was in flight to the cores of the subs is delivered
pub DeliversToSubs-all : (old : Bucket) (at : ℕ) (new : Bucket) → length old.replicas ≤ at → DeliversSome old at new
    → IsSound new → DeliversToSubs old new
DeliversToSubs-all old at new looked some sound =
    let none = none_is_to_a_sub old at new looked some sound in
    let all : to_no_sub old.map new.flight.messages ≡ new.flight.messages =
    ap (λ slices. to_no_sub slices new.flight.messages) (sym some.map_is)
    ∙ filter-all (λ (message : Sent). not (is_of_sub new.map message.core)) new.flight.messages
    (All-weaker (λ (message : Sent). is_of_sub new.map message.core ≡ false) (λ (message : Sent). not (is_of_sub new.map message.core) ≡ true)
    (λ message. ap not) new.flight.messages none) in
    let kept : map (settled_sub old.map new.flight.messages) new.replicas ≡ new.replicas =
    ap (λ slices. map (settled_sub slices new.flight.messages) new.replicas) (sym some.map_is)
    ∙ map-kept (settled_sub new.map new.flight.messages) new.replicas (λ k d below. settled_already new _ none) in
    record {
      name = some.name;
      split = some.split;
      map_is = some.map_is;
      entries = some.entries;
      messages = sym all ∙ some.messages;
      cores = sym kept ∙ some.cores;
      searchers_are = some.searchers_are;
    }

pub quiet_all : (old : Bucket) (at : ℕ) (new : Bucket) → length old.replicas ≤ at → DeliversSome old at new
    → All IsQuiet new.replicas
quiet_all old at new looked some = All-from_slice_get IsQuiet new.replicas (λ k core at_k.
    some.quiet k core (omega (arith, slice_get_within new.replicas k core at_k, length-some old at new some)) at_k)

-- the names and modes of the cores stay
AreAlike-settled : (slices : List Slice) (messages : List Sent) (cores : List Core)
    → AreAlike cores (map (settled_sub slices messages) cores)
AreAlike-settled slices messages cores = AreAlike-map (settled_sub slices messages) keeps cores where
  keeps : (core : Core) → name_and_mode (settled_sub slices messages core) ≡ name_and_mode core
  keeps core = by (is_of_sub slices core.core) where
    by : (b : Bool) → name_and_mode (cond b (received_all core (in_flight messages core.core)) core) ≡ name_and_mode core
    by true = name_and_mode-all core (in_flight messages core.core)
    by false = refl

pub AreAlike-to_subs : (old new : Bucket) → DeliversToSubs old new → AreAlike old.replicas new.replicas
AreAlike-to_subs old new all =
    subst (AreAlike old.replicas) (sym all.cores) (AreAlike-settled old.map old.flight.messages old.replicas)
