-- Facts on the feeds of a part.
use Rattle.std.proofs.Common.{◌≡◌, ℕ, zero, suc, ◌+◌, Bool, true, false, List, [], ◌∷◌, map, Some, slice_get, Contains, refl, sym, ap, ◌∙◌, subst, arith}
use Rattle.std.specs.Prelude.{slice_set}
use Rattle.std.specs.List.{IsDistinct, AllByRecursion, remove}
use Rattle.std.proofs.lemmas.Map.Keys.{IsDistinct-head}
use Rattle.sc_record.specs.Names.{is_core}
use Rattle.sc_record.specs.declared.slice.CoreId.{CoreId}
use Rattle.sc_cluster.proofs.PairLemmas.{Contains-from_map}
use Rattle.sc_replicas.proofs.CoreLemmas.{is_core-itself}
use Rattle.sc_handover.specs.Made.{feed_limit}
use Rattle.sc_keeper.specs.declared.part.FeedPart.{FeedPart}
use Rattle.sc_keeper.specs.declared.part.Part.{Part}
use Rattle.sc_keeper.specs.Conditions.{MayFeed}
use Rattle.sc_keeper.specs.Events.{PartFeeds}
use Rattle.sc_split.specs.Buckets.{fed_names, KeepsCores}

-- the core of a feed
abbrev fed_core : FeedPart → CoreId
fed_core feed = feed.core

-- an element is changed, and what is asked of it stays
map-set_kept : {A B : Type 0} (f : A → B) (xs : List A) (at : ℕ) (x y : A) → slice_get xs at ≡ Some x → f y ≡ f x
    → map f (slice_set xs at y) ≡ map f xs
map-set_kept f [] at x y found same = absurd (cc)
map-set_kept f (first ∷ xs) zero x y found same =
    let here : first ≡ x = cc in ap (λ one. one ∷ map f xs) (same ∙ ap f (sym here))
map-set_kept f (first ∷ xs) (suc at) x y found same = ap (λ rest. f first ∷ rest) (map-set_kept f xs at x y found same)

-- a feed that is found is of none of these names' cores
none_found : (name : CoreId) (feeds : List FeedPart) (at : ℕ) (feed : FeedPart)
    → AllByRecursion (λ other. is_core name other ≡ false) (map fed_core feeds) → slice_get feeds at ≡ Some feed
    → is_core name feed.core ≡ false
none_found name [] at feed none found = absurd (cc)
none_found name (first ∷ feeds) zero feed none found =
    let here : first ≡ feed = cc in subst (λ (f : FeedPart). is_core name f.core ≡ false) here none.0
none_found name (first ∷ feeds) (suc at) feed none found = none_found name feeds at feed none.1 found

-- the feed of the first core is the first, and the others are left without it
removed_first : (name : CoreId) (names : List CoreId) (feeds : List FeedPart) (at : ℕ) (feed : FeedPart) → IsDistinct is_core (name ∷ names)
    → map fed_core feeds ≡ name ∷ names → slice_get feeds at ≡ Some feed → feed.core ≡ name → map fed_core (remove feeds at) ≡ names
removed_first name names [] at feed once fed found is = absurd (cc)
removed_first name names (first ∷ feeds) zero feed once fed found is = cc
removed_first name names (first ∷ feeds) (suc at) feed once fed found is =
    let rest : map fed_core feeds ≡ names = cc in
    let none = none_found name feeds at feed
    (subst (AllByRecursion (λ other. is_core name other ≡ false)) (sym rest) (IsDistinct-head is_core name names once)) found in
    let both : true ≡ false = sym (is_core-itself name) ∙ sym (ap (is_core name) is) ∙ none in
    absurd (cc)

-- the first core may be fed
pub may_feed_first : (part : Part) (name : CoreId) (names : List CoreId) → fed_names part ≡ name ∷ names → MayFeed part name
may_feed_first part name names fed =
    let found = Contains-from_map fed_core part.feeds name (subst (λ here. Contains here name) (sym fed) (0, omega arith, refl)) in
    found

-- a piece that is not the last leaves the same cores to be fed
pub fed_names-piece : (old new : Part) (name : CoreId) → PartFeeds old name false new → fed_names new ≡ fed_names old
fed_names-piece old new name fed =
    ap (map fed_core) fed.feeds_are
    ∙ map-set_kept fed_core old.feeds fed.feed_at fed.feed (record fed.feed { next = fed.feed.next + feed_limit }) fed.feed_found refl

-- the last leaves those after the first
pub fed_names-last : (old new : Part) (name : CoreId) (names : List CoreId) → IsDistinct is_core (name ∷ names)
    → fed_names old ≡ name ∷ names
    → PartFeeds old name true new → fed_names new ≡ names
fed_names-last old new name names once fed feeds =
    ap (map fed_core) feeds.feeds_are ∙ removed_first name names old.feeds feeds.feed_at feeds.feed once fed feeds.feed_found feeds.feed_is

-- no core was changed by a piece after others
pub kept-fed : (old between new : Part) (name : CoreId) (is_done : Bool) → KeepsCores old between
    → PartFeeds between name is_done new → KeepsCores old new
kept-fed old between new name is_done kept fed = record {
  rest = record {
    map_is = fed.rest.map_is ∙ kept.rest.map_is;
    phase_is = fed.rest.phase_is ∙ kept.rest.phase_is;
    entries_are = fed.rest.entries_are ∙ kept.rest.entries_are;
  };
  cores_are = fed.cores_are ∙ kept.cores_are;
}
