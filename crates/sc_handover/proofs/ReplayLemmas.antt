-- A core without a feed that begins to replay, or replays a piece: the bucket is sound.
use Rattle.std.proofs.Common.{◌≡◌, ◌≢◌, ℕ, ◌≤◌, Bool, true, false, List, ◌++◌, length, get_or, set, take, drop, slice_get, Option, Some, Contains, refl, sym, ap, ◌∙◌, subst, append_assoc, arith}
use Rattle.std.proofs.lemmas.Bool.{false_from_ne_true}
use Rattle.std.proofs.lemmas.List.{get_or-set_other, length-set, take-append-drop}
use Rattle.std.proofs.lemmas.Option.{get_or_from_slice_get}
use Rattle.sc_record.specs.declared.slice.CoreId.{CoreId}
use Rattle.sc_record.specs.Writes.{Write}
use Rattle.sc_ulog.specs.declared.mode.Mode.{Mode}
use Rattle.sc_ulog.specs.declared.mode.Mode.TheVariants.{Active, Buffering, Replaying}
use Rattle.sc_replica.specs.Core.{Core, fed_all, mode_left, replayed, replay_limit}
use Rattle.sc_replica.specs.Deliveries.{replaying}
use Rattle.sc_replica.proofs.CoreLemmas.{mode-fed_all}
use Rattle.sc_bucket.specs.Kept.{FeedState}
use Rattle.sc_bucket.specs.Flight.{in_flight}
use Rattle.sc_bucket.specs.Pending.{is_feed_of, to_feed}
use Rattle.sc_bucket.specs.Sound.{HasSpare, IsFeed, AreFeeds, IsSound}
use Rattle.sc_bucket.specs.declared.bucket.Bucket.{Bucket}
use Rattle.sc_replicas.proofs.CoreLemmas.{is_core-Decides, IsCoreFound}
use Rattle.sc_bucket.proofs.PendingLemmas.{length-pending}
use Rattle.sc_bucket.proofs.SoundLemmas.{All-slice_get, name_and_mark}
use Rattle.sc_bucket.proofs.TakenLemmas.{Contains-slice_get}
use Rattle.sc_bucket.proofs.DeliveredLemmas.{IsSoundCore, fed_all_is_sound, other_log_is_sound}
use Rattle.sc_bucket.proofs.DeliverLemmas.{IsSoundIn, place_of_core, named_at}
use Rattle.sc_replicas.specs.Cores.{IsCoreWithoutRoom}
use Rattle.sc_bucket.proofs.InOrderLemmas.{in_order-replaying, in_order-replayed}
use Rattle.sc_handover.specs.Conditions.{IsInMode, IsUnfed, CanStartReplay, CanReplay}
use Rattle.sc_handover.specs.Events.{ChangesCore, StartsReplay, ReplaysPiece}
use Rattle.sc_handover.proofs.ChangedLemmas.{with_fed, IsFeed-with_fed, IsSoundIn-parts, IsSound-core_changed}
use Rattle.sc_handover.proofs.EachCoreLemmas.{core_in}
use Rattle.sc_handover.proofs.LastWriteLemmas.{same_from_key}
use Rattle.sc_handover.proofs.FedLemmas.{name-fed_all, name_and_mark-fed_all}

-- two cores of one name are one
one_by_name : (b : Bucket) (one other : Core) → IsSound b → Contains b.replicas one → Contains b.replicas other
    → one.core ≡ other.core → one ≡ other
one_by_name b one other sound there other_there same =
    same_from_key b.replicas one other sound.cores.ascend there other_there
    (ap (λ (name : CoreId). (name.slice.0, name.replica)) same)

-- so the core at a place is in the mode in which the core of its name is
in_mode : (b : Bucket) (name : CoreId) (mode : Mode) (at : ℕ) (core : Core) → IsSound b → IsInMode b name mode
    → slice_get b.replicas at ≡ Some core → core.core ≡ name → core.mode ≡ mode
in_mode b name mode at core sound (known, inside, named, is_mode) there is =
    let same = one_by_name b known core sound inside (Contains-slice_get b.replicas at core there) (named ∙ sym is) in
    ap (λ (c : Core). c.mode) (sym same) ∙ is_mode

-- and so is each that is where that name was found
pub mode_at : (b : Bucket) (name : CoreId) (mode : Mode) (found : Option ℕ) (at : ℕ) (core : Core) → IsSound b
    → IsInMode b name mode → IsCoreFound b.replicas name found → found ≡ Some at → slice_get b.replicas at ≡ Some core
    → core.mode ≡ mode
mode_at b name mode found at core sound known is found_at there =
    let (other, other_there, of_name) = place_of_core b.replicas name found at is found_at in
    let named = named_at b.replicas name at core other there other_there of_name in
    in_mode b name mode at core sound known there (sym ((is_core-Decides name core.core).0 named))

-- the core of a name is changed, where the one is that was found by it
abbrev pub ChangesCore-found : (b : Bucket) (name : CoreId) (found : Option ℕ) (at : ℕ) (change : Core → Core)
    (new : Bucket) → IsCoreFound b.replicas name found → found ≡ Some at
    → ((core : Core) → slice_get b.replicas at ≡ Some core → new.replicas ≡ set b.replicas at (change core))
    → ChangesCore b name change new
ChangesCore-found b name found at change new is found_at changed =
    let core = place_of_core b.replicas name found at is found_at in
    record {
      core_at = at;
      core = core.0;
      core_found = core.1;
      core_is = sym ((is_core-Decides name core.0.core).0 core.2);
      cores = changed core.0 core.1;
    }

-- a core that doesn't buffer has no feed
unfed_replaying : (b : Bucket) (core : Core) → IsSound b → Contains b.replicas core → core.mode ≡ Replaying
    → IsUnfed b core.core
unfed_replaying b core sound there replays k d below =
    let is : IsFeed b (get_or b.feeds k d) = sound.feeds.each k d below in
    false_from_ne_true (is_feed_of core.core (get_or b.feeds k d)) (λ of_core.
    let named : core.core ≡ is.core.core =
    (is_core-Decides core.core (get_or b.feeds k d).core).0 of_core ∙ sym is.core_is in
    let same : core ≡ is.core = one_by_name b core is.core sound there is.core_there named in
    let modes : Replaying ≡ Buffering = sym replays ∙ ap (λ (c : Core). c.mode) same ∙ is.buffering in
    cc)

-- a core of another name stays where the one at a place is changed
stays : (b : Bucket) (at : ℕ) (core new other : Core) → slice_get b.replicas at ≡ Some core → other.core ≢ core.core
    → Contains b.replicas other → Contains (set b.replicas at new) other
stays b at core new other there apart (j, inside, here) = (
  j,
  omega (arith, inside, length-set b.replicas at new),
  get_or-set_other b.replicas at j new other (λ same. apart (ap (λ (c : Core). c.core)
      (sym here ∙ ap (λ i. get_or b.replicas i other) same
      ∙ get_or_from_slice_get b.replicas at core other there))) ∙ here,
)

-- so the feeds are still of cores that buffer where the one that is changed has none
AreFeeds-unfed : (b : Bucket) (at : ℕ) (core new : Core) → AreFeeds b → slice_get b.replicas at ≡ Some core
    → IsUnfed b core.core
    → AreFeeds (with_fed b b.feeds (set b.replicas at new))
AreFeeds-unfed b at core new are there unfed = record {
  each = λ k d below.
      let feed : FeedState = get_or b.feeds k d in
      let is : IsFeed b feed = are.each k d below in
      let apart : is.core.core ≢ core.core =
      λ same. let both : true ≡ false = sym ((is_core-Decides core.core feed.core).1 (sym same ∙ is.core_is)) ∙ unfed k d below in cc in
      IsFeed-with_fed b b.feeds (set b.replicas at new) feed feed.next is
      (stays b at core new is.core there apart is.core_there) is.within;
  once = are.once;
}

-- a core that has no feed and isn't active was changed
IsSound-unfed : (b : Bucket) (at : ℕ) (core new : Core) → IsSound b → slice_get b.replicas at ≡ Some core
    → IsUnfed b core.core
    → core.mode ≢ Active → name_and_mark new ≡ name_and_mark core → (IsCoreWithoutRoom core → IsCoreWithoutRoom new)
    → IsSoundIn (with_fed b b.feeds (set b.replicas at new)) b.flight.messages new
    → IsSound (with_fed b b.feeds (set b.replicas at new))
IsSound-unfed b at core new sound there unfed passive same in_order own =
    IsSound-core_changed b b.feeds at core new sound there same (λ active. absurd (passive active)) in_order own
    (λ name apart. refl)
    (AreFeeds-unfed b at core new sound.feeds there unfed)

-- it is sound where a core that buffers and has no feed begins to replay
IsSound-replaying : (b : Bucket) (at : ℕ) (core : Core) → IsSound b → slice_get b.replicas at ≡ Some core
    → core.mode ≡ Buffering → IsUnfed b core.core
    → IsSound (with_fed b b.feeds (set b.replicas at (replaying core)))
IsSound-replaying b at core sound there buffers unfed =
    IsSound-unfed b at core (replaying core) sound there unfed passive refl (in_order-replaying core)
    (other_log_is_sound b.map b.journal.entries (in_flight b.flight.messages core.core)
    (in_flight b.flight.messages core.core ++ core.buffer ++ to_feed b.feeds core.core) core Replaying core.buffer
    (λ active. absurd (passive active))
    (core_in b core sound (Contains-slice_get b.replicas at core there)))
  where
    passive : core.mode ≢ Active
    passive active = let both : Buffering ≡ Active = sym buffers ∙ active in absurd (cc)

-- so it is sound where the core of a name began to
pub IsSound-started : (b : Bucket) (name : CoreId) (cores : List Core) → IsSound b → CanStartReplay b name
    → StartsReplay b name (with_fed b b.feeds cores) → IsSound (with_fed b b.feeds cores)
IsSound-started b name cores sound can starts =
    let is = starts.changed in
    subst (λ (these : List Core). IsSound (with_fed b b.feeds these)) (sym is.cores)
    (IsSound-replaying b is.core_at is.core sound is.core_found
    (in_mode b name Buffering is.core_at is.core sound can.0 is.core_found is.core_is)
    (subst (IsUnfed b) (sym is.core_is) can.1))

-- the core has room for all that it buffered
pub room_to_replay : (b : Bucket) (at : ℕ) (core : Core) → IsSound b → slice_get b.replicas at ≡ Some core
    → length core.buffer ≤ core.cell_spare
room_to_replay b at core sound there =
    let spare = All-slice_get (HasSpare b.flight.messages b.feeds) b.replicas at core sound.room there in
    omega (arith, spare.cells, length-pending b.flight.messages b.feeds core)

-- it is sound where a core that replays replays a piece
IsSound-replayed : (b : Bucket) (at : ℕ) (core : Core) → IsSound b → slice_get b.replicas at ≡ Some core
    → core.mode ≡ Replaying → IsSound (with_fed b b.feeds (set b.replicas at (replayed core)))
IsSound-replayed b at core sound there replays =
    IsSound-unfed b at core (replayed core) sound there
    (unfed_replaying b core sound (Contains-slice_get b.replicas at core there) replays)
    passive (name_and_mark-fed_all core these) (in_order-replayed core)
    (IsSoundIn-parts b b.feeds (set b.replicas at (replayed core)) (replayed core) core.core left fed
    (name-fed_all core these) refl refl
    (other_log_is_sound b.map b.journal.entries sent (sent ++ left ++ fed) (fed_all core these) (mode_left left) left
    (λ active. absurd (passive (sym (mode-fed_all core these) ∙ active)))
    (subst (λ (writes : List Write). IsSoundCore b.map b.journal.entries sent writes (fed_all core these))
    (sym (append_assoc sent left fed))
    (fed_all_is_sound b.first b.map b.journal.entries sent sent these (left ++ fed) core sound.journal.legal
    (subst (λ (writes : List Write). IsSoundCore b.map b.journal.entries sent writes core) split
    (core_in b core sound (Contains-slice_get b.replicas at core there)))))))
  where
    these : List Write
    these = take replay_limit core.buffer

    left : List Write
    left = drop replay_limit core.buffer

    sent : List Write
    sent = in_flight b.flight.messages core.core

    fed : List Write
    fed = to_feed b.feeds core.core

    passive : core.mode ≢ Active
    passive active = let both : Replaying ≡ Active = sym replays ∙ active in absurd (cc)

    split : sent ++ core.buffer ++ fed ≡ sent ++ (these ++ (left ++ fed))
    split =
        ap (λ (writes : List Write). sent ++ writes ++ fed) (sym (take-append-drop replay_limit core.buffer))
        ∙ append_assoc sent (these ++ left) fed
        ∙ ap (λ (writes : List Write). sent ++ writes) (append_assoc these left fed)

-- so it is sound where the core of a name replayed one
pub IsSound-piece_replayed : (b : Bucket) (name : CoreId) (is_done : Bool) (cores : List Core) → IsSound b
    → CanReplay b name → ReplaysPiece b name is_done (with_fed b b.feeds cores) → IsSound (with_fed b b.feeds cores)
IsSound-piece_replayed b name is_done cores sound can replays =
    let is = replays.changed in
    subst (λ (these : List Core). IsSound (with_fed b b.feeds these)) (sym is.cores)
    (IsSound-replayed b is.core_at is.core sound is.core_found
    (in_mode b name Replaying is.core_at is.core sound can is.core_found is.core_is))
