-- Facts on a part one of whose cores replays.
use Rattle.std.proofs.Common.{◌≡◌, Bool, true, false, cond, List, [], ◌∷◌, map, All, Contains, refl, sym, ap, ◌∙◌, subst}
use Rattle.std.specs.Prelude.{if◌then◌else◌, ◌||◌}
use Rattle.std.specs.List.{IsDistinct, AllByRecursion, list_any}
use Rattle.std.proofs.lemmas.List.Elements.{All-nil, All-head, All-tail, All-contains}
use Rattle.std.proofs.lemmas.Map.Keys.{IsDistinct-head, IsDistinct-tail}
use Rattle.sc_record.specs.Names.{is_core}
use Rattle.sc_record.specs.declared.slice.CoreId.{CoreId}
use Rattle.sc_cluster.specs.declared.plan.SplitPlan.{SplitPlan}
use Rattle.sc_ulog.specs.declared.mode.Mode.{Mode}
use Rattle.sc_ulog.specs.declared.mode.Mode.TheVariants.{Active, Buffering, Replaying}
use Rattle.sc_replicas.specs.Cores.{is_of_one}
use Rattle.sc_replicas.proofs.CoreLemmas.{is_core-Decides, is_core-itself}
use Rattle.sc_bucket.proofs.LeftOutLemmas.{apart_too}
use Rattle.sc_cluster.proofs.PairLemmas.{Contains-from_map}
use Rattle.sc_handover.specs.Conditions.{split_of}
use Rattle.sc_keeper.specs.declared.part.CorePart.{CorePart}
use Rattle.sc_keeper.specs.declared.part.FeedPart.{FeedPart}
use Rattle.sc_keeper.specs.declared.part.Part.{Part}
use Rattle.sc_keeper.specs.Conditions.{MayStartReplay, MayReplay}
use Rattle.sc_keeper.specs.Events.{KeepsPartRest, PartStartsReplay, PartReplays, replayed_part}
use Rattle.sc_split.specs.Buckets.{core_names, mode_among, AreToFill, KeepsSeats, IsUnderway}
use Rattle.sc_split.proofs.ModeLemmas.{core_name, shown, put_mode, shown-set, put_modes-twice, kept-put_mode, All-put_mode}

-- the part with the core of this name in this mode, and all else as it was but for what cores have to replay
pub record HasPutMode (old : Part) (name : CoreId) (mode : Mode) (part : Part) : Type 0 where
  pub rest : KeepsPartRest old part
  pub feeds_are : part.feeds ≡ old.feeds
  pub cores_are : map shown part.cores ≡ map (put_mode name mode) (map shown old.cores)

-- the names are the same
pub names-put : (old part : Part) (name : CoreId) (mode : Mode) → HasPutMode old name mode part → core_names part ≡ core_names old
names-put old part name mode put = kept-put_mode core_name name mode old.cores part.cores (λ core. refl) (λ core. refl) put.cores_are

-- so are the seats
pub seats-put : (old part : Part) (name : CoreId) (mode : Mode) → HasPutMode old name mode part → KeepsSeats old part
seats-put old part name mode put = record {
  rest = put.rest;
  seats = kept-put_mode (λ (core : CorePart). (core.name, core.number)) name mode old.cores part.cores (λ core. refl)
      (λ core. refl) put.cores_are;
}

-- the core begins to replay
pub put-started : (old new : Part) (name : CoreId) → IsDistinct is_core (core_names old) → PartStartsReplay old name new
    → HasPutMode old name Replaying new
put-started old new name apart started =
    let changed = started.changed in
    record {
      rest = started.rest;
      feeds_are = started.feeds_are;
      cores_are = ap (map shown) changed.cores_are
          ∙ shown-set name Replaying old.cores changed.core_at changed.core
          (record changed.core { mode = Replaying; left = started.left }) apart changed.core_found changed.core_is refl;
    }

-- it has replayed a piece
pub put-replayed : (old part new : Part) (name : CoreId) (is_done : Bool) → IsDistinct is_core (core_names old)
    → HasPutMode old name Replaying part → PartReplays part name is_done new
    → HasPutMode old name (if is_done then Active else Replaying) new
put-replayed old part new name is_done apart put replays = record {
  rest = record {
    map_is = replays.rest.map_is ∙ put.rest.map_is;
    phase_is = replays.rest.phase_is ∙ put.rest.phase_is;
    entries_are = replays.rest.entries_are ∙ put.rest.entries_are;
  };
  feeds_are = replays.feeds_are ∙ put.feeds_are;
  cores_are = ap (map shown) replays.changed.cores_are
      ∙ shown-set name mode part.cores replays.changed.core_at replays.changed.core (replayed_part is_done replays.changed.core)
      (subst (IsDistinct is_core) (sym (names-put old part name Replaying put)) apart) replays.changed.core_found
      replays.changed.core_is (shows is_done)
      ∙ ap (map (put_mode name mode)) put.cores_are ∙ put_modes-twice name Replaying mode (map shown old.cores);
}
  where
    mode : Mode
    mode = if is_done then Active else Replaying

    shows : (b : Bool) → shown (replayed_part b replays.changed.core) ≡ record
        (shown replays.changed.core) { mode = cond b Active Replaying }
    shows true = refl
    shows false = ap (λ (m : Mode). record (shown replays.changed.core) { mode = m }) replays.replaying

-- the part has a core of this name, of which this is so
pub core_there : (P : CorePart → Type 0) (part : Part) (name : CoreId) → Contains (core_names part) name → All P part.cores
    → (core : CorePart) × Contains part.cores core × (core.name ≡ name) × P core
core_there P part name there all =
    let found = Contains-from_map core_name part.cores name there in
    (found.0, found.1, found.2, All-contains P part.cores found.0 all found.1)

-- a core that is among those to fill buffers
mode_among-first : (name : CoreId) (names : List CoreId) → mode_among (name ∷ names) name ≡ Buffering
mode_among-first name names = ap (λ (b : Bool). cond (b || list_any (is_core name) names) Buffering Active) (is_core-itself name)

-- another that is not the first is among the rest
mode_among-other : (name other : CoreId) (names : List CoreId) → is_core name other ≡ false
    → mode_among (name ∷ names) other ≡ mode_among names other
mode_among-other name other names apart =
    ap (λ (b : Bool). cond (b || list_any (is_core other) names) Buffering Active) (apart_too name other apart)

-- none of them is this core
any-none : (name : CoreId) (names : List CoreId) → AllByRecursion (λ other. is_core name other ≡ false) names → list_any
    (is_core name) names ≡ false
any-none name [] none = refl
any-none name (other ∷ names) none = ap (λ (b : Bool). b || list_any (is_core name) names) none.0 ∙ any-none name names none.1

-- the first of those that are to be filled may start to replay, where none is fed
pub starts_first : (part : Part) (name : CoreId) (names : List CoreId) → AreToFill part (name ∷ names) → part.feeds ≡ []
    → MayStartReplay part name
starts_first part name names to_fill unfed =
    let found = core_there (λ core. core.mode ≡ mode_among (name ∷ names) core.name) part name
    (All-head (Contains (core_names part)) name names to_fill.there) to_fill.modes in (
      (found.0, found.1, found.2, found.3 ∙ ap (mode_among (name ∷ names)) found.2 ∙ mode_among-first name names),
      subst (All (λ (feed : FeedPart). is_core name feed.core ≡ false)) (sym unfed) (All-nil (λ
          (feed : FeedPart). is_core name feed.core ≡ false)),
    )

-- it may replay once it has started
pub replays_first : (old part : Part) (name : CoreId) (names : List CoreId) → AreToFill old (name ∷ names)
    → HasPutMode old name Replaying part
    → MayReplay part name
replays_first old part name names to_fill put =
    let modes : All (λ (core : CorePart). is_core name core.name ≡ true → core.mode ≡ Replaying) part.cores =
    All-put_mode (λ other was. was ≡ mode_among (name ∷ names) other) (λ other now. is_core name other ≡ true → now ≡ Replaying)
    name Replaying old.cores part.cores (λ other was same is again. refl)
    (λ other was differs is same. let both : true ≡ false = sym same ∙ differs in absurd (cc)) put.cores_are to_fill.modes in
    let found = core_there (λ core. is_core name core.name ≡ true → core.mode ≡ Replaying) part name
    (subst (λ names. Contains names name) (sym (names-put old part name Replaying put))
    (All-head (Contains (core_names old)) name names to_fill.there)) modes in
    (found.0, found.1, found.2, found.3 ((is_core-Decides name found.0.name).1 (sym found.2)))

-- once it is active it is no longer to be filled
pub filled_first : (old part : Part) (name : CoreId) (names : List CoreId) → AreToFill old (name ∷ names) → HasPutMode old name Active part
    → AreToFill part names
filled_first old part name names to_fill put = record {
  apart = subst (IsDistinct is_core) (sym same) to_fill.apart;
  once = IsDistinct-tail is_core name names to_fill.once;
  there = subst (λ here. All (Contains here) names) (sym same) (All-tail (Contains (core_names old)) name names to_fill.there);
  modes = All-put_mode (λ other was. was ≡ mode_among (name ∷ names) other) (λ other now. now ≡ mode_among names other)
      name Active old.cores part.cores (λ other was is before. here other is)
      (λ other was differs before. before ∙ mode_among-other name other names differs) put.cores_are to_fill.modes;
}
  where
    same : core_names part ≡ core_names old
    same = names-put old part name Active put

    here : (other : CoreId) → is_core name other ≡ true → Active ≡ mode_among names other
    here other is =
        sym (ap (mode_among names) (sym ((is_core-Decides name other).0 is))
        ∙ ap (λ (b : Bool). cond b Buffering Active) (any-none name names (IsDistinct-head is_core name names to_fill.once)))

-- a split stays underway, since only a core that is to be filled was changed
pub underway-put : (old part : Part) (name : CoreId) (names : List CoreId) (mode : Mode) → AreToFill old (name ∷ names)
    → HasPutMode old name mode part
    → (base : Part) (plan : SplitPlan) → IsUnderway base plan old → IsUnderway base plan part
underway-put old part name names mode to_fill put base plan underway = record {
  planned = underway.planned;
  map_is = put.rest.map_is ∙ underway.map_is;
  is_open = ap split_of put.rest.phase_is ∙ underway.is_open;
  entries = put.rest.entries_are ∙ underway.entries;
  active = All-put_mode Both (λ other now. is_of_one base.map other ≡ true → now ≡ Active)
      name mode old.cores part.cores here (λ other was differs both. both.1) put.cores_are
      (λ k d below. (to_fill.modes k d below, underway.active k d below));
}
  where
    Both : CoreId → Mode → Type 0
    Both other was = (was ≡ mode_among (name ∷ names) other) × (is_of_one base.map other ≡ true → was ≡ Active)

    here : (other : CoreId) (was : Mode) → is_core name other ≡ true → Both other was → is_of_one base.map other ≡ true → mode ≡ Active
    here other was is both of_base =
        let buffers : was ≡ Buffering =
        both.0 ∙ ap (mode_among (name ∷ names)) (sym ((is_core-Decides name other).0 is)) ∙ mode_among-first name names in
        let active : was ≡ Active = both.1 of_base in
        let clash : Buffering ≡ Active = sym buffers ∙ active in
        absurd (cc)
