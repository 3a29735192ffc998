-- Facts on the cores of a bucket as they are filled one after another.
use Rattle.std.proofs.Common.{◌≡◌, ◌<◌, ◌≤◌, ◌+◌, ℕ, zero, suc, true, List, [], ◌∷◌, length, get_or, drop, map, All, Contains, refl, sym, ap, ◌∙◌, subst, add-one, arith}
use Rattle.std.specs.List.{IsDistinct}
use Rattle.std.proofs.lemmas.Map.Keys.{IsDistinct-tail}
use Rattle.sc_record.specs.Names.{is_core}
use Rattle.sc_record.specs.declared.slice.CoreId.{CoreId}
use Rattle.sc_cluster.specs.declared.plan.SplitPlan.{SplitPlan}
use Rattle.sc_ulog.specs.declared.mode.Mode.TheVariants.{Active}
use Rattle.sc_replicas.specs.Cores.{is_of_one}
use Rattle.sc_handover.specs.Conditions.{split_of}
use Rattle.sc_keeper.specs.declared.part.CorePart.{CorePart}
use Rattle.sc_keeper.specs.declared.part.FeedPart.{FeedPart}
use Rattle.sc_keeper.specs.declared.part.Part.{Part}
use Rattle.sc_split.specs.Buckets.{core_names, fed_names, mode_among, seat_of, AreToFill, IsFirstFed, IsFilled, KeepsCores, KeepsSeats, IsUnderway}

-- the names from one on
names_after : (names : List CoreId) (i : ℕ) (name : CoreId) → i < length names → name ≡ get_or names i name
    → drop i names ≡ name ∷ drop (suc i) names
names_after [] i name below is = absurd (omega arith)
names_after (first ∷ names) zero name below is = ap (λ (one : CoreId). one ∷ names) (sym is)
names_after (first ∷ names) (suc i) name below is = names_after names i name (omega arith) is

pub names_from : (names : List CoreId) (i : ℕ) (name : CoreId) → i < length names → name ≡ get_or names i name
    → drop i names ≡ name ∷ drop (i + 1) names
names_from names i name below is = rw add-one (names_after names i name below is)

-- there is none after the last
pub names_past : (names : List CoreId) (i : ℕ) → length names ≤ i → drop i names ≡ []
names_past [] zero past = refl
names_past [] (suc i) past = refl
names_past (first ∷ names) zero past = absurd (omega arith)
names_past (first ∷ names) (suc i) past = names_past names i (omega arith)

-- no two of the later ones are one
once-drop : (names : List CoreId) (i : ℕ) → IsDistinct is_core names → IsDistinct is_core (drop i names)
once-drop names zero once = once
once-drop [] (suc i) once = once
once-drop (first ∷ names) (suc i) once = once-drop names i (IsDistinct-tail is_core first names once)

-- the next one has the first feed
pub first_fed : (part : Part) (names : List CoreId) (i : ℕ) (name : CoreId) → i < length names → name ≡ get_or names i name
    → IsDistinct is_core names → fed_names part ≡ drop i names → IsFirstFed part name
first_fed part names i name below is once fed = record {
  later = drop (i + 1) names;
  fed = fed ∙ names_from names i name below is;
  once = subst (IsDistinct is_core) (names_from names i name below is) (once-drop names i once);
}

-- where no name is left, there is no feed
pub unfed_by_names : (part : Part) → fed_names part ≡ [] → part.feeds ≡ []
unfed_by_names part none = by part.feeds none where
  by : (feeds : List FeedPart) → map (λ (feed : FeedPart). feed.core) feeds ≡ [] → feeds ≡ []
  by [] same = refl
  by (feed ∷ feeds) same = absurd (cc)

-- cores that were not changed, one time after another
pub kept-then : (old between new : Part) → KeepsCores old between → KeepsCores between new → KeepsCores old new
kept-then old between new one two = record {
  rest = record {
    map_is = two.rest.map_is ∙ one.rest.map_is;
    phase_is = two.rest.phase_is ∙ one.rest.phase_is;
    entries_are = two.rest.entries_are ∙ one.rest.entries_are;
  };
  cores_are = two.cores_are ∙ one.cores_are;
}

-- they keep their seats
pub seats-kept : (old new : Part) → KeepsCores old new → KeepsSeats old new
seats-kept old new kept = record { rest = kept.rest; seats = ap (map seat_of) kept.cores_are }

-- and so they do one time after another
pub seats-then : (old between new : Part) → KeepsSeats old between → KeepsSeats between new → KeepsSeats old new
seats-then old between new one two = record {
  rest = record {
    map_is = two.rest.map_is ∙ one.rest.map_is;
    phase_is = two.rest.phase_is ∙ one.rest.phase_is;
    entries_are = two.rest.entries_are ∙ one.rest.entries_are;
  };
  seats = two.seats ∙ one.seats;
}

-- the same are to be filled
pub to_fill-kept : (old new : Part) (names : List CoreId) → KeepsCores old new → AreToFill old names → AreToFill new names
to_fill-kept old new names kept to_fill = record {
  apart = subst (IsDistinct is_core) (sym same) to_fill.apart;
  once = to_fill.once;
  there = subst (λ here. All (Contains here) names) (sym same) to_fill.there;
  modes = subst (All (λ (core : CorePart). core.mode ≡ mode_among names core.name)) (sym kept.cores_are) to_fill.modes;
} where
  same : core_names new ≡ core_names old
  same = ap (map (λ (core : CorePart). core.name)) kept.cores_are

-- and a split stays underway
pub underway-kept : (base old new : Part) (plan : SplitPlan) → KeepsCores old new → IsUnderway base plan old → IsUnderway base plan new
underway-kept base old new plan kept underway = record {
  planned = underway.planned;
  map_is = kept.rest.map_is ∙ underway.map_is;
  is_open = ap split_of kept.rest.phase_is ∙ underway.is_open;
  entries = kept.rest.entries_are ∙ underway.entries;
  active = subst (All (λ (core : CorePart). is_of_one base.map core.name ≡ true → core.mode ≡ Active)) (sym kept.cores_are) underway.active;
}

-- with none left to fill and none fed, all are filled
pub is_filled : (part : Part) (names : List CoreId) → names ≡ [] → part.feeds ≡ [] → AreToFill part names → IsFilled part
is_filled part names none unfed to_fill = record {
  cores = subst (AreToFill part) none to_fill;
  fed = ap (map (λ (feed : FeedPart). feed.core)) unfed;
}
