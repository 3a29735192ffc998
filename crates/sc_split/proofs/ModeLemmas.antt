-- Facts on the cores of a part by their names and modes.
use Rattle.std.proofs.Common.{◌≡◌, ℕ, zero, suc, Bool, true, false, cond, List, [], ◌∷◌, map, Some, slice_get, All, refl, sym, ap, ◌∙◌, subst}
use Rattle.std.specs.Prelude.{if◌then◌else◌, slice_set}
use Rattle.std.specs.List.{IsDistinct, AllByRecursion}
use Rattle.std.proofs.lemmas.List.Elements.{All-nil, All-cons, All-head, All-tail, All-map, All-weaker}
use Rattle.std.proofs.lemmas.Map.Keys.{IsDistinct-head, IsDistinct-tail}
use Rattle.sc_record.specs.Names.{is_core}
use Rattle.sc_record.specs.declared.slice.CoreId.{CoreId}
use Rattle.sc_ulog.specs.declared.mode.Mode.{Mode}
use Rattle.sc_replicas.proofs.CoreLemmas.{is_core-Decides}
use Rattle.sc_bucket.proofs.LeftOutLemmas.{apart_too}
use Rattle.sc_keeper.specs.declared.part.CorePart.{CorePart}

-- the name of a core
abbrev pub core_name : CorePart → CoreId
core_name core = core.name

-- a core, whatever it has to replay
abbrev pub shown : CorePart → CorePart
shown core = record core { left = 0 }

-- the core in this mode, where it has this name
abbrev pub put_mode : CoreId → Mode → CorePart → CorePart
put_mode name mode core = record core { mode = if is_core name core.name then mode else core.mode }

-- a core of another name stays
put_mode-other : (name : CoreId) (mode : Mode) (core : CorePart) → is_core name core.name ≡ false → put_mode name mode core ≡ core
put_mode-other name mode core other = ap (λ (b : Bool). record core { mode = cond b mode core.mode }) other

-- so do all where none has the name
put_mode-none : (name : CoreId) (mode : Mode) (cores : List CorePart) → AllByRecursion (λ other. is_core name other ≡ false)
    (map core_name cores)
    → map (put_mode name mode) (map shown cores) ≡ map shown cores
put_mode-none name mode [] none = refl
put_mode-none name mode (core ∷ cores) none =
    ap (λ first. first ∷ map (put_mode name mode) (map shown cores)) (put_mode-other name mode (shown core) none.0)
    ∙ ap (λ rest. shown core ∷ rest) (put_mode-none name mode cores none.1)

-- it has the name, by a name that is the same
none_by : (one name : CoreId) (names : List CoreId) → one ≡ name → AllByRecursion (λ other. is_core one other ≡ false) names
    → AllByRecursion (λ other. is_core name other ≡ false) names
none_by one name names same none = subst (λ n. AllByRecursion (λ other. is_core n other ≡ false) names) same none

-- a core that is found among these names is none of theirs
other_name : (one : CoreId) (cores : List CorePart) (at : ℕ) (core : CorePart) → AllByRecursion (λ other. is_core one other ≡ false)
    (map core_name cores)
    → slice_get cores at ≡ Some core → is_core core.name one ≡ false
other_name one [] at core none found = absurd (cc)
other_name one (first ∷ cores) zero core none found =
    let same : first ≡ core = cc in
    apart_too one core.name (subst (λ (c : CorePart). is_core one c.name ≡ false) same none.0)
other_name one (first ∷ cores) (suc at) core none found = other_name one cores at core none.1 found

-- one core of distinct names is changed, and keeps its name and its number: its mode is put
pub shown-set : (name : CoreId) (mode : Mode) (cores : List CorePart) (at : ℕ) (core changed : CorePart)
    → IsDistinct is_core (map core_name cores) → slice_get cores at ≡ Some core → core.name ≡ name
    → shown changed ≡ record (shown core) { mode = mode }
    → map shown (slice_set cores at changed) ≡ map (put_mode name mode) (map shown cores)
shown-set name mode [] at core changed apart found named is = absurd (cc)
shown-set name mode (first ∷ cores) zero core changed apart found named is =
    let same : first ≡ core = cc in
    let here : is_core name first.name ≡ true = (is_core-Decides name first.name).1 (sym (ap core_name same ∙ named)) in
    ap (λ one. one ∷ map shown cores)
    (is ∙ ap (λ (c : CorePart). record (shown c) { mode = mode }) (sym same)
    ∙ ap (λ (b : Bool). record (shown first) { mode = cond b mode first.mode }) (sym here))
    ∙ ap (λ rest. put_mode name mode (shown first) ∷ rest)
    (sym (put_mode-none name mode cores
    (none_by first.name name (map core_name cores) (ap core_name same ∙ named) (IsDistinct-head is_core first.name
    (map core_name cores) apart))))
shown-set name mode (first ∷ cores) (suc at) core changed apart found named is =
    let other : is_core name first.name ≡ false =
    subst (λ n. is_core n first.name ≡ false) named
    (other_name first.name cores at core (IsDistinct-head is_core first.name (map core_name cores) apart) found) in
    ap (λ rest. shown first ∷ rest)
    (shown-set name mode cores at core changed (IsDistinct-tail is_core first.name (map core_name cores) apart) found named is)
    ∙ ap (λ one. one ∷ map (put_mode name mode) (map shown cores)) (sym (put_mode-other name mode (shown first) other))

-- the later mode counts
put_mode-twice : (name : CoreId) (one two : Mode) (core : CorePart) → put_mode name two (put_mode name one core) ≡ put_mode name two core
put_mode-twice name one two core = by (is_core name core.name) where
  by : (b : Bool) → record core { mode = cond b two (cond b one core.mode) } ≡ record core { mode = cond b two core.mode }
  by true = refl
  by false = refl

pub put_modes-twice : (name : CoreId) (one two : Mode) (cores : List CorePart)
    → map (put_mode name two) (map (put_mode name one) cores) ≡ map (put_mode name two) cores
put_modes-twice name one two [] = refl
put_modes-twice name one two (core ∷ cores) =
    ap (λ first. first ∷ map (put_mode name two) (map (put_mode name one) cores)) (put_mode-twice name one two core)
    ∙ ap (λ rest. put_mode name two core ∷ rest) (put_modes-twice name one two cores)

-- what does not ask for what is left or for the mode is the same of cores whose modes were put
pub kept-put_mode : {B : Type 0} (f : CorePart → B) (name : CoreId) (mode : Mode) (old new : List CorePart)
    → ((core : CorePart) → f (shown core) ≡ f core) → ((core : CorePart) → f (put_mode name mode core) ≡ f core)
    → map shown new ≡ map (put_mode name mode) (map shown old) → map f new ≡ map f old
kept-put_mode f name mode old new left mode_kept is =
    sym (unshown new) ∙ ap (map f) is ∙ unput (map shown old) ∙ unshown old
  where
    unshown : (cores : List CorePart) → map f (map shown cores) ≡ map f cores
    unshown [] = refl
    unshown (core ∷ cores) = ap (λ first. first ∷ map f (map shown cores)) (left core) ∙ ap (λ rest. f core ∷ rest) (unshown cores)

    unput : (cores : List CorePart) → map f (map (put_mode name mode) cores) ≡ map f cores
    unput [] = refl
    unput (core ∷ cores) =
        ap (λ first. first ∷ map f (map (put_mode name mode) cores)) (mode_kept core) ∙ ap (λ rest. f core ∷ rest) (unput cores)

-- what is true of each core, by name and mode, is so of cores whose mode was put, where it is of those that had it
pub All-put_mode : (P Q : CoreId → Mode → Type 0) (name : CoreId) (mode : Mode) (old new : List CorePart)
    → ((other : CoreId) (was : Mode) → is_core name other ≡ true → P other was → Q other mode)
    → ((other : CoreId) (was : Mode) → is_core name other ≡ false → P other was → Q other was)
    → map shown new ≡ map (put_mode name mode) (map shown old) → All (λ (core : CorePart). P core.name core.mode) old
    → All (λ (core : CorePart). Q core.name core.mode) new
All-put_mode P Q name mode old new here elsewhere is all =
    from_shown new (subst (All now) (sym is) (All-map now (put_mode name mode) (map shown old) (put (map shown old)
    (All-map before shown old all))))
  where
    before : CorePart → Type 0
    before core = P core.name core.mode

    now : CorePart → Type 0
    now core = Q core.name core.mode

    each : (core : CorePart) (b : Bool) → is_core name core.name ≡ b → before core → Q core.name (cond b mode core.mode)
    each core true same was = here core.name core.mode same was
    each core false other was = elsewhere core.name core.mode other was

    put : (cores : List CorePart) → All before cores → All (λ core. now (put_mode name mode core)) cores
    put cores all = All-weaker before (λ core. now (put_mode name mode core)) (λ core. each core (is_core name core.name) refl) cores all

    from_shown : (cores : List CorePart) → All now (map shown cores) → All now cores
    from_shown [] all = All-nil now
    from_shown (core ∷ cores) all =
        All-cons now core cores (All-head now (shown core) (map shown cores) all) (from_shown cores (All-tail now (shown core)
        (map shown cores) all))
