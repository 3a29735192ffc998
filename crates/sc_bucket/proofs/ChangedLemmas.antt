-- A core that is changed by its name is changed at its place.
use Rattle.std.proofs.Common.{◌≡◌, ℕ, zero, suc, Bool, true, false, cond, List, [], ◌∷◌, map, set, slice_get, Some, refl, sym, ap, ◌∙◌, subst}
use Rattle.std.specs.List.{AllByRecursion, IsDistinct}
use Rattle.std.proofs.lemmas.List.Elements.{All-from_recursion}
use Rattle.std.proofs.lemmas.Option.{none-some, same_Some}
use Rattle.sc_record.specs.declared.slice.CoreId.{CoreId}
use Rattle.sc_record.specs.Names.{is_core}
use Rattle.sc_replica.specs.Core.{Core}
use Rattle.sc_replicas.proofs.CoreLemmas.{AreApart, name_of, is_core-Decides}
use Rattle.sc_bucket.proofs.SoundLemmas.{All-slice_get}
use Rattle.sc_bucket.proofs.FollowerLemmas.{All-named}

-- the core of this name changed; any other core stays
abbrev pub changed_by : CoreId → (Core → Core) → Core → Core
changed_by name change core = cond (is_core name core.core) (change core) core

-- cores of other names stay
stay : (name : CoreId) (change : Core → Core) (cores : List Core)
    → AllByRecursion (λ (other : CoreId). is_core name other ≡ false) (map name_of cores) → map (changed_by name change) cores ≡ cores
stay name change [] apart = refl
stay name change (core ∷ cores) apart =
    let first : changed_by name change core ≡ core = rw apart.0 refl in
    let rest = stay name change cores apart.1 in
    cc

-- the core of the name, which is at this place, is changed alone
pub changed_at : (name : CoreId) (change : Core → Core) (cores : List Core) (k : ℕ) (core : Core) → AreApart cores
    → slice_get cores k ≡ Some core → is_core name core.core ≡ true
    → map (changed_by name change) cores ≡ set cores k (change core)
unfolding IsDistinct
changed_at name change [] k core apart found is = absurd (none-some core found)
changed_at name change (first ∷ cores) zero core apart found is =
    let same : first ≡ core = same_Some first core found in
    let named : name ≡ first.core = (is_core-Decides name core.core).0 is ∙ ap name_of (sym same) in
    let here : changed_by name change first ≡ change core = ap (changed_by name change) same ∙ rw is refl in
    let rest = stay name change cores
    (subst (λ (id : CoreId). AllByRecursion (λ (other : CoreId). is_core id other ≡ false) (map name_of cores)) (sym named) apart.0) in
    cc
changed_at name change (first ∷ cores) (suc k) core apart found is =
    let named : name ≡ core.core = (is_core-Decides name core.core).0 is in
    let each = All-from_recursion (λ (other : CoreId). is_core first.core other ≡ false) (map name_of cores) apart.0 in
    let differ : is_core first.core core.core ≡ false = All-slice_get (λ (other : Core). is_core first.core other.core ≡ false) cores k core
    (All-named (λ (other : CoreId). is_core first.core other ≡ false) cores each) found in
    let other : changed_by name change first ≡ first = by (is_core name first.core) refl named differ in
    let rest = changed_at name change cores k core apart.1 found is in
    cc
  where
    by : (b : Bool) → is_core name first.core ≡ b → name ≡ core.core → is_core first.core core.core ≡ false
        → cond b (change first) first ≡ first
    by false test named differ = refl
    by true test named differ =
        let same : first.core ≡ core.core = sym ((is_core-Decides name first.core).0 test) ∙ named in
        let yes : is_core first.core core.core ≡ true = (is_core-Decides first.core core.core).1 same in
        let both : true ≡ false = sym yes ∙ differ in
        absurd (cc)
