-- The place of a core by its name, and which cores are those of a map's slices.
use Rattle.std.proofs.Common.{◌≡◌, ◌∙◌, ℕ, zero, suc, Bool, true, false, nat_eq, nat_lt, List, [], ◌∷◌, length, get_or, take, slice_get, Some, None, Option, Bor, All, Contains, MatchOption, is_some, ◌≢◌, refl, sym, ap}
use Rattle.std.specs.List.{insert}
use Rattle.std.specs.Option.{unwrap_or}
use Rattle.std.proofs.lemmas.Bool.Decides.{Decides-eqb}
use Rattle.std.proofs.lemmas.List.Elements.{All-head, All-tail}
use Rattle.std.proofs.lemmas.List.Folds.{list_any_none, list_any_at}
use Rattle.std.proofs.lemmas.Option.{none-some, same_Some}
use Rattle.sc_record.specs.declared.slice.SliceId.{SliceId}
use Rattle.sc_record.specs.declared.slice.CoreId.{CoreId}
use Rattle.sc_cluster.specs.declared.slice.Slice.{Slice}
use Rattle.sc_replica.specs.Core.{Core}
use Rattle.sc_replicas.specs.Cores.{core_number, put_by_name, is_of_one}
use Rattle.sc_replicas.proofs.FindLemmas.{IsFirstThat}

-- the name of the other core comes later
abbrev pub comes_after : CoreId → Core → Bool
comes_after name other = nat_lt (core_number name) (core_number other.core)

-- a core is put in at the first place whose core comes later
put_at : (core : Core) (cores : List Core) (at : ℕ) (other : Core) → slice_get cores at ≡ Some other → comes_after core.core other ≡ true
    → All (λ (c : Core). comes_after core.core c ≡ false) (take at cores) → insert cores at core ≡ put_by_name core cores
put_at core [] at other there after before = absurd (none-some other there)
put_at core (first ∷ cores) zero other there after before =
    let here : comes_after core.core first ≡ true = ap (comes_after core.core) (same_Some first other there) ∙ after in
    rw here refl
put_at core (first ∷ cores) (suc at) other there after before =
    let not_here : comes_after core.core first ≡ false = All-head (λ (c : Core). comes_after core.core c ≡ false) first (take at cores) before in
    rw not_here (ap (λ these. first ∷ these) (put_at core cores at other there after
    (All-tail (λ (c : Core). comes_after core.core c ≡ false) first (take at cores) before)))

-- and at the end where there is none
put_last : (core : Core) (cores : List Core) → All (λ (c : Core). comes_after core.core c ≡ false) cores
    → insert cores (length cores) core ≡ put_by_name core cores
put_last core [] none = refl
put_last core (first ∷ cores) none =
    let not_here : comes_after core.core first ≡ false = All-head (λ (c : Core). comes_after core.core c ≡ false) first cores none in
    rw not_here (ap (λ these. first ∷ these) (put_last core cores (All-tail (λ (c : Core). comes_after core.core c ≡ false) first cores none)))

pub put-found : (core : Core) (cores : List Core) (found : Option ℕ) → IsFirstThat (comes_after core.core) cores found
    → insert cores (unwrap_or found (length cores)) core ≡ put_by_name core cores
put-found core cores None none = put_last core cores none
put-found core cores (Some at) (other, there, after, before) = put_at core cores at other there after before

-- a core is of one of the slices where a slice of its id is found
pub of_one-found : (slices : List Slice) (core : CoreId) (found : Option (Bor Slice))
    → MatchOption found (All (λ (slice : Slice). slice.id ≢ core.slice) slices) (λ slice. Contains slices slice.now × (slice.now.id ≡ core.slice))
    → is_some found ≡ is_of_one slices core
of_one-found slices core None none = sym (list_any_none (λ (slice : Slice). nat_eq slice.id.0 core.slice.0) slices other) where
  other : All (λ (slice : Slice). nat_eq slice.id.0 core.slice.0 ≡ false) slices
  other k d below = by (nat_eq (get_or slices k d).id.0 core.slice.0) refl where
    by : (b : Bool) → nat_eq (get_or slices k d).id.0 core.slice.0 ≡ b → nat_eq (get_or slices k d).id.0 core.slice.0 ≡ false
    by false is = is
    by true is = absurd (none k d below
        (ap (λ (n : ℕ). record { 0 = n }) ((Decides-eqb (get_or slices k d).id.0 core.slice.0).0 is)))
of_one-found slices core (Some slice) ((k, below, there), same) =
    sym (list_any_at (λ (s : Slice). nat_eq s.id.0 core.slice.0) slices k slice.now below
    ((Decides-eqb (get_or slices k slice.now).id.0 core.slice.0).1 (ap (λ (s : Slice). s.id.0) there ∙ ap (λ (id : SliceId). id.0) same)))
