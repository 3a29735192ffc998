-- A file in which no frame is open, while it is cut to nothing and given a closed mark.
use Rattle.std.proofs.Common.{◌≡◌, ◌⊎◌, inl, inr, ℕ, zero, suc, ◌+◌, List, [], ◌∷◌, length, take, drop, Option, Some, None, IfSome, refl, sym, ◌∙◌, ap, subst, arith}
use Rattle.std.proofs.lemmas.Bool.{cases_eq, cases_lt}
use Rattle.std.proofs.lemmas.List.{take-take, length-take}
use Rattle.std.specs.Int.{w64, from_le_bytes}
use Rattle.sc_files.specs.Images.{Holds, Torn, Cut}
use Rattle.sc_files.specs.States.{FileState, Changes, Syncs, FailsToSync, AreAmong, LeavesOnly}
use Rattle.sc_tail.specs.Frames.{told_length, first_frame, opened}
use Rattle.sc_tail.specs.Files.{Behind, IsShut, IsWhole}
use Rattle.sc_tail.proofs.FrameLemmas.{first_open, first_shut, first_cut, opened_first, opened_none, none_is_not}
use Rattle.sc_tail.proofs.MomentLemmas.{started, goes_on, sees_then, leaves_then}

-- no frame is open
abbrev pub IsBlank : List ℕ → Type 0
IsBlank c = opened c ≡ []

is_nil : {X : Type 0} → List X → Type 0
is_nil [] = Unit {0}
is_nil (x ∷ xs) = ⊥

cons_is_not : {X : Type 0} (x : X) (xs : List X) → [] ≡ x ∷ xs → ⊥
unfolding is_nil
cons_is_not x xs e = subst is_nil e tt

some_or_none : {X : Type 0} (o : Option X) → (o ≡ None) ⊎ ((x : X) × (o ≡ Some x))
some_or_none None = inl refl
some_or_none (Some x) = inr (x, refl)

pub none_first : (c : List ℕ) → IsBlank c → first_frame c ≡ None
none_first c blank = elim (some_or_none (first_frame c)) [
  | inl none ↦ none
  | inr some ↦ absurd (cons_is_not some.0.0 (opened some.0.1) (sym blank ∙ opened_first c some.0 some.1))
]

cut_none : (m mark : ℕ) (rest : List ℕ) → first_frame (mark ∷ rest) ≡ None → first_frame (mark ∷ take m rest) ≡ None
cut_none m mark rest none = elim (cases_eq mark 1) [
  | inr shut ↦ first_shut mark (take m rest) shut
  | inl is_open ↦ elim (cases_lt (8 + told_length (take m rest)) (length (take m rest))) [
    | inr short ↦ first_cut mark (take m rest) short
    | inl whole ↦
        let size = length-take m rest in
        let same : told_length (take m rest) ≡ told_length rest = ap (λ l. from_le_bytes w64 l) (take-take 8 m rest (omega (arith, whole, size))) in
        absurd (none_is_not _ (sym none ∙ first_open mark rest is_open (omega (arith, whole, size, same))))
  ]
]

-- nor is one in the front of such a file
front_blank : (n : ℕ) (c : List ℕ) → IsBlank c → IsBlank (take n c)
front_blank zero c blank = refl
front_blank (suc n) [] blank = refl
front_blank (suc n) (mark ∷ rest) blank = opened_none (mark ∷ take n rest) (cut_none n mark rest (none_first (mark ∷ rest) blank))

pub cut_blank : (n : ℕ) (d c : List ℕ) → IsBlank d → Cut n d c → IsBlank c
cut_blank n d c blank cut = subst IsBlank cut.front (front_blank (length c) d blank)

-- nothing but a byte is no frame
pub byte_blank : (d c : List ℕ) → d ≡ [] → Torn 0 1 d c → IsBlank c
byte_blank d [] none torn = refl
byte_blank d (x ∷ []) none torn = opened_none (x ∷ []) (first_cut x [] (omega arith))
byte_blank d (x ∷ y ∷ c) none torn = absurd (omega (arith, torn.no_longer, ap length none))

pub one_shut : (d c : List ℕ) → d ≡ [] → Holds 0 (0 ∷ []) d c → Behind [] IsShut [] c
one_shut d c none holds = record { mark = 0; rest = drop 1 d; split = holds; is = omega arith }

pub some_any : {X : Type 0} (o : Option X) (P : X → Type 0) → ((x : X) → P x) → IfSome o P
some_any None P all = tt
some_any (Some x) P all = all x

module _ (start : FileState) (blank : AreAmong start.may_leave IsBlank) where
  pub anew_begins : ((c : List ℕ) → start.left_since start.moment c → start.may_leave c) → LeavesOnly start start IsBlank
  anew_begins now = started start IsBlank (λ c left. blank c (now c left))

  module _ (file new : FileState) (so_far : LeavesOnly start file IsBlank) where
    pub anew_goes_on : (done : List ℕ → List ℕ → Type 0) → Changes (Cut 0) done file new → AreAmong file.may_leave IsBlank → LeavesOnly start new IsBlank
    anew_goes_on done change was = goes_on start file new IsBlank so_far change.time (leaves_then file.may_leave new.may_leave (Cut 0) IsBlank IsBlank change.crash was (cut_blank 0))

    pub anew_writes : (done : List ℕ → List ℕ → Type 0) → Changes (Torn 0 1) done file new → AreAmong file.may_leave (λ c. c ≡ []) → LeavesOnly start new IsBlank
    anew_writes done change was = goes_on start file new IsBlank so_far change.time (leaves_then file.may_leave new.may_leave (Torn 0 1) (λ c. c ≡ []) IsBlank change.crash was byte_blank)

    pub anew_syncs : Syncs file new → AreAmong file.may_leave IsBlank → LeavesOnly start new IsBlank
    anew_syncs sync was = goes_on start file new IsBlank so_far sync.stays.time (λ c left. was c (sync.stays.crash c left))

    pub anew_loses : FailsToSync file new → AreAmong file.may_leave IsBlank → LeavesOnly start new IsBlank
    anew_loses sync was = goes_on start file new IsBlank so_far sync.time (λ c left. was c (sync.crash c left))

-- what a write of a closed mark into nothing leaves once it is on the disk
pub anew_whole : (file new synced : FileState) → Changes (Torn 0 1) (Holds 0 (0 ∷ [])) file new → Syncs new synced → IfSome file.seen (λ c. c ≡ []) → AreAmong file.kept (λ c. c ≡ []) → IsWhole synced 0 []
anew_whole file new synced change sync seen kept =
    let holds : AreAmong new.kept (Behind [] IsShut []) = leaves_then file.kept new.kept (Holds 0 (0 ∷ [])) (λ c. c ≡ []) (Behind [] IsShut []) change.kept kept one_shut in
    record {
      fits = tt;
      end = refl;
      seen = subst (λ o. IfSome o (Behind [] IsShut [])) (sym sync.stays.seen) (sees_then file.seen new.seen (Holds 0 (0 ∷ [])) (λ c. c ≡ []) (Behind [] IsShut []) change.seen seen one_shut);
      crash = λ c left. holds c (sync.durable c left);
      kept = λ c left. holds c (sync.stays.kept c left);
    }
