-- What a journal says of cores once it is closed.
use Rattle.std.proofs.Common.{◌≡◌, ℕ, zero, suc, Bool, true, false, not, ◌&&◌, cond, nat_eq, List, [], ◌∷◌, All, Contains, refl, sym, ap, ◌∙◌, arith}
use Rattle.std.specs.List.{fold}
use Rattle.std.proofs.lemmas.Bool.{eqb-true}
use Rattle.std.proofs.lemmas.List.Elements.{All-head, All-tail}
use Rattle.std.proofs.lemmas.List.Sums.{fold-append}
use Rattle.sc_record.specs.declared.slice.SliceId.{SliceId}
use Rattle.sc_record.specs.declared.entry.Entry.{Entry}
use Rattle.sc_record.specs.declared.entry.Entry.TheVariants as entry
use Rattle.sc_journal.specs.Down.{down_after, is_down}
use Rattle.sc_journal.specs.Seats.{seats_after, seats}
use Rattle.sc_opening.specs.Closed.{closing}
use Rattle.sc_opening.specs.Laws.{ClosedLeavesCores}
use Rattle.sc_opening.proofs.AnswerLemmas.{IsQuiet, quiet_closing}

-- no entry drops the slice of this id
abbrev DropsNone : ℕ → List Entry → Type 0
DropsNone id entries = (slice : SliceId) → Contains entries (entry.Dropped slice) → slice.0 ≡ id → ⊥

none_later : (id : ℕ) (one : Entry) (entries : List Entry) → DropsNone id (one ∷ entries) → DropsNone id entries
none_later id one entries none slice (k, below, is) = none slice (suc k, omega arith, is)

-- two numbers that are not equal
apart : (a b : ℕ) → (a ≡ b → ⊥) → nat_eq a b ≡ false
apart a b differ = by (nat_eq a b) refl where
  by : (t : Bool) → nat_eq a b ≡ t → t ≡ false
  by false is = refl
  by true is = absurd (differ (eqb-true a b is))

-- an entry that is of no core leaves which are down, unless it drops the slice
down_by_one : (key : ℕ × ℕ) (one : Entry) (b : Bool) → IsQuiet one → ((slice : SliceId) → one ≡ entry.Dropped slice → slice.0 ≡ key.0 → ⊥)
    → down_after key b one ≡ b
down_by_one key (entry.Write cell) b quiet none = refl
down_by_one key (entry.Settled place) b quiet none = refl
down_by_one key entry.Committed b quiet none = refl
down_by_one key (entry.Begun parent subs) b quiet none = refl
down_by_one key (entry.Switched parent) b quiet none = refl
down_by_one key (entry.Failed parent) b quiet none = refl
down_by_one key (entry.Dropped slice) b quiet none = ap (λ t. not t && b) (apart key.0 slice.0 (λ same. none slice refl (sym same)))
down_by_one key (entry.Down core) b quiet none = absurd (cc)
down_by_one key (entry.Up core) b quiet none = absurd (cc)
down_by_one key (entry.Led core) b quiet none = absurd (cc)

-- and which core sits where
seats_by_one : (slice : SliceId) (one : Entry) (core_in : ℕ → ℕ) → IsQuiet one
    → ((dropped : SliceId) → one ≡ entry.Dropped dropped → dropped.0 ≡ slice.0 → ⊥) → seats_after slice core_in one ≡ core_in
seats_by_one slice (entry.Write cell) core_in quiet none = refl
seats_by_one slice (entry.Settled place) core_in quiet none = refl
seats_by_one slice entry.Committed core_in quiet none = refl
seats_by_one slice (entry.Begun parent subs) core_in quiet none = refl
seats_by_one slice (entry.Switched parent) core_in quiet none = refl
seats_by_one slice (entry.Failed parent) core_in quiet none = refl
seats_by_one slice (entry.Dropped dropped) core_in quiet none =
    ap (λ t. cond t (λ (seat : ℕ). seat) core_in) (apart dropped.0 slice.0 (none dropped refl))
seats_by_one slice (entry.Down core) core_in quiet none = refl
seats_by_one slice (entry.Up core) core_in quiet none = refl
seats_by_one slice (entry.Led core) core_in quiet none = absurd (cc)

-- the first entry drops it not
first_drops_none : (id : ℕ) (one : Entry) (entries : List Entry) → DropsNone id (one ∷ entries)
    → (slice : SliceId) → one ≡ entry.Dropped slice → slice.0 ≡ id → ⊥
first_drops_none id one entries none slice is same = none slice (zero, omega arith, is) same

down_by_all : (key : ℕ × ℕ) (entries : List Entry) (b : Bool) → All IsQuiet entries → DropsNone key.0 entries
    → fold (down_after key) b entries ≡ b
down_by_all key [] b quiet none = refl
down_by_all key (one ∷ entries) b quiet none =
    ap (λ t. fold (down_after key) t entries) (down_by_one key one b (All-head IsQuiet one entries quiet) (first_drops_none key.0 one entries none))
    ∙ down_by_all key entries b (All-tail IsQuiet one entries quiet) (none_later key.0 one entries none)

seats_by_all : (slice : SliceId) (entries : List Entry) (core_in : ℕ → ℕ) → All IsQuiet entries → DropsNone slice.0 entries
    → fold (seats_after slice) core_in entries ≡ core_in
seats_by_all slice [] core_in quiet none = refl
seats_by_all slice (one ∷ entries) core_in quiet none =
    ap (λ (f : ℕ → ℕ). fold (seats_after slice) f entries)
    (seats_by_one slice one core_in (All-head IsQuiet one entries quiet) (first_drops_none slice.0 one entries none))
    ∙ seats_by_all slice entries core_in (All-tail IsQuiet one entries quiet) (none_later slice.0 one entries none)

pub closed_leaves_cores : ClosedLeavesCores
closed_leaves_cores journal done =
    let more = closing journal done in
    let quiet = quiet_closing journal done in
    record {
      down = λ key keeps. fold-append (down_after key) false journal more ∙ down_by_all key more (is_down journal key) quiet keeps;
      seats_are = λ slice seat keeps. ap (λ (f : ℕ → ℕ). f seat)
          (fold-append (seats_after slice) (λ (seat : ℕ). seat) journal more ∙ seats_by_all slice more (seats journal slice) quiet keeps);
    }
