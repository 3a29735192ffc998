-- What the board takes back once a split has begun on it, or was refused, and what is seen then.
use Rattle.std.proofs.Common.{◌≡◌, inl, inr, ℕ, Bool, true, false, not, List, [], ◌∷◌, ◌++◌, length, Option, Some, None, Result, Ok, Err, refl, sym, ap, ◌∙◌, subst, cond, arith, nat_eq}
use Rattle.std.proofs.lemmas.Bool.Decides.{nat_tests}
use Rattle.std.proofs.lemmas.Bool.{le-ltb}
use Rattle.std.proofs.lemmas.List.{append-nil}
use Rattle.std.specs.Prelude.{IfOk, IfErr, OnOk, OnErr, is_some}
use mathlib.Core.List.{IsPrefix}
use Rattle.sc_cluster.specs.declared.slice.Slice.{Slice}
use Rattle.sc_cluster.specs.declared.plan.SplitPlan.{SplitPlan}
use Rattle.sc_seen.specs.Board.{running_split}
use Rattle.sc_seen.specs.Seen.{Layout, Seen}
use Rattle.sc_seen.specs.declared.board.BoardEntry.{BoardEntry}
use Rattle.sc_seen.specs.declared.board.BoardEntry.TheVariants as board
use Rattle.sc_seen.specs.declared.stop.Stop.{Stop}
use Rattle.sc_board.specs.declared.board.Board.{Board}
use Rattle.sc_board.specs.declared.fault.BoardFault.{BoardFault}
use Rattle.sc_board.specs.Events.{Notes, IsSameBoardButRoom}
use Rattle.sc_board.specs.Splits.{AskedSplit, IsPlanOf, IsRefusal}
use Rattle.sc_collection.specs.Desks.{IsBoardOf, MayReplaceBoard, SeesBoardGiven, place_added}
use Rattle.sc_split.specs.Steps.{Opens, Refuses}
use Rattle.sc_split.proofs.BoardLemmas.{notes-one}

-- where the board has keepers no split runs
none-runs : {K : Type 0} (keepers : Option K) (one : K) (running : Option ℕ) → is_some keepers ≡ not (is_some running) → keepers ≡ Some one
    → (place : ℕ) → running ≡ Some place → ⊥
none-runs keepers one running there has place found =
    impossible (sym (ap is_some has) ∙ there ∙ ap (λ r. not (is_some r)) found) where
      impossible : true ≡ false → ⊥
      impossible h = cc

-- the board may be given back
pub may-replace-begun : {K : Type 0} (old new : Board K) (answer : Result (SplitPlan × K) BoardFault) (layout : Layout) (seen : Seen)
    → is_some old.keepers ≡ not (is_some (running_split old.journal.entries))
    → IfOk answer (λ begun. Notes old (board.Begun begun.0) new) → IfOk answer (λ begun. old.keepers ≡ Some begun.1)
    → OnErr answer (IsSameBoardButRoom old new) → MayReplaceBoard layout seen old.journal.entries new.journal.entries
may-replace-begun old new (Ok begun) layout seen there notes has same =
    inr (
      board.Begun begun.0,
      notes.entries,
      λ place found. absurd (none-runs old.keepers begun.1 (running_split old.journal.entries) there has place found),
    )
may-replace-begun old new (Err fault) layout seen there notes has same = inl same.entries

-- the keepers that it has are those that were handed out with it
pub keepers-still : {K : Type 0} (old new : Board K) (answer : Result (SplitPlan × K) BoardFault) → OnOk answer (new.keepers ≡ None)
    → OnErr answer (IsSameBoardButRoom old new) → (keepers : K) → new.keepers ≡ Some keepers
    → (old.keepers ≡ Some keepers) × (new.journal.entries ≡ old.journal.entries)
keepers-still old new (Ok begun) none same keepers has = absurd (impossible keepers (sym none ∙ has)) where
  impossible : {K : Type 0} (k : K) → None ≡ Some k → ⊥
  impossible k h = cc
keepers-still old new (Err fault) none same keepers has = (sym same.keepers_are ∙ has, same.entries)

-- what is so where it is answered, and what was so of the answer
pub by-ok : {T F : Type 0} (answer : Result T F) (IsSo : T → Type 0) → ((one : T) → answer ≡ Ok one → IsSo one) → IfOk answer IsSo
by-ok (Ok one) IsSo is = is one refl
by-ok (Err fault) IsSo is = tt

pub by-err : {T F : Type 0} (answer : Result T F) (IsSo : F → Type 0) → ((fault : F) → answer ≡ Err fault → IsSo fault) → IfErr answer IsSo
by-err (Ok one) IsSo is = tt
by-err (Err fault) IsSo is = is fault refl

pub if-ok-at : {T F : Type 0} (answer : Result T F) (IsSo : T → Type 0) (one : T) → answer ≡ Ok one → IfOk answer IsSo → IsSo one
if-ok-at answer IsSo one is so = subst (λ a. IfOk a IsSo) is so

pub if-err-at : {T F : Type 0} (answer : Result T F) (IsSo : F → Type 0) (fault : F) → answer ≡ Err fault → IfErr answer IsSo → IsSo fault
if-err-at answer IsSo fault is so = subst (λ a. IfErr a IsSo) is so

-- a split began on the board that was handed out
pub opens-by : {K : Type 0} (old new : Board K) (asked : AskedSplit) (plan : SplitPlan) (layout layout' : Layout) (seen seen' final : Seen)
    (stops stops' : List Stop) → IsBoardOf layout old.first old.limit → IsPrefix seen.board old.journal.entries → layout' ≡ layout → seen' ≡ seen
    → IsPlanOf old.first old.journal.entries asked plan → Notes old (board.Begun plan) new
    → SeesBoardGiven layout' old.journal.entries new.journal.entries seen' final
    → stops' ≡ stops ++ record { lock = layout.buckets; place = length old.journal.entries; made = true } ∷ []
    → (x : Opens layout asked (record { seen = seen; stops = stops }) (record { seen = final; stops = stops' }) plan)
    × (x.between.board ≡ old.journal.entries)
opens-by old new asked plan layout layout' seen seen' final stops stops' is_of went_on same-layout same-seen planned notes sees' kept = (
  record {
    between = between;
    went_on = went_on;
    journals = λ lock. refl;
    own = λ lock. refl;
    plan_is = subst (λ (first : List Slice). IsPlanOf first old.journal.entries asked plan) is_of.first_is planned;
    notes = notes-one layout layout between between final old.journal.entries new.journal.entries (board.Begun plan) refl refl refl notes.entries
        (record { board = sees.board; journals = sees.journals; own = sees.own; others_own = sees.others_own });
    stops = kept;
  },
  refl,
) where
  between : Seen
  between = record { journals = seen.journals; board = old.journal.entries; own = seen.own }

  sees : SeesBoardGiven layout old.journal.entries new.journal.entries seen final
  sees = subst (λ (l : Layout). SeesBoardGiven l old.journal.entries new.journal.entries seen final) same-layout
      (subst (λ (s : Seen). SeesBoardGiven layout' old.journal.entries new.journal.entries s final) same-seen sees')

-- a stop by its lock, its place and whether it made an entry
pub stop-is : (lock lock' place place' : ℕ) (made made' : Bool) → lock ≡ lock' → place ≡ place' → made ≡ made'
    → let one : Stop = record { lock = lock; place = place; made = made } in
    let other : Stop = record { lock = lock'; place = place'; made = made' } in one ≡ other
stop-is lock lock' place place' made made' same-lock same-place same-made =
    ap (λ l. let stop : Stop = record { lock = l; place = place; made = made } in stop) same-lock
    ∙ ap (λ p. let stop : Stop = record { lock = lock'; place = p; made = made } in stop) same-place
    ∙ ap (λ m. let stop : Stop = record { lock = lock'; place = place'; made = m } in stop) same-made

none-added : {A : Type 0} (entries : List A) → place_added entries entries ≡ []
none-added entries = ap (λ b. cond b (length entries ∷ []) []) (le-ltb (length entries) (length entries) (omega arith))

-- a split was refused on the board that was handed out
pub refuses-by : {K : Type 0} (old new : Board K) (asked : AskedSplit) (fault : BoardFault) (layout layout' : Layout) (seen seen' final : Seen)
    (stops stops' : List Stop) → IsBoardOf layout old.first old.limit → IsPrefix seen.board old.journal.entries → layout' ≡ layout → seen' ≡ seen
    → IsRefusal old.first old.limit old.journal.entries asked fault → IsSameBoardButRoom old new
    → SeesBoardGiven layout' old.journal.entries new.journal.entries seen' final
    → stops' ≡ stops ++ record { lock = layout.buckets; place = length old.journal.entries; made = false } ∷ []
    → Refuses layout asked (record { seen = seen; stops = stops }) (record { seen = final; stops = stops' }) fault
refuses-by old new asked fault layout layout' seen seen' final stops stops' is_of went_on same-layout same-seen cause same sees' kept = record {
  went_on = subst (IsPrefix seen.board) (sym board-is) went_on;
  journals = sees.journals;
  own = own;
  cause = subst (λ (entries : List BoardEntry). IsRefusal layout.first layout.limit entries asked fault) (sym board-is)
      (subst (λ (first : List Slice). IsRefusal first layout.limit old.journal.entries asked fault) is_of.first_is
      (subst (λ (limit : ℕ). IsRefusal old.first limit old.journal.entries asked fault) is_of.limit_is cause));
  stops = kept ∙ ap (λ (entries : List BoardEntry). stops ++ record { lock = layout.buckets; place = length entries; made = false } ∷ []) (sym board-is);
} where
  sees : SeesBoardGiven layout old.journal.entries new.journal.entries seen final
  sees = subst (λ (l : Layout). SeesBoardGiven l old.journal.entries new.journal.entries seen final) same-layout
      (subst (λ (s : Seen). SeesBoardGiven layout' old.journal.entries new.journal.entries s final) same-seen sees')

  board-is : final.board ≡ old.journal.entries
  board-is = sees.board ∙ same.entries

  own : (lock : ℕ) → final.own lock ≡ seen.own lock
  own lock = by (nat_eq lock layout.buckets) refl where
    by : (b : Bool) → nat_eq lock layout.buckets ≡ b → final.own lock ≡ seen.own lock
    by true test =
        let is : lock ≡ layout.buckets = grind (arith, nat_tests) in
        subst (λ (at : ℕ). final.own at ≡ seen.own at) (sym is)
        (sees.own ∙ ap (λ (places : List ℕ). seen.own layout.buckets ++ places)
        (ap (place_added old.journal.entries) same.entries ∙ none-added old.journal.entries) ∙ append-nil (seen.own layout.buckets))
    by false test = sees.others_own lock (λ is. impossible (sym test ∙ ap (nat_eq lock) (sym is) ∙ same_nat lock)) where
      impossible : false ≡ true → ⊥
      impossible h = cc

      same_nat : (n : ℕ) → nat_eq n n ≡ true
      same_nat n = grind (arith, nat_tests)
