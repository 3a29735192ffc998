-- What the first of the longest of some journals says.
use Rattle.std.proofs.Common.{◌≡◌, ◌<◌, ◌≤◌, Bool, true, false, cond, List, [], ◌∷◌, ◌++◌, length, map, All, refl, sym, ap, ◌∙◌, subst, arith}
use Rattle.std.specs.Prelude.{nat_lt}
use Rattle.std.specs.List.{fold}
use Rattle.std.proofs.lemmas.Bool.Decides.{Decides-ltb, not_from_Decides}
use Rattle.std.proofs.lemmas.List.{append-nil, append_assoc}
use Rattle.std.proofs.lemmas.List.Elements.{All-nil, All-cons, All-push, All-append, All-weaker, All-head, All-tail}
use Rattle.sc_record.specs.declared.entry.Entry.{Entry}
use Rattle.sc_journal.specs.Legal.{IsLegal}
use Rattle.sc_journal.proofs.LegalLemmas.{IsLegal-none}
use Rattle.sc_journal.proofs.ListLemmas.{append-cons}
use Rattle.sc_opening.specs.declared.change.Change.{Change}
use Rattle.sc_opening.specs.Changes.{changes}
use Rattle.sc_opening.specs.Collections.{longer, CanBeDone}
use Rattle.sc_opening.specs.Laws.{IsOfFirstLongest, LongestIsOfFirst, LongestCanBeDone}
use Rattle.sc_opening.proofs.CanLemmas.{changes_can_be_done}

-- a list is longer than none, or is none too
longer_than_none : (done : List Change) → longer [] done ≡ done
longer_than_none [] = refl
longer_than_none (one ∷ done) = rw ((Decides-ltb 0 (length (one ∷ done))).1 (omega arith)) refl

-- the journal at the end says more than all before it
new_longest : (journals : List (List Entry)) (best : List Change) (journal : List Entry) → IsOfFirstLongest journals best
    → length best < length (changes journal) → IsOfFirstLongest (journals ++ journal ∷ []) (changes journal)
new_longest journals best journal is more =
    let Less = λ (other : List Entry). length (changes other) < length (changes journal) in
    let same = ap length is.done_is in
    let before : All Less is.before =
    All-weaker (λ (other : List Entry). length (changes other) < length best) Less (λ other less. omega arith) is.before is.shorter in
    let after : All Less is.after =
    All-weaker (λ (other : List Entry). length (changes other) ≤ length best) Less (λ other less. omega arith) is.after is.no_longer in
    let all : All Less (is.before ++ is.journal ∷ is.after) =
    All-append Less is.before (is.journal ∷ is.after) before (All-cons Less is.journal is.after (omega arith) after) in
    record {
      before = journals;
      journal = journal;
      after = [];
      journals_are = refl;
      done_is = refl;
      shorter = subst (All Less) (sym is.journals_are) all;
      no_longer = All-nil (λ (other : List Entry). length (changes other) ≤ length (changes journal));
    }

-- or it says no more
same_longest : (journals : List (List Entry)) (best : List Change) (journal : List Entry) → IsOfFirstLongest journals best
    → length (changes journal) ≤ length best → IsOfFirstLongest (journals ++ journal ∷ []) best
same_longest journals best journal is less = record {
  before = is.before;
  journal = is.journal;
  after = is.after ++ journal ∷ [];
  journals_are = ap (λ (all : List (List Entry)). all ++ journal ∷ []) is.journals_are ∙ append_assoc is.before (is.journal ∷ is.after) (journal ∷ []);
  done_is = is.done_is;
  shorter = is.shorter;
  no_longer = All-push (λ (other : List Entry). length (changes other) ≤ length best) is.after journal is.no_longer less;
}

longest_so_far : (journals : List (List Entry)) (best : List Change) (rest : List (List Entry)) → IsOfFirstLongest journals best
    → IsOfFirstLongest (journals ++ rest) (fold longer best (map changes rest))
longest_so_far journals best [] is = subst (λ (all : List (List Entry)). IsOfFirstLongest all best) (sym (append-nil journals)) is
longest_so_far journals best (journal ∷ rest) is =
    subst (λ (all : List (List Entry)). IsOfFirstLongest all (fold longer best (map changes (journal ∷ rest)))) (append-cons journals journal rest)
    (longest_so_far (journals ++ journal ∷ []) (longer best (changes journal)) rest (by (nat_lt (length best) (length (changes journal))) refl))
  where
    by : (t : Bool) → nat_lt (length best) (length (changes journal)) ≡ t
        → IsOfFirstLongest (journals ++ journal ∷ []) (cond t (changes journal) best)
    by true is_less = new_longest journals best journal is ((Decides-ltb (length best) (length (changes journal))).0 is_less)
    by false is_less =
        let none = not_from_Decides _ (Decides-ltb (length best) (length (changes journal))) is_less in
        same_longest journals best journal is (omega (arith, none))

pub longest_is_of_first : LongestIsOfFirst
longest_is_of_first journal others =
    let only : IsOfFirstLongest (journal ∷ []) (changes journal) = record {
      before = [];
      journal = journal;
      after = [];
      journals_are = refl;
      done_is = refl;
      shorter = All-nil (λ (other : List Entry). length (changes other) < length (changes journal));
      no_longer = All-nil (λ (other : List Entry). length (changes other) ≤ length (changes journal));
    } in
    subst (λ (done : List Change). IsOfFirstLongest (journal ∷ others) (fold longer done (map changes others))) (sym (longer_than_none (changes journal)))
    (longest_so_far (journal ∷ []) (changes journal) others only)

-- what stands in the middle of a list
middle : {A : Type 0} (P : A → Type 0) (before : List A) (x : A) (after : List A) → All P (before ++ x ∷ after) → P x
middle P [] x after all = All-head P x after all
middle P (y ∷ before) x after all = middle P before x after (All-tail P y (before ++ x ∷ after) all)

pub longest_can_be_done : LongestCanBeDone
longest_can_be_done first [] legal = IsLegal-none first
longest_can_be_done first (journal ∷ others) legal =
    let is = longest_is_of_first journal others in
    let one = middle (IsLegal first) is.before is.journal is.after (subst (All (IsLegal first)) is.journals_are legal) in
    subst (CanBeDone first) (sym is.done_is) (changes_can_be_done first is.journal one)
