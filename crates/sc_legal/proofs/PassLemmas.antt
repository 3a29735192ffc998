-- What is true of a journal and of what is kept of it, once an entry was passed that may follow.
use Rattle.std.proofs.Common.{◌≡◌, List, [], ◌∷◌, ◌++◌, sym, ap, ◌∙◌, subst}
use Rattle.std.specs.Prelude.{⊤}
use Rattle.std.proofs.lemmas.List.{map-append}
use Rattle.sc_record.specs.declared.entry.Entry.{Entry}
use Rattle.sc_cluster.specs.declared.slice.Slice.{Slice}
use Rattle.sc_journal.specs.Legal.{MayFollow}
use Rattle.sc_journal.proofs.LegalLemmas.{IsLegal-push}
use Rattle.sc_legal.specs.declared.kept.Kept.{Kept}
use Rattle.sc_legal.specs.Passed.{Passed}
use Rattle.sc_legal.specs.Kept.{entries_of, IsChecked, Notes}

-- the journal with the entry is legal, and the new is kept of it
checked-push : (first : List Slice) (journal : List Entry) (old new : Kept) (one : Entry) → IsChecked first journal old
    → MayFollow first journal one → Notes one old new → IsChecked first (journal ++ one ∷ []) new
checked-push first journal old new one checked may notes = record {
  begins = checked.begins;
  idle = checked.idle;
  legal = IsLegal-push first journal one checked.legal may;
  kept_is = notes first journal checked.legal may checked.kept_is;
}

-- the entries of a log that notes one more
entries_of-push : (items : List (Entry × ⊤)) (one : Entry) (unit : ⊤)
    → entries_of (items ++ (one, unit) ∷ []) ≡ entries_of items ++ one ∷ []
entries_of-push items one unit = map-append (λ (item : Entry × ⊤). item.0) items ((one, unit) ∷ [])

-- so it is of a checker that notes the entry
pub passed_on : (first : List Slice) (items more : List (Entry × ⊤)) (old new : Kept) (one : Entry) (unit : ⊤) (seen : Passed)
    → record { first = first; journal = entries_of items } ≡ seen → MayFollow seen.first seen.journal one
    → IsChecked first (entries_of items) old → Notes one old new → more ≡ items ++ (one, unit) ∷ []
    → IsChecked first (entries_of more) new
passed_on first items more old new one unit seen same may checked notes longer =
    subst (λ (journal : List Entry). IsChecked first journal new) (sym (ap entries_of longer ∙ entries_of-push items one unit))
    (checked-push first (entries_of items) old new one checked
    (subst (λ (p : Passed). MayFollow p.first p.journal one) (sym same) may) notes)
