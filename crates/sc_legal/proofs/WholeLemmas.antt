-- What the entries up to a place of a journal say of all of them.
use Rattle.std.proofs.Common.{◌≡◌, ◌↔◌, ℕ, ◌+◌, ◌<◌, Bool, false, List, [], ◌∷◌, ◌++◌, take, drop, length, get_or, Some, IsTrue, slice_get, sym, ap, ◌∙◌, subst}
use Rattle.std.proofs.lemmas.Bool.{false≢true}
use Rattle.std.proofs.lemmas.List.{take-append-drop, take_more}
use Rattle.std.proofs.lemmas.Option.{slice_get_within, slice_get-get_or, get_or_from_slice_get}
use Rattle.sc_record.specs.declared.entry.Entry.{Entry}
use Rattle.sc_cluster.specs.declared.slice.Slice.{Slice}
use Rattle.sc_journal.specs.Legal.{MayFollow, IsLegal}
use Rattle.sc_journal.proofs.ListLemmas.{append-cons}
use Rattle.sc_legal.specs.Passed.{BreaksAt}

-- the entries up to one, with it
take-next : (journal : List Entry) (place : ℕ) (one : Entry) → slice_get journal place ≡ Some one
    → take (place + 1) journal ≡ take place journal ++ one ∷ []
take-next journal place one there =
    take_more journal place one (slice_get_within journal place one there)
    ∙ ap (λ (e : Entry). take place journal ++ e ∷ []) (get_or_from_slice_get journal place one one there)

-- a journal that breaks at a place is not legal
pub not_legal : (first : List Slice) (journal : List Entry) (place : ℕ) → BreaksAt first journal place → ¬ IsLegal first journal
not_legal first journal place at legal =
    let (one, there, breaks) = at.breaks in
    breaks (legal (take place journal) one (drop (place + 1) journal) (
    sym (take-append-drop (place + 1) journal)
    ∙ ap (λ (before : List Entry). before ++ drop (place + 1) journal) (take-next journal place one there)
    ∙ append-cons (take place journal) one (drop (place + 1) journal)
    ))

-- it breaks where the test of an entry fails, after those that were passed
pub breaks_at : (first slices : List Slice) (journal passed : List Entry) (place : ℕ) (one : Entry) (test : Bool)
    → first ≡ slices → passed ≡ take place journal → IsLegal slices passed → place < length journal → one ≡ get_or journal place one
    → IsTrue test ↔ MayFollow first passed one → test ≡ false → BreaksAt slices journal place
breaks_at first slices journal passed place one test same are legal below is says fails = record {
  legal = subst (IsLegal slices) are legal;
  breaks = (
    one,
    slice_get-get_or journal place one below ∙ ap Some (sym is),
    λ may. false≢true (sym fails ∙ says.1 (subst (λ (s : List Slice). MayFollow s passed one) (sym same)
        (subst (λ (before : List Entry). MayFollow slices before one) (sym are) may))),
  );
}

-- the entries that were passed, with one more
pub passed_more : (journal passed : List Entry) (place : ℕ) (one : Entry) → passed ≡ take place journal → place < length journal
    → one ≡ get_or journal place one → passed ++ one ∷ [] ≡ take (place + 1) journal
passed_more journal passed place one are below is =
    ap (λ (before : List Entry). before ++ one ∷ []) are
    ∙ sym (take-next journal place one (slice_get-get_or journal place one below ∙ ap Some (sym is)))
