-- The entries that settle what the rest of a journal leaves unsettled, one place on.
use Rattle.std.proofs.Common.{◌≡◌, ℕ, ◌+◌, ◌<◌, Bool, true, false, cond, List, [], ◌∷◌, ◌++◌, length, get_or, map, drop, refl, sym, ap, ◌∙◌}
use Rattle.std.specs.List.{filter, enumerate_from}
use Rattle.std.proofs.lemmas.List.{at_drop_more}
use Rattle.sc_record.specs.declared.entry.Entry.{Entry}
use Rattle.sc_record.specs.declared.entry.Entry.TheVariants as entry
use Rattle.sc_journal.specs.Journal.{is_unsettled}
use Rattle.sc_journal.proofs.ListLemmas.{append-cons}

-- an entry that settles each place of the rest, counted from this place on, that is a write which no entry of the journal settles
abbrev pub settle_rest : List Entry → ℕ → List Entry → List Entry
settle_rest journal from rest =
    map entry.Settled (map (λ (at : ℕ × Entry). at.0) (filter (is_unsettled journal) (enumerate_from from rest)))

settle_cons : (journal : List Entry) (from : ℕ) (one : Entry) (rest : List Entry) (t : Bool) → is_unsettled journal (from, one) ≡ t
    → settle_rest journal from (one ∷ rest) ≡ cond t (entry.Settled from ∷ settle_rest journal (from + 1) rest) (settle_rest journal (from + 1) rest)
settle_cons journal from one rest true is = rw is refl
settle_cons journal from one rest false is = rw is refl

-- the rest from a place on, by the entry there
settle_at : (journal : List Entry) (i : ℕ) (one : Entry) (t : Bool) → i < length journal → one ≡ get_or journal i one
    → is_unsettled journal (i, one) ≡ t
    → settle_rest journal i (drop i journal)
    ≡ cond t (entry.Settled i ∷ settle_rest journal (i + 1) (drop (i + 1) journal)) (settle_rest journal (i + 1) (drop (i + 1) journal))
settle_at journal i one t within is test =
    at_drop_more (settle_rest journal i) journal i one within
    ∙ ap (λ (e : Entry). settle_rest journal i (e ∷ drop (i + 1) journal)) (sym is)
    ∙ settle_cons journal i one (drop (i + 1) journal) t test

-- where it is to be settled it is the next that is put, and otherwise nothing is
pub put_settled : (journal entries whole : List Entry) (i : ℕ) (one : Entry) → i < length journal → one ≡ get_or journal i one
    → is_unsettled journal (i, one) ≡ true → entries ++ settle_rest journal i (drop i journal) ≡ whole
    → (entries ++ entry.Settled i ∷ []) ++ settle_rest journal (i + 1) (drop (i + 1) journal) ≡ whole
put_settled journal entries whole i one within is test so_far =
    append-cons entries (entry.Settled i) (settle_rest journal (i + 1) (drop (i + 1) journal))
    ∙ ap (λ (more : List Entry). entries ++ more) (sym (settle_at journal i one true within is test)) ∙ so_far

pub put_nothing : (journal entries whole : List Entry) (i : ℕ) (one : Entry) → i < length journal → one ≡ get_or journal i one
    → is_unsettled journal (i, one) ≡ false → entries ++ settle_rest journal i (drop i journal) ≡ whole
    → entries ++ settle_rest journal (i + 1) (drop (i + 1) journal) ≡ whole
put_nothing journal entries whole i one within is test so_far =
    ap (λ (more : List Entry). entries ++ more) (sym (settle_at journal i one false within is test)) ∙ so_far

-- an entry that is no write is nothing to settle
pub no_write_unsettled : (journal : List Entry) (i : ℕ) (one : Entry) → ((cell : _) → one ≡ entry.Write cell → ⊥)
    → is_unsettled journal (i, one) ≡ false
no_write_unsettled journal i (entry.Write cell) none = absurd (none cell refl)
no_write_unsettled journal i (entry.Settled place) none = refl
no_write_unsettled journal i entry.Committed none = refl
no_write_unsettled journal i (entry.Begun parent subs) none = refl
no_write_unsettled journal i (entry.Switched parent) none = refl
no_write_unsettled journal i (entry.Failed parent) none = refl
no_write_unsettled journal i (entry.Dropped slice) none = refl
no_write_unsettled journal i (entry.Down core) none = refl
no_write_unsettled journal i (entry.Up core) none = refl
no_write_unsettled journal i (entry.Led core) none = refl
