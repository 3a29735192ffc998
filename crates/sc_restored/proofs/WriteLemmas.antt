-- The writes of the entries up to one, with it.
use Rattle.std.proofs.Common.{◌≡◌, ℕ, ◌+◌, ◌<◌, List, [], ◌∷◌, ◌++◌, take, length, get_or, None, refl, sym, ap, ◌∙◌}
use Rattle.std.specs.Arc.{arc_value}
use Rattle.std.specs.declared.alloc.Global.{Global}
use Rattle.std.specs.declared.sync.Arc.{Arc}
use Rattle.std.proofs.lemmas.List.{take_more}
use Rattle.sc_record.specs.Writes.{Write}
use Rattle.sc_record.specs.declared.entry.Entry.{Entry}
use Rattle.sc_record.specs.declared.entry.Entry.TheVariants as entry
use Rattle.sc_journal.specs.Journal.{as_write, writes}
use Rattle.sc_journal.proofs.JournalLemmas.{writes-push_write, writes-push_other}

-- an entry that is a write
pub writes-next_write : (journal : List Entry) (at : ℕ) (one : Entry) (cell : Arc Write Global) (found : List Write) → at < length journal
    → one ≡ get_or journal at one → one ≡ entry.Write cell → found ≡ writes (take at journal)
    → found ++ arc_value cell ∷ [] ≡ writes (take (at + 1) journal)
writes-next_write journal at one cell found below is written known =
    ap (λ (ws : List Write). ws ++ arc_value cell ∷ []) known ∙ sym (writes-push_write (take at journal) cell)
    ∙ ap (λ (e : Entry). writes (take at journal ++ e ∷ [])) (sym written ∙ is)
    ∙ ap writes (sym (take_more journal at one below))

-- and one that is none
pub writes-next_other : (journal : List Entry) (at : ℕ) (one : Entry) (found : List Write) → at < length journal
    → one ≡ get_or journal at one → as_write one ≡ None → found ≡ writes (take at journal)
    → found ≡ writes (take (at + 1) journal)
writes-next_other journal at one found below is none known =
    known ∙ sym (writes-push_other (take at journal) one none)
    ∙ ap (λ (e : Entry). writes (take at journal ++ e ∷ [])) is
    ∙ ap writes (sym (take_more journal at one below))

-- an entry of another kind is none
pub no_write : (one : Entry) → ((cell : _) → one ≡ entry.Write cell → ⊥) → as_write one ≡ None
no_write (entry.Write cell) none = absurd (none cell refl)
no_write (entry.Settled place) none = refl
no_write entry.Committed none = refl
no_write (entry.Begun parent subs) none = refl
no_write (entry.Switched parent) none = refl
no_write (entry.Failed parent) none = refl
no_write (entry.Dropped slice) none = refl
no_write (entry.Down core) none = refl
no_write (entry.Up core) none = refl
no_write (entry.Led core) none = refl
