-- After an accepted order's last stop the write of the first is settled.
use Rattle.std.proofs.Common.{◌≡◌, ℕ, ◌+◌, Bool, true, false, cond, List, [], ◌∷◌, ◌++◌, take, get_or, slice_get, Some, refl, ap, ◌∙◌}
use Rattle.std.specs.Prelude.{◌||◌, not}
use Rattle.std.proofs.lemmas.Bool.{eq-eqb}
use Rattle.std.proofs.lemmas.List.{take_more}
use Rattle.std.proofs.lemmas.Option.{slice_get_within, get_or_from_slice_get}
use Rattle.sc_record.specs.declared.entry.Entry.{Entry}
use Rattle.sc_record.specs.declared.entry.Entry.TheVariants as entry
use Rattle.sc_journal.specs.Journal.{is_settled}
use Rattle.sc_seen.specs.BatchLaws.{LastStopsSettle}
use Rattle.sc_journal.proofs.SettledLemmas.{is_settled-push}

or-true : (b : Bool) → (b || true) ≡ true
or-true true = refl
or-true false = refl

-- the entry that settles a write settles it
settled-with : (journal : List Entry) (place settled : ℕ) → slice_get journal place ≡ Some (entry.Settled settled)
    → is_settled (take (place + 1) journal) settled ≡ true
settled-with journal place settled is =
    let before : List Entry = take place journal in
    let one : get_or journal place (entry.Settled settled) ≡ entry.Settled settled =
    get_or_from_slice_get journal place (entry.Settled settled) (entry.Settled settled) is in
    ap (λ (all : List Entry). is_settled all settled)
    (take_more journal place (entry.Settled settled) (slice_get_within journal place (entry.Settled settled) is) ∙ ap (λ (e : Entry). before ++ e ∷ []) one)
    ∙ is_settled-push before (entry.Settled settled) settled
    ∙ ap (λ b. is_settled before settled || b) (eq-eqb settled settled refl) ∙ or-true (is_settled before settled)

-- what was not made was there
there : (b : Bool) → false ≡ not b → b ≡ true
there true is = refl
there false is = absurd (cc)

pub last_settles : LastStopsSettle
last_settles seen first last settling = by last.made settling.made settling.made_is where
  journal : List Entry
  journal = seen.journals last.lock

  by : (made : Bool) → made ≡ not (is_settled (take last.place journal) first.place)
      → (made ≡ true → slice_get journal last.place ≡ Some (entry.Settled first.place))
      → is_settled (take (cond made (last.place + 1) last.place) journal) first.place ≡ true
  by true unsettled made = settled-with journal last.place first.place (made refl)
  by false unsettled made = there (is_settled (take last.place journal) first.place) unsettled
