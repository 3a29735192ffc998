-- Which writes no entry settles, once one entry more came.
use Rattle.std.proofs.Common.{◌≡◌, ℕ, ◌+◌, ◌<◌, ◌⊎◌, inl, inr, Bool, true, false, not, ◌&&◌, ◌||◌, cond, eqb, List, [], ◌∷◌, ◌++◌, length, Some, None, Option, is_some, refl, sym, ap, ◌∙◌, arith, length-append}
use Rattle.std.specs.Arc.{arc_value}
use Rattle.std.proofs.lemmas.Bool.{cases_order, eq-eqb, ne_eqb}
use Rattle.sc_record.specs.Writes.{Write}
use Rattle.sc_record.specs.declared.entry.Entry.{Entry}
use Rattle.sc_record.specs.declared.entry.Entry.TheVariants as entry
use Rattle.sc_cluster.specs.declared.slice.Slice.{Slice}
use Rattle.sc_journal.specs.Journal.{as_write, write_at, is_settled}
use Rattle.sc_journal.specs.Legal.{IsLegal}
use Rattle.sc_journal.proofs.JournalLemmas.{write_at-push_end, write_at-append, write_at_past}
use Rattle.sc_journal.proofs.SettledLemmas.{SettlesNothing, is_settled-push, is_settled-push_other}
use Rattle.sc_journal.proofs.LegalLemmas.{end_is_open}
use Rattle.sc_legal.specs.Kept.{is_unsettled_at}

-- an entry that is no write leaves the writes at their places
write_at-push_other : (journal : List Entry) (one : Entry) (place : ℕ) → as_write one ≡ None
    → write_at (journal ++ one ∷ []) place ≡ write_at journal place
write_at-push_other journal one place none = by (cases_order place (length journal)) where
  by : (place ≡ length journal) ⊎ ((place < length journal) ⊎ (length journal < place))
      → write_at (journal ++ one ∷ []) place ≡ write_at journal place
  by (inl end) =
      ap (write_at (journal ++ one ∷ [])) end ∙ write_at-push_end journal one ∙ none
      ∙ sym (write_at_past journal place (omega (arith, end)))
  by (inr (inl before)) = write_at-append journal (one ∷ []) place before
  by (inr (inr after)) =
      write_at_past (journal ++ one ∷ []) place (omega (arith, after, length-append journal (one ∷ [])))
      ∙ sym (write_at_past journal place (omega (arith, after)))

-- one that settles nothing either leaves those that are not settled
pub is_unsettled-left : (journal : List Entry) (one : Entry) (place : ℕ) → as_write one ≡ None → SettlesNothing one
    → is_unsettled_at (journal ++ one ∷ []) place ≡ is_unsettled_at journal place
is_unsettled-left journal one place none nothing =
    ap (λ (w : Option Write). is_some w && not (is_settled (journal ++ one ∷ []) place))
    (write_at-push_other journal one place none)
    ∙ ap (λ b. is_some (write_at journal place) && not b) (is_settled-push_other journal one place nothing)

-- what is left of a test where another takes from it
taken : (written settled here : Bool) → written && not (settled || here) ≡ cond here false (written && not settled)
taken true true true = refl
taken true true false = refl
taken true false true = refl
taken true false false = refl
taken false settled true = refl
taken false settled false = refl

-- one that settles a write takes its place away
pub is_unsettled-settled : (journal : List Entry) (settled place : ℕ)
    → is_unsettled_at (journal ++ entry.Settled settled ∷ []) place
    ≡ cond (eqb settled place) false (is_unsettled_at journal place)
is_unsettled-settled journal settled place =
    let one : Entry = entry.Settled settled in
    ap (λ (w : Option Write). is_some w && not (is_settled (journal ++ one ∷ []) place))
    (write_at-push_other journal one place refl)
    ∙ ap (λ b. is_some (write_at journal place) && not b) (is_settled-push journal one place)
    ∙ taken (is_some (write_at journal place)) (is_settled journal place) (eqb settled place)

-- no write is after the end
is_unsettled_past : (journal : List Entry) (place : ℕ) → length journal < place → is_unsettled_at journal place ≡ false
is_unsettled_past journal place past =
    ap (λ (w : Option Write). is_some w && not (is_settled journal place))
    (write_at_past journal place (omega (arith, past)))

-- nor at it
pub is_unsettled-end : (journal : List Entry) → is_unsettled_at journal (length journal) ≡ false
is_unsettled-end journal =
    ap (λ (w : Option Write). is_some w && not (is_settled journal (length journal)))
    (write_at_past journal (length journal) (omega arith))

-- a write comes to the end of a legal journal, and is not settled yet
pub is_unsettled-write : (first : List Slice) (journal : List Entry) (cell : _) (place : ℕ) → IsLegal first journal
    → is_unsettled_at (journal ++ entry.Write cell ∷ []) place
    ≡ cond (eqb (length journal) place) true (is_unsettled_at journal place)
is_unsettled-write first journal cell place legal = by (cases_order place (length journal)) where
  one : Entry
  one = entry.Write cell

  settled_as_before : is_settled (journal ++ one ∷ []) place ≡ is_settled journal place
  settled_as_before = is_settled-push_other journal one place (λ p. refl)

  written : is_unsettled_at (journal ++ one ∷ []) place ≡ is_some (write_at (journal ++ one ∷ []) place) && not (is_settled journal place)
  written = ap (λ b. is_some (write_at (journal ++ one ∷ []) place) && not b) settled_as_before

  by : (place ≡ length journal) ⊎ ((place < length journal) ⊎ (length journal < place))
      → is_unsettled_at (journal ++ one ∷ []) place ≡ cond (eqb (length journal) place) true (is_unsettled_at journal place)
  by (inl end) =
      let at_end : write_at (journal ++ one ∷ []) place ≡ Some (arc_value cell) = ap (write_at (journal ++ one ∷ [])) end ∙ write_at-push_end journal one in
      written
      ∙ ap (λ (w : Option Write). is_some w && not (is_settled journal place)) at_end
      ∙ ap (λ b. not b) (ap (is_settled journal) end ∙ end_is_open first journal legal)
      ∙ sym (ap (λ b. cond b true (is_unsettled_at journal place)) (eq-eqb (length journal) place (sym end)))
  by (inr (inl before)) =
      written
      ∙ ap (λ (w : Option Write). is_some w && not (is_settled journal place)) (write_at-append journal (one ∷ []) place before)
      ∙ sym (ap (λ b. cond b true (is_unsettled_at journal place)) (ne_eqb (length journal) place (λ same. absurd (omega (arith, before, same)))))
  by (inr (inr after)) =
      let longer : length journal + 1 ≡ length (journal ++ one ∷ []) = omega (arith, length-append journal (one ∷ [])) in
      written
      ∙ ap (λ (w : Option Write). is_some w && not (is_settled journal place)) (write_at_past (journal ++ one ∷ []) place (omega (arith, after, longer)))
      ∙ sym (is_unsettled_past journal place after)
      ∙ sym (ap (λ b. cond b true (is_unsettled_at journal place)) (ne_eqb (length journal) place (λ same. absurd (omega (arith, after, same)))))
