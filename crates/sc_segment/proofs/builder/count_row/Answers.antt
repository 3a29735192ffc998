-- A row is counted at its key and at no other.
use Rattle.std.proofs.Common.{◌≡◌, ◌++◌, List, Some, IfOk, OnErr, refl, sym, ap, subst, ◌∙◌, rules, arith}
use Rattle.std.proofs.lemmas.Map.Steps.{set_value_same}
use Rattle.std.specs.HashMap.Entry.{map_with_value}
use Rattle.std.specs.Map.{values_of}
use Rattle.sc_segment.specs.declared.tally.Posting.{Posting}
use Rattle.sc_segment.specs.declared.tally.Tally.{Tally}
use Rattle.sc_segment.specs.Filing.{AreFiled, Counts, FilesRow, NoRowAbove, filed_entries, posting_of}
use Rattle.sc_segment.proofs.FilingLemmas.{eq-by_cmp, found_counted, new_counted, IfOk_then, OnErr_then}
use Rattle.sc_segment.proofs.builder.count_row.Goals as goal

pub returns-in-Occupied-clause-filed : goal.returns-in-Occupied-clause-filed
returns-in-Occupied-clause-filed g c =
    let one = eq-by_cmp g.K.PartialEq.eq g.K.Ord.cmp g.met.K.Ord.matches_eq in
    let old = c.args.keys.now.entries in
    let e = c.in_ok-entry.field-0 in
    let v = c.into_mut.result.now in
    let w = c.add.new.self in
    let found = sym (rw c.in-Occupied.is at c.in_ok-entry.ensures.value) ∙ c.into_mut.ensures.value in
    let put = rw found at (c.in_ok-entry.ensures.update.1 w) in
    subst (λ (es : List _). IfOk c.add.result (λ number. (postings : List Posting) → AreFiled (values_of old) postings → NoRowAbove c.args.row postings → AreFiled (values_of es) (postings ++ posting_of number c.args.row)))
    (search rules)
    (IfOk_then (Counts c.args.row v w) (λ number. (postings : List Posting) → AreFiled (values_of old) postings → NoRowAbove c.args.row postings
    → AreFiled (values_of (map_with_value e w).entries) (postings ++ posting_of number c.args.row)) c.add.result
    (λ number counts postings filed bound. (found_counted g.K.PartialEq.eq g.K.Ord.cmp one g.met.K.Ord.total old (map_with_value e w).entries c.args.row c.args.key w (c.in_ok-entry.ensures.update.0 w).0
    postings filed bound v found put number counts).0)
    c.add.ensures.ok)

pub returns-in-Occupied-clause-index : goal.returns-in-Occupied-clause-index
returns-in-Occupied-clause-index g c =
    let one = eq-by_cmp g.K.PartialEq.eq g.K.Ord.cmp g.met.K.Ord.matches_eq in
    let old = c.args.keys.now.entries in
    let e = c.in_ok-entry.field-0 in
    let v = c.into_mut.result.now in
    let w = c.add.new.self in
    let found = sym (rw c.in-Occupied.is at c.in_ok-entry.ensures.value) ∙ c.into_mut.ensures.value in
    let put = rw found at (c.in_ok-entry.ensures.update.1 w) in
    subst (λ (es : List _). IfOk c.add.result (λ number. (postings : List Posting) → AreFiled (values_of old) postings → NoRowAbove c.args.row postings
    → FilesRow g.K.Ord.cmp c.args.row c.args.key (filed_entries old postings) (filed_entries es (postings ++ posting_of number c.args.row))))
    (search rules)
    (IfOk_then (Counts c.args.row v w) (λ number. (postings : List Posting) → AreFiled (values_of old) postings → NoRowAbove c.args.row postings
    → FilesRow g.K.Ord.cmp c.args.row c.args.key (filed_entries old postings) (filed_entries (map_with_value e w).entries (postings ++ posting_of number c.args.row))) c.add.result
    (λ number counts postings filed bound. (found_counted g.K.PartialEq.eq g.K.Ord.cmp one g.met.K.Ord.total old (map_with_value e w).entries c.args.row c.args.key w (c.in_ok-entry.ensures.update.0 w).0
    postings filed bound v found put number counts).1)
    c.add.ensures.ok)

pub returns-in-Occupied-clause-err : goal.returns-in-Occupied-clause-err
returns-in-Occupied-clause-err g c =
    let old = c.args.keys.now.entries in
    let e = c.in_ok-entry.field-0 in
    let w = c.add.new.self in
    let found = sym (rw c.in-Occupied.is at c.in_ok-entry.ensures.value) ∙ c.into_mut.ensures.value in
    let put = rw found at (c.in_ok-entry.ensures.update.1 w) in
    subst (λ (es : List _). OnErr c.add.result (es ≡ old)) (search rules)
    (OnErr_then c.add.result
    (λ same. put ∙ set_value_same (g.K.PartialEq.eq c.args.key) old w (found ∙ ap Some (sym same)))
    c.add.ensures.err)

pub returns-in-Vacant-clause-filed : goal.returns-in-Vacant-clause-filed
returns-in-Vacant-clause-filed g c = λ postings filed bound.
    let one = eq-by_cmp g.K.PartialEq.eq g.K.Ord.cmp g.met.K.Ord.matches_eq in
    let old = c.args.keys.now.entries in
    let e = c.in_ok-entry.field-0 in
    let w : Tally = record { number = c.in_ok-next.next; count = 1; last = c.args.row } in
    let missed = rw c.in-Vacant.is at c.in_ok-entry.ensures.found in
    let put = rw missed at (c.in_ok-entry.ensures.update.1 w) in
    let len = rw (c.in_ok-entry.ensures.value, missed) at (c.in_ok-entry.ensures.len w) in
    subst (λ (es : List _). AreFiled (values_of es) (postings ++ posting_of (Some c.in_ok-next.next) c.args.row)) (search rules)
    (new_counted g.K.PartialEq.eq g.K.Ord.cmp one g.met.K.Ord.total old (map_with_value e w).entries c.args.row c.args.key w (c.in_ok-entry.ensures.update.0 w).0
    postings filed bound missed put (omega (arith, len)) (c.in_ok-next.ensures ∙ c.len.ensures.len) refl refl).0

pub returns-in-Vacant-clause-index : goal.returns-in-Vacant-clause-index
returns-in-Vacant-clause-index g c = λ postings filed bound.
    let one = eq-by_cmp g.K.PartialEq.eq g.K.Ord.cmp g.met.K.Ord.matches_eq in
    let old = c.args.keys.now.entries in
    let e = c.in_ok-entry.field-0 in
    let w : Tally = record { number = c.in_ok-next.next; count = 1; last = c.args.row } in
    let missed = rw c.in-Vacant.is at c.in_ok-entry.ensures.found in
    let put = rw missed at (c.in_ok-entry.ensures.update.1 w) in
    let len = rw (c.in_ok-entry.ensures.value, missed) at (c.in_ok-entry.ensures.len w) in
    subst (λ (es : List _). FilesRow g.K.Ord.cmp c.args.row c.args.key (filed_entries old postings) (filed_entries es (postings ++ posting_of (Some c.in_ok-next.next) c.args.row))) (search rules)
    (new_counted g.K.PartialEq.eq g.K.Ord.cmp one g.met.K.Ord.total old (map_with_value e w).entries c.args.row c.args.key w (c.in_ok-entry.ensures.update.0 w).0
    postings filed bound missed put (omega (arith, len)) (c.in_ok-next.ensures ∙ c.len.ensures.len) refl refl).1
