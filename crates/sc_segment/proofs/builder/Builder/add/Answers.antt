-- One pair more is in the index.
use Rattle.std.proofs.Common.{◌≡◌, ℕ, ◌++◌, List, Option, ap, sym, subst, ◌∙◌, arith}
use Rattle.std.specs.Map.{values_of}
use Rattle.sc_segment.specs.declared.tally.Posting.{Posting}
use Rattle.sc_segment.specs.Filing.{AreFiled, FilesRow, NoRowAbove, filed_entries, posting_of, sorted_entries}
use Rattle.sc_segment.proofs.AddingLemmas.{IsIndexOf-push}
use Rattle.sc_segment.proofs.FilingLemmas.{FilesRow-alike}
use Rattle.sc_segment.proofs.SortingLemmas.{FilesRow-sorted}
use Rattle.sc_segment.proofs.TallyLemmas.{NoRowAbove-later, NoRowAbove-posting}
use Rattle.sc_segment.proofs.builder.Builder.add.Goals as goal

-- the postings after room was made and one was put to them, if there was one
put : (postings roomy postings' : List Posting) (number : Option ℕ) (row : ℕ) → roomy ≡ postings → postings' ≡ roomy ++ posting_of number row → postings' ≡ postings ++ posting_of number row
put postings roomy postings' number row room longer = longer ∙ ap (λ (ps : List Posting). ps ++ posting_of number row) room

pub invariant_of-self-2 : goal.invariant_of-self-2
invariant_of-self-2 g c =
    let ps = c.self.inside.postings.items in
    let new = c.put_posting.new.postings.items in
    let number = c.in_ok-number.number in
    let longer : new ≡ ps ++ posting_of number c.args.row = put ps c.reserve.new.self.items new number c.args.row c.reserve.ensures.items c.put_posting.ensures in
    let last = ap (λ s. s.last_row) c.self.view_is in
    let bound : NoRowAbove c.args.row ps = NoRowAbove-later c.self.inside.last_row c.args.row ps (omega (arith, last, c.requires)) c.self.invariant.2 in (
      c.self.invariant.0,
      subst (AreFiled (values_of c.count_row.new.keys.entries)) (sym longer) (c.in_ok-number.ensures.filed ps c.self.invariant.1 bound),
      subst (NoRowAbove c.args.row) (sym longer) (NoRowAbove-posting number c.args.row ps bound),
    )

pub returns-clause-ok : goal.returns-clause-ok
returns-clause-ok g c = λ added index.
    let old = filed_entries c.self.inside.keys.entries c.self.inside.postings.items in
    let keys = c.count_row.new.keys.entries in
    let ps = c.self.inside.postings.items in
    let new = c.put_posting.new.postings.items in
    let number = c.in_ok-number.number in
    let longer : new ≡ ps ++ posting_of number c.args.row = put ps c.reserve.new.self.items new number c.args.row c.reserve.ensures.items c.put_posting.ensures in
    let last = ap (λ s. s.last_row) c.self.view_is in
    let bound : NoRowAbove c.args.row ps = NoRowAbove-later c.self.inside.last_row c.args.row ps (omega (arith, last, c.requires)) c.self.invariant.2 in
    let filed : FilesRow g.K.Ord.cmp c.args.row c.args.key old (filed_entries keys new) =
    subst (λ (qs : List Posting). FilesRow g.K.Ord.cmp c.args.row c.args.key old (filed_entries keys qs)) (sym longer) (c.in_ok-number.ensures.index ps c.self.invariant.1 bound) in
    IsIndexOf-push g.met.K.Key.total added c.args.row c.args.key (sorted_entries g.K.Key.order old) (sorted_entries g.K.Key.order (filed_entries keys new))
    (FilesRow-sorted g.met.K.Key.total c.args.row c.args.key old (filed_entries keys new) (FilesRow-alike c.self.invariant.0 c.args.row c.args.key old (filed_entries keys new) filed))
    (rw (← c.self.view_is) at index)
