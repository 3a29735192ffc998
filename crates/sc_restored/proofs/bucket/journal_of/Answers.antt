-- The next entry comes to the end.
use Rattle.std.proofs.Common.{◌≡◌, ◌∙◌, List, [], ◌∷◌, ◌++◌, length, sym, ap, append_assoc, arith}
use Rattle.std.proofs.lemmas.List.{append-nil, nil_from_length}
use Rattle.sc_record.specs.declared.entry.Entry.{Entry}
use Rattle.sc_bucket.specs.Kept.{JournalState}
use Rattle.sc_restored.proofs.bucket.journal_of.Goals as goal

pub loop-entry-init : goal.loop-entry-init
loop-entry-init c = record {
  entries = ap (λ (j : JournalState). j.entries) c.await_file.ensures ∙ ap (λ (j : JournalState). j.entries) c.new-journal.ensures;
  left = c.into_iter-entry-iterator.ensures.into_iter_gives.0 ∙ c.into_vec-entry-items.ensures;
  filed = ap (λ (j : JournalState). j.filed) c.await_file.ensures;
}

pub loop-entry-preserved : goal.loop-entry-preserved
loop-entry-preserved c =
    let i = c.loop-entry.invariant in
    let one = c.in-Some.entry in
    record {
      entries = c.in_ok-put.ensures.entries ∙ ap (λ (these : List Entry). these ++ one ∷ []) i.entries;
      left = append_assoc c.loop-entry.yielded (one ∷ []) c.next.new.self.rest.items
          ∙ ap (λ (end : List Entry). c.loop-entry.yielded ++ end) (sym (c.in-Some.ensures.steps).0) ∙ i.left;
      filed = c.in_ok-put.ensures.filed ∙ i.filed;
    }

pub returns-clause-entries : goal.returns-clause-entries
returns-clause-entries c =
    let i = c.loop-entry.invariant in
    let rest = c.loop-entry.entry-iterator.rest.items in
    let none : length rest ≡ 0 = omega (arith, c.loop-entry.entry-iterator.rest.ok.0, (c.in-None.ensures.steps).0) in
    ap (λ (j : JournalState). j.entries) c.in_ok-reserve.ensures.ok ∙ i.entries ∙ sym (append-nil c.loop-entry.yielded)
    ∙ ap (λ (end : List Entry). c.loop-entry.yielded ++ end) (sym (nil_from_length rest none)) ∙ i.left

pub returns-clause-room : goal.returns-clause-room
returns-clause-room c =
    let room = ap (λ (j : JournalState). j.room) c.in_ok-reserve.ensures.ok in omega (arith, room)

pub returns-clause-filed : goal.returns-clause-filed
returns-clause-filed c = ap (λ (j : JournalState). j.filed) c.in_ok-reserve.ensures.ok ∙ c.loop-entry.invariant.filed
