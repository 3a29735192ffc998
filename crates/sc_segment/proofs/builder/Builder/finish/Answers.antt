-- The sorted keys of the map with their rows are the index.
use Rattle.std.proofs.Common.{All, ap, sym, subst, ◌∙◌}
use Rattle.std.proofs.lemmas.List.Elements.{All-from_recursion, recursion_from_All}
use Rattle.std.proofs.lemmas.List.Sorted.{IsPermutation-map}
use Rattle.std.specs.List.Sorted.{IsStrictlySortedBy}
use Rattle.std.specs.Map.{keys_of, values_of}
use Rattle.sc_segment.specs.Filing.{IsTallyOf, filed_entries, posting_rows}
use Rattle.sc_segment.specs.Index.{HasRows}
use Rattle.sc_segment.proofs.FilingLemmas.{HasRows-entries, IsStrictlySortedBy-alike, keys_of-entries_of, sorted_entries-alike}
use Rattle.sc_segment.proofs.SortingLemmas.{entries_of-sorted}
use Rattle.sc_segment.proofs.TallyLemmas.{filed-permuted}
use Rattle.sc_segment.proofs.builder.Builder.finish.Goals as goal

pub laid_out-requires : goal.laid_out-requires
laid_out-requires g c =
    filed-permuted (values_of c.self.inside.keys.entries) (values_of c.in_ok-entries.entries.items) c.self.inside.postings.items
    (IsPermutation-map (λ (e : _ × _). e.1) c.self.inside.keys.entries c.in_ok-entries.entries.items c.in_ok-entries.ensures.same)
    c.self.invariant.1

pub new-requires : goal.new-requires
new-requires g c =
    let entries = c.in_ok-entries.entries.items in
    let postings = c.self.inside.postings.items in
    let filed = filed-permuted (values_of c.self.inside.keys.entries) (values_of entries) postings
    (IsPermutation-map (λ (e : _ × _). e.1) c.self.inside.keys.entries entries c.in_ok-entries.ensures.same) c.self.invariant.1 in
    let is = c.in_ok-kept.ensures ∙ c.in_ok-index.ensures in
    record {
      keys = subst (λ (es : _). IsStrictlySortedBy g.K.Key.order (keys_of es)) (sym is)
          (subst (IsStrictlySortedBy g.K.Key.order) (sym (keys_of-entries_of entries postings))
          (IsStrictlySortedBy-alike c.self.invariant.0 (keys_of entries) c.in_ok-entries.ensures.ascending));
      rows = subst (λ (es : _). All HasRows es) (sym is)
          (All-from_recursion HasRows (filed_entries entries postings)
          (HasRows-entries entries postings (recursion_from_All (λ t. IsTallyOf (posting_rows t.number postings) t) (values_of entries) filed.counted)));
    }

pub returns : goal.returns
returns g c =
    let keys = c.self.inside.keys.entries in
    let entries = c.in_ok-entries.entries.items in
    let postings = c.self.inside.postings.items in
    c.new.ensures ∙ c.in_ok-kept.ensures ∙ c.in_ok-index.ensures
    ∙ entries_of-sorted g.met.K.Ord.total keys entries postings c.in_ok-entries.ensures.same c.in_ok-entries.ensures.ascending
    ∙ sorted_entries-alike c.self.invariant.0 (filed_entries keys postings) ∙ ap (λ s. s.index) c.self.view_is
