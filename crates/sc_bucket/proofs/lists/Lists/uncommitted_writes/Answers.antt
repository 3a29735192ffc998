-- The writes that are not committed are those after the committed ones, of which there are so many beside those that were let go.
use Rattle.std.proofs.Common.{◌≡◌, ◌∙◌, ◌≤◌, ℕ, ◌+◌, List, ◌++◌, length, map, drop, sym, ap, subst, arith, length-append}
use Rattle.std.proofs.Math.Seq.{drop-append-add}
use Rattle.std.proofs.lemmas.List.{take_rest}
use Rattle.std.specs.Arc.{arc_value}
use Rattle.std.specs.declared.alloc.Global.{Global}
use Rattle.std.specs.declared.sync.Arc.{Arc}
use Rattle.sc_record.specs.Writes.{Write}
use Rattle.sc_record.specs.declared.entry.Entry.{Entry}
use Rattle.sc_bucket.specs.Entries.{entries_of, let_go_of, AreCounted, uncommitted}
use Rattle.sc_bucket.specs.Kept.{ListsState}
use Rattle.sc_bucket.proofs.UncommittedLemmas.{AreCounted-within, uncommitted-counted}
use Rattle.sc_bucket.proofs.lists.Lists.uncommitted_writes.Goals as goal

-- no more are committed than there are
within : (journal : List Entry) (went cells seen : List (Arc Write Global)) (count : ℕ) → AreCounted journal (went ++ cells) (length went + count)
    → seen ≡ cells → count ≤ length seen
within journal went cells seen count counted same =
    subst (λ (these : List (Arc Write Global)). count ≤ length these) (sym same)
    (omega (arith, AreCounted-within journal (went ++ cells) (length went + count) counted, length-append went cells))

pub offset_bounds-as_slice-self-inside : goal.offset_bounds-as_slice-self-inside
offset_bounds-as_slice-self-inside c =
    let old = c.self.inside in
    let few : old.committed ≤ length c.as_slice.result.now = within (entries_of old.marks.items (let_go_of old.gone.items ++ old.writes.items) old.settled.items old.others.items)
    (let_go_of old.gone.items) old.writes.items c.as_slice.result.now old.committed
    c.self.invariant.5 c.as_slice.ensures.value in
    omega (arith, few)

pub slice_bounds-result-count : goal.slice_bounds-result-count
slice_bounds-result-count c =
    let old = c.self.inside in
    within (entries_of old.marks.items (let_go_of old.gone.items ++ old.writes.items) old.settled.items old.others.items)
    (let_go_of old.gone.items) old.writes.items c.as_slice.result.now old.committed c.self.invariant.5 c.as_slice.ensures.value

pub slice_bounds-result-start : goal.slice_bounds-result-start
slice_bounds-result-start c =
    let old = c.self.inside in
    within (entries_of old.marks.items (let_go_of old.gone.items ++ old.writes.items) old.settled.items old.others.items)
    (let_go_of old.gone.items) old.writes.items c.as_slice.result.now old.committed c.self.invariant.5 c.as_slice.ensures.value

pub returns : goal.returns
returns c =
    let old = c.self.inside in
    let went = let_go_of old.gone.items in
    let cells : List (Arc Write Global) = c.as_slice.result.now in
    ap (map arc_value) (take_rest cells old.committed ∙ ap (drop old.committed) c.as_slice.ensures.value ∙ sym (drop-append-add went old.writes.items old.committed))
    ∙ uncommitted-counted (entries_of old.marks.items (went ++ old.writes.items) old.settled.items old.others.items) (went ++ old.writes.items)
    (length went + old.committed) c.self.invariant.5
    ∙ ap (λ (s : ListsState). uncommitted s.entries) c.self.view_is
