-- What is let go are the writes below the entry, which are the first of those that are there; contracts have them still.
use Rattle.std.proofs.Common.{◌≡◌, ◌∙◌, ◌≤◌, ℕ, List, ◌++◌, length, filter, take, drop, sym, ap, subst, arith, length-drop}
use Rattle.std.specs.List.{slice_range}
use Rattle.std.specs.declared.sync.Arc.{Arc}
use Rattle.std.specs.declared.alloc.Global.{Global}
use Rattle.sc_record.specs.Writes.{Write}
use Rattle.sc_record.specs.declared.entry.Entry.{Entry}
use Rattle.sc_journal.specs.Committed.{last_commit}
use Rattle.sc_bucket.specs.declared.entries.Mark.{Mark}
use Rattle.sc_bucket.specs.Kept.{ListsState}
use Rattle.sc_bucket.specs.Entries.{entries_of, is_write, let_go_of}
use Rattle.sc_bucket.proofs.GoneLemmas.{below-within, let_go_of-push, few-go, there-go, same-cells, parts-left, counted-left, gone-left}
use Rattle.sc_bucket.proofs.lists.Lists.let_go.Goals as goal

-- these entries, this room, and so much let go
abbrev lists_of : List Entry → ℕ → ℕ → ListsState
lists_of entries room gone = record { entries = entries; room = room; gone = gone }

-- what is asked, of the parts
after : (entries : List Entry) (room from below : ℕ) (seen : ListsState) → lists_of entries room from ≡ seen → seen.gone ≤ below → from ≤ below
after entries room from below seen is within = subst (λ (s : ListsState). s.gone ≤ below) (sym is) within

before : (entries : List Entry) (room from below : ℕ) (seen : ListsState) → lists_of entries room from ≡ seen → below ≤ last_commit seen.entries
    → below ≤ last_commit entries
before entries room from below seen is within = subst (λ (s : ListsState). below ≤ last_commit s.entries) (sym is) within

-- as many marks of writes
counted : (marks seen : List Mark) (from below count : ℕ) → seen ≡ marks → count ≡ length (filter is_write (slice_range seen from below))
    → count ≡ length (filter is_write (slice_range marks from below))
counted marks seen from below count same is = is ∙ ap (λ (these : List Mark). length (filter is_write (slice_range these from below))) same

pub slice_bounds-writes_among-end : goal.slice_bounds-writes_among-end
slice_bounds-writes_among-end c =
    let old = c.self.inside in
    let cells = let_go_of old.gone.items ++ old.writes.items in
    subst (λ (these : List Mark). c.args.below ≤ length these) (sym c.as_slice.ensures.value)
    (below-within old.marks.items cells old.settled.items old.others.items c.args.below c.self.invariant.0
    (before _ old.room old.from c.args.below c.args.self.now c.self.view_is c.requires.committed))

pub drain-requires-clause-in_bounds : goal.drain-requires-clause-in_bounds
drain-requires-clause-in_bounds c =
    let old = c.self.inside in
    let few = there-go old.marks.items (let_go_of old.gone.items) old.writes.items old.settled.items old.others.items old.committed old.from old.commit
    c.self.invariant.0 c.self.invariant.5 c.self.invariant.6 c.args.below c.writes_among-count.result
    (after _ old.room old.from c.args.below c.args.self.now c.self.view_is c.requires.after)
    (before _ old.room old.from c.args.below c.args.self.now c.self.view_is c.requires.committed)
    (counted old.marks.items c.as_slice.result.now old.from c.args.below c.writes_among-count.result c.as_slice.ensures.value c.writes_among-count.ensures) in
    omega (arith, few, old.writes.ok.0)

pub overflow_sub-self : goal.overflow_sub-self
overflow_sub-self c =
    let old = c.self.inside in
    few-go old.marks.items (let_go_of old.gone.items) old.writes.items old.settled.items old.others.items old.committed old.from old.commit
    c.self.invariant.0 c.self.invariant.5 c.self.invariant.6 c.args.below c.writes_among-count.result
    (after _ old.room old.from c.args.below c.args.self.now c.self.view_is c.requires.after)
    (before _ old.room old.from c.args.below c.args.self.now c.self.view_is c.requires.committed)
    (counted old.marks.items c.as_slice.result.now old.from c.args.below c.writes_among-count.result c.as_slice.ensures.value c.writes_among-count.ensures)

pub invariant_of-self : goal.invariant_of-self
invariant_of-self c =
    let old = c.self.inside in
    let count = c.writes_among-count.result in
    let more_is = ap let_go_of c.and-self-inside.ensures ∙ let_go_of-push old.gone.items old.writes count in
    let left_is : c.drop-drain.new.self.0.items ≡ drop count old.writes.items = c.drop-drain.ensures.items ∙ c.drain.ensures.kept in
    let left_room = c.drop-drain.ensures.capacity ∙ c.drain.ensures.capacity in
    let is_after = after _ old.room old.from c.args.below c.args.self.now c.self.view_is c.requires.after in
    let is_before = before _ old.room old.from c.args.below c.args.self.now c.self.view_is c.requires.committed in
    let is_counted = counted old.marks.items c.as_slice.result.now old.from c.args.below count c.as_slice.ensures.value c.writes_among-count.ensures in (
      parts-left old.marks.items (let_go_of old.gone.items) old.writes.items old.settled.items old.others.items old.committed old.from old.commit
          c.self.invariant.0 c.self.invariant.5 c.self.invariant.6 c.args.below count is_after is_before is_counted _ _ more_is left_is,
      c.self.invariant.1,
      omega (
        arith,
        c.self.invariant.2,
        old.writes.ok.0,
        c.drop-drain.new.self.0.ok.0,
        ap (λ (some : List (Arc Write Global)). length some) left_is,
        length-drop count old.writes.items,
        left_room,
      ),
      c.self.invariant.3,
      c.self.invariant.4,
      counted-left old.marks.items (let_go_of old.gone.items) old.writes.items old.settled.items old.others.items old.committed old.from old.commit
          c.self.invariant.0 c.self.invariant.5 c.self.invariant.6 c.args.below count is_after is_before is_counted _ _ more_is left_is,
      gone-left old.marks.items (let_go_of old.gone.items) old.writes.items old.settled.items old.others.items old.committed old.from old.commit
          c.self.invariant.0 c.self.invariant.5 c.self.invariant.6 c.args.below count is_after is_before is_counted _ _ more_is left_is,
    )

pub returns : goal.returns
returns c =
    let old = c.self.inside in
    let count = c.writes_among-count.result in
    let more_is = ap let_go_of c.and-self-inside.ensures ∙ let_go_of-push old.gone.items old.writes count in
    let left_is : c.drop-drain.new.self.0.items ≡ drop count old.writes.items = c.drop-drain.ensures.items ∙ c.drain.ensures.kept in
    let is_after = after _ old.room old.from c.args.below c.args.self.now c.self.view_is c.requires.after in
    let is_before = before _ old.room old.from c.args.below c.args.self.now c.self.view_is c.requires.committed in
    let is_counted = counted old.marks.items c.as_slice.result.now old.from c.args.below count c.as_slice.ensures.value c.writes_among-count.ensures in
    let same = same-cells old.marks.items (let_go_of old.gone.items) old.writes.items old.settled.items old.others.items old.committed old.from old.commit
    c.self.invariant.0 c.self.invariant.5 c.self.invariant.6 c.args.below count is_after is_before is_counted _ _ more_is left_is in
    ap (λ (cells : List (Arc Write Global)). lists_of (entries_of old.marks.items cells old.settled.items old.others.items) old.room c.args.below) same
    ∙ ap (λ (s : ListsState). record s { gone = c.args.below }) c.self.view_is
