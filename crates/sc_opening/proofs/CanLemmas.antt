-- What a legal journal says was done can be done, and its slices are those of that, with those that its open split is making.
use Rattle.std.proofs.Common.{◌≡◌, List, [], ◌∷◌, ◌++◌, Option, Some, None, refl, sym, ap, ◌∙◌, subst}
use Rattle.std.proofs.lemmas.List.{append-nil}
use Rattle.sc_record.specs.declared.slice.SliceId.{SliceId}
use Rattle.sc_record.specs.declared.slice.SubSlice.{SubSlice}
use Rattle.sc_record.specs.declared.entry.Entry.{Entry}
use Rattle.sc_record.specs.declared.entry.Entry.TheVariants as entry
use Rattle.sc_cluster.specs.declared.plan.SplitPlan.{SplitPlan}
use Rattle.sc_cluster.specs.declared.slice.Slice.{Slice}
use Rattle.sc_cluster.specs.Changes.{Change as MapChange, after, IsInactive}
use Rattle.sc_cluster.specs.Plans.{IsPlan}
use Rattle.sc_cluster.proofs.UndoLemmas.{undoes_a_failed_split}
use Rattle.sc_journal.specs.Splits.{map_after, open_split}
use Rattle.sc_journal.specs.Legal.{MayBeSplit, MayBeDropped, MayFollow, IsLegal}
use Rattle.sc_journal.proofs.ListLemmas.{append-cons}
use Rattle.sc_journal.proofs.SplitLemmas.{map_after-append, map_after-push, map_after-left, open_split-push, LeavesSlices, LeavesSlices-write, LeavesSlices-settled, LeavesSlices-committed, LeavesSlices-down, LeavesSlices-up, LeavesSlices-led}
use Rattle.sc_journal.proofs.LegalLemmas.{IsLegal-none, IsLegal-push, legal_induction}
use Rattle.sc_opening.specs.declared.change.Change.{Change}
use Rattle.sc_opening.specs.declared.change.Change.TheVariants as change
use Rattle.sc_opening.specs.Changes.{begun_after, open_begun, done_by, changes}
use Rattle.sc_opening.specs.Closed.{entries_of}
use Rattle.sc_opening.specs.Collections.{CanBeDone}
use Rattle.sc_opening.specs.Laws.{ChangesCanBeDone}
use Rattle.sc_opening.proofs.ChangeLemmas.{changes-append, open_begun-append, parent_of, open_split_is, no_plan, entries_of-append, begun_of_entries}

-- ---- one entry more
pub changes-push : (journal : List Entry) (one : Entry) → changes (journal ++ one ∷ []) ≡ changes journal ++ done_by one (open_begun journal)
changes-push journal one =
    changes-append journal (one ∷ [])
    ∙ ap (λ (rest : List Change). changes journal ++ rest) (append-nil (done_by one (open_begun journal)))

pub open_begun-push : (journal : List Entry) (one : Entry) → open_begun (journal ++ one ∷ []) ≡ begun_after (open_begun journal) one
open_begun-push journal one = open_begun-append journal (one ∷ [])

-- ---- what was done of a bucket
-- its slices
abbrev pub map_of : List Slice → List Change → List Slice
map_of first done = map_after first (entries_of done)

pub map_of-append : (first : List Slice) (done more : List Change) → map_of first (done ++ more) ≡ map_after (map_of first done) (entries_of more)
map_of-append first done more =
    ap (map_after first) (entries_of-append done more) ∙ map_after-append first (entries_of done) (entries_of more)

-- no split is open then
pub open_split_of_entries : (done : List Change) → open_split (entries_of done) ≡ None
open_split_of_entries done = open_split_is (entries_of done) ∙ ap parent_of (begun_of_entries done)

-- a split more can be done where it may begin
pub can_switched : (first : List Slice) (done : List Change) (plan : SplitPlan) → CanBeDone first done
    → IsPlan (map_of first done) plan.parent plan.subs → CanBeDone first (done ++ change.Switched plan ∷ [])
can_switched first done plan can may =
    let before = entries_of done in
    let begun : Entry = entry.Begun plan.parent plan.subs in
    let switched : Entry = entry.Switched plan.parent in
    let may_begin : MayBeSplit first before plan.parent plan.subs = record { idle = open_split_of_entries done; plan = may } in
    let one = IsLegal-push first before begun can may_begin in
    let two = IsLegal-push first (before ++ begun ∷ []) switched one (open_split-push before begun) in
    subst (IsLegal first) (append-cons before begun (switched ∷ []) ∙ sym (entries_of-append done (change.Switched plan ∷ []))) two

-- and a slice can be dropped where it is inactive
pub can_dropped : (first : List Slice) (done : List Change) (slice : SliceId) → CanBeDone first done
    → IsInactive (map_of first done) slice → CanBeDone first (done ++ change.Dropped slice ∷ [])
can_dropped first done slice can may =
    let before = entries_of done in
    let may_drop : MayBeDropped first before slice = record { idle = open_split_of_entries done; inactive = may } in
    subst (IsLegal first) (sym (entries_of-append done (change.Dropped slice ∷ [])))
    (IsLegal-push first before (entry.Dropped slice) can may_drop)

-- ---- a legal journal
-- the slices are those of what was done, with those that the open split is making
abbrev pub SlicesAre : List Slice → List Slice → Option SplitPlan → Type 0
SlicesAre base slices None = slices ≡ base
SlicesAre base slices (Some plan) =
    (slices ≡ after base (MapChange.Begun plan.parent plan.subs)) × IsPlan base plan.parent plan.subs

pub record Stands (first : List Slice) (journal : List Entry) : Type 0 where
  pub can : CanBeDone first (changes journal)
  pub slices : SlicesAre (map_of first (changes journal)) (map_after first journal) (open_begun journal)

-- how a journal stands with one entry more, by what it says was done then and the split that is open then
stands_by : (first : List Slice) (journal : List Entry) (one : Entry) (done : List Change) (running : Option SplitPlan)
    → changes (journal ++ one ∷ []) ≡ done → open_begun (journal ++ one ∷ []) ≡ running → CanBeDone first done
    → SlicesAre (map_of first done) (map_after first (journal ++ one ∷ [])) running → Stands first (journal ++ one ∷ [])
stands_by first journal one done running done_is running_is can slices =
    let longer = journal ++ one ∷ [] in
    let open_is = subst (SlicesAre (map_of first done) (map_after first longer)) (sym running_is) slices in
    record {
      can = subst (CanBeDone first) (sym done_is) can;
      slices = subst (λ (all : List Change). SlicesAre (map_of first all) (map_after first longer) (open_begun longer)) (sym done_is) open_is;
    }

-- with one that is nothing to its slices
stands_left : (first : List Slice) (journal : List Entry) (one : Entry) → LeavesSlices one
    → done_by one (open_begun journal) ≡ [] → begun_after (open_begun journal) one ≡ open_begun journal
    → Stands first journal → Stands first (journal ++ one ∷ [])
stands_left first journal one leaves none same stands =
    stands_by first journal one (changes journal) (open_begun journal)
    (changes-push journal one ∙ ap (λ (rest : List Change). changes journal ++ rest) none ∙ append-nil (changes journal))
    (open_begun-push journal one ∙ same) stands.can
    (subst (λ slices. SlicesAre (map_of first (changes journal)) slices (open_begun journal)) (sym (map_after-left first journal one leaves)) stands.slices)

-- where no split is open its slices are those of what was done
pub idle_map : (first : List Slice) (journal : List Entry) → Stands first journal → open_begun journal ≡ None
    → map_after first journal ≡ map_of first (changes journal)
idle_map first journal stands none =
    subst (SlicesAre (map_of first (changes journal)) (map_after first journal)) none stands.slices

none_begun : (journal : List Entry) → open_split journal ≡ None → open_begun journal ≡ None
none_begun journal idle = no_plan (open_begun journal) (sym (open_split_is journal) ∙ idle)

stands_begun : (first : List Slice) (journal : List Entry) (parent : SliceId) (subs : List SubSlice)
    → MayBeSplit first journal parent subs → Stands first journal → Stands first (journal ++ entry.Begun parent subs ∷ [])
stands_begun first journal parent subs may stands =
    let one : Entry = entry.Begun parent subs in
    let same = idle_map first journal stands (none_begun journal may.idle) in
    stands_by first journal one (changes journal) (Some (record { parent = parent; subs = subs }))
    (changes-push journal one ∙ append-nil (changes journal)) (open_begun-push journal one) stands.can (
      map_after-push first journal one (MapChange.Begun parent subs) refl ∙ ap (λ slices. after slices (MapChange.Begun parent subs)) same,
      subst (λ slices. IsPlan slices parent subs) same may.plan,
    )

stands_switched : (first : List Slice) (journal : List Entry) (parent : SliceId) → open_split journal ≡ Some parent
    → Stands first journal → Stands first (journal ++ entry.Switched parent ∷ [])
stands_switched first journal parent may stands = by (open_begun journal) refl stands.slices where
  by : (running : Option SplitPlan) → open_begun journal ≡ running
      → SlicesAre (map_of first (changes journal)) (map_after first journal) running → Stands first (journal ++ entry.Switched parent ∷ [])
  by None is slices = let none = sym may ∙ open_split_is journal ∙ ap parent_of is in absurd (cc)
  by (Some plan) is slices =
      let one : Entry = entry.Switched parent in
      let some : Some parent ≡ Some plan.parent = sym may ∙ open_split_is journal ∙ ap parent_of is in
      let same : parent ≡ plan.parent = cc in
      let more : List Change = change.Switched plan ∷ [] in
      let base = map_of first (changes journal) in
      let next = map_after-push first journal one (MapChange.Switched parent) refl
      ∙ ap (λ slices. after slices (MapChange.Switched parent)) slices.0
      ∙ ap (λ (id : SliceId). after (after base (MapChange.Begun plan.parent plan.subs)) (MapChange.Switched id)) same in
      stands_by first journal one (changes journal ++ more) None
      (changes-push journal one ∙ ap (λ (running : Option SplitPlan). changes journal ++ done_by one running) is)
      (open_begun-push journal one) (can_switched first (changes journal) plan stands.can slices.1)
      (next ∙ sym (map_of-append first (changes journal) more))

stands_failed : (first : List Slice) (journal : List Entry) (parent : SliceId) → open_split journal ≡ Some parent
    → Stands first journal → Stands first (journal ++ entry.Failed parent ∷ [])
stands_failed first journal parent may stands = by (open_begun journal) refl stands.slices where
  by : (running : Option SplitPlan) → open_begun journal ≡ running
      → SlicesAre (map_of first (changes journal)) (map_after first journal) running → Stands first (journal ++ entry.Failed parent ∷ [])
  by None is slices = let none = sym may ∙ open_split_is journal ∙ ap parent_of is in absurd (cc)
  by (Some plan) is slices =
      let one : Entry = entry.Failed parent in
      let undone = undoes_a_failed_split (map_of first (changes journal)) plan.parent plan.subs slices.1 in
      let next = map_after-push first journal one (MapChange.Failed parent) refl
      ∙ ap (λ slices. after slices (MapChange.Failed parent)) slices.0 in
      stands_by first journal one (changes journal) None (changes-push journal one ∙ append-nil (changes journal))
      (open_begun-push journal one) stands.can (next ∙ undone)

stands_dropped : (first : List Slice) (journal : List Entry) (slice : SliceId) → MayBeDropped first journal slice
    → Stands first journal → Stands first (journal ++ entry.Dropped slice ∷ [])
stands_dropped first journal slice may stands =
    let one : Entry = entry.Dropped slice in
    let none = none_begun journal may.idle in
    let same = idle_map first journal stands none in
    let more : List Change = change.Dropped slice ∷ [] in
    stands_by first journal one (changes journal ++ more) None (changes-push journal one) (open_begun-push journal one ∙ none)
    (can_dropped first (changes journal) slice stands.can (subst (λ slices. IsInactive slices slice) same may.inactive))
    (map_after-push first journal one (MapChange.Dropped slice) refl ∙ ap (λ slices. after slices (MapChange.Dropped slice)) same
    ∙ sym (map_of-append first (changes journal) more))

stands_push : (first : List Slice) (journal : List Entry) (one : Entry) → IsLegal first journal → MayFollow first journal one
    → Stands first journal → Stands first (journal ++ one ∷ [])
stands_push first journal (entry.Write cell) legal may = stands_left first journal (entry.Write cell) (LeavesSlices-write cell) refl refl
stands_push first journal (entry.Settled place) legal may = stands_left first journal (entry.Settled place) (LeavesSlices-settled place) refl refl
stands_push first journal entry.Committed legal may = stands_left first journal entry.Committed LeavesSlices-committed refl refl
stands_push first journal (entry.Begun parent subs) legal may = stands_begun first journal parent subs may
stands_push first journal (entry.Switched parent) legal may = stands_switched first journal parent may
stands_push first journal (entry.Failed parent) legal may = stands_failed first journal parent may
stands_push first journal (entry.Dropped slice) legal may = stands_dropped first journal slice may
stands_push first journal (entry.Down core) legal may = stands_left first journal (entry.Down core) (LeavesSlices-down core) refl refl
stands_push first journal (entry.Up core) legal may = stands_left first journal (entry.Up core) (LeavesSlices-up core) refl refl
stands_push first journal (entry.Led core) legal may = stands_left first journal (entry.Led core) (LeavesSlices-led core) refl refl

pub legal_stands : (first : List Slice) (journal : List Entry) → IsLegal first journal → Stands first journal
legal_stands first =
    legal_induction first (Stands first) (record { can = IsLegal-none first; slices = refl }) (stands_push first)

pub changes_can_be_done : ChangesCanBeDone
changes_can_be_done first journal legal = (legal_stands first journal legal).can
