-- Where a split that failed in a bucket, or did not begin there, could begin, each earlier one of the same plan had failed.
use Rattle.std.proofs.Common.{◌≡◌, ◌<◌, ◌⊎◌, inl, inr, ℕ, List, [], ◌∷◌, ◌++◌, length, map, Some, None, Contains, refl, sym, ap, ◌∙◌, subst, arith, append_assoc, length-append}
use Rattle.std.specs.Prelude.{find}
use Rattle.std.specs.List.{filter_map}
use Rattle.std.specs.Option.{option_or}
use Rattle.std.proofs.lemmas.List.{append-nil}
use Rattle.std.proofs.lemmas.List.Folds.{find-append}
use Rattle.std.proofs.lemmas.List.Elements.{All-contains, Contains-append_right, filter-append}
use Rattle.sc_record.specs.declared.slice.SliceId.{SliceId}
use Rattle.sc_record.specs.declared.slice.SubSlice.{SubSlice}
use Rattle.sc_record.specs.declared.entry.Entry.{Entry}
use Rattle.sc_record.specs.declared.entry.Entry.TheVariants as entry
use Rattle.sc_cluster.specs.declared.slice.Slice.{Slice}
use Rattle.sc_cluster.specs.declared.plan.SplitPlan.{SplitPlan}
use Rattle.sc_cluster.specs.Slices.{forming}
use Rattle.sc_cluster.specs.Map.{IsMap}
use Rattle.sc_cluster.specs.Plans.{IsPlan}
use Rattle.sc_cluster.specs.Changes.{Change, after, begun_slice, switched_slice}
use Rattle.sc_cluster.specs.Histories.{after_all, AreAllowed}
use Rattle.sc_cluster.proofs.ListLemmas.{Contains-map}
use Rattle.sc_cluster.proofs.PairLemmas.{Contains-from_map}
use Rattle.sc_cluster.proofs.StateLemmas.{forming-begun}
use Rattle.sc_cluster.proofs.SplitLemmas.{some_forming}
use Rattle.sc_cluster.proofs.HistoryLemmas.{uses_no_id_again}
use Rattle.sc_journal.specs.Splits.{map_change_of, map_after, open_split}
use Rattle.sc_journal.specs.Legal.{MayBeSplit, MayFollow, IsLegal}
use Rattle.sc_journal.proofs.ListLemmas.{append-cons, split_last}
use Rattle.sc_journal.proofs.SplitLemmas.{map_after-append, map_after-push, map_after-left, open_split-push, open_split-left, LeavesSlices, LeavesSlices-write, LeavesSlices-settled, LeavesSlices-committed, LeavesSlices-down, LeavesSlices-up, LeavesSlices-led}
use Rattle.sc_journal.proofs.LegalLemmas.{IsLegal-prefix, MayFollow_end}
use Rattle.sc_journal.proofs.MapLemmas.{FitsSplit, legal_fits}
use Rattle.sc_keeper.specs.Part.{is_of_keeper, keeper_entries}
use Rattle.sc_collection.specs.Known.{Known}
use Rattle.sc_split.specs.Stages.{OpenSplit, HasEndedSplit, IsUnbegun}
use Rattle.sc_split.specs.Splits.{is_of_split, IsFailedIfBegun}
use Rattle.sc_split.proofs.OwnLemmas.{open-once-begun}
use Rattle.sc_split.proofs.CloseLemmas.{find-past}

-- ---- what comes after a split has begun
-- the entry at a place of a legal journal may come there
comes-next : (first : List Slice) (journal : List Entry) (one : Entry) (later : List Entry) → IsLegal first (journal ++ one ∷ later)
    → MayFollow first journal one × IsLegal first ((journal ++ one ∷ []) ++ later)
comes-next first journal one later legal =
    (legal journal one later refl, subst (IsLegal first) (sym (append-cons journal one later)) legal)

-- How the split of the parent goes on, which is open after these entries: none of the later ones begins or ends a split, or the next
-- that does says that it failed, or that it was switched, the map being the same until then.
pub data GoesOn (first : List Slice) (journal : List Entry) (later : List Entry) (parent : SliceId) : Type 0 where
  stays_open : open_split (journal ++ later) ≡ Some parent → GoesOn first journal later parent
  fails : find is_of_split later ≡ Some (entry.Failed parent) → GoesOn first journal later parent
  is_switched : (between rest : List Entry) → later ≡ between ++ entry.Switched parent ∷ rest
      → map_after first (journal ++ between) ≡ map_after first journal → GoesOn first journal later parent

-- an entry that neither changes a slice nor begins or ends a split leaves that open
past : (first : List Slice) (journal : List Entry) (one : Entry) (later : List Entry) (parent : SliceId) → LeavesSlices one
    → find is_of_split (one ∷ later) ≡ find is_of_split later → GoesOn first (journal ++ one ∷ []) later parent
    → GoesOn first journal (one ∷ later) parent
past first journal one later parent leaves skips (stays_open still) =
    stays_open (ap open_split (sym (append-cons journal one later)) ∙ still)
past first journal one later parent leaves skips (fails found) = fails (skips ∙ found)
past first journal one later parent leaves skips (is_switched between rest is same) =
    is_switched (one ∷ between) rest (ap (λ more. one ∷ more) is)
    (ap (map_after first) (sym (append-cons journal one between)) ∙ same ∙ map_after-left first journal one leaves)

none-is-some : {A : Type 0} (x : A) → None ≡ Some x → ⊥
none-is-some x h = cc

same-some : {A : Type 0} (x y : A) → Some x ≡ Some y → x ≡ y
same-some x y h = cc

pub goes-on : (first : List Slice) (journal later : List Entry) (parent : SliceId) → IsLegal first (journal ++ later)
    → open_split journal ≡ Some parent → GoesOn first journal later parent
goes-on first journal [] parent legal opened = stays_open (ap open_split (append-nil journal) ∙ opened)
goes-on first journal (entry.Write cell ∷ later) parent legal opened =
    let one : Entry = entry.Write cell in
    let leaves = LeavesSlices-write cell in
    past first journal one later parent leaves refl (goes-on first (journal ++ one ∷ []) later parent
    (comes-next first journal one later legal).1 (open_split-left journal one leaves ∙ opened))
goes-on first journal (entry.Settled place ∷ later) parent legal opened =
    let one : Entry = entry.Settled place in
    let leaves = LeavesSlices-settled place in
    past first journal one later parent leaves refl (goes-on first (journal ++ one ∷ []) later parent
    (comes-next first journal one later legal).1 (open_split-left journal one leaves ∙ opened))
goes-on first journal (entry.Committed ∷ later) parent legal opened =
    let one : Entry = entry.Committed in
    let leaves = LeavesSlices-committed in
    past first journal one later parent leaves refl (goes-on first (journal ++ one ∷ []) later parent
    (comes-next first journal one later legal).1 (open_split-left journal one leaves ∙ opened))
goes-on first journal (entry.Down core ∷ later) parent legal opened =
    let one : Entry = entry.Down core in
    let leaves = LeavesSlices-down core in
    past first journal one later parent leaves refl (goes-on first (journal ++ one ∷ []) later parent
    (comes-next first journal one later legal).1 (open_split-left journal one leaves ∙ opened))
goes-on first journal (entry.Up core ∷ later) parent legal opened =
    let one : Entry = entry.Up core in
    let leaves = LeavesSlices-up core in
    past first journal one later parent leaves refl (goes-on first (journal ++ one ∷ []) later parent
    (comes-next first journal one later legal).1 (open_split-left journal one leaves ∙ opened))
goes-on first journal (entry.Led core ∷ later) parent legal opened =
    let one : Entry = entry.Led core in
    let leaves = LeavesSlices-led core in
    past first journal one later parent leaves refl (goes-on first (journal ++ one ∷ []) later parent
    (comes-next first journal one later legal).1 (open_split-left journal one leaves ∙ opened))
goes-on first journal (entry.Begun other subs ∷ later) parent legal opened =
    let may = (comes-next first journal (entry.Begun other subs) later legal).0 in
    absurd (none-is-some parent (sym may.idle ∙ opened))
goes-on first journal (entry.Switched other ∷ later) parent legal opened =
    let may = (comes-next first journal (entry.Switched other) later legal).0 in
    is_switched [] later (ap (λ id. entry.Switched id ∷ later) (same-some other parent (sym may ∙ opened)))
    (ap (map_after first) (append-nil journal))
goes-on first journal (entry.Failed other ∷ later) parent legal opened =
    let may = (comes-next first journal (entry.Failed other) later legal).0 in
    fails (ap (λ id. Some (entry.Failed id)) (same-some other parent (sym may ∙ opened)))
goes-on first journal (entry.Dropped slice ∷ later) parent legal opened =
    let may = (comes-next first journal (entry.Dropped slice) later legal).0 in
    absurd (none-is-some parent (sym may.idle ∙ opened))

-- ---- the map goes on by what is allowed
-- an entry that changes no slice
allowed-left : (first : List Slice) (journal : List Entry) (one : Entry) (later : List Entry) → LeavesSlices one
    → AreAllowed (map_after first (journal ++ one ∷ [])) (filter_map map_change_of later)
    → AreAllowed (map_after first journal) (filter_map map_change_of later)
allowed-left first journal one later leaves =
    subst (λ slices. AreAllowed slices (filter_map map_change_of later)) (map_after-left first journal one leaves)

-- one that does
allowed-push : (first : List Slice) (journal : List Entry) (one : Entry) (change : Change) (later : List Entry)
    → map_change_of one ≡ Some change → AreAllowed (map_after first (journal ++ one ∷ [])) (filter_map map_change_of later)
    → AreAllowed (after (map_after first journal) change) (filter_map map_change_of later)
allowed-push first journal one change later is =
    subst (λ slices. AreAllowed slices (filter_map map_change_of later)) (map_after-push first journal one change is)

fits-before : (first : List Slice) (journal later : List Entry) → IsMap first → forming first ≡ [] → IsLegal first (journal ++ later)
    → FitsSplit (map_after first journal) (open_split journal)
fits-before first journal later is_map idle legal = legal_fits first journal is_map idle (IsLegal-prefix first journal later legal)

-- each change by the entries of a legal journal is allowed where it comes
allowed-after : (first : List Slice) (journal later : List Entry) → IsMap first → forming first ≡ [] → IsLegal first (journal ++ later)
    → AreAllowed (map_after first journal) (filter_map map_change_of later)
allowed-after first journal [] is_map idle legal = tt
allowed-after first journal (entry.Write cell ∷ later) is_map idle legal =
    let one : Entry = entry.Write cell in
    allowed-left first journal one later (LeavesSlices-write cell) (allowed-after first (journal ++ one ∷ []) later is_map idle
    (comes-next first journal one later legal).1)
allowed-after first journal (entry.Settled place ∷ later) is_map idle legal =
    let one : Entry = entry.Settled place in
    allowed-left first journal one later (LeavesSlices-settled place) (allowed-after first (journal ++ one ∷ []) later is_map idle
    (comes-next first journal one later legal).1)
allowed-after first journal (entry.Committed ∷ later) is_map idle legal =
    let one : Entry = entry.Committed in
    allowed-left first journal one later (LeavesSlices-committed) (allowed-after first (journal ++ one ∷ []) later is_map idle
    (comes-next first journal one later legal).1)
allowed-after first journal (entry.Down core ∷ later) is_map idle legal =
    let one : Entry = entry.Down core in
    allowed-left first journal one later (LeavesSlices-down core) (allowed-after first (journal ++ one ∷ []) later is_map idle
    (comes-next first journal one later legal).1)
allowed-after first journal (entry.Up core ∷ later) is_map idle legal =
    let one : Entry = entry.Up core in
    allowed-left first journal one later (LeavesSlices-up core) (allowed-after first (journal ++ one ∷ []) later is_map idle
    (comes-next first journal one later legal).1)
allowed-after first journal (entry.Led core ∷ later) is_map idle legal =
    let one : Entry = entry.Led core in
    allowed-left first journal one later (LeavesSlices-led core) (allowed-after first (journal ++ one ∷ []) later is_map idle
    (comes-next first journal one later legal).1)
allowed-after first journal (entry.Begun parent subs ∷ later) is_map idle legal =
    let one : Entry = entry.Begun parent subs in
    let next = comes-next first journal one later legal in (
      next.0.plan,
      allowed-push first journal one (Change.Begun parent subs) later refl (allowed-after first (journal ++ one ∷ []) later is_map idle next.1),
    )
allowed-after first journal (entry.Switched parent ∷ later) is_map idle legal =
    let one : Entry = entry.Switched parent in
    let next = comes-next first journal one later legal in (
      (fits-before first journal (one ∷ later) is_map idle legal).splitting parent next.0,
      allowed-push first journal one (Change.Switched parent) later refl (allowed-after first (journal ++ one ∷ []) later is_map idle next.1),
    )
allowed-after first journal (entry.Failed parent ∷ later) is_map idle legal =
    let one : Entry = entry.Failed parent in
    let next = comes-next first journal one later legal in (
      (fits-before first journal (one ∷ later) is_map idle legal).splitting parent next.0,
      allowed-push first journal one (Change.Failed parent) later refl (allowed-after first (journal ++ one ∷ []) later is_map idle next.1),
    )
allowed-after first journal (entry.Dropped slice ∷ later) is_map idle legal =
    let one : Entry = entry.Dropped slice in
    let next = comes-next first journal one later legal in (
      ((fits-before first journal (one ∷ later) is_map idle legal).idle next.0.idle, next.0.inactive),
      allowed-push first journal one (Change.Dropped slice) later refl (allowed-after first (journal ++ one ∷ []) later is_map idle next.1),
    )

-- ---- no plan begins again once it was switched
-- a split makes some slice
some-sub : (slices : List Slice) (parent : SliceId) (subs : List SubSlice) → IsPlan slices parent subs
    → (sub : SubSlice) × Contains subs sub
some-sub slices parent subs may =
    let split = open-once-begun slices parent subs may in
    let some = some_forming (after slices (Change.Begun parent subs)) split.0 split.2 in
    let among : Contains (map begun_slice subs) some.0 =
    subst (λ (made : List Slice). Contains made some.0) (forming-begun slices subs may.idle) some.1 in
    let from = Contains-from_map begun_slice subs some.0 among in
    (from.0, from.1)

-- its slices are active once it was switched, so that no plan has their ids again
not-again : (first : List Slice) (journal between rest : List Entry) (plan : SplitPlan) → IsMap first → forming first ≡ []
    → IsLegal first (((journal ++ entry.Begun plan.parent plan.subs ∷ []) ++ between) ++ entry.Switched plan.parent ∷ rest)
    → map_after first ((journal ++ entry.Begun plan.parent plan.subs ∷ []) ++ between)
    ≡ map_after first (journal ++ entry.Begun plan.parent plan.subs ∷ [])
    → IsPlan (map_after first (((journal ++ entry.Begun plan.parent plan.subs ∷ []) ++ between) ++ entry.Switched plan.parent ∷ rest)) plan.parent plan.subs
    → ⊥
not-again first journal between rest plan is_map idle legal same again = absurd (omega (arith, below)) where
  begun : List Entry
  begun = journal ++ entry.Begun plan.parent plan.subs ∷ []

  switched : List Entry
  switched = (begun ++ between) ++ entry.Switched plan.parent ∷ []

  joined : switched ++ rest ≡ (begun ++ between) ++ entry.Switched plan.parent ∷ rest
  joined = append-cons (begun ++ between) (entry.Switched plan.parent) rest

  whole : IsLegal first (switched ++ rest)
  whole = subst (IsLegal first) (sym joined) legal

  upto : IsLegal first begun
  upto = IsLegal-prefix first begun (between ++ entry.Switched plan.parent ∷ rest)
      (subst (IsLegal first) (append_assoc begun between (entry.Switched plan.parent ∷ rest)) legal)

  before : List Slice
  before = map_after first journal

  could : IsPlan before plan.parent plan.subs
  could = (MayFollow_end first journal (entry.Begun plan.parent plan.subs) upto).plan

  map_is : map_after first switched ≡ map (switched_slice plan.parent) (before ++ map begun_slice plan.subs)
  map_is = map_after-push first (begun ++ between) (entry.Switched plan.parent) (Change.Switched plan.parent) refl
      ∙ ap (λ (slices : List Slice). after slices (Change.Switched plan.parent))
      (same ∙ map_after-push first journal (entry.Begun plan.parent plan.subs) (Change.Begun plan.parent plan.subs) refl)

  sub : SubSlice
  sub = (some-sub before plan.parent plan.subs could).0

  among : Contains plan.subs sub
  among = (some-sub before plan.parent plan.subs could).1

  made : Slice
  made = switched_slice plan.parent (begun_slice sub)

  there : Contains (map_after first switched) made
  there = subst (λ (slices : List Slice). Contains slices made) (sym map_is)
      (Contains-map (switched_slice plan.parent) (before ++ map begun_slice plan.subs) (begun_slice sub)
      (Contains-append_right before (map begun_slice plan.subs) (begun_slice sub) (Contains-map begun_slice plan.subs sub among)))

  may : IsPlan (after_all (map_after first switched) (filter_map map_change_of rest)) plan.parent plan.subs
  may = subst (λ (slices : List Slice). IsPlan slices plan.parent plan.subs)
      (ap (map_after first) (sym joined) ∙ map_after-append first switched rest) again

  below : sub.id.0 < sub.id.0
  below = All-contains (λ (one : SubSlice). made.id.0 < one.id.0) plan.subs sub
      (uses_no_id_again (map_after first switched) (filter_map map_change_of rest) made plan.parent plan.subs
      (fits-before first switched rest is_map idle whole).is_map (allowed-after first switched rest is_map idle whole) there refl may) among

-- where the split of a plan may begin, each earlier one of the plan failed
pub earlier-failed : (first : List Slice) (journal : List Entry) (plan : SplitPlan) → IsMap first → forming first ≡ []
    → IsLegal first journal → MayBeSplit first journal plan.parent plan.subs → (before later : List Entry)
    → journal ≡ before ++ entry.Begun plan.parent plan.subs ∷ later → find is_of_split later ≡ Some (entry.Failed plan.parent)
earlier-failed first journal plan is_map idle legal may before later is =
    by (goes-on first begun later plan.parent (subst (IsLegal first) joined legal)
    (open_split-push before (entry.Begun plan.parent plan.subs))) where
      begun : List Entry
      begun = before ++ entry.Begun plan.parent plan.subs ∷ []

      joined : journal ≡ begun ++ later
      joined = is ∙ sym (append-cons before (entry.Begun plan.parent plan.subs) later)

      by : GoesOn first begun later plan.parent → find is_of_split later ≡ Some (entry.Failed plan.parent)
      by (stays_open still) = absurd (none-is-some plan.parent (sym may.idle ∙ ap open_split joined ∙ still))
      by (fails found) = found
      by (is_switched between rest ends same) =
          let whole : journal ≡ (begun ++ between) ++ entry.Switched plan.parent ∷ rest =
          joined ∙ ap (λ more. begun ++ more) ends ∙ sym (append_assoc begun between (entry.Switched plan.parent ∷ rest)) in
          absurd (not-again first before between rest plan is_map idle (subst (IsLegal first) whole legal) same
          (subst (λ (j : List Entry). IsPlan (map_after first j) plan.parent plan.subs) whole may.plan))

-- ---- a split failed wherever it began
-- an entry of a list and another: they are at the same place, or one comes before the other
data Places {A : Type 0} (xs : List A) (x : A) (ys zs : List A) (z : A) (ws : List A) : Type 0 where
  same_place : ys ≡ ws → Places xs x ys zs z ws
  comes_before : (between : List A) → xs ≡ zs ++ z ∷ between → ws ≡ between ++ x ∷ ys → Places xs x ys zs z ws
  comes_after : (between : List A) → ys ≡ between ++ z ∷ ws → Places xs x ys zs z ws

places : {A : Type 0} (xs : List A) (x : A) (ys zs : List A) (z : A) (ws : List A) → xs ++ x ∷ ys ≡ zs ++ z ∷ ws → Places xs x ys zs z ws
places [] x ys [] z ws h = let rest : ys ≡ ws = cc in same_place rest
places [] x ys (c ∷ zs) z ws h = let rest : ys ≡ zs ++ z ∷ ws = cc in comes_after zs rest
places (a ∷ xs) x ys [] z ws h =
    let first : a ≡ z = cc in
    let rest : ws ≡ xs ++ x ∷ ys = cc in
    comes_before xs (ap (λ e. e ∷ xs) first) rest
places {A} (a ∷ xs) x ys (c ∷ zs) z ws h = by (places xs x ys zs z ws tail) where
  head : a ≡ c
  head = cc

  tail : xs ++ x ∷ ys ≡ zs ++ z ∷ ws
  tail = cc

  by : Places xs x ys zs z ws → Places (a ∷ xs) x ys (c ∷ zs) z ws
  by (same_place rest) = same_place rest
  by (comes_before between is rest) =
      let both : a ∷ xs ≡ c ∷ zs ++ z ∷ between = cc in
      comes_before between both rest
  by (comes_after between rest) = comes_after between rest

-- no keeper made a beginning where it made no entry
none-begins : (plan : SplitPlan) (before after : List Entry) → keeper_entries (before ++ entry.Begun plan.parent plan.subs ∷ after) ≡ [] → ⊥
none-begins plan before after none =
    let one : Entry = entry.Begun plan.parent plan.subs in
    omega (
      arith,
      ap length (sym (filter-append is_of_keeper before (one ∷ after)) ∙ none),
      length-append (keeper_entries before) (one ∷ keeper_entries after),
    )

-- where it began and failed
pub failed-here : (first : List Slice) (plan : SplitPlan) (seen journal : List Entry) (n : ℕ) → IsMap first → forming first ≡ []
    → IsLegal first journal → HasEndedSplit plan (entry.Failed plan.parent) seen journal → IsFailedIfBegun plan n journal
failed-here first plan seen journal n is_map idle legal ended place later at low =
    by (places ended.before one (ended.later ++ end ∷ []) at.before one later (sym joined ∙ at.journal_is)) where
      one : Entry
      one = entry.Begun plan.parent plan.subs

      end : Entry
      end = entry.Failed plan.parent

      joined : journal ≡ ended.before ++ one ∷ (ended.later ++ end ∷ [])
      joined = ended.journal_is ∙ append_assoc ended.before (one ∷ ended.later) (end ∷ [])

      by : Places ended.before one (ended.later ++ end ∷ []) at.before one later → find is_of_split later ≡ Some end
      by (same_place rest) = ap (find is_of_split) (sym rest) ∙ find-past ended.later (end ∷ []) ended.none_later
      by (comes_before between is rest) =
          let found = earlier-failed first ended.before plan is_map idle
          (IsLegal-prefix first ended.before (one ∷ (ended.later ++ end ∷ [])) (subst (IsLegal first) joined legal))
          (legal ended.before one (ended.later ++ end ∷ []) joined) at.before between is in
          ap (find is_of_split) rest ∙ find-append is_of_split between (one ∷ (ended.later ++ end ∷ []))
          ∙ ap (λ f. option_or f (find is_of_split (one ∷ (ended.later ++ end ∷ [])))) found
      by (comes_after between is) = absurd (not_later (split_last ended.later end between one later is)) where
        not_later : ((ended.later ≡ between) × (end ≡ one)) ⊎ ((rest : List Entry) × (ended.later ≡ between ++ one ∷ rest)) → ⊥
        not_later (inl (same, other)) = cc
        not_later (inr (rest, among)) = none-begins plan between rest (ap keeper_entries (sym among) ∙ ended.none_later)

-- and where it had not begun
pub failed-unbegun : (first : List Slice) (split : OpenSplit) (known : Known) (b : ℕ) → IsMap first → forming first ≡ []
    → IsLegal first (known.seen.journals b) → IsUnbegun split first known b
    → IsFailedIfBegun split.plan (length (split.base.seen.journals b)) (known.seen.journals b)
failed-unbegun first split known b is_map idle legal was place later at low = by was.journal where
  plan : SplitPlan
  plan = split.plan

  by : (known.seen.journals b ≡ split.base.seen.journals b) ⊎ MayBeSplit first (known.seen.journals b) plan.parent plan.subs
      → find is_of_split later ≡ Some (entry.Failed plan.parent)
  by (inl same) = absurd (omega (
    arith,
    low,
    at.place_is,
    ap length same,
    ap length at.journal_is,
    length-append at.before (entry.Begun plan.parent plan.subs ∷ later),
  ))
  by (inr may) = earlier-failed first (known.seen.journals b) plan is_map idle legal may at.before later at.journal_is
