-- A closed journal is legal, has the slices of what was done, and is closed by nothing more.
use Rattle.std.proofs.Common.{◌≡◌, ℕ, zero, Bool, true, false, cond, List, [], ◌∷◌, ◌++◌, length, map, drop, Option, Some, None, Contains, refl, sym, ap, ap₂, ◌∙◌, subst, arith}
use Rattle.std.proofs.lemmas.List.{append-nil, drop_all}
use Rattle.std.proofs.lemmas.List.Elements.{All-head, All-tail}
use Rattle.sc_record.specs.declared.slice.SliceId.{SliceId}
use Rattle.sc_record.specs.declared.entry.Entry.{Entry}
use Rattle.sc_record.specs.declared.entry.Entry.TheVariants as entry
use Rattle.sc_cluster.specs.declared.plan.SplitPlan.{SplitPlan}
use Rattle.sc_cluster.specs.declared.slice.Slice.{Slice}
use Rattle.sc_cluster.specs.Changes.{IsInactive}
use Rattle.sc_cluster.specs.Plans.{IsPlan}
use Rattle.sc_journal.specs.Journal.{unsettled}
use Rattle.sc_journal.specs.Splits.{map_after, split_after, open_split}
use Rattle.sc_journal.specs.Legal.{MaySettle, MayFollow, IsLegal}
use Rattle.sc_journal.proofs.ListLemmas.{append-cons}
use Rattle.sc_journal.proofs.SettledLemmas.{unsettled_is}
use Rattle.sc_journal.proofs.SplitLemmas.{map_after-append, open_split-push}
use Rattle.sc_journal.proofs.LegalLemmas.{IsLegal-push}
use Rattle.sc_opening.specs.declared.change.Change.{Change}
use Rattle.sc_opening.specs.declared.change.Change.TheVariants as change
use Rattle.sc_opening.specs.Changes.{open_begun, done_by, changes}
use Rattle.sc_opening.specs.Same.{same_plan}
use Rattle.sc_opening.specs.Closed.{entries_of, catching_up, missing, closing, closed}
use Rattle.sc_opening.specs.Collections.{CanBeDone}
use Rattle.sc_opening.specs.Laws.{ClosedIsLegal, ClosedHasTheMap, OpeningTwice}
use Rattle.sc_opening.proofs.SameLemmas.{same_plan-Decides}
use Rattle.sc_opening.proofs.ChangeLemmas.{parent_of, open_split_is, entries_of-append, with_missing, closed_has_the_changes, open_begun_of_closed}
use Rattle.sc_opening.proofs.QuietLemmas.{is_of_slices, AreOfSlices, AreOfSlices-entries, unsettled-settle_first, caught_up, closed_is, unsettled_of_caught_up, unsettled_of_closed}
use Rattle.sc_opening.proofs.CanLemmas.{changes-push, open_begun-push, map_of, open_split_of_entries, legal_stands, idle_map}

-- ---- entries of the slices
-- after two journals with the same slices and the same open split the same entries of the slices may come
follows_alike : (first : List Slice) (one other : List Entry) (next : Entry) → is_of_slices next ≡ true
    → map_after first one ≡ map_after first other → open_split one ≡ open_split other → MayFollow first other next → MayFollow first one next
follows_alike first one other (entry.Write cell) is maps splits may = absurd (cc)
follows_alike first one other (entry.Settled place) is maps splits may = absurd (cc)
follows_alike first one other entry.Committed is maps splits may = absurd (cc)
follows_alike first one other (entry.Begun parent subs) is maps splits may =
    record { idle = splits ∙ may.idle; plan = subst (λ slices. IsPlan slices parent subs) (sym maps) may.plan }
follows_alike first one other (entry.Switched parent) is maps splits may = splits ∙ may
follows_alike first one other (entry.Failed parent) is maps splits may = splits ∙ may
follows_alike first one other (entry.Dropped slice) is maps splits may =
    record { idle = splits ∙ may.idle; inactive = subst (λ slices. IsInactive slices slice) (sym maps) may.inactive }
follows_alike first one other (entry.Down core) is maps splits may = absurd (cc)
follows_alike first one other (entry.Up core) is maps splits may = absurd (cc)
follows_alike first one other (entry.Led core) is maps splits may = absurd (cc)

-- so one goes on legally by them where the other does
legal_alike : (first : List Slice) (one other more : List Entry) → AreOfSlices more
    → map_after first one ≡ map_after first other → open_split one ≡ open_split other
    → IsLegal first one → IsLegal first (other ++ more) → IsLegal first (one ++ more)
legal_alike first one other [] are maps splits legal both = subst (IsLegal first) (sym (append-nil one)) legal
legal_alike first one other (next ∷ more) are maps splits legal both =
    let P = λ (e : Entry). is_of_slices e ≡ true in
    let may = follows_alike first one other next (All-head P next more are) maps splits (both other next more refl) in
    let maps_next : map_after first (one ++ next ∷ []) ≡ map_after first (other ++ next ∷ []) =
    map_after-append first one (next ∷ []) ∙ ap (λ slices. map_after slices (next ∷ [])) maps
    ∙ sym (map_after-append first other (next ∷ [])) in
    let splits_next : open_split (one ++ next ∷ []) ≡ open_split (other ++ next ∷ []) =
    open_split-push one next ∙ ap (λ (split : Option SliceId). split_after split next) splits ∙ sym (open_split-push other next) in
    let rest = legal_alike first (one ++ next ∷ []) (other ++ next ∷ []) more (All-tail P next more are) maps_next splits_next
    (IsLegal-push first one next legal may) (subst (IsLegal first) (sym (append-cons other next more)) both) in
    subst (IsLegal first) (append-cons one next more) rest

-- ---- catching up
-- where no split is open a legal journal goes on by what can be done after what was done
legal_rest : (first : List Slice) (journal : List Entry) (rest : List Change) → IsLegal first journal → open_begun journal ≡ None
    → CanBeDone first (changes journal ++ rest) → IsLegal first (journal ++ entries_of rest)
legal_rest first journal rest legal none can =
    let done = changes journal in
    let maps = idle_map first journal (legal_stands first journal legal) none in
    let splits = open_split_is journal ∙ ap parent_of none ∙ sym (open_split_of_entries done) in
    legal_alike first journal (entries_of done) (entries_of rest) (AreOfSlices-entries rest) maps splits legal
    (subst (IsLegal first) (entries_of-append done rest) can)

-- where one is open and has failed
legal_failed : (first : List Slice) (journal : List Entry) (plan : SplitPlan) (rest : List Change) → IsLegal first journal
    → open_begun journal ≡ Some plan → CanBeDone first (changes journal ++ rest)
    → IsLegal first (journal ++ entry.Failed plan.parent ∷ entries_of rest)
legal_failed first journal plan rest legal is can =
    let one : Entry = entry.Failed plan.parent in
    let longer = IsLegal-push first journal one legal (open_split_is journal ∙ ap parent_of is) in
    let same = changes-push journal one ∙ append-nil (changes journal) in
    subst (IsLegal first) (append-cons journal one (entries_of rest))
    (legal_rest first (journal ++ one ∷ []) rest longer (open_begun-push journal one)
    (subst (λ (done : List Change). CanBeDone first (done ++ rest)) (sym same) can))

-- and where it was done
legal_switched : (first : List Slice) (journal : List Entry) (plan : SplitPlan) (rest : List Change) → IsLegal first journal
    → open_begun journal ≡ Some plan → CanBeDone first (changes journal ++ change.Switched plan ∷ rest)
    → IsLegal first (journal ++ entry.Switched plan.parent ∷ entries_of rest)
legal_switched first journal plan rest legal is can =
    let one : Entry = entry.Switched plan.parent in
    let longer = IsLegal-push first journal one legal (open_split_is journal ∙ ap parent_of is) in
    let same : changes (journal ++ one ∷ []) ≡ changes journal ++ change.Switched plan ∷ [] =
    changes-push journal one ∙ ap (λ (running : Option SplitPlan). changes journal ++ done_by one running) is in
    let all : changes (journal ++ one ∷ []) ++ rest ≡ changes journal ++ change.Switched plan ∷ rest =
    ap (λ (done : List Change). done ++ rest) same ∙ append-cons (changes journal) (change.Switched plan) rest in
    subst (IsLegal first) (append-cons journal one (entries_of rest))
    (legal_rest first (journal ++ one ∷ []) rest longer (open_begun-push journal one) (subst (CanBeDone first) (sym all) can))

legal_catching_up : (first : List Slice) (journal : List Entry) (running : Option SplitPlan) (rest : List Change) → IsLegal first journal
    → open_begun journal ≡ running → CanBeDone first (changes journal ++ rest) → IsLegal first (journal ++ catching_up running rest)
legal_catching_up first journal None rest legal is can = legal_rest first journal rest legal is can
legal_catching_up first journal (Some plan) [] legal is can = legal_failed first journal plan [] legal is can
legal_catching_up first journal (Some plan) (change.Dropped slice ∷ rest) legal is can =
    legal_failed first journal plan (change.Dropped slice ∷ rest) legal is can
legal_catching_up first journal (Some plan) (change.Switched other ∷ rest) legal is can = by (same_plan plan other) refl where
  by : (t : Bool) → same_plan plan other ≡ t
      → IsLegal first (journal ++ cond t (entry.Switched plan.parent ∷ entries_of rest)
      (entry.Failed plan.parent ∷ entries_of (change.Switched other ∷ rest)))
  by true same =
      legal_switched first journal plan rest legal is
      (subst (λ (p : SplitPlan). CanBeDone first (changes journal ++ change.Switched p ∷ rest)) (sym ((same_plan-Decides plan other).0 same)) can)
  by false same = legal_failed first journal plan (change.Switched other ∷ rest) legal is can

-- ---- settling
legal_settled : (first : List Slice) (journal : List Entry) (places : List ℕ) → unsettled journal ≡ places → IsLegal first journal
    → IsLegal first (journal ++ map entry.Settled places)
legal_settled first journal [] is legal = subst (IsLegal first) (sym (append-nil journal)) legal
legal_settled first journal (place ∷ places) is legal =
    let one : Entry = entry.Settled place in
    let head : Contains (place ∷ places) place = (zero, omega arith, refl) in
    let there = unsettled_is journal place (subst (λ ps. Contains ps place) (sym is) head) in
    let may : MaySettle journal place = record { written = there.0; once = there.1 } in
    subst (IsLegal first) (append-cons journal one (map entry.Settled places))
    (legal_settled first (journal ++ one ∷ []) places (unsettled-settle_first journal place places is) (IsLegal-push first journal one legal may))

-- ---- closing
pub closed_is_legal : ClosedIsLegal
closed_is_legal first journal done legal goes can =
    let up = legal_catching_up first journal (open_begun journal) (missing journal done) legal refl
    (subst (CanBeDone first) (sym (with_missing journal done goes)) can) in
    subst (IsLegal first) (closed_is journal done)
    (legal_settled first (caught_up journal done) (unsettled journal) (unsettled_of_caught_up journal done) up)

pub closed_has_the_map : ClosedHasTheMap
closed_has_the_map first journal done legal goes can =
    let stands = legal_stands first (closed journal done) (closed_is_legal first journal done legal goes can) in
    idle_map first (closed journal done) stands (open_begun_of_closed journal done)
    ∙ ap (map_of first) (closed_has_the_changes journal done goes)

pub opening_twice : OpeningTwice
opening_twice journal done goes =
    let once = closed journal done in
    let none_missing : missing once done ≡ [] =
    ap (λ (all : List Change). drop (length all) done) (closed_has_the_changes journal done goes) ∙ drop_all (length done) done (omega arith) in
    let nothing : closing once done ≡ [] =
    ap₂ (λ (up : List Entry) (places : List ℕ). up ++ map entry.Settled places)
    (ap₂ catching_up (open_begun_of_closed journal done) none_missing) (unsettled_of_closed journal done) in
    ap (λ (more : List Entry). once ++ more) nothing ∙ append-nil once
