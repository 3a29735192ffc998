-- How many entries a journal has and owes once it is closed.
use Rattle.std.proofs.Common.{◌≡◌, ℕ, ◌+◌, ◌≤◌, Bool, true, false, cond, List, [], ◌∷◌, ◌++◌, length, map, drop, Option, Some, None, refl, sym, ap, ◌∙◌, subst, arith, length-append}
use Rattle.std.proofs.lemmas.List.{append-nil}
use Rattle.sc_record.specs.declared.slice.SliceId.{SliceId}
use Rattle.sc_record.specs.declared.slice.SubSlice.{SubSlice}
use Rattle.sc_record.specs.declared.entry.Entry.{Entry}
use Rattle.sc_record.specs.declared.entry.Entry.TheVariants as entry
use Rattle.sc_cluster.specs.declared.plan.SplitPlan.{SplitPlan}
use Rattle.sc_cluster.specs.declared.slice.Slice.{Slice}
use Rattle.sc_cluster.specs.Slices.{forming}
use Rattle.sc_cluster.specs.Map.{IsMap}
use Rattle.sc_cluster.specs.Changes.{IsBeingSplit}
use Rattle.sc_journal.specs.Journal.{unsettled}
use Rattle.sc_journal.specs.Splits.{map_after, open_split, owed, entries_of_split}
use Rattle.sc_journal.specs.Legal.{IsLegal}
use Rattle.sc_journal.proofs.ListLemmas.{append-cons}
use Rattle.sc_journal.proofs.LegalLemmas.{IsLegal-prefix, MayFollow_end, owed-push_legal_settled}
use Rattle.sc_journal.proofs.MapLemmas.{legal_fits}
use Rattle.sc_journal.proofs.OwedLemmas.{owed-push_begun, owed-push_failed, owed-push_switched, owed-push_dropped}
use Rattle.sc_opening.specs.declared.change.Change.{Change}
use Rattle.sc_opening.specs.declared.change.Change.TheVariants as change
use Rattle.sc_opening.specs.Changes.{open_begun}
use Rattle.sc_opening.specs.Closed.{entries_of, is_first, catching_up, missing}
use Rattle.sc_opening.specs.Room.{room_of, room_to_catch_up}
use Rattle.sc_opening.specs.Laws.{ClosingTakesRoom, BoardTakesRoom}
use Rattle.sc_opening.proofs.QuietLemmas.{caught_up, closed_is}
use Rattle.sc_opening.proofs.ClosedLemmas.{closed_is_legal}
use Rattle.sc_opening.proofs.BoardOfLemmas.{board_takes}

-- what a journal has and owes
abbrev pub taken : List Slice → List Entry → ℕ
taken first journal = length journal + owed first journal

-- the first map is one in which no split is open
pub record IsFirstMap (first : List Slice) : Type 0 where
  pub is_map : IsMap first
  pub idle : forming first ≡ []

-- ---- one entry more of a legal journal
taken-begun : (first : List Slice) (journal : List Entry) (parent : SliceId) (subs : List SubSlice)
    → IsLegal first (journal ++ entry.Begun parent subs ∷ [])
    → taken first (journal ++ entry.Begun parent subs ∷ []) ≤ taken first journal + entries_of_split subs
taken-begun first journal parent subs legal =
    let one : Entry = entry.Begun parent subs in
    let push = owed-push_begun first journal parent subs (IsLegal-prefix first journal (one ∷ []) legal) (MayFollow_end first journal one legal) in
    omega (arith, push, length-append journal (one ∷ []))

taken-switched : (first : List Slice) (journal : List Entry) (parent : SliceId) → IsFirstMap first
    → IsLegal first (journal ++ entry.Switched parent ∷ []) → taken first (journal ++ entry.Switched parent ∷ []) ≤ taken first journal
taken-switched first journal parent is legal =
    let one : Entry = entry.Switched parent in
    let before = IsLegal-prefix first journal (one ∷ []) legal in
    let begun : open_split journal ≡ Some parent = MayFollow_end first journal one legal in
    let fits = legal_fits first journal is.is_map is.idle before in
    by fits.is_map begun (fits.splitting parent begun) where
      by : IsMap (map_after first journal) → open_split journal ≡ Some parent → IsBeingSplit (map_after first journal) parent
          → taken first (journal ++ entry.Switched parent ∷ []) ≤ taken first journal
      by is_map begun (slice, named, splitting) =
          let split : IsBeingSplit (map_after first journal) slice.id = (slice, refl, splitting) in
          let opened : open_split journal ≡ Some slice.id = begun ∙ ap (λ (id : SliceId). Some id) (sym named) in
          let push = owed-push_switched first journal slice is_map split opened splitting.there in
          let same = ap (λ (id : SliceId). owed first (journal ++ entry.Switched id ∷ [])) named in
          omega (arith, push, same, length-append journal (entry.Switched parent ∷ []))

taken-failed : (first : List Slice) (journal : List Entry) (parent : SliceId) → IsFirstMap first
    → IsLegal first (journal ++ entry.Failed parent ∷ []) → taken first (journal ++ entry.Failed parent ∷ []) ≤ taken first journal
taken-failed first journal parent is legal =
    let one : Entry = entry.Failed parent in
    let before = IsLegal-prefix first journal (one ∷ []) legal in
    let fits = legal_fits first journal is.is_map is.idle before in
    let push = owed-push_failed first journal parent before fits.is_map (MayFollow_end first journal one legal) in
    omega (arith, push, length-append journal (one ∷ []))

taken-dropped : (first : List Slice) (journal : List Entry) (slice : SliceId) → IsFirstMap first
    → IsLegal first (journal ++ entry.Dropped slice ∷ []) → taken first (journal ++ entry.Dropped slice ∷ []) ≤ taken first journal
taken-dropped first journal slice is legal =
    let one : Entry = entry.Dropped slice in
    let before = IsLegal-prefix first journal (one ∷ []) legal in
    let fits = legal_fits first journal is.is_map is.idle before in
    let push = owed-push_dropped first journal slice fits.is_map (MayFollow_end first journal one legal).inactive in
    omega (arith, push, length-append journal (one ∷ []))

taken-settled : (first : List Slice) (journal : List Entry) (place : ℕ) → IsLegal first (journal ++ entry.Settled place ∷ [])
    → taken first (journal ++ entry.Settled place ∷ []) ≤ taken first journal
taken-settled first journal place legal =
    let one : Entry = entry.Settled place in
    let push = owed-push_legal_settled first journal place (MayFollow_end first journal one legal) in
    omega (arith, push, length-append journal (one ∷ []))

-- ---- entries one after another
-- a legal journal with one entry more and others: with the one it is legal, and the others come after that
one_more : (first : List Slice) (journal : List Entry) (one : Entry) (more : List Entry) → IsLegal first (journal ++ one ∷ more)
    → IsLegal first (journal ++ one ∷ []) × IsLegal first ((journal ++ one ∷ []) ++ more)
one_more first journal one more legal =
    let all : IsLegal first ((journal ++ one ∷ []) ++ more) = subst (IsLegal first) (sym (append-cons journal one more)) legal in
    (IsLegal-prefix first (journal ++ one ∷ []) more all, all)

-- what it has and owes with all of them
then_more : (first : List Slice) (journal : List Entry) (one : Entry) (more : List Entry) (n m : ℕ)
    → taken first ((journal ++ one ∷ []) ++ more) ≤ taken first (journal ++ one ∷ []) + m
    → taken first (journal ++ one ∷ []) ≤ taken first journal + n
    → taken first (journal ++ one ∷ more) ≤ taken first journal + (n + m)
then_more first journal one more n m rest step =
    let same = ap (taken first) (append-cons journal one more) in omega (arith, same, rest, step)

taken-entries : (first : List Slice) (journal : List Entry) (done : List Change) → IsFirstMap first → IsLegal first (journal ++ entries_of done)
    → taken first (journal ++ entries_of done) ≤ taken first journal + room_of done
taken-entries first journal [] is legal = let same = ap (taken first) (append-nil journal) in omega (arith, same)
taken-entries first journal (change.Switched plan ∷ done) is legal =
    let begun : Entry = entry.Begun plan.parent plan.subs in
    let switched : Entry = entry.Switched plan.parent in
    let one = one_more first journal begun (switched ∷ entries_of done) legal in
    let two = one_more first (journal ++ begun ∷ []) switched (entries_of done) one.1 in
    let rest = taken-entries first ((journal ++ begun ∷ []) ++ switched ∷ []) done is two.1 in
    let end = taken-switched first (journal ++ begun ∷ []) plan.parent is two.0 in
    let after = then_more first (journal ++ begun ∷ []) switched (entries_of done) 0 (room_of done) rest (omega (arith, end)) in
    then_more first journal begun (switched ∷ entries_of done) (entries_of_split plan.subs) (room_of done) (omega (arith, after))
    (taken-begun first journal plan.parent plan.subs one.0)
taken-entries first journal (change.Dropped slice ∷ done) is legal =
    let dropped : Entry = entry.Dropped slice in
    let one = one_more first journal dropped (entries_of done) legal in
    let rest = taken-entries first (journal ++ dropped ∷ []) done is one.1 in
    let step = taken-dropped first journal slice is one.0 in
    let after = then_more first journal dropped (entries_of done) 0 (room_of done) rest (omega (arith, step)) in
    omega (arith, after)

taken-catching_up : (first : List Slice) (journal : List Entry) (running : Option SplitPlan) (done : List Change) → IsFirstMap first
    → IsLegal first (journal ++ catching_up running done)
    → taken first (journal ++ catching_up running done) ≤ taken first journal + room_to_catch_up running done
taken-catching_up first journal None done is legal = taken-entries first journal done is legal
taken-catching_up first journal (Some plan) done is legal = by (is_first plan done) legal where
  by : (t : Bool)
      → IsLegal first (journal ++ cond t (entry.Switched plan.parent ∷ entries_of (drop 1 done)) (entry.Failed plan.parent ∷ entries_of done))
      → taken first (journal ++ cond t (entry.Switched plan.parent ∷ entries_of (drop 1 done)) (entry.Failed plan.parent ∷ entries_of done))
      ≤ taken first journal + cond t (room_of (drop 1 done)) (room_of done)
  by true legal =
      let switched : Entry = entry.Switched plan.parent in
      let one = one_more first journal switched (entries_of (drop 1 done)) legal in
      let rest = taken-entries first (journal ++ switched ∷ []) (drop 1 done) is one.1 in
      let step = taken-switched first journal plan.parent is one.0 in
      let after = then_more first journal switched (entries_of (drop 1 done)) 0 (room_of (drop 1 done)) rest (omega (arith, step)) in
      omega (arith, after)
  by false legal =
      let failed : Entry = entry.Failed plan.parent in
      let one = one_more first journal failed (entries_of done) legal in
      let rest = taken-entries first (journal ++ failed ∷ []) done is one.1 in
      let step = taken-failed first journal plan.parent is one.0 in
      let after = then_more first journal failed (entries_of done) 0 (room_of done) rest (omega (arith, step)) in
      omega (arith, after)

taken-settle_all : (first : List Slice) (journal : List Entry) (places : List ℕ) → IsLegal first (journal ++ map entry.Settled places)
    → taken first (journal ++ map entry.Settled places) ≤ taken first journal
taken-settle_all first journal [] legal = let same = ap (taken first) (append-nil journal) in omega (arith, same)
taken-settle_all first journal (place ∷ places) legal =
    let settled : Entry = entry.Settled place in
    let one = one_more first journal settled (map entry.Settled places) legal in
    let rest = taken-settle_all first (journal ++ settled ∷ []) places one.1 in
    let step = taken-settled first journal place one.0 in
    let same = ap (taken first) (append-cons journal settled (map entry.Settled places)) in
    omega (arith, rest, step, same)

-- ---- closing
pub closing_takes_room : ClosingTakesRoom
closing_takes_room limit first journal done is_map idle legal goes can room =
    let is : IsFirstMap first = record { is_map = is_map; idle = idle } in
    let whole : IsLegal first (caught_up journal done ++ map entry.Settled (unsettled journal)) =
    subst (IsLegal first) (sym (closed_is journal done)) (closed_is_legal first journal done legal goes can) in
    let up = IsLegal-prefix first (caught_up journal done) (map entry.Settled (unsettled journal)) whole in
    let caught = taken-catching_up first journal (open_begun journal) (missing journal done) is up in
    let settled = taken-settle_all first (caught_up journal done) (unsettled journal) whole in
    let same = ap (taken first) (closed_is journal done) in
    omega (arith, caught, settled, same, room)

pub board_takes_room : BoardTakesRoom
board_takes_room limit first done is_map idle can room =
    let most = board_takes first done is_map idle can in omega (arith, most, room)
