-- Where all entries of the board are one's own, no split runs once a connection was served.
use Rattle.std.proofs.Common.{◌≡◌, ◌∙◌, ℕ, zero, suc, ◌+◌, ◌≤◌, ◌<◌, true, false, cond, List, [], ◌∷◌, ◌++◌, length, take, Option, None, refl, sym, ap, subst, arith, length-append, zero-add, append_assoc}
use Rattle.std.specs.Prelude.{◌==◌}
use Rattle.std.specs.List.{AllByRecursion, range_with_len}
use Rattle.std.proofs.ByRecursion.{All-append, All-weaker}
use Rattle.std.proofs.Math.Seq.{take-append_seam}
use Rattle.std.proofs.lemmas.Bool.Decides.{nat_tests}
use Rattle.std.proofs.lemmas.List.{append-nil}
use Rattle.std.proofs.lemmas.List.FromFn.{length-range_with_len}
use mathlib.Core.List.{IsPrefix}
use Rattle.sc_seen.specs.declared.board.BoardEntry.{BoardEntry}
use Rattle.sc_seen.specs.declared.board.BoardEntry.TheVariants as board
use Rattle.sc_seen.specs.declared.stop.Stop.{Stop}
use Rattle.sc_seen.specs.Board.{running_after, running_split}
use Rattle.sc_seen.specs.Batches.{OrderAnswer}
use Rattle.sc_seen.specs.Seen.{opened_at, Opened, nothing_opened, Layout, Seen, Extends}
use Rattle.sc_seen.proofs.BoardLemmas.{running_split-push}
use Rattle.sc_seen.proofs.ExtendsLemmas.{IsPrefix-length}
use Rattle.sc_collection.specs.Alone.{AloneState, seen_alone, places, entries_alone, pass_places, journal_of}
use Rattle.sc_collection.proofs.RestLemmas.{SeesNothing}
use Rattle.sc_split.specs.Splits.{Course, refused, given_up, done, noted_by}
use Rattle.sc_admin.specs.Deletes as deletes
use Rattle.sc_session.specs.Commands.{CommandEnd, no_command, split_ended, delete_ended, Situation, Leaves}
use Rattle.sc_gate.specs.Gates.{SeesOnly}
use Rattle.sc_session.specs.Connection.{Exchange, AreExchanges, LeaveRest, situation_after, situation_passed, exchanges_of}
use Rattle.sc_session.specs.States.{ConnectionState, world_of, situation_in}
use Rattle.sc_session.specs.Served.{IsServed}
use Rattle.sc_session.specs.declared.end.End.{End}

-- ---- one's own entries of the board
-- each entry of the board that was seen is one's own
abbrev pub OwnsAll : Layout → Seen → Type 0
OwnsAll layout seen = seen.own layout.buckets ≡ range_with_len 0 (length seen.board)

-- of one's own entries of the board each was seen
abbrev pub OwnsSeen : Layout → Seen → Type 0
OwnsSeen layout seen = AllByRecursion (λ (place : ℕ). place < length seen.board) (seen.own layout.buckets)

-- where numbers below a bound, and then others from it on, are all that follow one another, those below it are all up to it
range_below : (from count : ℕ) (below above : List ℕ) (bound many : ℕ) → below ++ above ≡ range_with_len from many
    → from + count ≡ bound → count ≤ many → AllByRecursion (λ (n : ℕ). n < bound) below → AllByRecursion (λ (n : ℕ). bound ≤ n) above
    → below ≡ range_with_len from count
range_below from zero [] above bound many is sum few low high = refl
range_below from (suc count) [] above bound zero is sum few low high = absurd (omega (arith, few))
range_below from (suc count) [] [] bound (suc many) is sum few low high = absurd (cc)
range_below from (suc count) [] (n ∷ above) bound (suc many) is sum few low high =
    let head : n ≡ from = cc in
    let late : bound ≤ n = high.0 in
    absurd (omega (arith, sum, late, head))
range_below from zero (n ∷ below) above bound zero is sum few low high = absurd (cc)
range_below from zero (n ∷ below) above bound (suc many) is sum few low high =
    let head : n ≡ from = cc in
    let early : n < bound = low.0 in
    absurd (omega (arith, sum, early, head))
range_below from (suc count) (n ∷ below) above bound zero is sum few low high = absurd (cc)
range_below from (suc count) (n ∷ below) above bound (suc many) is sum few low high =
    let head : n ≡ from = cc in
    let tail : below ++ above ≡ range_with_len (from + 1) many = cc in
    ap (λ k. k ∷ below) head
    ∙ ap (λ ks. from ∷ ks) (range_below (from + 1) count below above bound many tail (omega (arith, sum)) (omega (arith, few)) low.1 high)

-- where all are one's own after stops, they were before
pub owned_before : (layout : Layout) (old new : Seen) (stops : List Stop) → Extends layout old new stops → OwnsSeen layout old
    → OwnsAll layout new → OwnsAll layout old
owned_before layout old new stops extends within owns =
    range_below 0 (length old.board) (old.own layout.buckets) extends.notes.added (length old.board) (length new.board)
    (sym extends.notes.own ∙ owns) (zero-add (length old.board)) (IsPrefix-length old.board new.board extends.board)
    within extends.notes.after

-- one's own are seen after stops where they were before
pub seen_after : (layout : Layout) (old new : Seen) (stops : List Stop) → Extends layout old new stops → OwnsSeen layout old
    → OwnsSeen layout new
seen_after layout old new stops extends within =
    let Early : ℕ → Type 0 = λ (place : ℕ). place < length new.board in
    let grown : length old.board ≤ length new.board = IsPrefix-length old.board new.board extends.board in
    let old_within : AllByRecursion Early (old.own layout.buckets) =
    All-weaker (λ (place : ℕ). place < length old.board) Early (λ place early. omega (arith, grown, early)) (old.own layout.buckets) within in
    subst (AllByRecursion Early) (sym extends.notes.own) (All-append Early (old.own layout.buckets) extends.notes.added old_within extends.notes.within)

-- where nothing more is seen of the board, and no more is one's own, neither changes
pub owned_passed : (layout : Layout) (old new : Seen) → SeesOnly old new → OwnsAll layout new → OwnsAll layout old
owned_passed layout old new only owns =
    sym (only.own layout.buckets) ∙ owns ∙ ap (λ (entries : List BoardEntry). range_with_len 0 (length entries)) only.board

pub seen_passed : (layout : Layout) (old new : Seen) → SeesOnly old new → OwnsSeen layout old → OwnsSeen layout new
seen_passed layout old new only within =
    subst (λ (entries : List BoardEntry). AllByRecursion (λ (place : ℕ). place < length entries) (new.own layout.buckets)) (sym only.board)
    (subst (AllByRecursion (λ (place : ℕ). place < length old.board)) (sym (only.own layout.buckets)) within)

-- the same of exchanges
pub owned_before_all : (layout : Layout) (old new : Seen) (exchanges : List Exchange) → AreExchanges layout old exchanges new
    → OwnsSeen layout old → OwnsAll layout new → OwnsAll layout old
owned_before_all layout old new [] each within owns = subst (OwnsAll layout) each owns
owned_before_all layout old new (x ∷ exchanges) each within owns =
    let within_x = seen_after layout old x.seen x.trace.stops each.0.extends within in
    owned_before layout old x.seen x.trace.stops each.0.extends within
    (owned_passed layout x.seen x.passed each.0.met
    (owned_before_all layout x.passed new exchanges each.1 (seen_passed layout x.seen x.passed each.0.met within_x) owns))

-- ---- what one request leaves on the board
-- where a list has so many items more, and ends with them, it is the one before and they
ends_with : (old new before noted : List BoardEntry) → IsPrefix old new → new ≡ before ++ noted
    → length new ≡ length old + length noted → new ≡ old ++ noted
ends_with old new before noted begins is count =
    let even : length before ≡ length old = omega (arith, length-append before noted, ap length is, count) in
    let front : before ≡ old =
    sym (take-append_seam before noted) ∙ ap (take (length before)) (sym is) ∙ ap (λ n. take n new) even
    ∙ ap (take (length old)) (sym begins.1) ∙ take-append_seam old begins.0 in
    is ∙ ap (λ (entries : List BoardEntry). entries ++ noted) front

-- where all are one's own before and after, as many were added as are one's own
added : (layout : Layout) (old new : Seen) (place count : ℕ) → OwnsAll layout old → OwnsAll layout new
    → new.own layout.buckets ≡ old.own layout.buckets ++ range_with_len place count → length new.board ≡ length old.board + count
added layout old new place count owned owns own =
    let before : length (old.own layout.buckets) ≡ length old.board = ap length owned ∙ length-range_with_len 0 (length old.board) in
    let after : length (new.own layout.buckets) ≡ length new.board = ap length owns ∙ length-range_with_len 0 (length new.board) in
    let both : length (new.own layout.buckets) ≡ length (old.own layout.buckets ++ range_with_len place count) = ap length own in
    omega (arith, before, after, both, length-append (old.own layout.buckets) (range_with_len place count), length-range_with_len place count)

-- so the board has the entries that were noted, and no other is new
notes_only : (layout : Layout) (old new : Seen) (before noted : List BoardEntry) (place : ℕ) → OwnsAll layout old → OwnsAll layout new
    → IsPrefix old.board new.board → new.board ≡ before ++ noted
    → new.own layout.buckets ≡ old.own layout.buckets ++ range_with_len place (length noted) → new.board ≡ old.board ++ noted
notes_only layout old new before noted place owned owns begins is own =
    ends_with old.board new.board before noted begins is (added layout old new place (length noted) owned owns own)

-- what a request notes on the board
abbrev pub noted_of : CommandEnd → List BoardEntry
noted_of no_command = []
noted_of (split_ended asked first course end) = noted_by course
noted_of (delete_ended shard first course end) = deletes.noted_by_delete course

-- so the board goes on by that and by nothing else
pub board_after_request : (layout : Layout) (answered : List OrderAnswer) (stops : List Stop) (end : CommandEnd) (old new : Situation)
    → Leaves layout answered stops end old new
    → IsPrefix old.seen.board new.seen.board → OwnsAll layout old.seen → OwnsAll layout new.seen
    → new.seen.board ≡ old.seen.board ++ noted_of end
board_after_request layout answered stops no_command old new leaves begins owned owns =
    let own = leaves.board_own ∙ sym (append-nil (old.seen.own layout.buckets)) in
    notes_only layout old.seen new.seen new.seen.board [] 0 owned owns begins (sym (append-nil new.seen.board)) own
board_after_request layout answered stops (split_ended asked first course end) old new leaves begins owned owns =
    notes_only layout old.seen new.seen leaves.board.before (noted_by course) first.place owned owns begins leaves.board.board_is leaves.board.own
board_after_request layout answered stops (delete_ended shard first course end) old new leaves begins owned owns =
    notes_only layout old.seen new.seen (take first.place new.seen.board) (deletes.noted_by_delete course) first.place owned owns begins leaves.board leaves.own

-- ---- which split runs then
-- an entry after which none runs comes last
stopped_by : (entries front : List BoardEntry) (last : BoardEntry)
    → ((running : Option ℕ) (place : ℕ) → running_after running (place, last) ≡ None) → running_split (entries ++ (front ++ last ∷ [])) ≡ None
stopped_by entries front last stops =
    ap running_split (sym (append_assoc entries front (last ∷ [])))
    ∙ running_split-push (entries ++ front) last ∙ stops (running_split (entries ++ front)) (length (entries ++ front))

-- after a split none runs
over_after_split : (entries : List BoardEntry) (course : Course) → running_split entries ≡ None → running_split (entries ++ noted_by course) ≡ None
over_after_split entries refused none = ap running_split (append-nil entries) ∙ none
over_after_split entries (given_up plan true count) none =
    stopped_by entries (board.Begun plan ∷ board.Recovering plan.parent ∷ []) (board.Failed plan.parent) (λ running place. refl)
over_after_split entries (given_up plan false count) none =
    stopped_by entries (board.Begun plan ∷ []) (board.Failed plan.parent) (λ running place. refl)
over_after_split entries (done plan answers) none =
    stopped_by entries (board.Begun plan ∷ board.Recovering plan.parent ∷ []) (board.Done plan.parent) (λ running place. refl)

-- nor after a deletion
over_after_delete : (entries : List BoardEntry) (course : deletes.DeleteCourse) → running_split entries ≡ None
    → running_split (entries ++ deletes.noted_by_delete course) ≡ None
over_after_delete entries deletes.kept none = ap running_split (append-nil entries) ∙ none
over_after_delete entries (deletes.dropped slice) none = running_split-push entries (board.Dropped slice.id) ∙ none

-- nor after any request
over_after_noted : (entries : List BoardEntry) (end : CommandEnd) → running_split entries ≡ None → running_split (entries ++ noted_of end) ≡ None
over_after_noted entries no_command none = ap running_split (append-nil entries) ∙ none
over_after_noted entries (split_ended asked first course end) none = over_after_split entries course none
over_after_noted entries (delete_ended shard first course end) none = over_after_delete entries course none

over_after_request : (layout : Layout) (answered : List OrderAnswer) (stops : List Stop) (end : CommandEnd) (old new : Situation)
    → Leaves layout answered stops end old new
    → IsPrefix old.seen.board new.seen.board → OwnsAll layout old.seen → OwnsAll layout new.seen
    → running_split old.seen.board ≡ None → running_split new.seen.board ≡ None
over_after_request layout answered stops end old new leaves begins owned owns none =
    ap running_split (board_after_request layout answered stops end old new leaves begins owned owns) ∙ over_after_noted old.seen.board end none

-- nor after exchanges
over_after_all : (layout : Layout) (old new : Situation) (exchanges : List Exchange) → AreExchanges layout old.seen exchanges new.seen
    → LeaveRest layout old exchanges new → OwnsSeen layout old.seen → OwnsAll layout new.seen
    → running_split old.seen.board ≡ None → running_split new.seen.board ≡ None
over_after_all layout old new [] each rest within owns none = ap (λ (s : Situation). running_split s.seen.board) rest ∙ none
over_after_all layout old new (x ∷ exchanges) each rest within owns none =
    let extends = each.0.extends in
    let within_x = seen_after layout old.seen x.seen x.trace.stops extends within in
    let within_passed = seen_passed layout x.seen x.passed each.0.met within_x in
    let owned_x = owned_passed layout x.seen x.passed each.0.met (owned_before_all layout x.passed new.seen exchanges each.1 within_passed owns) in
    let owned = owned_before layout old.seen x.seen x.trace.stops extends within owned_x in
    let none_x = over_after_request layout x.trace.answers x.trace.stops x.trace.command old (situation_after x) rest.0 extends.board owned owned_x none in
    over_after_all layout (situation_passed x) new exchanges each.1 rest.1 within_passed owns (ap running_split each.0.met.board ∙ none_x)

-- ---- a whole connection
-- where nothing had happened, each of one's own entries was seen
pub owns_nothing : (layout : Layout) (seen : Seen) → SeesNothing seen → OwnsSeen layout seen
owns_nothing layout seen nothing = subst (AllByRecursion (λ (place : ℕ). place < length seen.board)) (sym (nothing.own layout.buckets)) tt

-- no split runs once a connection was served over a collection in which nothing had happened, and all entries of the board are one's own
pub over_after_connection : {C : Type 0} (gives : C → ℕ → C → Type 0) (layout : Layout) (before after : ConnectionState C) (end : End)
    → IsServed gives layout before after end → SeesNothing before.moment.view.seen → OwnsAll layout after.moment.view.seen
    → running_split after.moment.view.seen.board ≡ None
over_after_connection gives layout before after end served nothing owns =
    let old : Situation = situation_in (world_of before) in
    let new : Situation = situation_in (world_of after) in
    over_after_all layout old new (served.exchanges ++ exchanges_of served.last) served.traces.each served.traces.rest
    (owns_nothing layout old.seen nothing) owns
    (ap running_split nothing.board)

-- a desk for one thread over which nothing was opened sees all entries of the board as its own
pub owns_all : (desk : AloneState) (layout : Layout) → desk.layout ≡ layout → layout.opened ≡ nothing_opened → OwnsAll layout (seen_alone desk)
owns_all desk layout same new = subst (λ (l : Layout). OwnsAll l (seen_alone desk)) same here where
  none : desk.layout.opened ≡ nothing_opened
  none = ap (λ (l : Layout). l.opened) same ∙ new

  here : OwnsAll desk.layout (seen_alone desk)
  here =
      let itself : (desk.layout.buckets == desk.layout.buckets) ≡ true = grind (arith, nat_tests) in
      ap (λ b. cond b (places desk.layout.opened.board (entries_alone desk))
      (pass_places (opened_at desk.layout.opened desk.layout.buckets) (journal_of desk desk.layout.buckets))) itself
      ∙ ap (λ (opened : Opened). places opened.board (entries_alone desk)) none
