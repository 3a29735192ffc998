-- Once a split is switched in each bucket it is closed: the board may have the keepers back, and in each bucket the split stays switched.
use Rattle.std.proofs.Common.{◌≡◌, ℕ, ◌≤◌, Bool, true, false, cond, List, [], ◌∷◌, ◌++◌, length, drop, map, refl, sym, ap, ◌∙◌, subst, arith, append_assoc}
use Rattle.std.specs.Prelude.{find, Contains, Option}
use Rattle.std.specs.Option.{option_or, option_map_or}
use Rattle.std.proofs.lemmas.List.{append-nil, length_push}
use Rattle.std.proofs.lemmas.List.Folds.{find-append}
use mathlib.Core.List.{IsPrefix}
use Rattle.sc_record.specs.declared.slice.SubSlice.{SubSlice}
use Rattle.sc_record.specs.declared.entry.Entry.{Entry}
use Rattle.sc_record.specs.declared.entry.Entry.TheVariants as entry
use Rattle.sc_cluster.specs.declared.slice.Slice.{Slice}
use Rattle.sc_cluster.specs.declared.plan.SplitPlan.{SplitPlan}
use Rattle.sc_cluster.specs.Changes.{Change, after}
use Rattle.sc_cluster.specs.Histories.{after_all}
use Rattle.sc_cluster.proofs.UndoLemmas.{may_leave_recovery_out}
use Rattle.sc_journal.proofs.ListLemmas.{slice_get-append_end}
use Rattle.sc_seen.specs.Board.{board_map, MayNote}
use Rattle.sc_seen.specs.Rounds as rounds
use Rattle.sc_seen.specs.Rounds.{board_entries, GoTogether}
use Rattle.sc_seen.specs.Seen.{Layout, Seen, Extends, GoesOn, AreLegal, is_noted, noted_at}
use Rattle.sc_seen.specs.Moments.{View, view_of}
use Rattle.sc_seen.specs.Commits.{commit_stops}
use Rattle.sc_seen.specs.declared.board.BoardEntry.{BoardEntry}
use Rattle.sc_seen.specs.declared.board.BoardEntry.TheVariants as board
use Rattle.sc_seen.proofs.BoardLemmas.{board_map-append}
use Rattle.sc_seen.proofs.ExtendsLemmas.{IsPrefix-length, NotesBoard-same, Extends-then}
use Rattle.sc_collection.specs.Desks.{AreAtRest, OwnsSplit}
use Rattle.sc_collection.specs.Committing.{CommitsAll, commit_outcome}
use Rattle.sc_collection.specs.Known.{Known, OfBuckets}
use Rattle.sc_collection.proofs.RestLemmas.{GoTogether-since, since-more}
use Rattle.sc_bucket.specs.declared.commit.CommitFault.{CommitFault}
use Rattle.sc_keeper.specs.Part.{keeper_entries}
use Rattle.sc_split.specs.declared.end.SplitEnd.{SplitEnd}
use Rattle.sc_split.specs.declared.end.SplitEnd.TheVariants as ends
use Rattle.sc_split.specs.Stages.{OpenSplit, IsDoneIn, HasEndedSplit, KeepsKnownBoard}
use Rattle.sc_split.specs.Steps.{NotesOne}
use Rattle.sc_split.specs.Splits.{is_of_split, IsSwitchedIn}
use Rattle.sc_collection.specs.Committing.{commits_told}
use Rattle.sc_split.specs.Driving.{NotesMore, IsWholeSplit, Closes, Finishes}
use Rattle.sc_split.proofs.LoopLemmas.{apart-below}
use Rattle.sc_split.proofs.OwnLemmas.{owns-split, may-note-done}

-- ---- the board's map is that of the buckets
map-done : (first : List Slice) (entries : List BoardEntry) (plan : SplitPlan)
    → board_map first (entries ++ board_entries (rounds.done plan))
    ≡ after_all (board_map first entries) (Change.Begun plan.parent plan.subs ∷ Change.Switched plan.parent ∷ [])
map-done first entries plan =
    board_map-append first entries (board_entries (rounds.done plan))
    ∙ may_leave_recovery_out (after (board_map first entries) (Change.Begun plan.parent plan.subs)) plan.parent (Change.Switched plan.parent) refl

-- each bucket is at rest as the board says once the split is noted there as done
pub rest-done : (layout : Layout) (split : OpenSplit) (entries now : List BoardEntry) (known : Known)
    → now ≡ entries ++ board.Begun split.plan ∷ board.Recovering split.plan.parent ∷ []
    → AreAtRest layout entries split.base.keeping → OfBuckets 0 layout.buckets (IsDoneIn split known)
    → AreAtRest layout (now ++ board.Done split.plan.parent ∷ []) known.keeping
rest-done layout split entries now known now_is base done = subst (λ (es : List BoardEntry). AreAtRest layout es known.keeping) (sym is) at where
  plan : SplitPlan
  plan = split.plan

  is : now ++ board.Done plan.parent ∷ [] ≡ entries ++ board_entries (rounds.done plan)
  is = ap (λ es. es ++ board.Done plan.parent ∷ []) now_is
      ∙ append_assoc entries (board.Begun plan ∷ board.Recovering plan.parent ∷ []) (board.Done plan.parent ∷ [])

  at : AreAtRest layout (entries ++ board_entries (rounds.done plan)) known.keeping
  at b below =
      let low : 0 ≤ b = omega arith in
      let here = done b low below in
      record {
        map_is = here.map_is
            ∙ ap (λ (slices : List Slice). after_all slices (Change.Begun plan.parent plan.subs ∷ Change.Switched plan.parent ∷ [])) (base b below).map_is
            ∙ sym (map-done layout.first entries plan);
        idle = here.idle;
        active = here.active;
        unfed = here.unfed;
        since = since-more layout.opened.board entries (board_entries (rounds.done plan)) (base b below).since;
        together = subst (GoTogether (drop layout.opened.board (entries ++ board_entries (rounds.done plan)))) (sym here.ended.own)
            (GoTogether-since layout.opened.board (rounds.done plan) entries (split.base.keeping.own b) (base b below).since (base b below).together);
      }

-- ---- the split is switched in a bucket, and stays so
-- what no keeper made begins and ends no split
pub find-past : (later more : List Entry) → keeper_entries later ≡ [] → find is_of_split (later ++ more) ≡ find is_of_split more
find-past [] more none = refl
find-past (entry.Write cell ∷ later) more none = find-past later more none
find-past (entry.Settled place ∷ later) more none = find-past later more none
find-past (entry.Committed ∷ later) more none = find-past later more none
find-past (entry.Down core ∷ later) more none = find-past later more none
find-past (entry.Begun parent subs ∷ later) more none = absurd (cc)
find-past (entry.Switched parent ∷ later) more none = absurd (cc)
find-past (entry.Failed parent ∷ later) more none = absurd (cc)
find-past (entry.Dropped slice ∷ later) more none = absurd (cc)
find-past (entry.Up core ∷ later) more none = absurd (cc)
find-past (entry.Led core ∷ later) more none = absurd (cc)

pub switched-here : (plan : SplitPlan) (seen journal : List Entry) → HasEndedSplit plan (entry.Switched plan.parent) seen journal
    → IsSwitchedIn plan (length seen) journal
switched-here plan seen journal ended = (
  length ended.before,
  ended.later ++ entry.Switched plan.parent ∷ [],
  record {
    before = ended.before;
    journal_is = ended.journal_is ∙ append_assoc ended.before (entry.Begun plan.parent plan.subs ∷ ended.later) (entry.Switched plan.parent ∷ []);
    place_is = refl;
  },
  IsPrefix-length seen ended.before ended.went_on,
  find-past ended.later (entry.Switched plan.parent ∷ []) ended.none_later,
)

pub switched-later : (plan : SplitPlan) (seen : ℕ) (journal longer : List Entry) → IsPrefix journal longer → IsSwitchedIn plan seen journal
    → IsSwitchedIn plan seen longer
switched-later plan seen journal longer begins (place, later, at, low, found) = (
  place,
  later ++ begins.0,
  record {
    before = at.before;
    journal_is = sym begins.1 ∙ ap (λ (entries : List Entry). entries ++ begins.0) at.journal_is
        ∙ append_assoc at.before (entry.Begun plan.parent plan.subs ∷ later) begins.0;
    place_is = at.place_is;
  },
  low,
  find-append is_of_split later begins.0 ∙ ap (λ one. option_or one (find is_of_split begins.0)) found,
)

-- ---- what is seen goes on, by no stop
-- what keepers do is seen of the buckets alone
pub extends-buckets : (layout : Layout) (old new : Known) → ((lock : ℕ) → IsPrefix (old.seen.journals lock) (new.seen.journals lock))
    → KeepsKnownBoard old new → Extends layout old.seen new.seen []
extends-buckets layout old new went_on keeps = record {
  seen = went_on;
  board = ([], append-nil old.seen.board ∙ sym keeps.board);
  own = λ lock below. keeps.own lock ∙ sym (append-nil (old.seen.own lock));
  notes = NotesBoard-same layout old.seen new.seen [] (keeps.own layout.buckets) refl;
  ascend = λ lock. tt;
  within = tt;
}

-- an entry of the board that no stop makes is seen of the board alone
pub extends-board : (layout : Layout) (one : BoardEntry) (old new : Seen) → is_noted one ≡ false → NotesOne layout one old new
    → Extends layout old new []
extends-board layout one old new none notes = record {
  seen = λ lock. ([], append-nil (old.journals lock) ∙ sym (notes.journals lock));
  board = (one ∷ [], sym notes.board);
  own = λ lock below. notes.others_own lock (apart-below lock layout.buckets below) ∙ sym (append-nil (old.own lock));
  notes = record {
    added = length old.board ∷ [];
    own = notes.own;
    after = (omega arith, tt);
    within = (omega (arith, length_push old.board one, ap length notes.board), tt);
    made = ap (λ (entries : List BoardEntry). noted_at entries (length old.board ∷ [])) notes.board
        ∙ ap (λ (found : Bool). cond found (length old.board ∷ []) [])
        (ap (λ entry. option_map_or is_noted entry false) (slice_get-append_end old.board one []) ∙ none);
  };
  ascend = λ lock. tt;
  within = tt;
}

-- it comes to the end of the board, after what keepers did
pub notes-after : (layout : Layout) (one : BoardEntry) (old between : Known) (new : Seen) → KeepsKnownBoard old between
    → NotesOne layout one between.seen new → NotesMore layout (one ∷ []) old.seen new
notes-after layout one old between new keeps notes = record {
  board = notes.board ∙ ap (λ (entries : List BoardEntry). entries ++ one ∷ []) keeps.board;
  own = notes.own ∙ ap (λ (places : List ℕ). places ++ length between.seen.board ∷ []) (keeps.own layout.buckets)
      ∙ ap (λ (entries : List BoardEntry). old.seen.own layout.buckets ++ length entries ∷ []) keeps.board;
}

-- the split is closed once it is switched in each bucket and noted as done
pub closes-by : (layout : Layout) (split : OpenSplit) (old between : Known) (new : Seen)
    → ((lock : ℕ) → IsPrefix (old.seen.journals lock) (between.seen.journals lock)) → KeepsKnownBoard old between
    → OfBuckets 0 layout.buckets (IsDoneIn split between) → NotesOne layout (board.Done split.plan.parent) between.seen new
    → Closes layout split.plan split.base.seen old.seen new
closes-by layout split old between new went_on keeps done notes = record {
  extends = Extends-then layout old.seen between.seen new [] [] (extends-buckets layout old between went_on keeps)
      (extends-board layout (board.Done split.plan.parent) between.seen new refl notes);
  noted = notes-after layout (board.Done split.plan.parent) old between new keeps notes;
  switched = λ lock below.
      let low : 0 ≤ lock = omega arith in
      subst (IsSwitchedIn split.plan (length (split.base.seen.journals lock))) (sym (notes.journals lock))
      (switched-here split.plan (split.base.seen.journals lock) (between.seen.journals lock) (done lock low below).ended.journal);
}

-- ---- the last steps of a split
-- the board was left as it is while the buckets are switched
board-closing : (layout : Layout) (split : OpenSplit) (entries : List BoardEntry) (old new : Known) → KeepsKnownBoard old new
    → IsWholeSplit layout split entries old
    → new.seen.board ≡ entries ++ board.Begun split.plan ∷ board.Recovering split.plan.parent ∷ []
board-closing layout split entries old new keeps was = keeps.board ∙ was.board

-- the split on the board is one's own then
pub owns-closing : (layout layout' : Layout) (split : OpenSplit) (entries : List BoardEntry) (old new : Known) → layout' ≡ layout
    → KeepsKnownBoard old new → IsWholeSplit layout split entries old → OwnsSplit layout' new.seen
owns-closing layout layout' split entries old new same keeps was =
    subst (λ (l : Layout). OwnsSplit l new.seen) (sym same)
    (owns-split layout new.seen entries split.plan true (board-closing layout split entries old new keeps was)
    (subst (λ (own : List ℕ). Contains own (length entries)) (sym (keeps.own layout.buckets)) was.own))

-- it may be noted as done, with the keepers of buckets that are at rest
pub may-close : (layout layout' : Layout) (split : OpenSplit) (entries : List BoardEntry) (old new : Known) → layout' ≡ layout
    → AreLegal layout' new.seen → KeepsKnownBoard old new → IsWholeSplit layout split entries old → OfBuckets 0 layout.buckets (IsDoneIn split new)
    → MayNote layout'.first new.seen.board (board.Done split.plan.parent)
    × AreAtRest layout' (new.seen.board ++ board.Done split.plan.parent ∷ []) new.keeping
may-close layout layout' split entries old new same legal keeps was done =
    let is = board-closing layout split entries old new keeps was in (
      may-note-done layout' new.seen entries split.plan legal is,
      subst (λ (l : Layout). AreAtRest l (new.seen.board ++ board.Done split.plan.parent ∷ []) new.keeping) (sym same)
          (rest-done layout split entries new.seen.board new is was.rest done),
    )

-- it is finished once each bucket is committed
pub finishes-by : (layout layout' : Layout) (split : OpenSplit) (old : View) (between : Seen) (new : View) (fault : Option CommitFault)
    (end : SplitEnd) → layout' ≡ layout → Closes layout split.plan split.base.seen old.seen between
    → CommitsAll layout' layout'.buckets (view_of between old.stops) new fault
    → end ≡ ends.Done (map (λ (sub : SubSlice). sub.name) split.plan.subs) (commits_told (commit_outcome fault))
    → Finishes layout split.plan split.base.seen old new end
finishes-by layout layout' split old between new fault end same closes commits' end_is =
    let commits : CommitsAll layout layout.buckets (view_of between old.stops) new fault =
    subst (λ (l : Layout). CommitsAll l l.buckets (view_of between old.stops) new fault) same commits' in
    let goes : GoesOn layout between new.seen (commit_stops commits.answers) = commits.keeps.goes in
    record {
      answers = commits.answers;
      stops = commits.keeps.kept;
      extends = Extends-then layout old.seen between new.seen [] (commit_stops commits.answers) closes.extends goes.extends;
      last = goes.last;
      answered = commits.answered;
      noted = record { board = goes.board ∙ closes.noted.board; own = goes.board_own ∙ closes.noted.own };
      switched = λ lock below. switched-later split.plan (length (split.base.seen.journals lock)) (between.journals lock) (new.seen.journals lock)
          (goes.extends.seen lock) (closes.switched lock below);
      end_is = end_is ∙ ap (λ outcome. ends.Done (map (λ (sub : SubSlice). sub.name) split.plan.subs) (commits_told outcome)) (sym commits.worst_is);
    }
