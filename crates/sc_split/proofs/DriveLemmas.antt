-- How a split that has begun on the board goes on, by what its steps leave one after another: it is done, or given up.
use Rattle.std.proofs.Common.{◌≡◌, ◌≤◌, ◌<◌, ◌+◌, ℕ, zero, suc, Bool, true, false, List, [], ◌∷◌, ◌++◌, length, slice_get, Some, refl, sym, ap, ◌∙◌, subst, arith, append_assoc, length-append}
use Rattle.std.specs.List.{range_with_len}
use Rattle.std.proofs.lemmas.List.{append_cancel_left}
use mathlib.Core.List.{IsPrefix}
use Rattle.sc_record.specs.declared.slice.SliceId.{SliceId}
use Rattle.sc_cluster.specs.declared.plan.SplitPlan.{SplitPlan}
use Rattle.sc_cluster.specs.Plans.{IsPlan}
use Rattle.sc_io.specs.declared.hosts.Host.{Host}
use Rattle.sc_seen.specs.Seen.{Layout, Seen, Extends, AreLegal}
use Rattle.sc_seen.specs.Board.{board_map, IsLegalBoard}
use Rattle.sc_seen.specs.Moments.{View, view_of}
use Rattle.sc_seen.specs.Commits.{commit_stops}
use Rattle.sc_seen.specs.declared.board.BoardEntry.{BoardEntry}
use Rattle.sc_seen.specs.declared.board.BoardEntry.TheVariants as board
use Rattle.sc_seen.specs.declared.stop.Stop.{Stop}
use Rattle.sc_seen.proofs.BoardLemmas.{MayNote_end}
use Rattle.sc_seen.proofs.ExtendsLemmas.{IsPrefix-then, Extends-then}
use Rattle.sc_split.specs.declared.end.Fault.{Fault}
use Rattle.sc_split.specs.declared.end.Fault.TheVariants as faults
use Rattle.sc_split.specs.declared.end.SplitEnd.{SplitEnd}
use Rattle.sc_split.specs.declared.end.SplitEnd.TheVariants as ends
use Rattle.sc_collection.specs.Known.{Known}
use Rattle.sc_cores.specs.Cores.{Outside, CountsGoUp}
use Rattle.sc_split.specs.Outside.{cores_of, StartsCoresOfPlan, LeavesCores}
use Rattle.sc_split.specs.Stages.{OpenSplit}
use Rattle.sc_split.specs.Splits.{split_moment, HadNoRoom, IsCause}
use Rattle.sc_split.specs.Driving.{HasBegunOnBoard, recovering_entries, IsWholeSplit, NotesMore, Builds, IsFault, GivesUp, Finishes, IsSplitDone, IsGivenUpOnBoard, IsEndOf}
use Rattle.sc_split.proofs.StartedLemmas.{leaves-none}

-- a split that has begun on the board is one into at most 256 subs
pub few-subs : (layout : Layout) (plan : SplitPlan) (entries : List BoardEntry) (known : Known) → AreLegal layout known.seen
    → HasBegunOnBoard layout plan entries known → length plan.subs ≤ 256
few-subs layout plan entries known legal begun =
    let may : IsPlan (board_map layout.first entries) plan.parent plan.subs =
    MayNote_end layout.first entries (board.Begun plan) (subst (IsLegalBoard layout.first) begun.board legal.board) in
    let few : length (board_map layout.first entries) + length plan.subs ≤ 256 = may.few in
    omega arith

-- a range, and the one that goes on from it
range-then : (from count more : ℕ) → range_with_len from (count + more) ≡ range_with_len from count ++ range_with_len (from + count) more
range-then from zero more =
    let all : 0 + more ≡ more = omega arith in
    let here : from ≡ from + 0 = omega arith in
    ap (range_with_len from) all ∙ ap (λ (n : ℕ). range_with_len n more) here
range-then from (suc count) more =
    let all : suc count + more ≡ suc (count + more) = omega arith in
    let next : from + 1 + count ≡ from + suc count = omega arith in
    ap (range_with_len from) all
    ∙ ap (λ (places : List ℕ). from ∷ places) (range-then (from + 1) count more ∙ ap (λ (n : ℕ). range_with_len (from + 1) count ++ range_with_len n more) next)

-- entries came to the end of the board, and then others
pub NotesMore-then : (layout : Layout) (xs ys : List BoardEntry) (old between new : Seen) → NotesMore layout xs old between
    → NotesMore layout ys between new → NotesMore layout (xs ++ ys) old new
NotesMore-then layout xs ys old between new one two = record {
  board = two.board ∙ ap (λ (entries : List BoardEntry). entries ++ ys) one.board ∙ append_assoc old.board xs ys;
  own = two.own ∙ ap (λ (places : List ℕ). places ++ range_with_len (length between.board) (length ys)) one.own
      ∙ append_assoc (old.own layout.buckets) (range_with_len (length old.board) (length xs)) (range_with_len (length between.board) (length ys))
      ∙ ap (λ (places : List ℕ). old.own layout.buckets ++ places)
      (ap (λ (n : ℕ). range_with_len (length old.board) (length xs) ++ range_with_len n (length ys)) (ap length one.board ∙ length-append old.board xs)
      ∙ sym (range-then (length old.board) (length xs) (length ys))
      ∙ ap (range_with_len (length old.board)) (sym (length-append xs ys)));
}

-- where the board says so the slices are recovered
is-recovered : (entries : List BoardEntry) (plan : SplitPlan) (recovered : Bool)
    → entries ++ board.Begun plan ∷ recovering_entries plan.parent recovered ≡ entries ++ board.Begun plan ∷ board.Recovering plan.parent ∷ []
    → recovered ≡ true
is-recovered entries plan true is = refl
is-recovered entries plan false is =
    let last : board.Begun plan ∷ [] ≡ board.Begun plan ∷ board.Recovering plan.parent ∷ [] =
    append_cancel_left entries (board.Begun plan ∷ []) (board.Begun plan ∷ board.Recovering plan.parent ∷ []) is in absurd (cc)

-- all its cores were made, and then it was finished
pub done-by : (layout layout' : Layout) (split : OpenSplit) (entries : List BoardEntry) (begun : ℕ) (between : Known) (stops : List Stop)
    (new : View) (end : SplitEnd) (before later : Outside) → layout' ≡ layout → Builds layout split entries begun split.base between
    → IsWholeSplit layout split entries between → Finishes layout' split.plan split.base.seen (view_of between.seen stops) new end
    → StartsCoresOfPlan layout.nodes split.plan before later
    → IsSplitDone layout split.plan (split_moment (view_of split.base.seen stops) before) (split_moment new later) end
done-by layout layout' split entries begun between stops new end before later same built is_whole finished' starts = record {
  answers = finished.answers;
  stops = finished.stops;
  extends = Extends-then layout split.base.seen between.seen new.seen [] (commit_stops finished.answers) built.extends finished.extends;
  last = finished.last;
  answered = finished.answered;
  noted = NotesMore-then layout (board.Recovering parent ∷ []) (board.Done parent ∷ []) split.base.seen between.seen new.seen
      (subst (λ (b : Bool). NotesMore layout (recovering_entries parent b) split.base.seen between.seen) recovered built.noted) finished.noted;
  switched = finished.switched;
  end_is = finished.end_is;
  outside = starts;
} where
  parent : SliceId
  parent = split.plan.parent

  finished : Finishes layout split.plan split.base.seen (view_of between.seen stops) new end
  finished = subst (λ (l : Layout). Finishes l split.plan split.base.seen (view_of between.seen stops) new end) same finished'

  recovered : built.recovered ≡ true
  recovered = is-recovered entries split.plan built.recovered (sym built.halted.board ∙ is_whole.board)

-- its cores were made as far as that went, and then it was given up
pub given-up-by : (layout layout' : Layout) (split : OpenSplit) (entries : List BoardEntry) (begun : ℕ) (between : Known) (stops : List Stop)
    (new : Seen) (end : SplitEnd) (before later : Outside) → layout' ≡ layout → Builds layout split entries begun split.base between
    → GivesUp layout' split.plan split.base.seen between.seen new
    → (started : ℕ)
    → (Extends layout between.seen new [] → IsCause layout split.plan started (split_moment (view_of split.base.seen stops) before) (split_moment (view_of new stops) later) end)
    → LeavesCores layout.nodes split.plan started before later → CountsGoUp before later → later.reach ≡ before.reach
    → IsGivenUpOnBoard layout split.plan (split_moment (view_of split.base.seen stops) before) (split_moment (view_of new stops) later) end
given-up-by layout layout' split entries begun between stops new end before later same built gives' started cause leaves up reach = record {
  recovered = built.recovered;
  started = started;
  stops = refl;
  extends = Extends-then layout split.base.seen between.seen new [] [] built.extends gives.extends;
  noted = NotesMore-then layout (recovering_entries split.plan.parent built.recovered) (board.Failed split.plan.parent ∷ [])
      split.base.seen between.seen new built.noted gives.noted;
  failed = gives.failed;
  cause = cause gives.extends;
  outside = leaves;
  counts = up;
  no_reach = reach;
} where
  gives : GivesUp layout split.plan split.base.seen between.seen new
  gives = subst (λ (l : Layout). GivesUp l split.plan split.base.seen between.seen new) same gives'

-- it was given up where it had begun on the board alone, for want of memory
pub given-up-at-once : (layout : Layout) (plan : SplitPlan) (old new : Seen) (stops : List Stop) (before : Outside) → GivesUp layout plan old old new
    → IsGivenUpOnBoard layout plan (split_moment (view_of old stops) before) (split_moment (view_of new stops) before) ends.Memory
given-up-at-once layout plan old new stops before gives = record {
  recovered = false;
  started = 0;
  stops = refl;
  extends = gives.extends;
  noted = gives.noted;
  failed = gives.failed;
  cause = tt;
  outside = leaves-none layout.nodes plan before;
  counts = record { starting = omega arith; stopping = omega arith; pace = omega arith; reaching = omega arith };
  no_reach = refl;
}

-- a bucket that had no room had none as more was seen
room-later : (layout : Layout) (plan : SplitPlan) (old between new : Seen) (lock : ℕ)
    → ((lock : ℕ) → IsPrefix (between.journals lock) (new.journals lock)) → HadNoRoom layout plan old between lock
    → HadNoRoom layout plan old new lock
room-later layout plan old between new lock more had = record {
  is_bucket = had.is_bucket;
  journal = had.journal;
  seen = IsPrefix-then had.journal (between.journals lock) (new.journals lock) had.seen (more lock);
  later = had.later;
  idle = had.idle;
  full = had.full;
}

-- why making the cores ended is why the split was given up
pub cause-by : (layout : Layout) (plan : SplitPlan) (cores : List Host) (started : ℕ) (old between new : Seen) (stops stops' : List Stop)
    (before mid later : Outside) (fault : Fault) (end : SplitEnd) → cores ≡ cores_of layout.nodes plan
    → Extends layout between new [] → later.start_faults ≡ mid.start_faults → later.stops ≡ mid.stops
    → IsFault layout plan (split_moment (view_of old []) before) (split_moment (view_of between []) mid) fault → IsEndOf cores started fault end
    → IsCause layout plan started (split_moment (view_of old stops) before) (split_moment (view_of new stops') later) end
cause-by layout plan cores started old between new stops stops' before mid later faults.LogFull end are extends starting pace (lock, had) is =
    subst (IsCause layout plan started (split_moment (view_of old stops) before) (split_moment (view_of new stops') later)) (sym is)
    (lock, room-later layout plan old between new lock extends.seen had)
cause-by layout plan cores started old between new stops stops' before mid later faults.Host end are extends starting pace rose (host, found, is) =
    subst (IsCause layout plan started (split_moment (view_of old stops) before) (split_moment (view_of new stops') later)) (sym is) (
      (host, subst (λ (hosts : List Host). slice_get hosts started ≡ Some host) are found, refl),
      (let up : before.start_faults < mid.start_faults = rose in let all : before.start_faults < later.start_faults = omega arith in all),
    )
cause-by layout plan cores started old between new stops stops' before mid later faults.Stopped end are extends starting pace rose is =
    subst (IsCause layout plan started (split_moment (view_of old stops) before) (split_moment (view_of new stops') later)) (sym is)
    (let up : before.stops < mid.stops = rose in let all : before.stops < later.stops = omega arith in all)
cause-by layout plan cores started old between new stops stops' before mid later faults.Memory end are extends starting pace free is =
    subst (IsCause layout plan started (split_moment (view_of old stops) before) (split_moment (view_of new stops') later)) (sym is) tt
