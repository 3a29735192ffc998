-- What a split leaves, and what it is answered, by its stop of the board and by how it went from there.
use Rattle.std.proofs.Common.{◌≡◌, ◌≤◌, ◌<◌, ◌+◌, ℕ, Bool, true, false, cond, ◌⊎◌, inl, inr, List, [], ◌∷◌, ◌++◌, length, map, take, refl, sym, ap, ◌∙◌, subst, arith}
use Rattle.std.specs.Prelude.{◌==◌, filter, slice_get}
use Rattle.std.specs.List.{range_with_len}
use Rattle.std.specs.Option.{option_map_or}
use Rattle.std.proofs.lemmas.Bool.Decides.{nat_tests}
use Rattle.std.proofs.lemmas.List.{append-nil, length_push, take_at}
use mathlib.Core.List.{IsPrefix}
use Rattle.sc_cluster.specs.declared.plan.SplitPlan.{SplitPlan}
use Rattle.sc_journal.proofs.ListLemmas.{slice_get-append_end, append-cons}
use Rattle.sc_seen.specs.Seen.{Layout, Seen, Extends, NotesBoard, EndAtLast, ComeInOrder, place_after, entries_at, made_at, is_noted}
use Rattle.sc_seen.specs.Moments.{View}
use Rattle.sc_seen.specs.Commits.{commit_stops}
use Rattle.sc_seen.specs.declared.board.BoardEntry.{BoardEntry}
use Rattle.sc_seen.specs.declared.board.BoardEntry.TheVariants as board
use Rattle.sc_seen.specs.declared.stop.Stop.{Stop}
use Rattle.sc_seen.proofs.ExtendsLemmas.{IsPrefix-self, IsPrefix-then, IsPrefix-length, Extends-then}
use Rattle.sc_board.specs.Splits.{AskedSplit, IsPlanOf, IsRefusal}
use Rattle.sc_board.specs.declared.fault.BoardFault.{BoardFault}
use Rattle.sc_split.specs.declared.end.SplitEnd.{SplitEnd}
use Rattle.sc_split.specs.declared.end.SplitEnd.TheVariants as ends
use Rattle.sc_io.specs.Hosts.{Reached}
use Rattle.sc_cores.specs.Cores.{Outside, CountsGoUp}
use Rattle.sc_split.specs.Outside.{StartsCoresOfPlan}
use Rattle.sc_split.specs.Steps.{Opens, Refuses}
use Rattle.sc_split.specs.Splits.{split_moment, Course, refused, given_up, done, noted_by, IsSwitchedIn, IsFailedIfBegun, LeavesBoard, IsCause, BeginsOnBoard, IsSplit, refusal}
use Rattle.sc_split.specs.Driving.{NotesMore, recovering_entries, IsSplitDone, IsGivenUpOnBoard}
use Rattle.sc_split.proofs.DriveLemmas.{NotesMore-then}

-- a stop of the board, after so many entries
abbrev board_stop : Layout → ℕ → Bool → Stop
board_stop layout place made = record { lock = layout.buckets; place = place; made = made }

-- the lock of the board is itself, and no bucket's
board-itself : (layout : Layout) → (layout.buckets == layout.buckets) ≡ true
board-itself layout = grind (arith, nat_tests)

no-bucket : (layout : Layout) (lock : ℕ) → lock < layout.buckets → (layout.buckets == lock) ≡ false
no-bucket layout lock below = grind (arith, nat_tests)

entries-board : (layout : Layout) (seen : Seen) (lock : ℕ) → (layout.buckets == lock) ≡ true → entries_at layout seen lock ≡ length seen.board
entries-board layout seen lock is =
    let same : (lock == layout.buckets) ≡ true = grind (arith, nat_tests) in
    ap (λ b. cond b (length seen.board) (length (seen.journals lock))) same

-- the places that a stop of the board made
made-on-board : (layout : Layout) (place : ℕ) (made : Bool) → made_at layout.buckets (board_stop layout place made ∷ []) ≡ cond made (place ∷ []) []
made-on-board layout place true =
    ap (λ b. map (λ (stop : Stop). stop.place) (filter (λ (stop : Stop). stop.made) (cond b (board_stop layout place true ∷ []) []))) (board-itself layout)
made-on-board layout place false =
    ap (λ b. map (λ (stop : Stop). stop.place) (filter (λ (stop : Stop). stop.made) (cond b (board_stop layout place false ∷ []) []))) (board-itself layout)

-- the board was looked at, at one stop, and no bucket
extends-stop : (layout : Layout) (old new : Seen) (place : ℕ) (made : Bool) → IsPrefix old.board new.board
    → ((lock : ℕ) → new.journals lock ≡ old.journals lock) → ((lock : ℕ) → lock < layout.buckets → new.own lock ≡ old.own lock)
    → NotesBoard layout old new (board_stop layout place made ∷ []) → length old.board ≤ place
    → place_after (board_stop layout place made) ≤ length new.board → Extends layout old new (board_stop layout place made ∷ [])
extends-stop layout old new place made board journals own notes after within = record {
  seen = λ lock. subst (IsPrefix (old.journals lock)) (sym (journals lock)) (IsPrefix-self (old.journals lock));
  board = board;
  own = λ lock below. own lock below ∙ sym (append-nil (old.own lock))
      ∙ ap (λ b. old.own lock ++ map (λ (one : Stop). one.place) (filter (λ (one : Stop). one.made) (cond b (stop ∷ []) [])))
      (sym (no-bucket layout lock below));
  notes = notes;
  ascend = λ lock. by lock (layout.buckets == lock) refl;
  within = (
    record {
      lock = (let same : layout.buckets ≤ layout.buckets = omega arith in same);
      place = subst (λ (n : ℕ). place_after stop ≤ n) (sym (entries-board layout new layout.buckets (board-itself layout))) within;
    },
    tt,
  );
} where
  stop : Stop
  stop = board_stop layout place made

  by : (lock : ℕ) (b : Bool) → (layout.buckets == lock) ≡ b → ComeInOrder (entries_at layout old lock) (cond b (stop ∷ []) [])
  by lock true is = (subst (λ (n : ℕ). n ≤ place) (sym (entries-board layout old lock is)) after, tt)
  by lock false is = tt

-- no bucket was stopped at yet, and the board's stop is no bucket's
last-none : (layout : Layout) (seen : Seen) → EndAtLast layout seen []
last-none layout seen [] stop after is = absurd (cc)
last-none layout seen (one ∷ before) stop after is = absurd (cc)

last-after : (layout : Layout) (seen : Seen) (place : ℕ) (made : Bool) (stops : List Stop) → EndAtLast layout seen stops
    → EndAtLast layout seen (board_stop layout place made ∷ stops)
last-after layout seen place made stops last [] stop after is below none =
    let same : board_stop layout place made ≡ stop = cc in
    let lock : layout.buckets ≡ stop.lock = ap (λ (one : Stop). one.lock) same in absurd (omega arith)
last-after layout seen place made stops last (one ∷ before) stop after is below none =
    let rest : stops ≡ before ++ stop ∷ after = cc in last before stop after rest below none

-- of what is seen later the board's entries up to a place are those that were seen
before-stop : (entries later : List BoardEntry) → IsPrefix entries later → take (length entries) later ≡ entries
before-stop entries later begins = ap (take (length entries)) (sym begins.1) ∙ take_at entries begins.0 (length entries) refl

-- no count falls where all is as it was, and where all cores were started
stays-up : (outside : Outside) → CountsGoUp outside outside
stays-up outside = record { starting = omega arith; stopping = omega arith; pace = omega arith; reaching = omega arith }

starts-up : (nodes : ℕ) (plan : SplitPlan) (old new : Outside) → StartsCoresOfPlan nodes plan old new → CountsGoUp old new
starts-up nodes plan old new starts = record {
  starting = omega (arith, starts.start_faults);
  stopping = omega (arith, starts.stop_faults);
  pace = omega (arith, starts.stops);
  reaching = let same : new.reach.faults ≡ old.reach.faults = ap (λ (r : Reached). r.faults) starts.reach in omega (arith, same);
}

-- a split that the board refused
pub split-refused : (layout : Layout) (asked : AskedSplit) (old new : View) (outside : Outside) (fault : BoardFault)
    → Refuses layout asked old new fault → IsSplit layout asked (split_moment old outside) (split_moment new outside) (refusal fault)
split-refused layout asked old new outside fault refuses = record {
  first = board_stop layout place false;
  course = refused;
  kept = refuses.stops;
  extends = extends-stop layout old.seen new.seen place false refuses.went_on refuses.journals (λ lock below. refuses.own lock)
      (record {
        added = [];
        own = refuses.own layout.buckets ∙ sym (append-nil (old.seen.own layout.buckets));
        after = tt;
        within = tt;
        made = sym (made-on-board layout place false);
      })
      (IsPrefix-length old.seen.board new.seen.board refuses.went_on) same;
  last = last-after layout new.seen place false [] (last-none layout new.seen);
  answered = λ later more. record {
    lock = refl;
    made = refl;
    fault = fault;
    end_is = refl;
    cause = subst (λ (entries : List BoardEntry). IsRefusal layout.first layout.limit entries asked fault)
        (sym (before-stop new.seen.board later.board more.board)) refuses.cause;
  };
  cause = tt;
  board = record {
    before = new.seen.board;
    begins = refuses.went_on;
    place = refl;
    board_is = sym (append-nil new.seen.board);
    own = refuses.own layout.buckets ∙ sym (append-nil (old.seen.own layout.buckets));
  };
  buckets = refuses.journals;
  outside = refl;
  counts = stays-up outside;
  no_reach = refl;
} where
  place : ℕ
  place = length new.seen.board

  same : length new.seen.board ≤ length new.seen.board
  same = omega arith

-- ---- a split that began on the board, at its stop
-- what it was seen to leave there
opens-extends : (layout : Layout) (asked : AskedSplit) (old new : View) (plan : SplitPlan) (opens : Opens layout asked old new plan)
    → Extends layout old.seen new.seen (board_stop layout (length opens.between.board) true ∷ [])
opens-extends layout asked old new plan opens =
    extends-stop layout old.seen new.seen place true
    (IsPrefix-then old.seen.board opens.between.board new.seen.board opens.went_on (board.Begun plan ∷ [], sym opens.notes.board))
    (λ lock. opens.notes.journals lock ∙ opens.journals lock)
    (λ lock below. opens.notes.others_own lock (λ is. apart lock below is) ∙ opens.own lock)
    (record {
      added = place ∷ [];
      own = opens.notes.own ∙ ap (λ (places : List ℕ). places ++ place ∷ []) (opens.own layout.buckets);
      after = (after, tt);
      within = (fits, tt);
      made = ap (λ (entries : List BoardEntry). cond (option_map_or is_noted (slice_get entries place) false) (place ∷ []) []) opens.notes.board
          ∙ ap (λ entry. cond (option_map_or is_noted entry false) (place ∷ []) []) (slice_get-append_end opens.between.board (board.Begun plan) [])
          ∙ sym (made-on-board layout place true);
    })
    after enough
  where
    place : ℕ
    place = length opens.between.board

    after : length old.seen.board ≤ place
    after = IsPrefix-length old.seen.board opens.between.board opens.went_on

    grown : length new.seen.board ≡ place + 1
    grown = ap length opens.notes.board ∙ length_push opens.between.board (board.Begun plan)

    fits : place < length new.seen.board
    fits = omega (arith, grown)

    enough : place + 1 ≤ length new.seen.board
    enough = omega (arith, grown)

    apart : (lock : ℕ) → lock < layout.buckets → lock ≡ layout.buckets → ⊥
    apart lock below is = omega arith

-- the board says so still
opens-begins : (layout : Layout) (asked : AskedSplit) (old new : View) (plan : SplitPlan) (opens : Opens layout asked old new plan) (later : Seen)
    → IsPrefix new.seen.board later.board → BeginsOnBoard layout later asked (board_stop layout (length opens.between.board) true) plan
opens-begins layout asked old new plan opens later begins = record {
  lock = refl;
  made = refl;
  made_is = ap (λ (entries : List BoardEntry). slice_get entries (length entered)) (sym is)
      ∙ slice_get-append_end entered (board.Begun plan) begins.0;
  plan_is = subst (λ (entries : List BoardEntry). IsPlanOf layout.first entries asked plan)
      (sym (before-stop entered later.board (board.Begun plan ∷ begins.0, is))) opens.plan_is;
} where
  entered : List BoardEntry
  entered = opens.between.board

  is : entered ++ board.Begun plan ∷ begins.0 ≡ later.board
  is = sym (append-cons entered (board.Begun plan) begins.0) ∙ ap (λ (entries : List BoardEntry). entries ++ begins.0) (sym opens.notes.board) ∙ begins.1

-- what came after its stop is the last of the board
opens-board : (layout : Layout) (asked : AskedSplit) (old between : View) (new : Seen) (plan : SplitPlan) (opens : Opens layout asked old between plan)
    (more : List BoardEntry) (course : Course) → NotesMore layout more between.seen new → board.Begun plan ∷ more ≡ noted_by course
    → LeavesBoard layout (board_stop layout (length opens.between.board) true) course old.seen new
opens-board layout asked old between new plan opens more course noted is = record {
  before = opens.between.board;
  begins = opens.went_on;
  place = refl;
  board_is = all.board ∙ ap (λ (entries : List BoardEntry). opens.between.board ++ entries) is;
  own = all.own ∙ ap (λ (places : List ℕ). places ++ range_with_len (length opens.between.board) (length (board.Begun plan ∷ more))) (opens.own layout.buckets)
      ∙ ap (λ (entries : List BoardEntry). old.seen.own layout.buckets ++ range_with_len (length opens.between.board) (length entries)) is;
} where
  all : NotesMore layout (board.Begun plan ∷ more) opens.between new
  all = NotesMore-then layout (board.Begun plan ∷ []) more opens.between between.seen new
      (record { board = opens.notes.board; own = opens.notes.own }) noted

-- the journals are those from before
opens-journals : (layout : Layout) (asked : AskedSplit) (old between : View) (plan : SplitPlan) → Opens layout asked old between plan → (lock : ℕ)
    → length (between.seen.journals lock) ≡ length (old.seen.journals lock)
opens-journals layout asked old between plan opens lock = ap length (opens.notes.journals lock ∙ opens.journals lock)

-- a split that was done
split-done : (layout : Layout) (asked : AskedSplit) (old between new : View) (plan : SplitPlan) (before later : Outside) (end : SplitEnd)
    → Opens layout asked old between plan → IsSplitDone layout plan (split_moment between before) (split_moment new later) end
    → IsSplit layout asked (split_moment old before) (split_moment new later) end
split-done layout asked old between new plan before later end opens went = record {
  first = first;
  course = done plan went.answers;
  kept = went.stops ∙ ap (λ (stops : List Stop). stops ++ commit_stops went.answers) opens.stops ∙ append-cons old.stops first (commit_stops went.answers);
  extends = Extends-then layout old.seen between.seen new.seen (first ∷ []) (commit_stops went.answers)
      (opens-extends layout asked old between plan opens) went.extends;
  last = last-after layout new.seen (length opens.between.board) true (commit_stops went.answers) went.last;
  answered = λ seen more. (
    opens-begins layout asked old between plan opens seen (IsPrefix-then between.seen.board new.seen.board seen.board went.extends.board more.board),
    went.answered seen more,
    went.end_is,
  );
  cause = tt;
  board = opens-board layout asked old between new.seen plan opens (board.Recovering plan.parent ∷ board.Done plan.parent ∷ [])
      (done plan went.answers) went.noted refl;
  buckets = λ lock below. subst (λ (n : ℕ). IsSwitchedIn plan n (new.seen.journals lock)) (opens-journals layout asked old between plan opens lock)
      (went.switched lock below);
  outside = went.outside;
  counts = starts-up layout.nodes plan before later went.outside;
  no_reach = went.outside.reach;
} where
  first : Stop
  first = board_stop layout (length opens.between.board) true

-- the cause is one of the whole split
cause-of-all : (layout : Layout) (plan : SplitPlan) (started : ℕ) (old between new : View) (before later : Outside) (end : SplitEnd)
    → ((lock : ℕ) → length (between.seen.journals lock) ≡ length (old.seen.journals lock))
    → IsCause layout plan started (split_moment between before) (split_moment new later) end
    → IsCause layout plan started (split_moment old before) (split_moment new later) end
cause-of-all layout plan started old between new before later ends.LogFull same (lock, had) = (
  lock,
  record {
    is_bucket = had.is_bucket;
    journal = had.journal;
    seen = had.seen;
    later = subst (λ (n : ℕ). n ≤ length had.journal) (same lock) had.later;
    idle = had.idle;
    full = had.full;
  },
)
cause-of-all layout plan started old between new before later (ends.HostFault core) same cause = cause
cause-of-all layout plan started old between new before later ends.Stopped same cause = cause
cause-of-all layout plan started old between new before later ends.Memory same cause = cause
cause-of-all layout plan started old between new before later (ends.Done subs committed) same cause = absurd cause
cause-of-all layout plan started old between new before later ends.UnknownShard same cause = absurd cause
cause-of-all layout plan started old between new before later (ends.Running shard) same cause = absurd cause
cause-of-all layout plan started old between new before later (ends.NotActive state) same cause = absurd cause
cause-of-all layout plan started old between new before later ends.RangeTooSmall same cause = absurd cause
cause-of-all layout plan started old between new before later ends.BadRanges same cause = absurd cause
cause-of-all layout plan started old between new before later ends.TooManySlices same cause = absurd cause

-- what it noted then
noted-failed : (plan : SplitPlan) (recovered : Bool) (started : ℕ)
    → board.Begun plan ∷ (recovering_entries plan.parent recovered ++ board.Failed plan.parent ∷ []) ≡ noted_by (given_up plan recovered started)
noted-failed plan true started = refl
noted-failed plan false started = refl

-- a split that was given up
split-given-up : (layout : Layout) (asked : AskedSplit) (old between new : View) (plan : SplitPlan) (before later : Outside) (end : SplitEnd)
    → Opens layout asked old between plan → IsGivenUpOnBoard layout plan (split_moment between before) (split_moment new later) end
    → IsSplit layout asked (split_moment old before) (split_moment new later) end
split-given-up layout asked old between new plan before later end opens went = record {
  first = first;
  course = given_up plan went.recovered went.started;
  kept = went.stops ∙ opens.stops;
  extends = Extends-then layout old.seen between.seen new.seen (first ∷ []) [] (opens-extends layout asked old between plan opens) went.extends;
  last = last-after layout new.seen (length opens.between.board) true [] (last-none layout new.seen);
  answered = λ seen more. opens-begins layout asked old between plan opens seen
      (IsPrefix-then between.seen.board new.seen.board seen.board went.extends.board more.board);
  cause = cause-of-all layout plan went.started old between new before later end (opens-journals layout asked old between plan opens) went.cause;
  board = opens-board layout asked old between new.seen plan opens (recovering_entries plan.parent went.recovered ++ board.Failed plan.parent ∷ [])
      (given_up plan went.recovered went.started) went.noted (noted-failed plan went.recovered went.started);
  buckets = λ lock below. subst (λ (n : ℕ). IsFailedIfBegun plan n (new.seen.journals lock)) (opens-journals layout asked old between plan opens lock)
      (went.failed lock below);
  outside = went.outside;
  counts = went.counts;
  no_reach = went.no_reach;
} where
  first : Stop
  first = board_stop layout (length opens.between.board) true

-- a split that began on the board, however it went from there
pub split-went : (layout layout' : Layout) (asked : AskedSplit) (old between new : View) (plan : SplitPlan) (before later : Outside) (end : SplitEnd)
    → layout' ≡ layout → Opens layout asked old between plan
    → IsSplitDone layout' plan (split_moment between before) (split_moment new later) end
    ⊎ IsGivenUpOnBoard layout' plan (split_moment between before) (split_moment new later) end
    → IsSplit layout asked (split_moment old before) (split_moment new later) end
split-went layout layout' asked old between new plan before later end same opens (inl went) =
    split-done layout asked old between new plan before later end opens
    (subst (λ (l : Layout). IsSplitDone l plan (split_moment between before) (split_moment new later) end) same went)
split-went layout layout' asked old between new plan before later end same opens (inr went) =
    split-given-up layout asked old between new plan before later end opens
    (subst (λ (l : Layout). IsGivenUpOnBoard l plan (split_moment between before) (split_moment new later) end) same went)
