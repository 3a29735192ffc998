-- What was asked is answered: of the buckets alone, or by what came of a command to the collection.
use Rattle.std.proofs.Common.{◌≡◌, ◌≤◌, ℕ, Bool, true, false, cond, List, [], ◌∷◌, ◌++◌, length, Option, None, refl, sym, ap, ◌∙◌, subst, arith, inr}
use Rattle.std.specs.Prelude.{◌==◌, ◌&&◌, nat_lt}
use Rattle.std.specs.List.{filter_map, cons_option}
use Rattle.std.specs.Option.{option_map}
use Rattle.std.proofs.lemmas.Bool.Decides.{nat_tests}
use Rattle.sc_record.specs.declared.ack.Ack.{Ack}
use Rattle.sc_model.specs.Replies.{Reply}
use Rattle.sc_cores.specs.Cores.{Outside}
use Rattle.sc_journal.specs.Journal.{write_at}
use Rattle.sc_seen.specs.Seen.{Layout, Seen, SeesMore, EndAtLast, ComeInOrder, place_after, stops_at, entries_at}
use Rattle.sc_seen.specs.Moments.{View, Moment}
use Rattle.sc_seen.specs.Batches.{OrderAnswer, ack_made, ack_written}
use Rattle.sc_seen.specs.Commits.{commit_stops}
use Rattle.sc_seen.specs.declared.stop.Stop.{Stop}
use Rattle.sc_board.specs.declared.cut.Cut.{Cut}
use Rattle.sc_board.specs.Splits as board
use Rattle.sc_collection.proofs.DownLemmas.{NotesDowns-none}
use Rattle.sc_update.proofs.UpdateLemmas.{commits_unmade}
use Rattle.sc_split.specs.Splits.{SplitMoment, Course, refused, given_up, done, split_stops, HasCause, IsAnswered, IsSplit}
use Rattle.sc_split.specs.declared.end.SplitEnd.{SplitEnd}
use Rattle.sc_split.specs.declared.end.SplitEnd.TheVariants as splits
use Rattle.sc_admin.specs.Commands.{pieces_of, split, status, delete}
use Rattle.sc_admin.specs.Deletes.{IsDelete, delete_moment}
use Rattle.sc_admin.specs.declared.deleting.DeleteEnd.{DeleteEnd}
use Rattle.sc_session.specs.Requests.{Asked, command}
use Rattle.sc_session.specs.Commands.{CommandEnd, ended_stops, situation, moment_at, ReachesFor, KeepsRest, LeavesSplit, LeavesDelete, Leaves}
use Rattle.sc_session.specs.Answers.{Answer, replied, ran_out, Trace, read_trace, split_trace, delete_trace, status_reply, split_answer, delete_answer, ShowsBoard, EndsSplit, EndsDelete, IsAnswer}
use Rattle.sc_session.specs.States.{World}
use Rattle.sc_session.specs.Answering.{AnswersOfBuckets, AnswersAsked, IsAnswerOf, ShowsStatus}

-- what stands beside a request, by its parts
abbrev pub world_at : {C : Type 0} → View → C → Outside → World C
world_at view clock outside = record { moment = record { view = view; clock = clock }; outside = outside }

-- a request without orders left all that is outside as it was
reaches_none : (layout : Layout) (old new : Seen) (outside : Outside) → ReachesFor layout [] (situation old outside) (situation new outside)
reaches_none layout old new outside = record { rest = refl; none = λ none. refl; downs = NotesDowns-none layout new outside.reach }

-- what was asked of the buckets alone left the rest as it was
pub of_buckets : {C : Type 0} (gives : C → ℕ → C → Type 0) (layout : Layout) (asked : Asked) (old new : Moment C) (outside : Outside) (answer : Answer)
    → AnswersOfBuckets gives layout asked old new answer
    → AnswersAsked gives layout asked (record { moment = old; outside = outside }) (record { moment = new; outside = outside }) answer
of_buckets gives layout asked old new outside answer a = record {
  trace = a.trace;
  extends = a.keeps.goes.extends;
  last = subst (λ (end : CommandEnd). EndAtLast layout new.view.seen (ended_stops end a.trace.stops)) (sym a.no_command_is) a.keeps.goes.last;
  kept = a.keeps.kept;
  given = a.given;
  answered = a.answered;
  once = a.once;
  leaves = subst (λ (end : CommandEnd). Leaves layout a.trace.answers a.trace.stops end (situation old.view.seen outside) (situation new.view.seen outside)) (sym a.no_command_is) rest;
}
  where
    rest : KeepsRest layout a.trace.answers a.trace.stops (situation old.view.seen outside) (situation new.view.seen outside)
    rest = record {
      stays = a.keeps.goes.stays;
      board = λ none. a.keeps.goes.board;
      board_own = a.keeps.goes.board_own;
      reach = subst (λ (answers : List OrderAnswer). ReachesFor layout answers (situation old.view.seen outside) (situation new.view.seen outside)) (sym a.no_order_is)
          (reaches_none layout old.view.seen new.view.seen outside);
    }

-- a stop of the board is the last of no bucket
board_last : (layout : Layout) (seen : Seen) (stop : Stop) → stop.lock ≡ layout.buckets → EndAtLast layout seen (stop ∷ [])
board_last layout seen stop is = λ before one after same inside none. at before one after same (λ lock. absurd (omega (arith, inside, lock)))
  where
    at : (before : List Stop) (one : Stop) (after : List Stop) → stop ∷ [] ≡ before ++ one ∷ after
        → (one.lock ≡ layout.buckets → place_after one ≡ length (seen.journals one.lock)) → place_after one ≡ length (seen.journals one.lock)
    at [] one after same other = let here : stop ≡ one = cc in other (ap (λ (s : Stop). s.lock) (sym here) ∙ is)
    at (x ∷ []) one after same other = absurd (cc)
    at (x ∷ y ∷ before) one after same other = absurd (cc)

-- it is the only one there
at_board : (layout : Layout) (stop : Stop) → stop.lock ≡ layout.buckets → stops_at layout.buckets (stop ∷ []) ≡ stop ∷ []
at_board layout stop is =
    let same : (stop.lock == layout.buckets) ≡ true = grind (arith, nat_tests, is) in
    ap (λ b. cond b (stop ∷ []) []) same

-- and made no write
board_unmade : (layout : Layout) (seen : Seen) (stop : Stop) → stop.lock ≡ layout.buckets → ack_made layout seen stop ≡ None
board_unmade layout seen stop is =
    let other : nat_lt stop.lock layout.buckets ≡ false = grind (arith, nat_tests, is) in
    ap (λ b. cond (stop.made && b) (written) None) other ∙ never stop.made
  where
    written : Option Ack
    written = option_map ack_written (write_at (seen.journals stop.lock) stop.place)

    never : (b : Bool) → cond (b && false) written None ≡ None
    never true = refl
    never false = refl

board_once : (layout : Layout) (seen : Seen) (stop : Stop) → stop.lock ≡ layout.buckets → filter_map (ack_made layout seen) (stop ∷ []) ≡ []
board_once layout seen stop is = ap (λ (ack : Option Ack). cons_option ack []) (board_unmade layout seen stop is)

-- the slices were shown
pub status_answered : {C : Type 0} (gives : C → ℕ → C → Type 0) (layout : Layout) (old new : View) (clock : C) (outside : Outside) (answer : Answer)
    → ShowsStatus layout old new answer
    → AnswersAsked gives layout (command status) (world_at old clock outside) (world_at new clock outside) answer
status_answered gives layout old new clock outside answer shows = record {
  trace = read_trace (stop ∷ []);
  extends = shows.extends;
  last = board_last layout new.seen stop shows.lock;
  kept = shows.kept;
  given = refl;
  answered = λ later more. by later answer (shows.answered later more);
  once = λ later more. board_once layout later stop shows.lock;
  leaves = rest;
}
  where
    stop : Stop
    stop = shows.stop

    some : stop ∷ [] ≡ [] → ⊥
    some none = cc

    rest : KeepsRest layout [] (stop ∷ []) (situation old.seen outside) (situation new.seen outside)
    rest = record {
      stays = λ lock below none. shows.stays lock;
      board = λ none. absurd (some (sym (at_board layout stop shows.lock) ∙ none));
      board_own = shows.board_own;
      reach = reaches_none layout old.seen new.seen outside;
    }

    here : ShowsBoard layout (read_trace (stop ∷ [])) stop
    here = record { lock = shows.lock; made = shows.made; trace_is = refl }

    same : (one other : Reply) → replied one ≡ replied other → other ≡ one
    same one other is = cc

    by : (later : Seen) (answer : Answer) → IsAnswerOf (replied (status_reply layout later stop)) answer
        → IsAnswer layout later (command status) (read_trace (stop ∷ [])) answer
    by later (replied reply) is = (stop, here, same (status_reply layout later stop) reply is)
    by later ran_out is = inr (stop, here)

-- the cause of an answer is so whatever stops were kept
cause_at : (layout : Layout) (course : Course) (old new : SplitMoment) (end : SplitEnd) → HasCause layout course old new end
    → HasCause layout course (moment_at (situation old.view.seen old.outside)) (moment_at (situation new.view.seen new.outside)) end
cause_at layout refused old new end cause = tt
cause_at layout (done plan answers) old new end cause = tt
cause_at layout (given_up plan recovered started) old new splits.LogFull cause = cause
cause_at layout (given_up plan recovered started) old new (splits.HostFault core) cause = cause
cause_at layout (given_up plan recovered started) old new splits.Stopped cause = cause
cause_at layout (given_up plan recovered started) old new splits.Memory cause = tt
cause_at layout (given_up plan recovered started) old new (splits.Done subs committed) cause = absurd cause
cause_at layout (given_up plan recovered started) old new splits.UnknownShard cause = absurd cause
cause_at layout (given_up plan recovered started) old new (splits.Running shard) cause = absurd cause
cause_at layout (given_up plan recovered started) old new (splits.NotActive state) cause = absurd cause
cause_at layout (given_up plan recovered started) old new splits.RangeTooSmall cause = absurd cause
cause_at layout (given_up plan recovered started) old new splits.BadRanges cause = absurd cause
cause_at layout (given_up plan recovered started) old new splits.TooManySlices cause = absurd cause

-- a split made no write
split_once : (layout : Layout) (seen : Seen) (asked : board.AskedSplit) (first : Stop) (course : Course) (end : SplitEnd)
    → IsAnswered layout seen asked first course end → filter_map (ack_made layout seen) (split_stops first course) ≡ []
split_once layout seen asked first refused end is = board_once layout seen first is.lock
split_once layout seen asked first (given_up plan recovered started) end is = board_once layout seen first is.lock
split_once layout seen asked first (done plan answers) end is =
    ap (λ (ack : Option Ack). cons_option ack (filter_map (ack_made layout seen) (commit_stops answers))) (board_unmade layout seen first is.0.lock)
    ∙ commits_unmade layout seen answers is.1.each

-- a split was answered
pub split_answered : {C : Type 0} (gives : C → ℕ → C → Type 0) (layout : Layout) (shard : List ℕ) (cut : Cut) (old new : SplitMoment) (clock : C)
    (end : SplitEnd) (answer : Answer) → IsSplit layout (board.asked_for shard cut) old new end → IsAnswerOf (split_answer end) answer
    → AnswersAsked gives layout (command (split shard (pieces_of cut))) (world_at old.view clock old.outside) (world_at new.view clock new.outside) answer
split_answered gives layout shard cut old new clock end answer is told = record {
  trace = trace;
  extends = is.extends;
  last = is.last;
  kept = is.kept;
  given = refl;
  answered = λ later more. by later more answer told;
  once = λ later more. split_once layout later (board.asked_for shard cut) is.first is.course end (is.answered later more);
  leaves = left;
}
  where
    trace : Trace
    trace = split_trace (board.asked_for shard cut) is.first is.course end

    left : LeavesSplit layout is.first is.course end (situation old.view.seen old.outside) (situation new.view.seen new.outside)
    left = record {
      cause = cause_at layout is.course old new end is.cause;
      board = is.board;
      buckets = is.buckets;
      outside = is.outside;
      counts = is.counts;
      no_reach = is.no_reach;
    }

    ends : (later : Seen) → SeesMore new.view.seen later → EndsSplit layout later shard (pieces_of cut) trace end
    ends later more = record { cut = cut; first = is.first; course = is.course; cut_is = refl; trace_is = refl; answered = is.answered later more }

    by : (later : Seen) → SeesMore new.view.seen later → (answer : Answer) → IsAnswerOf (split_answer end) answer
        → IsAnswer layout later (command (split shard (pieces_of cut))) trace answer
    by later more (replied reply) told = (end, ends later more, told)
    by later more ran_out told = inr (end, ends later more)

-- a deletion was answered
pub deletion_answered : {C : Type 0} (gives : C → ℕ → C → Type 0) (layout : Layout) (shard : List ℕ) (old new : View) (before after : Outside) (clock : C)
    (end : DeleteEnd) (answer : Answer) → IsDelete layout shard (delete_moment old before) (delete_moment new after) end → IsAnswerOf (delete_answer end) answer
    → AnswersAsked gives layout (command (delete shard)) (world_at old clock before) (world_at new clock after) answer
deletion_answered gives layout shard old new before after clock end answer is told = record {
  trace = trace;
  extends = is.extends;
  last = is.last;
  kept = is.stops;
  given = refl;
  answered = λ later more. by later more answer told;
  once = λ later more. board_once layout later is.first is.lock;
  leaves = left;
}
  where
    trace : Trace
    trace = delete_trace shard is.first is.course end

    -- the stop comes after all that was seen of the board
    begins : length old.seen.board ≤ is.first.place
    begins =
        let same : (layout.buckets == layout.buckets) ≡ true = grind (arith, nat_tests) in
        let count : entries_at layout old.seen layout.buckets ≡ length old.seen.board =
        ap (λ b. cond b (length old.seen.board) (length (old.seen.journals layout.buckets))) same in
        let in_order : ComeInOrder (entries_at layout old.seen layout.buckets) (is.first ∷ []) =
        subst (ComeInOrder (entries_at layout old.seen layout.buckets)) (at_board layout is.first is.lock) (is.extends.ascend layout.buckets) in
        subst (λ n. n ≤ is.first.place) count in_order.0

    left : LeavesDelete layout is.first is.course end (situation old.seen before) (situation new.seen after)
    left = record {
      board = is.board;
      begins = begins;
      own = is.own;
      buckets = is.buckets;
      outside = is.outside;
      counts = is.counts;
      no_start = is.no_start;
      no_pace = is.no_pace;
      no_reach = is.no_reach;
    }

    ends : (later : Seen) → SeesMore new.seen later → EndsDelete layout later shard trace end
    ends later more = record { first = is.first; course = is.course; lock = is.lock; trace_is = refl; answered = is.answered later more }

    by : (later : Seen) → SeesMore new.seen later → (answer : Answer) → IsAnswerOf (delete_answer end) answer
        → IsAnswer layout later (command (delete shard)) trace answer
    by later more (replied reply) told = (end, ends later more, told)
    by later more ran_out told = inr (end, ends later more)
