-- Each exchange whose command was a split left what a split leaves.
use Rattle.std.proofs.Common.{◌≡◌, ℕ, zero, suc, ◌+◌, ◌<◌, ◌≤◌, inl, inr, Bool, true, false, cond, List, [], ◌∷◌, ◌++◌, length, take, map, Contains, refl, sym, ap, ◌∙◌, subst, arith, append_assoc}
use Rattle.std.specs.Prelude.{◌==◌}
use Rattle.std.proofs.lemmas.Bool.Decides.{Decides-eqb}
use Rattle.std.proofs.lemmas.List.Elements.{All-contains, All-from_recursion}
use Rattle.std.proofs.lemmas.Option.{slice_get_within}
use Rattle.sc_record.specs.declared.slice.SubSlice.{SubSlice}
use Rattle.sc_record.specs.declared.entry.Entry.TheVariants as entry
use Rattle.sc_cluster.specs.declared.plan.SplitPlan.{SplitPlan}
use Rattle.sc_cluster.proofs.ListLemmas.{Contains-filter}
use Rattle.sc_seen.specs.Commits.{CommitAnswer}
use Rattle.sc_seen.proofs.ExtendsLemmas.{IsPrefix-length, entries-bucket}
use Rattle.sc_admin.specs.Commands.{split, status, delete}
use Rattle.sc_admin.specs.Deletes.{DeleteCourse}
use Rattle.sc_admin.specs.declared.deleting.DeleteEnd.{DeleteEnd}
use Rattle.sc_board.specs.Splits.{AskedSplit, asked_for}
use Rattle.sc_cores.specs.Cores.{Outside}
use Rattle.sc_seen.specs.Moments.{view_of}
use Rattle.sc_seen.specs.Seen.{Layout, Seen, Extends, EndAtLast, FromNowOn, IsStopWithin, ComeInOrder, place_after, journal_at, stops_at, entries_at}
use Rattle.sc_seen.specs.declared.stop.Stop.{Stop}
use Rattle.sc_seen.proofs.GoesOnLemmas.{SeesMore-self}
use Rattle.sc_split.specs.declared.end.SplitEnd.{SplitEnd}
use Rattle.sc_split.specs.declared.end.SplitEnd.TheVariants as ends
use Rattle.sc_split.specs.Splits.{SplitMoment, split_moment, Course, refused, given_up, done, split_stops, HasCause, IsAnswered, IsSplit}
use Rattle.sc_session.specs.Requests as requests
use Rattle.sc_session.specs.Requests.{update, get, get_ids, select, command, asked}
use Rattle.sc_session.specs.Answers.{Answer, replied, ran_out, Trace, IsAnswer, EndsSplit, read_trace}
use Rattle.sc_session.specs.Commands.{CommandEnd, no_command, split_ended, delete_ended, ended_stops, Situation, moment_at, Leaves, LeavesSplit}
use Rattle.sc_session.specs.Connection.{Exchange, situation_after, situation_passed, IsExchange, AreExchanges, LeaveRest, exchanges_of}
use Rattle.sc_session.specs.States.{ConnectionState, world_of, situation_in}
use Rattle.sc_session.specs.Served.{IsServed}
use Rattle.sc_session.specs.declared.end.End.{End}
use Rattle.sc_session.specs.SplitLaws.{ComesBetween, SwitchesBetween, ConnectionsSplit, LooksAreAround}
use Rattle.sc_session.proofs.SeesLemmas.{sees_more, sees_on}
use Rattle.sc_session.proofs.SplitPlaceLemmas.{done_splits_switch}

-- the cause of an answer does not depend on the stops that were kept
cause_by_seen : (layout : Layout) (course : Course) (old : SplitMoment) (seen : Seen) (outside : Outside) (one other : List Stop) (end : SplitEnd)
    → HasCause layout course old (split_moment (view_of seen one) outside) end → HasCause layout course old (split_moment (view_of seen other) outside) end
cause_by_seen layout refused old seen outside one other end cause = tt
cause_by_seen layout (done plan answers) old seen outside one other end cause = tt
cause_by_seen layout (given_up plan recovered started) old seen outside one other ends.LogFull cause = cause
cause_by_seen layout (given_up plan recovered started) old seen outside one other (ends.HostFault core) cause = cause
cause_by_seen layout (given_up plan recovered started) old seen outside one other ends.Stopped cause = cause
cause_by_seen layout (given_up plan recovered started) old seen outside one other ends.Memory cause = tt
cause_by_seen layout (given_up plan recovered started) old seen outside one other (ends.Done subs commits) cause = absurd cause
cause_by_seen layout (given_up plan recovered started) old seen outside one other ends.UnknownShard cause = absurd cause
cause_by_seen layout (given_up plan recovered started) old seen outside one other (ends.Running shard) cause = absurd cause
cause_by_seen layout (given_up plan recovered started) old seen outside one other (ends.NotActive state) cause = absurd cause
cause_by_seen layout (given_up plan recovered started) old seen outside one other ends.RangeTooSmall cause = absurd cause
cause_by_seen layout (given_up plan recovered started) old seen outside one other ends.BadRanges cause = absurd cause
cause_by_seen layout (given_up plan recovered started) old seen outside one other ends.TooManySlices cause = absurd cause

-- the command was a split that went so
abbrev CameTo : CommandEnd → AskedSplit → Stop → Course → SplitEnd → Type 0
CameTo came asked first course end = came ≡ split_ended asked first course end

-- a command's end is that of no other
not_none : (asked : AskedSplit) (first : Stop) (course : Course) (end : SplitEnd) → CameTo no_command asked first course end → ⊥
not_none asked first course end same = cc

not_deleted : (shard : List ℕ) (stop : Stop) (how : DeleteCourse) (deleted : DeleteEnd) (asked : AskedSplit) (first : Stop) (course : Course) (end : SplitEnd)
    → CameTo (delete_ended shard stop how deleted) asked first course end → ⊥
not_deleted shard stop how deleted asked first course end same = cc

-- a split's stops, and what it was answered
record AnswersSplit (layout : Layout) (seen : Seen) (trace : Trace) (asked : AskedSplit) (first : Stop) (course : Course) (end : SplitEnd) : Type 0 where
  stops_are : trace.stops ≡ split_stops first course
  answered : IsAnswered layout seen asked first course end

module _ (layout : Layout) (seen : Seen) (trace : Trace) (asked : AskedSplit) (first : Stop) (course : Course) (end : SplitEnd)
    (came : CameTo trace.command asked first course end) where
  -- a trace that is another's is none
  no_split : (other : Trace) → other.command ≡ no_command → trace ≡ other → AnswersSplit layout seen trace asked first course end
  no_split other none is =
      absurd (not_none asked first course end (sym none ∙ sym (ap (λ (t : Trace). t.command) is) ∙ came))

  none_of_batch : trace.command ≡ no_command → AnswersSplit layout seen trace asked first course end
  none_of_batch none = absurd (not_none asked first course end (sym none ∙ came))

  -- that of a split is this one
  this_split : (shard : List ℕ) (pieces : _) (how : SplitEnd) → EndsSplit layout seen shard pieces trace how
      → AnswersSplit layout seen trace asked first course end
  this_split shard pieces how is = by (sym (ap (λ (t : Trace). t.command) is.trace_is) ∙ came) where
    by : split_ended (asked_for shard is.cut) is.first is.course how ≡ split_ended asked first course end
        → AnswersSplit layout seen trace asked first course end
    by same =
        let asked_same : asked_for shard is.cut ≡ asked = cc in
        let first_same : is.first ≡ first = cc in
        let course_same : is.course ≡ course = cc in
        let end_same : how ≡ end = cc in
        record {
          stops_are = ap (λ (t : Trace). t.stops) is.trace_is ∙ ap (λ (f : Stop). split_stops f is.course) first_same
              ∙ ap (split_stops first) course_same;
          answered = subst (λ (a : AskedSplit). IsAnswered layout seen a first course end) asked_same
              (subst (λ (f : Stop). IsAnswered layout seen (asked_for shard is.cut) f course end) first_same
              (subst (λ (c : Course). IsAnswered layout seen (asked_for shard is.cut) is.first c end) course_same
              (subst (λ (e : SplitEnd). IsAnswered layout seen (asked_for shard is.cut) is.first is.course e) end_same is.answered)));
        }

  answers_split : (what : requests.Asked) (answer : Answer) → IsAnswer layout seen what trace answer
      → AnswersSplit layout seen trace asked first course end
  answers_split (requests.refused refusal) (replied reply) is = no_split (read_trace []) refl is.0
  answers_split (requests.refused refusal) ran_out is = no_split (read_trace []) refl is
  answers_split (update what) (replied reply) is = none_of_batch is.3.command_is
  answers_split (update what) ran_out (inl none) = no_split (read_trace []) refl none
  answers_split (update what) ran_out (inr is) = none_of_batch is.3.command_is
  answers_split (get id) (replied reply) is = no_split (read_trace (is.0 ∷ [])) refl is.1.trace_is
  answers_split (get id) ran_out is = no_split (read_trace is.0) refl is.1.trace_is
  answers_split (get_ids ids) (replied reply) is = no_split (read_trace is.0) refl is.1.trace_is
  answers_split (get_ids ids) ran_out is = no_split (read_trace is.0) refl is.1.trace_is
  answers_split (select ask) (replied reply) (inl bad) = no_split (read_trace []) refl bad.2
  answers_split (select ask) (replied reply) (inr is) = no_split (read_trace is.search.stops) refl is.trace_is
  answers_split (select ask) ran_out is = no_split (read_trace is.0) refl is.3
  answers_split (command status) (replied reply) is = no_split (read_trace (is.0 ∷ [])) refl is.1.trace_is
  answers_split (command status) ran_out (inl none) = no_split (read_trace []) refl none
  answers_split (command status) ran_out (inr is) = no_split (read_trace (is.0 ∷ [])) refl is.1.trace_is
  answers_split (command (split shard pieces)) (replied reply) is = this_split shard pieces is.0 is.1
  answers_split (command (split shard pieces)) ran_out (inl none) = no_split (read_trace []) refl none
  answers_split (command (split shard pieces)) ran_out (inr is) = this_split shard pieces is.0 is.1
  answers_split (command (delete shard)) (replied reply) is = absurd (not_deleted shard is.1.first is.1.course is.0 asked first course end
      (sym (ap (λ (t : Trace). t.command) is.1.trace_is) ∙ came))
  answers_split (command (delete shard)) ran_out (inl none) = no_split (read_trace []) refl none
  answers_split (command (delete shard)) ran_out (inr is) = absurd (not_deleted shard is.1.first is.1.course is.0 asked first course end
      (sym (ap (λ (t : Trace). t.command) is.1.trace_is) ∙ came))

-- an exchange whose command was a split is one
is_split : (layout : Layout) (old : Situation) (x : Exchange) (wanted : AskedSplit) (first : Stop) (course : Course) (end : SplitEnd)
    → IsExchange layout old.seen x → Leaves layout x.trace.answers x.trace.stops x.trace.command old (situation_after x)
    → CameTo x.trace.command wanted first course end
    → IsSplit layout wanted (moment_at old) (split_moment (view_of x.seen x.trace.stops) x.outside) end
is_split layout old x wanted first course end is leaves came = record {
  first = first;
  course = course;
  kept = stops;
  extends = subst (Extends layout old.seen x.seen) stops is.extends;
  last = subst (EndAtLast layout x.seen) stops (subst (λ (end : CommandEnd). EndAtLast layout x.seen (ended_stops end x.trace.stops)) came is.last);
  answered = λ later more. (told later more).answered;
  cause = cause_by_seen layout course (moment_at old) x.seen x.outside [] x.trace.stops end left.cause;
  board = left.board;
  buckets = left.buckets;
  outside = left.outside;
  counts = left.counts;
  no_reach = left.no_reach;
}
  where
    told : FromNowOn x.seen (λ later. AnswersSplit layout later x.trace wanted first course end)
    told later more = answers_split layout later x.trace wanted first course end came (asked x.request) x.answer (is.answered later more)

    stops : x.trace.stops ≡ split_stops first course
    stops = (told x.seen (SeesMore-self x.seen)).stops_are

    left : LeavesSplit layout first course end old (situation_after x)
    left = subst (λ (came : CommandEnd). Leaves layout x.trace.answers x.trace.stops came old (situation_after x)) came leaves

-- of exchanges one after another: each comes after what stood once those before it were over, and before what is seen at the end
record ComesIn (layout : Layout) (old : Situation) (earlier : List Exchange) (x : Exchange) (further : List Exchange) (new : Seen) : Type 0 where
  before : Situation
  prior : AreExchanges layout old.seen earlier before.seen
  is : IsExchange layout before.seen x
  leaves : Leaves layout x.trace.answers x.trace.stops x.trace.command before (situation_after x)
  later : AreExchanges layout x.passed further new

comes_in : (layout : Layout) (old new : Situation) (earlier : List Exchange) (x : Exchange) (further : List Exchange)
    → AreExchanges layout old.seen (earlier ++ x ∷ further) new.seen → LeaveRest layout old (earlier ++ x ∷ further) new
    → ComesIn layout old earlier x further new.seen
comes_in layout old new [] x further are rest =
    record { before = old; prior = refl; is = are.0; leaves = rest.0; later = are.1 }
comes_in layout old new (y ∷ earlier) x further are rest =
    let one = comes_in layout (situation_passed y) new earlier x further are.1 rest.1 in
    record { before = one.before; prior = (are.0, one.prior); is = one.is; leaves = one.leaves; later = one.later }

-- of exchanges one after another, what was seen before one of them, and before and after it the others
record Parts (layout : Layout) (old : Seen) (earlier : List Exchange) (x : Exchange) (further : List Exchange) (new : Seen) : Type 0 where
  before : Seen
  prior : AreExchanges layout old earlier before
  is : IsExchange layout before x
  later : AreExchanges layout x.passed further new

parts : (layout : Layout) (old : Seen) (earlier : List Exchange) (x : Exchange) (further : List Exchange) (new : Seen)
    → AreExchanges layout old (earlier ++ x ∷ further) new → Parts layout old earlier x further new
parts layout old [] x further new are = record { before = old; prior = refl; is = are.0; later = are.1 }
parts layout old (y ∷ earlier) x further new are =
    let rest = parts layout y.passed earlier x further new are.1 in
    record { before = rest.before; prior = (are.0, rest.prior); is = rest.is; later = rest.later }

module _ {C : Type 0} (gives : C → ℕ → C → Type 0) (layout : Layout) (before after : ConnectionState C) (end : End)
    (earlier further : List Exchange) (x : Exchange) (wanted : AskedSplit) (first : Stop) (course : Course) (split_end : SplitEnd)
    (served : IsServed gives layout before after end) (is : served.exchanges ++ exchanges_of served.last ≡ earlier ++ x ∷ further)
    (came : CameTo x.trace.command wanted first course split_end) where
  comes : ComesIn layout (situation_in (world_of before)) earlier x further after.moment.view.seen
  comes = comes_in layout (situation_in (world_of before)) (situation_in (world_of after)) earlier x further
      (subst (λ (xs : List Exchange). AreExchanges layout before.moment.view.seen xs after.moment.view.seen) is served.traces.each)
      (subst (λ (xs : List Exchange). LeaveRest layout (situation_in (world_of before)) xs (situation_in (world_of after))) is served.traces.rest)

  comes_split : IsSplit layout wanted (moment_at comes.before) (split_moment (view_of x.seen x.trace.stops) x.outside) split_end
  comes_split = is_split layout comes.before x wanted first course split_end comes.is comes.leaves came

pub connections_split : {C : Type 0} (gives : C → ℕ → C → Type 0) → ConnectionsSplit gives
connections_split gives layout before after end earlier further x wanted first course split_end served is came =
    let one = comes gives layout before after end earlier further x wanted first course split_end served is came in
    record {
      before = one.before;
      grows = sees_more layout before.moment.view.seen earlier one.before.seen one.prior;
      split = comes_split gives layout before after end earlier further x wanted first course split_end served is came;
      stays = sees_on layout one.before.seen x further after.moment.view.seen one.is one.later;
    }

-- ---- looks before and after
-- stops that come in order from a place on are each at it or after it
in_order : (from : ℕ) (stops : List Stop) (stop : Stop) → ComeInOrder from stops → Contains stops stop → from ≤ stop.place
in_order from [] stop order (k, within, at) = absurd (omega (arith, within))
in_order from (first ∷ stops) stop order (zero, within, at) = subst (λ (s : Stop). from ≤ s.place) at order.0
in_order from (first ∷ stops) stop order (suc k, within, at) =
    let rest : place_after first ≤ stop.place = in_order (place_after first) stops stop order.1 (k, omega (arith, within), at) in
    let here : from ≤ first.place = order.0 in
    let grown : first.place ≤ place_after first = by first.made in
    omega (arith, rest, here, grown)
  where
    by : (made : Bool) → first.place ≤ cond made (first.place + 1) first.place
    by true = omega arith
    by false = omega arith

-- a look of an exchange is within what is seen after it
look_within : (layout : Layout) (old : Seen) (x : Exchange) (stop : Stop) → IsExchange layout old x → Contains x.trace.stops stop
    → stop.lock < layout.buckets → stop.place ≤ length (x.seen.journals stop.lock)
look_within layout old x stop is there below =
    let within : IsStopWithin layout x.seen stop =
    All-contains (IsStopWithin layout x.seen) x.trace.stops stop
    (All-from_recursion (IsStopWithin layout x.seen) x.trace.stops is.extends.within) there in
    let most : place_after stop ≤ entries_at layout x.seen stop.lock = within.place in
    let grown : stop.place ≤ place_after stop = by stop.made in
    omega (arith, most, grown, entries-bucket layout x.seen stop.lock below)
  where
    by : (made : Bool) → stop.place ≤ cond made (stop.place + 1) stop.place
    by true = omega arith
    by false = omega arith

-- and not before what was seen before it
look_after : (layout : Layout) (old : Seen) (x : Exchange) (stop : Stop) → IsExchange layout old x → Contains x.trace.stops stop
    → stop.lock < layout.buckets → length (old.journals stop.lock) ≤ stop.place
look_after layout old x stop is there below =
    let own : (stop.lock == stop.lock) ≡ true = (Decides-eqb stop.lock stop.lock).1 refl in
    let least : entries_at layout old stop.lock ≤ stop.place =
    in_order (entries_at layout old stop.lock) (stops_at stop.lock x.trace.stops) stop (is.extends.ascend stop.lock)
    (Contains-filter (λ (s : Stop). s.lock == stop.lock) x.trace.stops stop there own) in
    omega (arith, least, entries-bucket layout old stop.lock below)

pub looks_are_around : {C : Type 0} (gives : C → ℕ → C → Type 0) → LooksAreAround gives
looks_are_around gives layout before after end earlier between further rest reading x again wanted first course subs commits served is came =
    (switches.0, switches.3, around)
  where
    order : served.exchanges ++ exchanges_of served.last ≡ (earlier ++ reading ∷ between) ++ x ∷ (further ++ again ∷ rest)
    order = is ∙ append_assoc (earlier ++ reading ∷ between) (x ∷ further) (again ∷ rest)

    one_split : ComesIn layout (situation_in (world_of before)) (earlier ++ reading ∷ between) x (further ++ again ∷ rest) after.moment.view.seen
    one_split = comes gives layout before after end (earlier ++ reading ∷ between) (further ++ again ∷ rest) x wanted first course
        (ends.Done subs commits) served order came

    switches : (plan : SplitPlan) × (answers : List CommitAnswer)
        × ((comes_split gives layout before after end (earlier ++ reading ∷ between) (further ++ again ∷ rest) x wanted first course
        (ends.Done subs commits) served order came).course ≡ done plan answers)
        × (subs ≡ map (λ (sub : SubSlice). sub.name) plan.subs)
        × ((lock : ℕ) → lock < layout.buckets → SwitchesBetween plan (one_split.before.seen.journals lock) (x.seen.journals lock))
    switches = done_splits_switch layout wanted (moment_at one_split.before) (split_moment (view_of x.seen x.trace.stops) x.outside) subs commits
        (comes_split gives layout before after end (earlier ++ reading ∷ between) (further ++ again ∷ rest) x wanted first course
        (ends.Done subs commits) served order came)

    reads : Parts layout before.moment.view.seen earlier reading between one_split.before.seen
    reads = parts layout before.moment.view.seen earlier reading between one_split.before.seen one_split.prior

    reads_again : Parts layout x.passed further again rest after.moment.view.seen
    reads_again = parts layout x.passed further again rest after.moment.view.seen one_split.later

    around : (one two : Stop) → Contains reading.trace.stops one → Contains again.trace.stops two → two.lock ≡ one.lock
        → one.lock < layout.buckets
        → ComesBetween switches.0 (journal_at after.moment.view.seen one) (journal_at after.moment.view.seen two)
    around one two looked looks_again at_lock below =
        subst (λ (lock : ℕ). ComesBetween switches.0 (take one.place (after.moment.view.seen.journals one.lock)) (take two.place (after.moment.view.seen.journals lock)))
        (sym at_lock)
        (its.between (after.moment.view.seen.journals one.lock)
        ((sees_on layout one_split.before.seen x (further ++ again ∷ rest) after.moment.view.seen one_split.is one_split.later).journals one.lock) one.place two.place
        (omega (arith, its.not_seen, seen_before, look_within layout reads.before reading one reads.is looked below))
        (omega (arith, within, seen_again, after_it)))
      where
        its : SwitchesBetween switches.0 (one_split.before.seen.journals one.lock) (x.seen.journals one.lock)
        its = switches.4 one.lock below

        within : its.switched < length (x.seen.journals one.lock)
        within = slice_get_within (x.seen.journals one.lock) its.switched (entry.Switched switches.0.parent) its.ends

        seen_before : length (reading.seen.journals one.lock) ≤ length (one_split.before.seen.journals one.lock)
        seen_before = IsPrefix-length (reading.seen.journals one.lock) (one_split.before.seen.journals one.lock)
            ((sees_on layout reads.before reading between one_split.before.seen reads.is reads.later).journals one.lock)

        seen_again : length (x.seen.journals one.lock) ≤ length (reads_again.before.journals one.lock)
        seen_again = IsPrefix-length (x.seen.journals one.lock) (reads_again.before.journals one.lock)
            ((sees_on layout one_split.before.seen x further reads_again.before one_split.is reads_again.prior).journals one.lock)

        after_it : length (reads_again.before.journals one.lock) ≤ two.place
        after_it = subst (λ (lock : ℕ). length (reads_again.before.journals lock) ≤ two.place) at_lock
            (look_after layout reads_again.before again two reads_again.is looks_again (subst (λ (lock : ℕ). lock < layout.buckets) (sym at_lock) below))
