-- How a demonstration ended, by what enlisting its makers, their work and dismissing them left of its station.
use Rattle.std.proofs.Common.{◌≡◌, ◌≢◌, ◌⊎◌, inl, inr, ◌∙◌, ◌≤◌, ◌<◌, ◌+◌, ◌-◌, ◌++◌, ℕ, zero, suc, Bool, true, false, true≢false, ◌||◌, List, [], ◌∷◌, length, map, Option, Some, None, IfSome, slice_get, refl, sym, ap, subst, arith}
use Rattle.std.specs.List.{list_any, sum_by}
use Rattle.std.proofs.lemmas.Bool.{cases_eq}
use Rattle.std.proofs.lemmas.List.Sums.{sum_by-cons}
use Rattle.std.proofs.lemmas.Option.{same_Some, slice_get_within}
use Rattle.sc_cores.specs.Cores.{cores_of_map, StartsCores, StartsFirst}
use Rattle.sc_io.specs.declared.hosts.Host.{Host}
use Rattle.sc_io.specs.Pieces.{AddsPrefix}
use Rattle.sc_seen.specs.Seen.{nothing_opened, Seen}
use Rattle.sc_collection.specs.Shapes.{HasShape, SeesOpened}
use Rattle.sc_session.specs.declared.station.Crew.{Crew}
use Rattle.sc_session.specs.Stations.{AreAsBefore}
use Rattle.sc_split.specs.declared.end.SplitEnd.{SplitEnd}
use Rattle.sc_shared.specs.declared.passes.Passes.{Passes}
use Rattle.sc_shared.specs.Passes.{seen_of}
use Rattle.sc_shared.specs.Collections.{Locks, layout_of}
use Rattle.sc_arguments.specs.declared.asked.Demo.{Demo}
use Rattle.sc_arguments.specs.Arguments.{IsDemo, demo_shape}
use Rattle.sc_server.specs.Crews.{SetsBelow, SetsReportedBelow, seen_with}
use Rattle.sc_server.specs.Serving.{Front, IsGivenAndBack, AreGivenAndBack, AreUnused, IsOneStory, WritesNothing}
use Rattle.sc_server.specs.Working.{Told}
use Rattle.sc_server.proofs.EndLemmas.{told_of}
use Rattle.sc_server.proofs.FrontLemmas.{OthersStay, none_given_and_back}
use Rattle.sc_server.proofs.MatchLemmas.{some_at, AreMatched, all_matched, same_map}
use Rattle.sc_demo.specs.declared.maker.Maker.{Maker}
use Rattle.sc_demo.specs.declared.task.Made.{Made}
use Rattle.sc_demo.specs.declared.task.Made.TheVariants as makes
use Rattle.sc_demo.specs.declared.task.Task.{Task}
use Rattle.sc_demo.specs.declared.task.Outcome.{Outcome}
use Rattle.sc_demo.specs.declared.task.Outcome.TheVariants as outcomes
use Rattle.sc_demo.specs.Finding.{CommitsAndFinds}
use Rattle.sc_demo.specs.Lines.{Report, lines, split_word}
use Rattle.sc_demo.specs.Making.{MakerReports, MakesTask, accepted_by, accepted_in, has_run_out, making, ran_out_in, task_at, TellsIn}
use Rattle.sc_demo.specs.Makers.{IsMakerEnlisted, AreMakersEnlisted, AreMakersReportedBack, HasFirstMakerHosts, HasMade, HaveMade, FirstMakerFails, FirstMakerStarts, IsTold, MakesTold, MakesAll, seen_by_maker, maker_with_hosts}
use Rattle.sc_demo.specs.Telling.{IsReport, TellsReport, TellsOutcome, after_makers, tally}
use Rattle.sc_demo.specs.Together.{own_of_all}
use Rattle.sc_demo.specs.Demos.{MakerRun, makers_of, IsMakerRun, RunsDemo, SaysOf, Demonstrates, DemoRunsOut, DemoFailsToStart, DemoFailsToWrite, Tells, IsDemoEnd, EndsDemo}
use Rattle.sc_demo.proofs.MergeLemmas.{total}
use Rattle.sc_demo.proofs.SayLemmas.{says}

-- where a word tells what was made, that is a split
split_told : (made : Option Made) (word : List ℕ) → TellsIn made word → (end : SplitEnd) × (made ≡ Some (makes.Split end)) × (split_word end ≡ Some word)
split_told None word tells = absurd tells
split_told (Some (makes.Orders written)) word tells = absurd tells
split_told (Some (makes.Split end)) word tells = (end, refl, tells)

-- ---- lists
none_passes : {A : Type 0} (p : A → Bool) (xs : List A) (i : ℕ) (x : A) → list_any p xs ≡ false → slice_get xs i ≡ Some x → p x ≡ false
none_passes p [] i x none at = absurd (cc)
none_passes p (y ∷ ys) zero x none at = ap p (sym (same_Some y x at)) ∙ first (p y) (list_any p ys) none where
  first : (a b : Bool) → (a || b) ≡ false → a ≡ false
  first true b is = is
  first false b is = refl
none_passes p (y ∷ ys) (suc i) x none at = none_passes p ys i x (rest (p y) (list_any p ys) none) at where
  rest : (a b : Bool) → (a || b) ≡ false → b ≡ false
  rest true b is = absurd (true≢false is)
  rest false b is = is

summed : {A : Type 0} (f : A → ℕ) (xs : List A) → sum_by f xs ≡ total (λ n. n) (map f xs)
summed f [] = refl
summed f (x ∷ xs) = let first = sum_by-cons f x xs in let rest = summed f xs in omega (arith, first, rest)

totalled : {A : Type 0} (f : A → ℕ) (xs : List A) → total f xs ≡ total (λ n. n) (map f xs)
totalled f [] = refl
totalled f (x ∷ xs) = let rest = totalled f xs in omega (arith, rest)

module _ {R C H P L : Type 0} where
  -- the crew of a maker is back
  one_back : (makers : List (Maker R C H P L)) (old new : Option (ℕ → Option (Crew C H P L))) (number : ℕ) (maker : Maker R C H P L)
      → AreMakersReportedBack makers old new → slice_get makers number ≡ Some maker
      → IfSome old (λ none. (crews : ℕ → Option (Crew C H P L)) × (new ≡ Some crews) × (crews number ≡ Some maker.crew))
  one_back makers None new number maker back at = tt
  one_back makers (Some before) new number maker (after, is, are) at = (after, is, are.each number maker at)

  others_stay : (makers : List (Maker R C H P L)) (old new : Option (ℕ → Option (Crew C H P L))) (count : ℕ) → length makers ≡ count
      → AreMakersReportedBack makers old new → OthersStay count old new
  others_stay makers None new count same back = tt
  others_stay makers (Some before) new count same (after, is, are) =
      (after, is, λ number beyond. are.rest number (omega (arith, same, beyond)))

  -- the maker of each number after its hosts may have changed is the one before with its hosts
  hosts_alone : (hosts : H) (first : Maker R C H P L) (old new : List (Maker R C H P L)) (number : ℕ) (one other : Maker R C H P L)
      → HasFirstMakerHosts hosts first old new → slice_get old number ≡ Some one → slice_get new number ≡ Some other
      → other ≡ maker_with_hosts other.crew.hosts one
  hosts_alone hosts first old new number one other is at at_other = by (cases_eq number 0) where
    by : (number ≡ 0) ⊎ (number ≢ 0) → other ≡ maker_with_hosts other.crew.hosts one
    by (inl here) =
        let one_is : first ≡ one = same_Some first one (sym is.old_is ∙ ap (slice_get old) (sym here) ∙ at) in
        let other_is : maker_with_hosts hosts one ≡ other =
        same_Some (maker_with_hosts hosts one) other
        (ap (λ (m : Maker R C H P L). Some (maker_with_hosts hosts m)) (sym one_is) ∙ sym is.new_is ∙ ap (slice_get new) (sym here) ∙ at_other) in
        sym other_is ∙ ap (λ (m : Maker R C H P L). maker_with_hosts m.crew.hosts one) other_is
    by (inr different) =
        let same : one ≡ other = same_Some one other (sym at ∙ sym (is.rest number different) ∙ at_other) in
        sym same ∙ ap (λ (m : Maker R C H P L). maker_with_hosts m.crew.hosts one) same

-- what came of makers is the same of equal makers
pub made_as : {R C H P L : Type 0} (reports : MakerReports C H P) (cores : List Host) (as_old old as_new new : List (Maker R C H P L)) (outcome : Outcome)
    → as_old ≡ old → new ≡ as_new → MakesAll reports cores as_old as_new outcome → MakesAll reports cores old new outcome
made_as {R} {C} {H} {P} {L} reports cores as_old old as_new new outcome old_is new_is made =
    subst (λ (ones : List (Maker R C H P L)). MakesAll reports cores old ones outcome) (sym new_is)
    (subst (λ (ones : List (Maker R C H P L)). MakesAll reports cores ones as_new outcome) old_is made)

-- ---- what the station, the sink and the makers were, and are
-- what was left of the crews of makers that were enlisted
pub record Leaves {R C H P L : Type 0} (demo : Demo) (locks : Locks) (before after : Front C H P L) (enlisted new : List (Maker R C H P L)) : Type 0 where
  pub are : AreMakersEnlisted demo locks before.crews enlisted
  pub back : AreMakersReportedBack new before.crews_back after.crews_back
  pub count : length new ≡ length enlisted
  pub crews : AreGivenAndBack before after (length enlisted)
  pub open_faults : after.open_faults ≡ before.open_faults

-- by what enlisting and dismissing them say
pub leaves : {R C H P L : Type 0} (demo : Demo) (locks : Locks) (before after : Front C H P L) (enlisted new : List (Maker R C H P L))
    (crews_now back_now : Option (ℕ → Option (Crew C H P L))) (out_now : ℕ → Bool) (faults_now : ℕ)
    → AreMakersEnlisted demo locks before.crews enlisted → SetsReportedBelow (length enlisted) None before.crews crews_now
    → SetsBelow (length enlisted) true before.out out_now → back_now ≡ before.crews_back → faults_now ≡ before.open_faults
    → length new ≡ length enlisted
    → AreMakersReportedBack new back_now after.crews_back → SetsBelow (length new) false out_now after.out → after.crews ≡ crews_now
    → after.open_faults ≡ faults_now → Leaves demo locks before after enlisted new
leaves {R} {C} {H} {P} {L} demo locks before after enlisted new crews_now back_now out_now faults_now are given out back_same faults_same count back out_back crews_same after_faults =
    let back_is : AreMakersReportedBack new before.crews_back after.crews_back =
    subst (λ (old : Option (ℕ → Option (Crew C H P L))). AreMakersReportedBack new old after.crews_back) back_same back in
    let out_is : SetsBelow (length enlisted) false out_now after.out = subst (λ (n : ℕ). SetsBelow n false out_now after.out) count out_back in
    record {
      are = are;
      back = back_is;
      count = count;
      crews = record {
        given = subst (λ (crews : Option (ℕ → Option (Crew C H P L))). SetsReportedBelow (length enlisted) None before.crews crews) (sym crews_same) given;
        out = record { below = out_is.below; rest = λ number beyond. out_is.rest number beyond ∙ out.rest number beyond };
        others = others_stay new before.crews_back after.crews_back (length enlisted) count back_is;
      };
      open_faults = after_faults ∙ faults_same;
    }

module _ {C H P L : Type 0} (reports : MakerReports C H P) (demo : Demo) (before after : Front C H P L) where
  -- each status has its cause
  pub with_causes : {status : ℕ} → IsDemoEnd reports demo before after status → EndsDemo reports demo before after status
  with_causes (IsDemoEnd.no_memory out) = record {
    end = IsDemoEnd.no_memory out;
    write_fault = (λ is. absurd (omega (arith, is)), λ rose. absurd (omega (arith, rose, out.silent.write_faults)));
    host_fault = λ is. absurd (omega (arith, is));
  }
  with_causes (IsDemoEnd.host_fails fails) = record {
    end = IsDemoEnd.host_fails fails;
    write_fault = (λ is. absurd (omega (arith, is)), λ rose. absurd (omega (arith, rose, fails.silent.write_faults)));
    host_fault = λ is. fails;
  }
  with_causes (IsDemoEnd.lines_fail fails) = record {
    end = IsDemoEnd.lines_fail fails;
    write_fault = (λ is. fails.fault, λ rose. refl);
    host_fault = λ is. absurd (omega (arith, is));
  }
  with_causes (IsDemoEnd.tells told) = record {
    end = IsDemoEnd.tells told;
    write_fault = (λ is. absurd (omega (arith, is)), λ rose. absurd (omega (arith, rose, told.write_faults)));
    host_fault = λ is. absurd (omega (arith, is));
  }

  -- memory ran out before any crew was given
  pub none_given : after.crews ≡ before.crews → after.crews_back ≡ before.crews_back → AreAsBefore before.out after.out
      → after.open_faults ≡ before.open_faults → WritesNothing before after → EndsDemo reports demo before after 6
  none_given crews back out faults silent = with_causes (IsDemoEnd.no_memory (record {
    count = 0;
    at_most = omega arith;
    crews = none_given_and_back before after crews back out;
    open_faults = faults;
    silent = silent;
  }))

  module _ {R : Type 0} (locks : Locks) (enlisted new : List (Maker R C H P L)) (left : Leaves demo locks before after enlisted new) where
    -- memory ran out for the crew of a maker, or after that
    pub memory_ends : length enlisted ≤ makers_of demo → WritesNothing before after → EndsDemo reports demo before after 6
    memory_ends at_most silent = with_causes (IsDemoEnd.no_memory (record {
      count = length enlisted;
      at_most = at_most;
      crews = left.crews;
      open_faults = left.open_faults;
      silent = silent;
    }))

    -- what was told where memory ran out as they got their crews
    pub early_ends : (all : Seen) (status : ℕ) → length enlisted ≤ makers_of demo
        → TellsOutcome (after_makers (layout_of locks) all) demo.count (told_of before.written before.write_faults)
        (told_of after.written after.write_faults) outcomes.Memory status
        → EndsDemo reports demo before after status
    early_ends all status at_most (same, is) =
        subst (EndsDemo reports demo before after) (sym is)
        (memory_ends at_most (record { written = ap (λ (told : Told). told.written) same; write_faults = ap (λ (told : Told). told.faults) same }))

    module _ (count : length enlisted ≡ makers_of demo) where
      all_crews : AreGivenAndBack before after (makers_of demo)
      all_crews = subst (AreGivenAndBack before after) count left.crews

      -- a core was not started by the first one's hosts
      fails_to_start : FirstMakerFails reports enlisted new → WritesNothing before after → DemoFailsToStart reports demo before after
      fails_to_start fails silent = record {
        given = fails.first.crew;
        back = (maker_with_hosts fails.hosts fails.first).crew;
        crews = all_crews;
        first = record {
          given_is = (left.are 0 fails.first fails.is.old_is).given_is;
          back_is = one_back new before.crews_back after.crews_back 0 (maker_with_hosts fails.hosts fails.first) left.back fails.is.new_is;
        };
        first_is = refl;
        unused = λ number from below.
            let one = some_at enlisted number (omega (arith, below, count)) in (
              one.0.crew,
              record {
                given_is = (left.are number one.0 one.1).given_is;
                back_is = one_back new before.crews_back after.crews_back number one.0 left.back
                    (fails.is.rest number (λ none. absurd (omega (arith, from, none))) ∙ one.1);
              },
            );
        fault = fails.fault;
        open_faults = left.open_faults;
        silent = silent;
      }

      pub host_ends : FirstMakerFails reports enlisted new → WritesNothing before after → EndsDemo reports demo before after 8
      host_ends fails silent = with_causes (IsDemoEnd.host_fails (fails_to_start fails silent))

      module _ (began : List (Maker R C H P L)) (starts : FirstMakerStarts reports (cores_of_map demo_shape.nodes (layout_of locks).first) enlisted began)
          (have : HaveMade reports began new) (shape : HasShape demo_shape (layout_of locks)) (opened : (layout_of locks).opened ≡ nothing_opened)
          (memory : list_any (λ (maker : Maker R C H P L). ran_out_in maker.made) new ≡ false) where
        -- it is a run of this maker
        record IsRunOf (number : ℕ) (maker : Maker R C H P L) (run : MakerRun C H P L) : Type 0 where
          is : IsMakerRun (record { reports = reports; layout = layout_of locks }) demo before after number run
          after_is : seen_by_maker maker ≡ run.after
          did_is : maker.made ≡ Some run.did

        module _ (number : ℕ) (one other maker : Maker R C H P L) (at : slice_get enlisted number ≡ Some one) (at_other : slice_get began number ≡ Some other)
            (at_maker : slice_get new number ≡ Some maker) where
          is_enlisted : IsMakerEnlisted demo locks before.crews number one
          is_enlisted = left.are number one at

          has : HasMade reports other maker
          has = have.each number other maker at_other at_maker

          begins : other ≡ maker_with_hosts other.crew.hosts one
          begins = hosts_alone starts.hosts starts.first enlisted began number one other starts.is at at_other

          passes_are : is_enlisted.passes ≡ has.before
          passes_are =
              same_Some is_enlisted.passes has.before (sym is_enlisted.there ∙ sym (ap (λ (m : Maker R C H P L). m.passes) begins) ∙ has.before_is)

          over : other.collection.now ≡ locks
          over = ap (λ (m : Maker R C H P L). m.collection.now) begins ∙ is_enlisted.over

          demo_is : other.demo ≡ demo
          demo_is = ap (λ (m : Maker R C H P L). m.demo) begins ∙ is_enlisted.demo_is

          task_is : other.task ≡ task_at demo number
          task_is = ap (λ (m : Maker R C H P L). m.task) begins ∙ is_enlisted.task

          run : MakerRun C H P L
          run = record {
            given = one.crew;
            began = other.crew;
            back = maker.crew;
            before = seen_of has.before;
            after = seen_of has.after;
            did = has.did;
          }

          starts_first : number ≡ 0 → StartsFirst (layout_of locks).nodes (layout_of locks).first
              (reports.outside one.crew.hosts one.crew.pace) (reports.outside other.crew.hosts other.crew.pace)
          starts_first here =
              let one_is : starts.first ≡ one = same_Some starts.first one (sym starts.is.old_is ∙ ap (slice_get enlisted) (sym here) ∙ at) in
              let other_is : maker_with_hosts starts.hosts starts.first ≡ other =
              same_Some (maker_with_hosts starts.hosts starts.first) other (sym starts.is.new_is ∙ ap (slice_get began) (sym here) ∙ at_other) in
              subst (λ (nodes : ℕ). StartsCores (cores_of_map nodes (layout_of locks).first)
              (reports.outside one.crew.hosts one.crew.pace) (reports.outside other.crew.hosts other.crew.pace)) (sym shape.nodes)
              (subst (λ (m : Maker R C H P L). StartsCores (cores_of_map demo_shape.nodes (layout_of locks).first)
              (reports.outside m.crew.hosts m.crew.pace) (reports.outside other.crew.hosts other.crew.pace)) one_is
              (subst (λ (m : Maker R C H P L). StartsCores (cores_of_map demo_shape.nodes (layout_of locks).first)
              (reports.outside starts.first.crew.hosts starts.first.crew.pace) (reports.outside m.crew.hosts m.crew.pace)) other_is starts.starts))

          same_hosts : number ≢ 0 → other.crew.hosts ≡ one.crew.hosts
          same_hosts different =
              let same : other ≡ one = same_Some other one (sym at_other ∙ starts.is.rest number different ∙ at) in
              ap (λ (m : Maker R C H P L). m.crew.hosts) same

          makes_its : MakesTask (record { reports = reports; layout = layout_of locks }) demo (task_at demo number) (making (seen_of has.before) other.crew) (making (seen_of has.after) maker.crew) has.did
          makes_its =
              subst (λ (task : Task). MakesTask (record { reports = reports; layout = layout_of locks }) demo task (making (seen_of has.before) other.crew) (making (seen_of has.after) maker.crew) has.did) task_is
              (subst (λ (one_demo : Demo). MakesTask (record { reports = reports; layout = layout_of locks }) one_demo other.task (making (seen_of has.before) other.crew) (making (seen_of has.after) maker.crew) has.did) demo_is
              (subst (λ (ones : Locks). MakesTask (record { reports = reports; layout = layout_of ones }) other.demo other.task (making (seen_of has.before) other.crew) (making (seen_of has.after) maker.crew) has.did) over
              has.made))

          one_run : IsRunOf number maker run
          unfolding run is_enlisted
          one_run = record {
            is = record {
              crew = record {
                given_is = is_enlisted.given_is;
                back_is = one_back new before.crews_back after.crews_back number maker left.back at_maker;
              };
              first = starts_first;
              hosts = same_hosts;
              rest = ap (λ (m : Maker R C H P L). m.crew) begins;
              new = subst (λ (passes : Passes). SeesOpened (layout_of locks).opened (seen_of passes)) passes_are is_enlisted.new.seen;
              made = makes_its;
              listener = has.listener;
              memory = sym (ap ran_out_in has.did_is) ∙ none_passes (λ (m : Maker R C H P L). ran_out_in m.made) new number maker memory at_maker;
            };
            after_is = ap seen_with has.after_is;
            did_is = has.did_is;
          }

        each_run : (number : ℕ) (maker : Maker R C H P L) → slice_get new number ≡ Some maker → (run : MakerRun C H P L) × IsRunOf number maker run
        each_run number maker at =
            let within = slice_get_within new number maker at in
            let one = some_at enlisted number (omega (arith, within, have.count, starts.is.count)) in
            let other = some_at began number (omega (arith, within, have.count)) in
            (run number one.0 other.0 maker one.1 other.1 at, one_run number one.0 other.0 maker one.1 other.1 at)

        all_runs : (runs : List (MakerRun C H P L)) × AreMatched IsRunOf new runs
        all_runs = all_matched IsRunOf new each_run

        runs : List (MakerRun C H P L)
        runs = all_runs.0

        after_each : (number : ℕ) (maker : Maker R C H P L) (one : MakerRun C H P L) → IsRunOf number maker one → seen_by_maker maker ≡ one.after
        after_each number maker one is = is.after_is

        runs_demo : (all : Seen) → IsOneStory (layout_of locks) (map seen_by_maker new) all
            → ((lock : ℕ) → all.own lock ≡ own_of_all (map seen_by_maker new) lock)
            → RunsDemo (record { reports = reports; layout = layout_of locks }) demo before after runs all
        unfolding runs all_runs
        runs_demo all story own =
            let same = same_map seen_by_maker (λ (one : MakerRun C H P L). one.after) IsRunOf new runs all_runs.1 after_each in
            record {
              shape = shape;
              opened = opened;
              count = all_runs.1.count ∙ have.count ∙ starts.is.count ∙ count;
              each = λ number one at.
                  let within = slice_get_within runs number one at in
                  let maker = some_at new number (omega (arith, within, all_runs.1.count)) in
                  (all_runs.1.each number maker.0 one maker.1 at).is;
              story = subst (λ (parts : List Seen). IsOneStory (layout_of locks) parts all) same story;
              own = λ lock. own lock ∙ ap (λ (parts : List Seen). own_of_all parts lock) same;
              crews = all_crews;
              open_faults = left.open_faults;
            }

        module _ (all : Seen) (story : IsOneStory (layout_of locks) (map seen_by_maker new) all) (own : (lock : ℕ) → all.own lock ≡ own_of_all (map seen_by_maker new) lock)
            (is_demo : IsDemo demo) (accepted : ℕ) (word : List ℕ) (told : IsTold new accepted word) (report : Report)
            (is : IsReport (after_makers (layout_of locks) all) (tally demo.count accepted word) report) where
          counted : report.accepted ≡ total (λ (one : MakerRun C H P L). accepted_by one.did) runs
          unfolding runs all_runs
          counted =
              ap (λ (r : Report). r.accepted) is.is ∙ told.accepted_is ∙ summed (λ (maker : Maker R C H P L). accepted_in maker.made) new
              ∙ ap (total (λ n. n)) (same_map (λ (maker : Maker R C H P L). accepted_in maker.made) (λ (one : MakerRun C H P L). accepted_by one.did) IsRunOf new runs all_runs.1
              (λ number maker one so. ap accepted_in so.did_is))
              ∙ sym (totalled (λ (one : MakerRun C H P L). accepted_by one.did) runs)

          demonstrates : Demonstrates reports demo before after report
          unfolding runs all_runs
          demonstrates =
              let long : length runs ≡ makers_of demo = all_runs.1.count ∙ have.count ∙ starts.is.count ∙ count in
              let last_run = some_at runs demo.workers (omega (arith, long)) in
              let last_place : length new - 1 ≡ demo.workers = omega (arith, long, all_runs.1.count) in
              let matched = all_runs.1.each demo.workers told.split.maker last_run.0 (ap (slice_get new) (sym last_place) ∙ told.split.last) last_run.1 in
              let split = split_told (Some last_run.0.did) word (subst (λ made. TellsIn made word) matched.did_is told.split.tells) in
              let did : last_run.0.did ≡ makes.Split split.0 = same_Some last_run.0.did (makes.Split split.0) split.1 in
              let word_is : split_word split.0 ≡ Some report.split = split.2 ∙ ap (λ (r : Report). Some r.split) (sym is.is) in
              let all_are = runs_demo all story own in
              record {
                layout = layout_of locks;
                runs = runs;
                all = all;
                are = all_are;
                says = says reports demo before after is_demo (layout_of locks) runs all all_are report last_run.0 last_run.1 split.0 did word_is
                    (ap (λ (r : Report). r.orders) is.is) counted;
                splitter = last_run.0;
                last_run = last_run.1;
                end = split.0;
                did = did;
                word = word_is;
                last = is.counts.last;
                found = subst (λ found. CommitsAndFinds (layout_of locks) all is.counts.last found) (ap (λ (r : Report). r.found) (sym is.is)) is.counts.are;
              }

      -- how it ended, by what its makers made and by what was told
      module _ (cores : List Host) (cores_are : cores ≡ cores_of_map demo_shape.nodes (layout_of locks).first) (shape : HasShape demo_shape (layout_of locks))
          (opened : (layout_of locks).opened ≡ nothing_opened) (all : Seen) (story : IsOneStory (layout_of locks) (map seen_by_maker new) all) (own : (lock : ℕ) → all.own lock ≡ own_of_all (map seen_by_maker new) lock)
          (is_demo : IsDemo demo) where
        silent_of : told_of after.written after.write_faults ≡ told_of before.written before.write_faults → WritesNothing before after
        silent_of same = record { written = ap (λ (told : Told). told.written) same; write_faults = ap (λ (told : Told). told.faults) same }

        told_ends : (accepted : ℕ) (split : List ℕ) {status : ℕ} → MakesTold reports cores enlisted new accepted split
            → TellsReport (after_makers (layout_of locks) all) (tally demo.count accepted split) (told_of before.written before.write_faults)
            (told_of after.written after.write_faults) status
            → EndsDemo reports demo before after status
        told_ends accepted split made (TellsReport.no_memory same) = memory_ends (omega (arith, count)) (silent_of same)
        told_ends accepted split made (TellsReport.lines_fail report is fault part) =
            with_causes (IsDemoEnd.lines_fail (record {
              report = report;
              is = demonstrates made.began (subst (λ (ones : List Host). FirstMakerStarts reports ones enlisted made.began) cores_are made.starts) made.have shape opened made.told.memory
                  all story own is_demo accepted split made.told report is;
              fault = fault;
              part = part;
            }))
        told_ends accepted split made (TellsReport.tells report is whole same) =
            with_causes (IsDemoEnd.tells (record {
              report = report;
              is = demonstrates made.began (subst (λ (ones : List Host). FirstMakerStarts reports ones enlisted made.began) cores_are made.starts) made.have shape opened made.told.memory
                  all story own is_demo accepted split made.told report is;
              told = whole;
              write_faults = same;
            }))

        pub ends : (outcome : Outcome) (status : ℕ) → MakesAll reports cores enlisted new outcome
            → TellsOutcome (after_makers (layout_of locks) all) demo.count (told_of before.written before.write_faults)
            (told_of after.written after.write_faults) outcome status
            → EndsDemo reports demo before after status
        ends outcomes.HostFailed status fails (same, is) = subst (EndsDemo reports demo before after) (sym is) (host_ends fails (silent_of same))
        ends outcomes.Memory status made (same, is) = subst (EndsDemo reports demo before after) (sym is) (memory_ends (omega (arith, count)) (silent_of same))
        ends (outcomes.Told accepted split) status made told = told_ends accepted split made told
