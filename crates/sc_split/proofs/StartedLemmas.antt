-- The cores of a split: started and then stopped they leave those from before; and they are few.
use Rattle.std.proofs.Common.{◌≡◌, ◌≤◌, ◌<◌, ◌+◌, ◌-◌, ◌*◌, ℕ, suc, Bool, true, false, cond, not, List, [], ◌∷◌, ◌++◌, length, map, take, Option, Some, None, All, refl, sym, ap, ◌∙◌, subst, arith, append_assoc, length-append}
use Rattle.std.specs.Prelude.{◌==◌, ◌&&◌, IfSome}
use Rattle.std.specs.List.{flat_map, list_any}
use Rattle.std.specs.Option.{option_map}
use Rattle.std.specs.Str.{bytes_eq}
use Rattle.std.proofs.lemmas.Bool.Decides.{nat_tests}
use Rattle.std.proofs.lemmas.Cmp.{nat_list_eq_equiv}
use Rattle.std.proofs.lemmas.List.{append-nil, take_all, length-map}
use Rattle.std.proofs.lemmas.List.FromFn.{length-map-range_with_len}
use Rattle.std.proofs.lemmas.List.Elements.{All-head, All-tail, All-take, All-weaker, filter-append}
use Rattle.sc_record.specs.declared.slice.SubSlice.{SubSlice}
use Rattle.sc_io.specs.declared.hosts.Host.{Host}
use Rattle.sc_io.specs.Hosts.{Reached, is_core_on, with_core, without_core}
use Rattle.sc_cluster.specs.declared.plan.SplitPlan.{SplitPlan}
use Rattle.sc_cluster.proofs.ListLemmas.{filter-all}
use Rattle.sc_cores.specs.Cores.{Outside, with_cores, without_cores, HasStarted, StopsEach, IsNew, CountsGoUp}
use Rattle.sc_cores.proofs.StopLemmas.{none_failed}
use Rattle.sc_split.specs.Outside.{sub_core_at, further_cores, cores_of, first_of, StartsCoresOfPlan, LeavesCores}

-- the first of two lists of cores, and then the other
without-append : (gone xs ys : List Host) → without_cores gone (xs ++ ys) ≡ without_cores gone xs ++ without_cores gone ys
without-append [] xs ys = refl
without-append (core ∷ gone) xs ys =
    ap (without_cores gone) (filter-append (λ (host : Host). not (is_core_on core.node core.core host)) xs ys)
    ∙ without-append gone (without_core core.node core.core xs) (without_core core.node core.core ys)

without-nothing : (gone : List Host) → without_cores gone [] ≡ []
without-nothing [] = refl
without-nothing (core ∷ gone) = without-nothing gone

core-itself : (core : Host) → is_core_on core.node core.core core ≡ true
core-itself core =
    let number : (core.node == core.node) ≡ true = grind (arith, nat_tests) in
    ap (λ b. b && bytes_eq core.core core.core) number ∙ nat_list_eq_equiv.refl core.core

-- a core is gone once it was stopped among others
without-one : (before after : List Host) (core : Host) → without_cores (before ++ core ∷ after) (core ∷ []) ≡ []
without-one [] after core =
    ap (λ b. without_cores after (cond b (core ∷ []) [])) (ap not (core-itself core)) ∙ without-nothing after
without-one (other ∷ before) after core =
    by (not (is_core_on other.node other.core core)) (without-one before after core) where
      by : (b : Bool) → without_cores (before ++ core ∷ after) (core ∷ []) ≡ []
          → without_cores (before ++ core ∷ after) (cond b (core ∷ []) []) ≡ []
      by true gone = gone
      by false gone = without-nothing (before ++ core ∷ after)

-- cores that are stopped afterwards might as well not have been started
started-gone : (before cores all : List Host)
    → without_cores (before ++ cores) (with_cores cores all) ≡ without_cores (before ++ cores) all
started-gone before [] all = refl
started-gone before (core ∷ cores) all =
    subst (λ (gone : List Host). without_cores gone (with_cores cores (with_core core.node core.core all))
    ≡ without_cores gone (with_core core.node core.core all)) (append_assoc before (core ∷ []) cores)
    (started-gone (before ++ core ∷ []) cores (with_core core.node core.core all))
    ∙ by (list_any (is_core_on core.node core.core) all)
  where
    by : (b : Bool) → without_cores (before ++ core ∷ cores) (cond b all (all ++ core ∷ [])) ≡ without_cores (before ++ core ∷ cores) all
    by true = refl
    by false = without-append (before ++ core ∷ cores) all (core ∷ [])
        ∙ ap (λ (rest : List Host). without_cores (before ++ core ∷ cores) all ++ rest) (without-one before cores core)
        ∙ append-nil (without_cores (before ++ core ∷ cores) all)

-- where none of these is among the cores, to stop them changes nothing
without-new : (cores all : List Host) → All (IsNew all) cores → without_cores cores all ≡ all
without-new [] all new = refl
without-new (core ∷ cores) all new =
    ap (without_cores cores) (filter-all (λ (host : Host). not (is_core_on core.node core.core host)) all
    (All-weaker (λ (host : Host). is_core_on core.node core.core host ≡ false) (λ (host : Host). not (is_core_on core.node core.core host) ≡ true)
    (λ host other. ap not other) all (All-head (IsNew all) core cores new)))
    ∙ without-new cores all (All-tail (IsNew all) core cores new)

-- new cores that are started and then stopped leave those from before
pub started-stopped : (cores all : List Host) → All (IsNew all) cores → without_cores cores (with_cores cores all) ≡ all
started-stopped cores all new = started-gone [] cores all ∙ without-new cores all new

-- what is stopped of those that were started, by what was started before
stops-started : (cores : List Host) (count : ℕ) (before now later : Option (List Host)) (faults faults_later : ℕ) (failed : Option ℕ)
    → HasStarted cores count before now → StopsEach (take count cores) now later faults faults_later failed
    → StopsEach (take count cores) (option_map (with_cores (take count cores)) before) later faults faults_later failed
stops-started cores count None now later faults faults_later failed started each =
    record { stopped = each.stopped; each = each.each; left = tt; faults = each.faults; first = each.first }
stops-started cores count (Some all) now later faults faults_later failed started each =
    subst (λ (o : Option (List Host)). StopsEach (take count cores) o later faults faults_later failed) started each

-- none is started yet
pub started-none : (cores : List Host) (before : Option (List Host)) → HasStarted cores 0 before before
started-none cores None = tt
started-none cores (Some all) = refl

-- all are started
started-all : (cores : List Host) (count : ℕ) (before now : Option (List Host)) → count ≡ length cores
    → HasStarted cores count before now → IfSome before (λ all. now ≡ Some (with_cores cores all))
started-all cores count None now each started = tt
started-all cores count (Some all) now each started =
    let most : length cores ≤ length cores = omega arith in
    started ∙ ap (λ (these : List Host). Some (with_cores these all)) (ap (λ (n : ℕ). take n cores) each ∙ take_all (length cores) cores most)

-- the cores of a split on so many nodes
pub cores-on : (nodes nodes' : ℕ) (plan : SplitPlan) (cores : List Host) → cores ≡ cores_of nodes' plan → nodes' ≡ nodes → cores ≡ cores_of nodes plan
cores-on nodes nodes' plan cores are same = are ∙ ap (λ (n : ℕ). cores_of n plan) same

-- all cores of a split were started
pub starts-by : (nodes nodes' : ℕ) (plan : SplitPlan) (cores : List Host) (count : ℕ) (before later : Outside) → cores ≡ cores_of nodes' plan
    → nodes' ≡ nodes → count ≡ length cores → HasStarted cores count before.started later.started
    → later.start_faults ≡ before.start_faults → later.stop_faults ≡ before.stop_faults → later.stops ≡ before.stops
    → later.reach ≡ before.reach → StartsCoresOfPlan nodes plan before later
starts-by nodes nodes' plan cores count before later are same each started starting stopping pace reach = record {
  started = subst (λ (hosts : List Host). IfSome before.started (λ all. later.started ≡ Some (with_cores hosts all)))
      (cores-on nodes nodes' plan cores are same) (started-all cores count before.started later.started each started);
  start_faults = starting;
  stop_faults = stopping;
  stops = pace;
  reach = reach;
}

-- each of its cores that were started was stopped, or failed to be
pub leaves-by : (nodes nodes' : ℕ) (plan : SplitPlan) (cores : List Host) (count : ℕ) (before between later : Outside) (failed : Option ℕ)
    → cores ≡ cores_of nodes' plan → nodes' ≡ nodes → count ≤ length cores → HasStarted cores count before.started between.started
    → between.stop_faults ≡ before.stop_faults
    → StopsEach (take count cores) between.started later.started between.stop_faults later.stop_faults failed
    → LeavesCores nodes plan count before later
leaves-by nodes nodes' plan cores count before between later failed are same some started steady each = record {
  some = subst (λ (hosts : List Host). count ≤ length hosts) is some;
  failed = failed;
  each = subst (λ (hosts : List Host). StopsEach (take count hosts) (option_map (with_cores (take count hosts)) before.started) later.started
      before.stop_faults later.stop_faults failed) is
      (stops-started cores count before.started between.started later.started before.stop_faults later.stop_faults failed started
      (subst (λ (n : ℕ). StopsEach (take count cores) between.started later.started n later.stop_faults failed) steady each));
} where
  is : cores ≡ cores_of nodes plan
  is = cores-on nodes nodes' plan cores are same

-- where none was started all is as it was
pub leaves-none : (nodes : ℕ) (plan : SplitPlan) (before : Outside) → LeavesCores nodes plan 0 before before
leaves-none nodes plan before = record {
  some = omega arith;
  failed = None;
  each = record { stopped = []; each = refl; left = by before.started; faults = most; first = refl };
} where
  by : (was : Option (List Host)) → IfSome (option_map (with_cores []) was) (λ all. was ≡ Some (without_cores [] all))
  by None = tt
  by (Some all) = refl

  most : before.stop_faults + 0 ≤ before.stop_faults
  most = omega arith

-- Where no stop failed the cores are those from before, if none of the plan's was among them.
pub leaves-those-before : (nodes : ℕ) (plan : SplitPlan) (count : ℕ) (old new : Outside) → LeavesCores nodes plan count old new
    → new.stop_faults ≡ old.stop_faults
    → IfSome old.started (λ cores. All (IsNew cores) (cores_of nodes plan) → new.started ≡ Some cores)
leaves-those-before nodes plan count old new leaves steady =
    by old.started (none_failed (first_of nodes plan count) (option_map (with_cores (first_of nodes plan count)) old.started) new.started
    old.stop_faults new.stop_faults leaves.failed leaves.each steady)
  where
    by : (was : Option (List Host))
        → IfSome (option_map (with_cores (first_of nodes plan count)) was) (λ all. new.started ≡ Some (without_cores (first_of nodes plan count) all))
        → IfSome was (λ cores. All (IsNew cores) (cores_of nodes plan) → new.started ≡ Some cores)
    by None stopped = tt
    by (Some all) stopped = λ fresh.
        stopped ∙ ap Some (started-stopped (first_of nodes plan count) all (All-take (IsNew all) count (cores_of nodes plan) fresh))

-- no count fell
pub counts-by : (before between later : Outside) → before.start_faults ≤ between.start_faults → between.stop_faults ≡ before.stop_faults
    → before.stops ≤ between.stops → later.start_faults ≡ between.start_faults → between.stop_faults ≤ later.stop_faults
    → later.stops ≡ between.stops → later.reach ≡ before.reach → CountsGoUp before later
counts-by before between later starting none pace starting' stopping pace' reach = record {
  starting = omega arith;
  stopping = omega arith;
  pace = omega arith;
  reaching = let same : later.reach.faults ≡ before.reach.faults = ap (λ (r : Reached). r.faults) reach in omega (arith, same);
}

-- a sub's replicas, and so its cores, are fewer than 256
abbrev HasFewReplicas : SubSlice → Type 0
HasFewReplicas sub = sub.replicas < 256

few-further : (nodes : ℕ) (subs : List SubSlice) → All HasFewReplicas subs → length (flat_map (further_cores nodes) subs) ≤ 255 * length subs
few-further nodes [] few = let none : 0 ≤ 255 * 0 = omega arith in none
few-further nodes (sub ∷ subs) few =
    let first : sub.replicas < 256 = All-head HasFewReplicas sub subs few in
    let rest : length (flat_map (further_cores nodes) subs) ≤ 255 * length subs = few-further nodes subs (All-tail HasFewReplicas sub subs few) in
    let here : length (further_cores nodes sub) ≡ sub.replicas - 1 = length-map-range_with_len (sub_core_at nodes sub) 2 (sub.replicas - 1) in
    let all : length (further_cores nodes sub) + length (flat_map (further_cores nodes) subs) ≤ 255 * suc (length subs) = omega arith in
    subst (λ (n : ℕ). n ≤ 255 * suc (length subs)) (sym (length-append (further_cores nodes sub) (flat_map (further_cores nodes) subs))) all

-- so many cores has a split
count-cores : (nodes : ℕ) (plan : SplitPlan)
    → length (cores_of nodes plan) ≡ length plan.subs + length (flat_map (further_cores nodes) plan.subs)
count-cores nodes plan =
    length-append (map (λ (sub : SubSlice). sub_core_at nodes sub 1) plan.subs) (flat_map (further_cores nodes) plan.subs)
    ∙ ap (λ (n : ℕ). n + length (flat_map (further_cores nodes) plan.subs)) (length-map plan.subs (λ (sub : SubSlice). sub_core_at nodes sub 1))

-- the cores of a split are few
pub few-cores : (nodes : ℕ) (plan : SplitPlan) → All (λ (sub : SubSlice). sub.replicas < 256) plan.subs → length plan.subs ≤ 256
    → length (cores_of nodes plan) < 4294967296
few-cores nodes plan few within =
    let more : length (flat_map (further_cores nodes) plan.subs) ≤ 255 * length plan.subs = few-further nodes plan.subs few in
    let all : length plan.subs + length (flat_map (further_cores nodes) plan.subs) < 4294967296 = omega arith in
    subst (λ (n : ℕ). n < 4294967296) (sym (count-cores nodes plan)) all
