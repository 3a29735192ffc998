-- What a list of workers is after its first has other hosts, and after each has worked.
use Rattle.std.proofs.Common.{◌≡◌, ◌≢◌, ◌<◌, ◌≤◌, ℕ, zero, suc, Bool, true, false, true≢false, List, [], ◌∷◌, ◌++◌, length, get_or, set, slice_get, if◌then◌else◌, Some, Result, Ok, Err, IfSome, OnOk, OnErr, is_err, refl, sym, ap, subst, arith}
use Rattle.std.specs.List.{All, list_any}
use Rattle.std.proofs.lemmas.Option.{get_or_from_slice_get, slice_get_within}
use Rattle.sc_io.specs.declared.hosts.Host.{Host}
use Rattle.sc_io.specs.Pieces.{AddsPrefix}
use Rattle.sc_seen.specs.Seen.{Layout, Seen}
use Rattle.sc_session.specs.declared.worker.WorkEnd.{WorkEnd}
use Rattle.sc_session.specs.Working.{IsWorked}
use Rattle.sc_shared.specs.Collections.{Locks}
use Rattle.sc_server.specs.declared.worker.Worker.{Worker}
use Rattle.sc_cores.specs.Cores.{StartsCores, FailsToStartCores}
use Rattle.sc_server.specs.Reports.{Reports, WorkerCrew, clock_gives, setting, beside}
use Rattle.sc_server.specs.Working.{IsReady, IsReadyToWork, ended_by_fault, with_hosts, HasFirstHosts, status_after, HasWorked, HaveWorked, FirstStarts, Told, ServesAll, serving}

-- what each element has, each still has once the first is replaced by one that has it
pub all_with_first : {A : Type 0} (P : A → Type 0) (all : List A) (first : A) → All P all → P first → All P (set all 0 first)
all_with_first P [] first each is = λ k d within. each k d within
all_with_first P (x ∷ more) first each is = λ k d within. by k d within where
  by : (k : ℕ) (d : _) → k < length (first ∷ more) → P (get_or (first ∷ more) k d)
  by zero d within = is
  by (suc k) d within = each (suc k) d within

-- what is read at a place of a list has what each element has
pub has_read : {A : Type 0} (P : A → Type 0) (all : List A) (i : ℕ) (x : A) → All P all → i < length all → x ≡ get_or all i x → P x
has_read P all i x each within is = subst P (sym is) (each i x within)

-- what relates the elements by place relates those that are found there
pub related_at : {A : Type 0} (Q : A → A → Type 0) (old new : List A) → ((i : ℕ) (d : A) → i < length old → Q (get_or old i d) (get_or new i d))
    → (i : ℕ) (x y : A) → slice_get old i ≡ Some x → slice_get new i ≡ Some y → Q x y
related_at {A} Q old new each i x y at_x at_y =
    subst (λ (b : A). Q b y) (get_or_from_slice_get old i x x at_x)
    (subst (λ (b : A). Q (get_or old i x) b) (get_or_from_slice_get new i y x at_y) (each i x (slice_get_within old i x at_x)))

-- what relates two values relates their equals
pub moved : {A : Type 0} (Q : A → A → Type 0) (a b x y : A) → a ≡ x → b ≡ y → Q a b → Q x y
moved {A} Q a b x y is_x is_y holds = subst (λ (z : A). Q z y) is_x (subst (λ (z : A). Q a z) is_y holds)

module _ {R C H P L : Type 0} where
  -- a worker is ready with any hosts
  pub ready_with_hosts : (collection : Locks) (hosts : H) (worker : Worker R C H P L) → IsReady collection worker → IsReady collection (with_hosts hosts worker)
  ready_with_hosts collection hosts worker is = record { passes = is.passes; there = is.there; are = is.are; of_collection = is.of_collection; most = is.most }

  -- what is ready over a collection is ready over its own
  pub ready_to_work : (collection : Locks) (worker : Worker R C H P L) → IsReady collection worker → IsReadyToWork worker
  ready_to_work collection worker is = subst (λ (locks : Locks). IsReady locks worker) (sym is.of_collection) is

  -- workers are ready once the first has other hosts
  pub all_ready : (collection : Locks) (hosts : H) (d : Worker R C H P L) (workers : List (Worker R C H P L)) → 1 ≤ length workers
      → All (IsReady collection) workers → All (IsReady collection) (set workers 0 (with_hosts hosts (get_or workers 0 d)))
  all_ready collection hosts d workers some each = all_with_first (IsReady collection) workers (with_hosts hosts (get_or workers 0 d)) each
      (ready_with_hosts collection hosts (get_or workers 0 d) (each 0 d some))

  -- and to work
  pub all_ready_to_work : (hosts : H) (d : Worker R C H P L) (workers : List (Worker R C H P L)) → 1 ≤ length workers
      → All IsReadyToWork workers → All IsReadyToWork (set workers 0 (with_hosts hosts (get_or workers 0 d)))
  all_ready_to_work hosts d workers some each = all_with_first IsReadyToWork workers (with_hosts hosts (get_or workers 0 d)) each
      (ready_with_hosts (get_or workers 0 d).collection.now hosts (get_or workers 0 d) (each 0 d some))

  -- the first has other hosts, and all else is as it was
  pub first_hosts : (hosts : H) (d : Worker R C H P L) (workers : List (Worker R C H P L)) → 1 ≤ length workers
      → HasFirstHosts hosts (get_or workers 0 d) workers (set workers 0 (with_hosts hosts (get_or workers 0 d)))
  first_hosts hosts d [] some = absurd (omega (arith, some))
  first_hosts hosts d (x ∷ more) some = record { count = refl; old_is = refl; new_is = refl; rest = rest } where
    rest : (number : ℕ) → number ≢ 0 → slice_get (with_hosts hosts x ∷ more) number ≡ slice_get (x ∷ more) number
    rest zero not = absurd (not refl)
    rest (suc number) not = refl

  -- a worker that is ready over its own collection before is ready over it after
  pub ready_after : (collection : Locks) (old new : Worker R C H P L) → IsReady collection old → IsReady old.collection.now new → IsReady collection new
  ready_after collection old new was is = subst (λ (locks : Locks). IsReady locks new) was.of_collection is

-- what a worker did is the same of equal layouts, and of what was seen before and after
pub worked_at : {C H P L S W : Type 0} (reports : Reports C H P L S W) (told layout : Layout) (before_told before after_told after : Seen) (most : ℕ)
    (old new : WorkerCrew C H P L) (end : WorkEnd) → told ≡ layout → before_told ≡ before → after_told ≡ after
    → IsWorked (clock_gives reports) (setting reports told) most (beside reports before_told old) (beside reports after_told new) end
    → IsWorked (clock_gives reports) (setting reports layout) most (beside reports before old) (beside reports after new) end
worked_at {C} {H} {P} {L} {S} {W} reports told layout before_told before after_told after most old new end same_layout same_before same_after worked =
    subst (λ (l : Layout). IsWorked (clock_gives reports) (setting reports l) most (beside reports before old) (beside reports after new) end) same_layout
    (subst (λ (s : Seen). IsWorked (clock_gives reports) (setting reports told) most (beside reports s old) (beside reports after new) end) same_before
    (subst (λ (s : Seen). IsWorked (clock_gives reports) (setting reports told) most (beside reports before_told old) (beside reports s new) end) same_after
    worked))

-- what an `Ok` brings is there where there is no error
pub on_ok : {T E : Type 0} (P : Type 0) (r : Result T E) → is_err r ≡ false → OnOk r P → P
on_ok P (Ok x) none holds = holds
on_ok P (Err e) none holds = absurd (true≢false none)

-- and what an `Err` brings where there is one
pub on_err : {T E : Type 0} (P : Type 0) (r : Result T E) → is_err r ≡ true → OnErr r P → P
on_err P (Ok x) one holds = absurd (true≢false (sym one))
on_err P (Err e) one holds = holds

-- the status, by whether a listener failed
pub status_by : {R C H P L : Type 0} (workers : List (Worker R C H P L)) (failed : Bool)
    → list_any (λ (worker : Worker R C H P L). ended_by_fault worker.end) workers ≡ failed → status_after workers ≡ (if failed then 7 else 0)
status_by workers failed is = ap (λ (b : Bool). if b then 7 else 0) is

module _ {R C H P L S W : Type 0} (reports : Reports C H P L S W) (cores : List Host) (line : List ℕ) (d : Worker R C H P L)
    (workers : List (Worker R C H P L)) (hosts : H) (some : 1 ≤ length workers) where
  -- the hosts of the first have started the cores
  pub first_starts : StartsCores cores (reports.outside (get_or workers 0 d).crew.hosts (get_or workers 0 d).crew.pace)
      (reports.outside hosts (get_or workers 0 d).crew.pace) → FirstStarts reports cores workers (set workers 0 (with_hosts hosts (get_or workers 0 d)))
  first_starts starts = record { first = get_or workers 0 d; hosts = hosts; is = first_hosts hosts d workers some; starts = starts }

  -- the hosts of the first have not started them all
  pub serves_host_fails : (before : Told)
      → FailsToStartCores cores (reports.outside (get_or workers 0 d).crew.hosts (get_or workers 0 d).crew.pace)
      (reports.outside hosts (get_or workers 0 d).crew.pace)
      → ServesAll reports cores line (serving workers before) (serving (set workers 0 (with_hosts hosts (get_or workers 0 d))) before) 8
  serves_host_fails before fails =
      ServesAll.host_fails (record { first = get_or workers 0 d; hosts = hosts; is = first_hosts hosts d workers some; fails = fails }) refl

  -- the line was not written
  pub serves_line_fails : (before after : Told)
      → StartsCores cores (reports.outside (get_or workers 0 d).crew.hosts (get_or workers 0 d).crew.pace) (reports.outside hosts (get_or workers 0 d).crew.pace)
      → before.faults < after.faults → IfSome before.written (λ bytes. AddsPrefix bytes line after.written)
      → ServesAll reports cores line (serving workers before) (serving (set workers 0 (with_hosts hosts (get_or workers 0 d))) after) 5
  serves_line_fails before after starts fault part = ServesAll.line_fails (first_starts starts) fault part

  -- the workers have worked, and some listener failed or none
  pub serves_works : (new : List (Worker R C H P L)) (before after : Told) (failed : Bool)
      → StartsCores cores (reports.outside (get_or workers 0 d).crew.hosts (get_or workers 0 d).crew.pace) (reports.outside hosts (get_or workers 0 d).crew.pace)
      → IfSome before.written (λ bytes. after.written ≡ Some (bytes ++ line)) → after.faults ≡ before.faults
      → HaveWorked reports (set workers 0 (with_hosts hosts (get_or workers 0 d))) new
      → list_any (λ (worker : Worker R C H P L). ended_by_fault worker.end) new ≡ failed
      → ServesAll reports cores line (serving workers before) (serving new after) (if failed then 7 else 0)
  serves_works new before after failed starts written faults worked is =
      subst (ServesAll reports cores line (serving workers before) (serving new after)) (status_by new failed is)
      (ServesAll.works (set workers 0 (with_hosts hosts (get_or workers 0 d))) (first_starts starts) written faults worked)

module _ {R C H P L S W : Type 0} (reports : Reports C H P L S W) where
  -- the worker has worked, and is ready over its own collection still
  abbrev pub IsWorkedAndReady : (old new : Worker R C H P L) → Type 0
  IsWorkedAndReady old new = IsReady old.collection.now new × HasWorked reports old new

  -- two workers are equal to one that has worked, before and after
  abbrev pub AreOfCall : (old new : Worker R C H P L) → Type 0
  AreOfCall old new = (a : Worker R C H P L) × (b : Worker R C H P L) × (a ≡ old) × (b ≡ new) × IsWorkedAndReady a b

  by_call : (old new : Worker R C H P L) → AreOfCall old new → IsWorkedAndReady old new
  by_call old new (a, b, is_old, is_new, holds) = moved IsWorkedAndReady a b old new is_old is_new holds

  -- where each call had a worker work, all have worked
  pub worked_each : (old new : List (Worker R C H P L)) → length new ≡ length old
      → ((i : ℕ) (d : Worker R C H P L) → i < length old → AreOfCall (get_or old i d) (get_or new i d)) → HaveWorked reports old new
  worked_each old new count calls = record {
    count = count;
    each = λ number before after at_before at_after. (related_at IsWorkedAndReady old new
        (λ i d within. by_call (get_or old i d) (get_or new i d) (calls i d within)) number before after at_before at_after).1;
  }

  -- and are ready over the collection over which they were
  pub ready_each : (old new : List (Worker R C H P L)) → length new ≡ length old
      → ((i : ℕ) (d : Worker R C H P L) → i < length old → AreOfCall (get_or old i d) (get_or new i d))
      → (collection : Locks) → All (IsReady collection) old → All (IsReady collection) new
  ready_each old new count calls collection each = λ k d within.
      let here : k < length old = omega (arith, within, count) in
      ready_after collection (get_or old k d) (get_or new k d) (each k d here) (by_call (get_or old k d) (get_or new k d) (calls k d here)).0
