-- How a server ended, by what opening the port, enlisting the workers and dismissing them left of its station.
use Rattle.std.proofs.Common.{◌≡◌, ◌≤◌, ◌<◌, ℕ, Bool, true, false, List, length, map, Option, Some, None, IfSome, Vec, refl, sym, ap, subst, ◌∙◌, arith}
use Rattle.std.specs.Vec.{with_items}
use Rattle.std.proofs.lemmas.List.{with_items_is}
use Rattle.sc_cores.specs.Cores.{cores_of_map}
use Rattle.sc_io.specs.declared.hosts.Host.{Host}
use Rattle.sc_seen.specs.Seen.{nothing_opened, Seen}
use Rattle.sc_collection.specs.Shapes.{HasShape}
use Rattle.sc_session.specs.declared.station.Crew.{Crew}
use Rattle.sc_session.specs.Stations.{AreAsBefore}
use Rattle.sc_shared.specs.Collections.{Locks, layout_of}
use Rattle.sc_arguments.specs.declared.asked.Server.{Server}
use Rattle.sc_server.specs.declared.worker.Worker.{Worker}
use Rattle.sc_server.specs.Reports.{Reports}
use Rattle.sc_server.specs.Working.{Told, ServesAll, serving}
use Rattle.sc_server.specs.Needs.{listening_line}
use Rattle.sc_server.specs.Crews.{SetsBelow, SetsReportedBelow, AreEnlisted, AreReportedBack, StationState, HaveCrews, HaveGivenBack, seen_by_worker}
use Rattle.sc_server.specs.Serving.{IsOneStory, Front, AreGivenAndBack, HasOpened, WritesNothing, IsEnd, EndsServer}
use Rattle.sc_server.proofs.FrontLemmas.{none_given_and_back, given_and_back, unused}
use Rattle.sc_server.proofs.CauseLemmas.{with_causes}
use Rattle.sc_server.proofs.RunLemmas.{ends}

-- the items of a list of workers whose slice was worked on are those that the work left
pub as_served : {A Z : Type 0} (workers all : Vec A Z) (served slice : List A) → all ≡ with_items workers served → length served ≡ length slice
    → slice ≡ workers.items → workers.len ≡ length workers.items → all.items ≡ served
as_served {A} {Z} workers all served slice is count value long =
    ap (λ (v : Vec A Z). v.items) is ∙ with_items_is workers served (count ∙ ap length value ∙ sym long)

-- equal lists have the same items, and as many
pub same_items : {A Z : Type 0} (all workers : Vec A Z) → all ≡ workers → all.items ≡ workers.items
same_items {A} {Z} all workers is = ap (λ (v : Vec A Z). v.items) is

pub same_length : {A Z : Type 0} (all workers : Vec A Z) → all ≡ workers → length all.items ≡ length workers.items
same_length {A} {Z} all workers is = ap (λ (v : Vec A Z). length v.items) is

-- what a sink reports
abbrev pub told_of : Option (List ℕ) → ℕ → Told
told_of written faults = record { written = written; faults = faults }

-- how workers ended is the same of equal workers, reports and statuses
pub served_as : {R C H P L S W : Type 0} (reports : Reports C H P L S W) (cores : List Host) (line : List ℕ)
    (as_old old as_new new : List (Worker R C H P L)) (before as_after after : Told) (as_status status : ℕ)
    → as_old ≡ old → new ≡ as_new → after ≡ as_after → status ≡ as_status
    → ServesAll reports cores line (serving as_old before) (serving as_new as_after) as_status
    → ServesAll reports cores line (serving old before) (serving new after) status
served_as {R} {C} {H} {P} {L} reports cores line as_old old as_new new before as_after after as_status status old_is new_is after_is status_is served =
    subst (ServesAll reports cores line (serving old before) (serving new after)) (sym status_is)
    (subst (λ (told : Told). ServesAll reports cores line (serving old before) (serving new told) as_status) (sym after_is)
    (subst (λ (ones : List (Worker R C H P L)). ServesAll reports cores line (serving old before) (serving ones as_after) as_status) (sym new_is)
    (subst (λ (ones : List (Worker R C H P L)). ServesAll reports cores line (serving ones before) (serving as_new as_after) as_status) old_is served)))

-- what a station reports
abbrev pub station_of : {C H P L : Type 0} (crews crews_back : Option (ℕ → Option (Crew C H P L))) → (ℕ → Bool) → ℕ → Option (Option ℕ)
    → StationState C H P L
station_of crews crews_back out faults opened =
    record { crews = crews; crews_back = crews_back; out = out; faults = faults; opened = opened }

-- the same, by a front
abbrev pub station_at : {C H P L : Type 0} → Front C H P L → StationState C H P L
station_at front = station_of front.crews front.crews_back front.out front.open_faults front.opened

-- nothing of it has changed but the port
pub record IsSame {C H P L : Type 0} (before : Front C H P L) (opened : StationState C H P L) : Type 0 where
  pub crews : opened.crews ≡ before.crews
  pub crews_back : opened.crews_back ≡ before.crews_back
  pub out : AreAsBefore before.out opened.out
  pub faults : opened.faults ≡ before.open_faults

module _ {R C H P L : Type 0} (server : Server) (locks : Locks) where
  module _ (before after : Front C H P L) (opened now : StationState C H P L) (enlisted new : List (Worker R C H P L)) (same : IsSame before opened)
      (has : HaveCrews server locks enlisted opened now) (done : HaveGivenBack new now (station_at after)) (count : length new ≡ length enlisted) where
    pub are : AreEnlisted server locks before.crews enlisted
    are = subst (λ (crews : Option (ℕ → Option (Crew C H P L))). AreEnlisted server locks crews enlisted) same.crews has.enlisted

    pub back : AreReportedBack new before.crews_back after.crews_back
    back =
        subst (λ (old : Option (ℕ → Option (Crew C H P L))). AreReportedBack new old after.crews_back) (has.crews_back ∙ same.crews_back) done.crews_back

    pub open_faults : after.open_faults ≡ before.open_faults
    open_faults = done.faults ∙ has.faults ∙ same.faults

    -- the port that was opened before is open
    pub port : IfSome before.opened (λ was. opened.opened ≡ Some (Some server.port)) → HasOpened before after server.port
    port = by before.opened where
      by : (was : Option (Option ℕ)) → IfSome was (λ old. opened.opened ≡ Some (Some server.port))
          → IfSome was (λ old. after.opened ≡ Some (Some server.port))
      by None is = tt
      by (Some old) is = done.opened ∙ has.opened ∙ is

    pub crews : AreGivenAndBack before after (length enlisted)
    crews =
        given_and_back before after new (length enlisted) now.out count
        (subst (λ (crews : Option (ℕ → Option (Crew C H P L))). SetsReportedBelow (length enlisted) None before.crews crews) (sym done.crews)
        (subst (λ (crews : Option (ℕ → Option (Crew C H P L))). SetsReportedBelow (length enlisted) None crews now.crews) same.crews has.crews))
        (record { below = has.out.below; rest = λ number beyond. has.out.rest number beyond ∙ same.out number })
        (subst (λ (n : ℕ). SetsBelow n false now.out after.out) count done.out) back

module _ {C H P L S W : Type 0} (reports : Reports C H P L S W) (server : Server) (before after : Front C H P L) where
  -- memory ran out before any crew was given
  pub none_given : (opened : StationState C H P L) → IsSame before opened → after.crews ≡ opened.crews → after.crews_back ≡ opened.crews_back
      → AreAsBefore opened.out after.out → after.open_faults ≡ opened.faults → WritesNothing before after → EndsServer reports server before after 6
  none_given opened same crews crews_back out faults silent = with_causes reports server before after (IsEnd.no_memory (record {
    count = 0;
    at_most = omega arith;
    crews = none_given_and_back before after (crews ∙ same.crews) (crews_back ∙ same.crews_back) (λ number. out number ∙ same.out number);
    unused = λ number from below. absurd (omega (arith, below));
    open_faults = faults ∙ same.faults;
    silent = silent;
  }))

  -- the port was not opened
  pub not_opened : after.crews ≡ before.crews → after.crews_back ≡ before.crews_back → AreAsBefore before.out after.out
      → before.open_faults < after.open_faults → after.opened ≡ before.opened → WritesNothing before after → EndsServer reports server before after 7
  not_opened crews crews_back out fault opened silent = with_causes reports server before after (IsEnd.port_fails (record {
    fault = fault;
    opened = opened;
    crews = none_given_and_back before after crews crews_back out;
    silent = silent;
  }))

  module _ {R : Type 0} (locks : Locks) (opened now : StationState C H P L) (enlisted new : List (Worker R C H P L)) (same : IsSame before opened)
      (has : HaveCrews server locks enlisted opened now) (done : HaveGivenBack new now (station_at after)) where
    -- memory ran out for the crew of a worker
    pub some_given : new ≡ enlisted → length enlisted ≤ server.workers → WritesNothing before after → EndsServer reports server before after 6
    some_given as_enlisted at_most silent =
        let back_is = subst (λ (ones : List (Worker R C H P L)). HaveGivenBack ones now (station_at after)) as_enlisted done in
        with_causes reports server before after (IsEnd.no_memory (record {
          count = length enlisted;
          at_most = at_most;
          crews = crews server locks before after opened now enlisted enlisted same has back_is refl;
          unused = unused before after server locks enlisted enlisted (are server locks before after opened now enlisted enlisted same has back_is refl)
              (back server locks before after opened now enlisted enlisted same has back_is refl) 0 (λ number from. refl);
          open_faults = open_faults server locks before after opened now enlisted enlisted same has back_is refl;
          silent = silent;
        }))

    -- all workers had their crews
    pub all_given : (cores : List Host) (line : List ℕ) (all : Seen) {status : ℕ} → HasShape server.shape (layout_of locks)
        → (layout_of locks).opened ≡ nothing_opened → cores ≡ cores_of_map server.shape.nodes (layout_of locks).first → line ≡ listening_line server.port → length enlisted ≡ server.workers
        → length new ≡ length enlisted → IsOneStory (layout_of locks) (map seen_by_worker new) all
        → IfSome before.opened (λ was. opened.opened ≡ Some (Some server.port))
        → ServesAll reports cores line (serving enlisted (told_of before.written before.write_faults))
        (serving new (told_of after.written after.write_faults)) status
        → EndsServer reports server before after status
    all_given cores line all shape opened_none cores_are line_is count still story port_is served =
        ends reports server locks before after enlisted new (are server locks before after opened now enlisted new same has done still)
        (back server locks before after opened now enlisted new same has done still) cores line all shape opened_none cores_are line_is count story
        (subst (AreGivenAndBack before after) count (crews server locks before after opened now enlisted new same has done still))
        (open_faults server locks before after opened now enlisted new same has done still)
        (port server locks before after opened now enlisted new same has done still port_is) served
