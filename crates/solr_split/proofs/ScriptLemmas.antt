-- A script was run where its first cores were started and its connection was served.
use Rattle.std.proofs.Common.{◌≡◌, ◌≤◌, ◌<◌, ◌∙◌, ℕ, true, false, List, length, Option, Some, None, IfSome, Result, Ok, Err, OnOk, OnErr, refl, sym, subst, arith}
use Rattle.std.specs.Result.{is_err}
use Rattle.sc_io.specs.declared.hosts.Host.{Host}
use Rattle.sc_io.specs.Hosts.{Reached}
use Rattle.sc_cluster.specs.declared.slice.Slice.{Slice}
use Rattle.sc_cluster.specs.Map.{IsMap}
use Rattle.sc_cluster.proofs.MapLemmas.{first_is_map}
use Rattle.sc_cores.specs.Cores.{Outside, outside_of, cores_of_map, with_cores, HasStarted, StartsFirst, FailsToStartFirst}
use Rattle.sc_seen.specs.Board.{running_split}
use Rattle.sc_collection.specs.Kept.{Kept}
use Rattle.sc_collection.specs.Alone.{AloneState, seen_alone, entries_alone, keeping_alone}
use Rattle.sc_collection.specs.Desks.{AreAtRest}
use Rattle.sc_collection.specs.declared.shape.Shape.{Shape}
use Rattle.sc_collection.specs.Shapes.{IsShape, HasShape, SeesOpened}
use Rattle.sc_collection.proofs.ShapeLemmas.{ranges}
use Rattle.sc_collection.proofs.RestLemmas.{SeesNothing, sees_nothing}
use Rattle.sc_seen.specs.Seen.{nothing_opened, Layout}
use Rattle.sc_session.specs.Served.{IsServed}
use Rattle.sc_session.specs.declared.end.End.{End}
use Rattle.sc_arguments.specs.declared.asked.Script.{Script}
use Rattle.solr_split.specs.Running.{Machine, RunsScript, clock_of, state_of, none_kept, exit_status}
use Rattle.solr_split.proofs.MapCoreLemmas.{first_are_started}
use Rattle.solr_split.proofs.RestLemmas.{over_after_connection, owns_all}
use Rattle.solr_split.proofs.StartedLemmas.{started_after_connection}

-- what is so where a call succeeded is so once it is known to be no error
on_no_error : {A E P : Type 0} (result : Result A E) → is_err result ≡ false → OnOk result P → P
on_no_error (Ok value) is holds = holds
on_no_error (Err error) is holds = absurd (cc)

-- the first cores are started where these are, and no start of one failed
pub starts_first : {A E : Type 0} (result : Result A E) (nodes : ℕ) (first : List Slice) (given cores : List Host)
    (before now : Option (List Host)) (faults faults_now stop_faults stop_faults_now stops : ℕ) (reach reach_now : Reached) → is_err result ≡ false
    → given ≡ cores → cores ≡ cores_of_map nodes first
    → OnOk result (IfSome before (λ all. now ≡ Some (with_cores given all))) → OnOk result (faults_now ≡ faults)
    → stop_faults_now ≡ stop_faults → reach_now ≡ reach
    → StartsFirst nodes first (outside_of before faults stop_faults stops reach) (outside_of now faults_now stop_faults_now stops reach_now)
starts_first result nodes first given cores before now faults faults_now stop_faults stop_faults_now stops reach reach_now good same are started steady other same_reach = record {
  started = subst (λ (hosts : List Host). IfSome before (λ all. now ≡ Some (with_cores hosts all))) (same ∙ are) (on_no_error result good started);
  start_faults = on_no_error result good steady;
  stop_faults = other;
  stops = refl;
  reach = same_reach;
}

-- what is so where a call failed is so once it is known to be an error
on_an_error : {A E P : Type 0} (result : Result A E) → is_err result ≡ true → OnErr result P → P
on_an_error (Ok value) is holds = absurd (cc)
on_an_error (Err error) is holds = holds

-- the first cores were started up to one of these that failed
pub fails_to_start_first : {A E : Type 0} (result : Result A E) (nodes : ℕ) (first : List Slice) (given cores : List Host)
    (before now : Option (List Host)) (faults faults_now stop_faults stop_faults_now stops : ℕ) (reach reach_now : Reached) → is_err result ≡ true
    → given ≡ cores → cores ≡ cores_of_map nodes first
    → OnErr result ((count : ℕ) × (count < length given) × HasStarted given count before now) → OnErr result (faults < faults_now)
    → stop_faults_now ≡ stop_faults → reach_now ≡ reach
    → FailsToStartFirst nodes first (outside_of before faults stop_faults stops reach) (outside_of now faults_now stop_faults_now stops reach_now)
fails_to_start_first result nodes first given cores before now faults faults_now stop_faults stop_faults_now stops reach reach_now failed same are rest cause other same_reach =
    let some = subst (λ (hosts : List Host). (count : ℕ) × (count < length hosts) × HasStarted hosts count before now) (same ∙ are)
    (on_an_error result failed rest) in
    record {
      count = some.0;
      some = some.1;
      started = some.2;
      start_faults = on_an_error result failed cause;
      stop_faults = other;
      stops = refl;
      reach = same_reach;
    }

-- the first map of a layout of this shape is a map
first_is_a_map : (shape : Shape) (layout : Layout) → IsShape shape → HasShape shape layout → IsMap layout.first
first_is_a_map shape layout is_shape has =
    let shards = (ranges shape is_shape).shards in
    let least : 1 ≤ shape.shards = shards.0 in
    let most : shape.shards ≤ 256 = omega (arith, shards.1) in
    first_is_map shape.shards shape.replicas shape.nodes layout.first least most has.first

-- a script was run where these are so of its collection before and after it
pub script_runs : {C : Type 0} (script : Script) (gives : C → ℕ → C → Type 0) (before after : Machine C) (began ended : AloneState)
    (hosted : Outside) (trail kept : Kept) (end : End) (status : ℕ) → HasShape script.shape began.layout
    → began.layout.opened ≡ nothing_opened → SeesOpened began.layout.opened (seen_alone began)
    → ended.layout ≡ began.layout → StartsFirst began.layout.nodes began.layout.first before.outside hosted → trail ≡ none_kept
    → IsServed (clock_of script.clock gives) began.layout (state_of (seen_alone began) trail (record before { outside = hosted }))
    (state_of (seen_alone ended) kept after) end
    → (running_split (entries_alone ended) ≡ None → AreAtRest ended.layout (entries_alone ended) (keeping_alone ended))
    → status ≡ exit_status end → IsShape script.shape → RunsScript script gives before after status
script_runs script gives before after began ended hosted trail kept end status shape opened empty layout hosts none served rest status_is is_shape =
    let nothing : SeesNothing (seen_alone began) = sees_nothing began.layout.opened (seen_alone began) opened empty in
    let first = state_of (seen_alone began) none_kept (record before { outside = hosted }) in
    let last = state_of (seen_alone ended) kept after in
    let connection : IsServed (clock_of script.clock gives) began.layout first last end =
    subst (λ (k : Kept). IsServed (clock_of script.clock gives) began.layout (state_of (seen_alone began) k (record before { outside = hosted })) last end)
    none served in
    let owns = owns_all ended began.layout layout opened in
    let over = over_after_connection (clock_of script.clock gives) began.layout first last end connection nothing owns in
    let is_map = first_is_a_map script.shape began.layout is_shape shape in
    record {
      began = began;
      ended = ended;
      hosted = hosted;
      kept = kept;
      end = end;
      shape = shape;
      opened = opened;
      empty = empty;
      layout = layout;
      hosts = hosts;
      served = connection;
      rest = subst (λ (l : Layout). AreAtRest l (entries_alone ended) (keeping_alone ended)) layout (rest over);
      cores = λ none steady. started_after_connection (clock_of script.clock gives) began.layout first last end connection nothing owns is_map
          (steady ∙ sym hosts.stop_faults) (first_are_started began.layout.nodes began.layout.first before.outside hosted none hosts);
      status_is = status_is;
    }
