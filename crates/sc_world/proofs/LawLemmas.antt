-- A split that is given up leaves the map, and of the writes those that were there and those that came.
use Rattle.std.proofs.Common.{ℕ, ◌≡◌, inl, inr, ◌∙◌, false, List, [], ◌∷◌, ◌++◌, filter, Some, None, All, Contains, refl, sym, ap, subst}
use Rattle.std.proofs.lemmas.Bool.{false≢true}
use Rattle.std.proofs.lemmas.List.Elements.{All-head, All-tail, All-contains, filter-append}
use Rattle.std.proofs.lemmas.Option.{none-some}
use Rattle.sc_record.specs.Writes.{is_of, Write}
use Rattle.sc_record.specs.declared.slice.SliceId.{SliceId}
use Rattle.sc_cluster.specs.Changes.{Change, after}
use Rattle.sc_cluster.specs.declared.slice.State.TheVariants as states
use Rattle.sc_cluster.specs.declared.slice.Slice.{Slice}
use Rattle.sc_cluster.proofs.UndoLemmas.{undoes_a_failed_split}
use Rattle.sc_replica.specs.Core.{Core}
use Rattle.sc_journal.specs.Journal.{writes, writes_of, last_of, last_write}
use Rattle.sc_journal.proofs.JournalLemmas.{writes-push_other}
use Rattle.sc_replicas.specs.Cores.{IsLeaderOf}
use Rattle.sc_bucket.specs.Sound.{Serves, HasLastWrites}
use Rattle.sc_bucket.specs.declared.bucket.Bucket.{Bucket}
use Rattle.sc_bucket.specs.declared.phase.Phase.TheVariants as phases
use Rattle.sc_handover.specs.Conditions.{split_of}
use Rattle.sc_world.specs.declared.event.Event.{Event}
use Rattle.sc_world.specs.declared.event.Event.TheVariants as events
use Rattle.sc_world.specs.Steps.{Can, IsDone}
use Rattle.sc_world.specs.Runs.{IsPassed, Runs}
use Rattle.sc_world.specs.Laws.{may_end, LeavesNothing}
use Rattle.sc_world.proofs.RunLemmas.{Adds-run, same_if_refused}

-- the split of the parent is open
abbrev IsOf : SliceId → Bucket → Type 0
IsOf parent b = split_of b.phase ≡ Some parent

-- the split goes on, and the map is the same
abbrev GoesOn : SliceId → Bucket → Bucket → Type 0
GoesOn parent old new = IsOf parent new × (new.map ≡ old.map)

-- where the phase is the same
goes_on : (parent : SliceId) (old new : Bucket) → IsOf parent old → new.phase ≡ old.phase → new.map ≡ old.map → GoesOn parent old new
goes_on parent old new is phase same = (ap split_of phase ∙ is, same)

-- nothing changed
goes_on-same : (parent : SliceId) (old new : Bucket) → IsOf parent old → new ≡ old → GoesOn parent old new
goes_on-same parent old new is same =
    goes_on parent old new is (ap (λ (b : Bucket). b.phase) same) (ap (λ (b : Bucket). b.map) same)

-- where a split is open the phase isn't idle
not_idle : {X : Type 0} (parent : SliceId) (b : Bucket) → IsOf parent b → b.phase ≡ phases.Idle → X
not_idle parent b is idle = let both : None ≡ Some parent = sym (ap split_of idle) ∙ is in absurd (none-some parent both)

-- an event that doesn't end it is done
goes_on-done : (parent : SliceId) (old : Bucket) (event : Event) (added : List Write) (new : Bucket) → IsOf parent old → Can old event
    → may_end event ≡ false → IsDone old event added new → GoesOn parent old new
goes_on-done parent old (events.Accept order now) added new is can ends (version, done, added_is) =
    goes_on parent old new is done.split.phase done.map_is
goes_on-done parent old (events.DeliverNth k) added new is can ends (none, inl (same, past)) = goes_on-same parent old new is same
goes_on-done parent old (events.DeliverNth k) added new is can ends (none, inr (message, done)) =
    goes_on parent old new is done.split.phase done.map_is
goes_on-done parent old (events.Deliver place) added new is can ends (none, inl (same, past)) = goes_on-same parent old new is same
goes_on-done parent old (events.Deliver place) added new is can ends (none, inr (core, done)) =
    goes_on parent old new is done.delivers.split.phase done.delivers.map_is
goes_on-done parent old (events.Settle place) added new is can ends (none, done) = goes_on parent old new is done.split.phase done.map_is
goes_on-done parent old events.Commit added new is can ends (none, done) = goes_on parent old new is done.split.phase done.map_is
goes_on-done parent old (events.Detach core) added new is can ends (none, done) = goes_on parent old new is done.split.phase done.map_is
goes_on-done parent old (events.Rejoin core) added new is can ends done = not_idle parent old is can.idle
goes_on-done parent old (events.Lead core) added new is can ends done = not_idle parent old is can.idle
goes_on-done parent old (events.Begin plan) added new is can ends done = not_idle parent old is can.idle
goes_on-done parent old (events.Feed core) added new is can ends (none, (last, done)) =
    goes_on parent old new is done.rest.phase_is done.rest.map_is
goes_on-done parent old (events.StartReplay core) added new is can ends (none, done) =
    goes_on parent old new is done.rest.phase_is done.rest.map_is
goes_on-done parent old (events.Replay core) added new is can ends (none, (last, done)) =
    goes_on parent old new is done.rest.phase_is done.rest.map_is
goes_on-done parent old events.Ready added new is can ends (none, (other, (building, led), done)) =
    (ap split_of done.phase_is ∙ sym (ap split_of building) ∙ is, done.map_is)
goes_on-done parent old (events.Grow core) added new is can ends (none, (sub, grows, done)) = goes_on parent old new is done.phase_is done.map_is
goes_on-done parent old events.Switch added new is can ends done = absurd (false≢true (sym ends))
goes_on-done parent old events.Abort added new is can ends done = absurd (false≢true (sym ends))
goes_on-done parent old (events.Drop slice) added new is can ends done = not_idle parent old is can.0

-- or refused, or passed over
goes_on-passed : (parent : SliceId) (old : Bucket) (event : Event) (added : List Write) (new : Bucket) → IsOf parent old
    → may_end event ≡ false → IsPassed old event added new → GoesOn parent old new
goes_on-passed parent old event added new is ends (inl (cannot, none, same)) = goes_on-same parent old new is same
goes_on-passed parent old event added new is ends (inr (can, inl done)) = goes_on-done parent old event added new is can ends done
goes_on-passed parent old event added new is ends (inr (can, inr (none, refused))) =
    let same = same_if_refused old event new refused in
    goes_on parent old new is same.split.phase same.map_is

-- and so over a run
goes_on-run : (parent : SliceId) (old : Bucket) (run : List Event) (added : List Write) (new : Bucket) → IsOf parent old
    → All (λ (event : Event). may_end event ≡ false) run → Runs old run added new → GoesOn parent old new
goes_on-run parent old [] added new is ends (none, same) = goes_on-same parent old new is same
goes_on-run parent old (event ∷ run) added new is ends (between, first, rest, passed, runs, added_is) =
    let one = goes_on-passed parent old event first between is (All-head (λ (e : Event). may_end e ≡ false) event run ends) passed in
    let all = goes_on-run parent between run rest new one.0 (All-tail (λ (e : Event). may_end e ≡ false) event run ends) runs in
    (all.0, all.1 ∙ one.1)

pub leaves_nothing : LeavesNothing
leaves_nothing old begun last new plan between added can begins runs ends sound last_sound aborts new_sound =
    (same_map, serve, lasts)
  where
    stays : GoesOn plan.parent begun last
    stays = goes_on-run plan.parent begun between added last (ap split_of begins.phase_is) ends runs

    same_map : new.map ≡ old.map
    same_map =
        aborts.map_is ∙ ap (λ slices. after slices (Change.Failed plan.parent)) (stays.1 ∙ begins.map_is)
        ∙ undoes_a_failed_split old.map plan.parent plan.subs can.plan

    serve : (slice : Slice) (leader : Core) → Contains old.map slice → slice.state ≡ states.Active → Contains new.replicas leader
        → IsLeaderOf slice.id leader → HasLastWrites new.journal.entries slice leader
    serve slice leader there active leader_there leads =
        (All-contains (λ (core : Core). (s : Slice) → Contains new.map s → s.id ≡ core.core.slice → Serves new.journal.entries s core)
        new.replicas leader new_sound.leaders leader_there slice (subst (λ slices. Contains slices slice) (sym same_map) there)
        (sym leads.0) active leads.1).1

    all_writes : writes new.journal.entries ≡ writes old.journal.entries ++ added
    all_writes =
        ap writes aborts.entries ∙ writes-push_other last.journal.entries _ refl
        ∙ Adds-run begun between added last runs
        ∙ ap (λ before. before ++ added) (ap writes begins.entries ∙ writes-push_other old.journal.entries _ refl)

    lasts : (id : List ℕ) → last_write new.journal.entries id ≡ last_of (writes_of old.journal.entries id ++ filter (is_of id) added)
    lasts id =
        ap (λ these. last_of (filter (is_of id) these)) all_writes
        ∙ ap last_of (filter-append (is_of id) (writes old.journal.entries) added)
