-- What an event, and a list of them, adds to the writes of a bucket's journal.
use Rattle.std.proofs.Common.{ℕ, ◌≡◌, inl, inr, ◌∙◌, false, List, [], ◌∷◌, ◌++◌, filter, cond, All, None, refl, sym, ap, subst, append_assoc}
use Rattle.std.specs.Str.{bytes_eq}
use Rattle.std.proofs.lemmas.List.{append-nil}
use Rattle.std.proofs.lemmas.List.Elements.{All-head, All-tail, filter-append}
use Rattle.sc_record.specs.Writes.{is_of, Write}
use Rattle.sc_record.specs.declared.entry.Entry.{Entry}
use Rattle.sc_journal.specs.Journal.{as_write, writes, writes_of, last_of}
use Rattle.sc_journal.proofs.JournalLemmas.{writes-push_write, writes-push_other}
use Rattle.sc_bucket.specs.Events.{IsSameButRoom}
use Rattle.sc_bucket.specs.declared.bucket.Bucket.{Bucket}
use Rattle.sc_world.specs.declared.event.Event.{Event}
use Rattle.sc_world.specs.declared.event.Event.TheVariants as events
use Rattle.sc_world.specs.Steps.{IsDone, IsRefused, FindsNoMemory}
use Rattle.sc_world.specs.Runs.{IsPassed, Runs, EventsRunOut}
use Rattle.sc_world.specs.Laws.{orders, KeepsTheTable, StaysWithoutOrders}

-- the journal's writes are those that were there, and then these
abbrev pub Adds : Bucket → List Write → Bucket → Type 0
Adds old added new = writes new.journal.entries ≡ writes old.journal.entries ++ added

-- no write more
pub Adds-nothing : (old new : Bucket) (added : List Write) → added ≡ [] → writes new.journal.entries ≡ writes old.journal.entries
    → Adds old added new
Adds-nothing old new added none same =
    same ∙ sym (append-nil (writes old.journal.entries)) ∙ ap (λ more. writes old.journal.entries ++ more) (sym none)

-- where the journal's entries are the same
Adds-same : (old new : Bucket) (added : List Write) → added ≡ [] → new.journal.entries ≡ old.journal.entries → Adds old added new
Adds-same old new added none same = Adds-nothing old new added none (ap writes same)

-- with an entry more that is no write
Adds-other : (old new : Bucket) (added : List Write) (one : Entry) → as_write one ≡ None → added ≡ []
    → new.journal.entries ≡ old.journal.entries ++ one ∷ [] → Adds old added new
Adds-other old new added one other none entries =
    Adds-nothing old new added none (ap writes entries ∙ writes-push_other old.journal.entries one other)

-- an event that is done adds the writes of its row
pub Adds-done : (old : Bucket) (event : Event) (added : List Write) (new : Bucket) → IsDone old event added new → Adds old added new
Adds-done old (events.Accept order now) added new (version, is, added_is) =
    ap writes is.entries ∙ writes-push_write old.journal.entries is.cell
    ∙ ap (λ more. writes old.journal.entries ++ more) (sym added_is)
Adds-done old (events.DeliverNth k) added new (none, inl (same, past)) = Adds-same old new added none (ap (λ (b : Bucket). b.journal.entries) same)
Adds-done old (events.DeliverNth k) added new (none, inr (message, is)) = Adds-same old new added none is.entries
Adds-done old (events.Deliver place) added new (none, inl (same, past)) =
    Adds-same old new added none (ap (λ (b : Bucket). b.journal.entries) same)
Adds-done old (events.Deliver place) added new (none, inr (core, is)) = Adds-same old new added none is.delivers.entries
Adds-done old (events.Settle place) added new (none, is) = Adds-other old new added _ refl none is.entries
Adds-done old events.Commit added new (none, is) = Adds-other old new added _ refl none is.entries
Adds-done old (events.Detach core) added new (none, is) = Adds-other old new added _ refl none is.entries
Adds-done old (events.Rejoin core) added new (none, is) = Adds-other old new added _ refl none is.entries
Adds-done old (events.Lead core) added new (none, (is, whole)) = Adds-other old new added _ refl none is.entries
Adds-done old (events.Begin plan) added new (none, is) = Adds-other old new added _ refl none is.entries
Adds-done old (events.Feed core) added new (none, (last, is)) = Adds-same old new added none is.rest.entries
Adds-done old (events.StartReplay core) added new (none, is) = Adds-same old new added none is.rest.entries
Adds-done old (events.Replay core) added new (none, (last, is)) = Adds-same old new added none is.rest.entries
Adds-done old events.Ready added new (none, (parent, can, is)) = Adds-same old new added none is.entries
Adds-done old (events.Grow core) added new (none, (sub, can, is)) = Adds-same old new added none is.entries
Adds-done old events.Switch added new (none, (parent, can, is, last)) = Adds-other old new added _ refl none is.entries
Adds-done old events.Abort added new (none, (parent, can, is)) = Adds-other old new added _ refl none is.entries
Adds-done old (events.Drop slice) added new (none, is) = Adds-other old new added _ refl none is.entries

-- an event that is refused leaves the bucket as it was
pub same_if_refused : (old : Bucket) (event : Event) (new : Bucket) → IsRefused old event new → IsSameButRoom old new
same_if_refused old (events.Accept order now) new (outcome, is, answered, same) = same
same_if_refused old (events.DeliverNth k) new refused = absurd refused
same_if_refused old (events.Deliver place) new refused = absurd refused
same_if_refused old (events.Settle place) new refused = absurd refused
same_if_refused old events.Commit new (same, full) = same
same_if_refused old (events.Detach core) new refused = absurd refused
same_if_refused old (events.Rejoin core) new (same, full) = same
same_if_refused old (events.Lead core) new refused = absurd refused
same_if_refused old (events.Begin plan) new (same, full) = same
same_if_refused old (events.Feed core) new refused = absurd refused
same_if_refused old (events.StartReplay core) new refused = absurd refused
same_if_refused old (events.Replay core) new refused = absurd refused
same_if_refused old events.Ready new refused = absurd refused
same_if_refused old (events.Grow core) new refused = absurd refused
same_if_refused old events.Switch new refused = absurd refused
same_if_refused old events.Abort new refused = absurd refused
same_if_refused old (events.Drop slice) new refused = absurd refused

-- an event adds its writes, also where it is refused or passed over
pub Adds-passed : (old : Bucket) (event : Event) (added : List Write) (new : Bucket) → IsPassed old event added new → Adds old added new
Adds-passed old event added new (inl (cannot, none, same)) = Adds-same old new added none (ap (λ (b : Bucket). b.journal.entries) same)
Adds-passed old event added new (inr (can, inl done)) = Adds-done old event added new done
Adds-passed old event added new (inr (can, inr (none, refused))) =
    Adds-same old new added none (same_if_refused old event new refused).entries

-- where memory runs out at an event it adds none
pub Adds-out_of_memory : (old : Bucket) (event : Event) (new : Bucket) → FindsNoMemory old event new → Adds old [] new
Adds-out_of_memory old (events.Accept order now) new (met, same) = Adds-same old new [] refl same.entries
Adds-out_of_memory old (events.DeliverNth k) new out = absurd out
Adds-out_of_memory old (events.Deliver place) new out = absurd out
Adds-out_of_memory old (events.Settle place) new out = absurd out
Adds-out_of_memory old events.Commit new same = Adds-same old new [] refl same.entries
Adds-out_of_memory old (events.Detach core) new out = absurd out
Adds-out_of_memory old (events.Rejoin core) new same = Adds-same old new [] refl same.entries
Adds-out_of_memory old (events.Lead core) new out = absurd out
Adds-out_of_memory old (events.Begin plan) new same = Adds-same old new [] refl same.entries
Adds-out_of_memory old (events.Feed core) new out = absurd out
Adds-out_of_memory old (events.StartReplay core) new out = absurd out
Adds-out_of_memory old (events.Replay core) new out = absurd out
Adds-out_of_memory old events.Ready new out = absurd out
Adds-out_of_memory old (events.Grow core) new delivers = Adds-same old new [] refl delivers.entries
Adds-out_of_memory old events.Switch new out = absurd out
Adds-out_of_memory old events.Abort new out = absurd out
Adds-out_of_memory old (events.Drop slice) new out = absurd out

-- one after another
Adds-both : (old between new : Bucket) (first rest : List Write) → Adds old first between → Adds between rest new
    → Adds old (first ++ rest) new
Adds-both old between new first rest one other =
    other ∙ ap (λ before. before ++ rest) one ∙ append_assoc (writes old.journal.entries) first rest

-- a run adds its writes, in order
pub Adds-run : (old : Bucket) (run : List Event) (added : List Write) (new : Bucket) → Runs old run added new → Adds old added new
Adds-run old [] added new (none, same) = Adds-same old new added none (ap (λ (b : Bucket). b.journal.entries) same)
Adds-run old (event ∷ run) added new (between, first, rest, passed, runs, is) =
    Adds-both old between new first rest (Adds-passed old event first between passed) (Adds-run between run rest new runs)
    ∙ ap (λ more. writes old.journal.entries ++ more) (sym is)

-- also up to the one at which memory runs out
pub Adds-run_out : (old : Bucket) (run : List Event) (added : List Write) (new : Bucket) → EventsRunOut old run added new → Adds old added new
Adds-run_out old run added new ran =
    Adds-both old ran.between new added [] (Adds-run old ran.before added ran.between ran.runs)
    (Adds-out_of_memory ran.between ran.event new ran.out)
    ∙ ap (λ more. writes old.journal.entries ++ more) (append-nil added)

-- a run of no events
pub Runs-none : (b : Bucket) → Runs b [] [] b
Runs-none b = (refl, refl)

-- a run with one event more at its end
pub Runs-push : (old : Bucket) (before : List Event) (added : List Write) (between : Bucket) (event : Event) (more : List Write) (new : Bucket)
    → Runs old before added between → IsPassed between event more new → Runs old (before ++ event ∷ []) (added ++ more) new
Runs-push old [] added between event more new (none, same) passed =
    (new, more, [], subst (λ b. IsPassed b event more new) same passed, (refl, refl), ap (λ these. these ++ more) none ∙ sym (append-nil more))
Runs-push old (first ∷ before) added between event more new (next, one, rest, passed_first, runs, is) passed = (
  next,
  one,
  rest ++ more,
  passed_first,
  Runs-push next before rest between event more new runs passed,
  ap (λ these. these ++ more) is ∙ append_assoc one rest more,
)

-- the last write of an id is the last of those that were there and those that came
pub keeps_the_table : KeepsTheTable
keeps_the_table old new run added id runs =
    ap (λ these. last_of (filter (is_of id) these)) (Adds-run old run added new runs)
    ∙ ap last_of (filter-append (is_of id) (writes old.journal.entries) added)

-- nothing is in an empty list
none_of : (id : List ℕ) (added : List Write) → added ≡ [] → filter (is_of id) added ≡ []
none_of id added none = ap (filter (is_of id)) none

-- an event that is no order for the id adds none of its writes
none-done : (id : List ℕ) (old : Bucket) (event : Event) (added : List Write) (new : Bucket) → IsDone old event added new
    → orders id event ≡ false → filter (is_of id) added ≡ []
none-done id old (events.Accept order now) added new (version, is, added_is) other =
    let of_other : is_of id is.cell.value ≡ false = ap (λ name. bytes_eq name id) is.write.id ∙ other in
    ap (filter (is_of id)) added_is ∙ ap (λ b. cond b (is.cell.value ∷ []) []) of_other
none-done id old (events.DeliverNth k) added new done other = none_of id added done.0
none-done id old (events.Deliver place) added new done other = none_of id added done.0
none-done id old (events.Settle place) added new done other = none_of id added done.0
none-done id old events.Commit added new done other = none_of id added done.0
none-done id old (events.Detach core) added new done other = none_of id added done.0
none-done id old (events.Rejoin core) added new done other = none_of id added done.0
none-done id old (events.Lead core) added new done other = none_of id added done.0
none-done id old (events.Begin plan) added new done other = none_of id added done.0
none-done id old (events.Feed core) added new done other = none_of id added done.0
none-done id old (events.StartReplay core) added new done other = none_of id added done.0
none-done id old (events.Replay core) added new done other = none_of id added done.0
none-done id old events.Ready added new done other = none_of id added done.0
none-done id old (events.Grow core) added new done other = none_of id added done.0
none-done id old events.Switch added new done other = none_of id added done.0
none-done id old events.Abort added new done other = none_of id added done.0
none-done id old (events.Drop slice) added new done other = none_of id added done.0

none-passed : (id : List ℕ) (old : Bucket) (event : Event) (added : List Write) (new : Bucket) → IsPassed old event added new
    → orders id event ≡ false → filter (is_of id) added ≡ []
none-passed id old event added new (inl (cannot, none, same)) other = none_of id added none
none-passed id old event added new (inr (can, inl done)) other = none-done id old event added new done other
none-passed id old event added new (inr (can, inr (none, refused))) other = none_of id added none

-- nor does a run without an order for it
none-run : (id : List ℕ) (old : Bucket) (run : List Event) (added : List Write) (new : Bucket) → Runs old run added new
    → All (λ (event : Event). orders id event ≡ false) run → filter (is_of id) added ≡ []
none-run id old [] added new (none, same) others = none_of id added none
none-run id old (event ∷ run) added new (between, first, rest, passed, runs, is) others =
    let one : filter (is_of id) first ≡ [] =
    none-passed id old event first between passed (All-head (λ (e : Event). orders id e ≡ false) event run others) in
    let all : filter (is_of id) rest ≡ [] =
    none-run id between run rest new runs (All-tail (λ (e : Event). orders id e ≡ false) event run others) in
    ap (filter (is_of id)) is ∙ filter-append (is_of id) first rest
    ∙ ap (λ these. these ++ filter (is_of id) rest) one ∙ all

-- so the last write of the id stays
pub stays_without_orders : StaysWithoutOrders
stays_without_orders old new run added id runs others =
    keeps_the_table old new run added id runs
    ∙ ap (λ more. last_of (writes_of old.journal.entries id ++ more)) (none-run id old run added new runs others)
    ∙ ap last_of (append-nil (writes_of old.journal.entries id))
