-- What an order is answered at its stops, by what is seen later.
use Rattle.std.proofs.Common.{◌≡◌, ℕ, ◌<◌, Bool, true, false, cond, List, [], ◌∷◌, ◌++◌, length, take, Some, Option, Result, Ok, Err, refl, sym, ap, ◌∙◌, subst}
use Rattle.std.specs.Prelude.{IsSome, IfOk, OnErr, is_ok, not, slice_get}
use Rattle.std.specs.Arc.{arc_value}
use Rattle.std.proofs.lemmas.List.{append-nil}
use mathlib.Core.List.{IsPrefix}
use Rattle.sc_record.specs.declared.entry.Entry.{Entry}
use Rattle.sc_record.specs.declared.entry.Entry.TheVariants as entry
use Rattle.sc_record.specs.Writes.{Write}
use Rattle.sc_record.specs.declared.order.Order.{Order}
use Rattle.sc_router.specs.Route.{bucket_of}
use Rattle.sc_journal.specs.Journal.{write_at, is_settled}
use Rattle.sc_journal.specs.Outcomes.{Outcome, accepted, conflict, partial, log_full, out_of_memory, IsOutcome}
use Rattle.sc_seen.specs.Seen.{Layout, Seen, basis_of}
use Rattle.sc_journal.specs.Splits.{Basis}
use Rattle.sc_seen.specs.Batches.{IsSettling}
use Rattle.sc_seen.specs.declared.stop.Stop.{Stop}
use Rattle.sc_journal.proofs.JournalLemmas.{write_at-push_end, write_at-append, write_at_within}
use Rattle.sc_journal.proofs.ListLemmas.{slice_get-append_end}
use Rattle.sc_bucket.specs.declared.bucket.Bucket.{Bucket}
use Rattle.sc_bucket.specs.declared.accept.Accepted.{Accepted}
use Rattle.sc_bucket.specs.declared.accept.AcceptFault.{AcceptFault}
use Rattle.sc_bucket.specs.Room.{basis}
use Rattle.sc_bucket.specs.Sound.{IsSound}
use Rattle.sc_bucket.specs.Events.{Accepts, IsSameButRoom, outcome_of}
use Rattle.sc_collection.specs.Desks.{Held, IsBucketOf, MayReplace, SeesGiven}
use Rattle.sc_seen.specs.Seen.{SeesMore}
use Rattle.sc_update.specs.Steps.{Tries, SettlesWhere}
use Rattle.sc_seen.proofs.ExtendsLemmas.{IsPrefix-then}
use Rattle.sc_seen.proofs.GoesOnLemmas.{take-prefix}
use Rattle.sc_collection.proofs.ReplaceLemmas.{same_may_replace, settled_may_replace}
use Rattle.sc_collection.proofs.StopLemmas.{stop_at, entry-later}

-- a write stays where it is
pub write_at-later : (journal later : List Entry) (place : ℕ) → IsPrefix journal later → place < length journal
    → write_at later place ≡ write_at journal place
write_at-later journal later place begins below =
    ap (λ (all : List Entry). write_at all place) (sym begins.1) ∙ write_at-append journal begins.0 place below

pub written-later : (journal later : List Entry) (place : ℕ) → IsPrefix journal later → IsSome (write_at journal place)
    → IsSome (write_at later place)
written-later journal later place begins written =
    subst (λ (w : Option Write). IsSome w) (sym (write_at-later journal later place begins (write_at_within journal place written))) written

-- what an order is answered stays so
outcome-later : (base : Basis) (before : List Entry) (order : Order) (now : ℕ) (outcome : Outcome) (after later : List Entry)
    → IsPrefix after later → IsOutcome base before order now outcome after → IsOutcome base before order now outcome later
outcome-later base before order now (accepted version) after later begins is =
    let write : Write = is.2.0 in
    let there : write_at after (length before) ≡ Some write = is.2.1 in
    let some : IsSome (write_at after (length before)) = subst (λ (w : Option Write). IsSome w) (sym there) refl in
    (is.0, is.1, (write, write_at-later after later (length before) begins (write_at_within after (length before) some) ∙ there, is.2.2, is.2.3))
outcome-later base before order now (conflict version) after later begins is = is
outcome-later base before order now (partial name) after later begins is = is
outcome-later base before order now log_full after later begins is = is
outcome-later base before order now out_of_memory after later begins is = is

-- the entries that an order adds: its write where it is accepted
pub accepted-entries : (old new : Bucket) (order : Order) (now : ℕ) (answer : Result Accepted AcceptFault)
    → IfOk answer (λ accepted. Accepts old order now accepted.version new) → OnErr answer (IsSameButRoom old new)
    → (more : List Entry) × (new.journal.entries ≡ old.journal.entries ++ more) × (length more ≡ cond (is_ok answer) 1 0)
accepted-entries old new order now (Ok got) accepts same = (entry.Write accepts.cell ∷ [], accepts.entries, refl)
accepted-entries old new order now (Err fault) accepts same = ([], same.entries ∙ sym (append-nil old.journal.entries), refl)

-- the journal of a layout's bucket is based on the layout's map and limit
same_basis : (layout : Layout) (number : ℕ) (bucket : Bucket) → IsBucketOf layout number bucket → basis bucket ≡ basis_of layout
same_basis layout number bucket of = λ i. record { first = of.first i; limit = of.limit i }

-- and an order is answered at that stop
pub tries : (layout : Layout) (old new : Seen) (held : Held) (given : Bucket) (order : Order) (now : ℕ) (answer : Result Accepted AcceptFault)
    → IsBucketOf layout held.number held.bucket → held.number ≡ bucket_of order.id layout.buckets
    → IfOk answer (λ accepted. Accepts held.bucket order now accepted.version given) → OnErr answer (IsSameButRoom held.bucket given)
    → IsOutcome (basis held.bucket) held.bucket.journal.entries order now (outcome_of answer) given.journal.entries
    → SeesGiven held given old new
    → Tries layout new order now (stop_at held.number held.bucket.journal.entries (is_ok answer)) answer
tries layout old new held given order now answer of of_id accepts same outcome sees =
    let added = accepted-entries held.bucket given order now answer accepts same in
    record {
      lock = of_id;
      made = refl;
      written = written answer accepts;
      outcome = λ later more.
          let begins : IsPrefix given.journal.entries (later.journals held.number) = subst (λ (entries : List Entry). IsPrefix entries (later.journals held.number)) sees.journal (more.journals held.number) in
          let before : take (length journal) (later.journals held.number) ≡ journal = take-prefix journal (later.journals held.number) (IsPrefix-then journal given.journal.entries (later.journals held.number) (added.0, sym added.1) begins) in
          subst (λ (entries : List Entry). IsOutcome (basis_of layout) entries order now (outcome_of answer) (later.journals held.number)) (sym before)
          (subst (λ (base : Basis). IsOutcome base journal order now (outcome_of answer) (later.journals held.number))
          (same_basis layout held.number held.bucket of)
          (outcome-later (basis held.bucket) journal order now (outcome_of answer) given.journal.entries (later.journals held.number) begins outcome));
    }
  where
    journal : List Entry
    journal = held.bucket.journal.entries

    written : (one : Result Accepted AcceptFault) → IfOk one (λ accepted. Accepts held.bucket order now accepted.version given)
        → IfOk one (λ accepted. IsSome (write_at (new.journals held.number) (length journal)))
    written (Ok got) ok =
        let here : write_at (new.journals held.number) (length journal) ≡ Some (arc_value ok.cell) =
        ap (λ (entries : List Entry). write_at entries (length journal)) (sees.journal ∙ ok.entries) ∙ write_at-push_end journal (entry.Write ok.cell) in
        subst (λ (w : Option Write). IsSome w) (sym here) refl
    written (Err fault) ok = tt

-- a bucket in which a write was settled may be given back
pub MayReplace-settled : (layout : Layout) (held : Held) (place : ℕ) (made : Bool) (given : Bucket)
    → IsBucketOf layout held.number held.bucket → IsSound given → held.by_keeper ≡ false → IsSome (write_at held.bucket.journal.entries place)
    → SettlesWhere made held.bucket place given → MayReplace layout held given
MayReplace-settled layout held place true given of sound by_pass written settles =
    settled_may_replace layout held given of sound by_pass place written settles.1 settles.0
MayReplace-settled layout held place false given of sound by_pass written settles =
    same_may_replace layout held given of sound by_pass settles.0

-- the entries that this adds
pub settled-entries : (place : ℕ) (made : Bool) (old new : Bucket) → SettlesWhere made old place new
    → (more : List Entry) × (new.journal.entries ≡ old.journal.entries ++ more) × (length more ≡ cond made 1 0)
settled-entries place true old new settles = (entry.Settled place ∷ [], settles.0.entries, refl)
settled-entries place false old new settles =
    ([], ap (λ (bucket : Bucket). bucket.journal.entries) settles.0 ∙ sym (append-nil old.journal.entries), refl)

-- and the write of the first stop is settled there
pub settling : (old new : Seen) (held : Held) (given : Bucket) (first : Stop) (made : Bool) → first.lock ≡ held.number
    → IsSome (write_at held.bucket.journal.entries first.place) → SettlesWhere made held.bucket first.place given → SeesGiven held given old new
    → (later : Seen) → SeesMore new later → IsSettling later first (stop_at held.number held.bucket.journal.entries made)
settling old new held given first made same written settles sees later more = record {
  lock = sym same;
  later = write_at_within journal place written;
  made = settled made settles ∙ ap (λ (entries : List Entry). not (is_settled entries place)) (sym before);
  made_is = made_is made settles;
}
  where
    place : ℕ
    place = first.place

    journal : List Entry
    journal = held.bucket.journal.entries

    begins : IsPrefix given.journal.entries (later.journals held.number)
    begins = subst (λ (entries : List Entry). IsPrefix entries (later.journals held.number)) sees.journal (more.journals held.number)

    added : (entries : List Entry) × (given.journal.entries ≡ journal ++ entries) × (length entries ≡ cond made 1 0)
    added = settled-entries place made held.bucket given settles

    before : take (length journal) (later.journals held.number) ≡ journal
    before = take-prefix journal (later.journals held.number)
        (IsPrefix-then journal given.journal.entries (later.journals held.number) (added.0, sym added.1) begins)

    settled : (b : Bool) → SettlesWhere b held.bucket place given → b ≡ not (is_settled journal place)
    settled true did = ap not (sym did.1)
    settled false did = ap not (sym did.1)

    made_is : (b : Bool) → SettlesWhere b held.bucket place given → b ≡ true
        → slice_get (later.journals held.number) (length journal) ≡ Some (entry.Settled place)
    made_is true did is =
        entry-later given.journal.entries (later.journals held.number) (length journal) (entry.Settled place) begins
        (ap (λ (entries : List Entry). slice_get entries (length journal)) did.0.entries ∙ slice_get-append_end journal (entry.Settled place) [])
    made_is false did is = absurd (cc)
