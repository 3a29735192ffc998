-- What the commit of a bucket came to at its stop, and what all commits came to.
use Rattle.std.proofs.Common.{◌≡◌, ℕ, ◌+◌, ◌<◌, Bool, cond, List, [], ◌∷◌, ◌++◌, length, take, suc, Option, None, Result, Ok, Err, refl, sym, ap, ◌∙◌, subst, arith}
use Rattle.std.specs.Prelude.{OnOk, OnErr, is_ok, slice_get}
use Rattle.std.specs.List.{range_with_len}
use Rattle.std.specs.Result.{result_err}
use Rattle.std.proofs.lemmas.List.{append-nil, map-append}
use Rattle.std.proofs.lemmas.List.Elements.{All-nil, All-cons, All-append}
use Rattle.std.proofs.lemmas.List.Sums.{fold-append}
use mathlib.Core.List.{IsPrefix}
use Rattle.sc_record.specs.declared.entry.Entry.{Entry}
use Rattle.sc_record.specs.declared.entry.Entry.TheVariants as entry
use Rattle.sc_journal.specs.Splits.{IsFullFor}
use Rattle.sc_seen.specs.Seen.{Layout, Seen, SeesMore, GoesOn}
use Rattle.sc_seen.specs.Moments.{View, Keeps}
use Rattle.sc_seen.specs.Commits.{CommitOutcome, committed_now, CommitAnswer, IsCommitOutcome, IsCommitAnswer, AnswersCommits, commit_stops, worse}
use Rattle.sc_seen.specs.declared.stop.Stop.{Stop}
use Rattle.sc_journal.proofs.ListLemmas.{slice_get-append_end}
use Rattle.sc_seen.proofs.GoesOnLemmas.{take-prefix, Keeps-none, Keeps-then, Keeps-sees}
use Rattle.sc_bucket.specs.declared.bucket.Bucket.{Bucket}
use Rattle.sc_bucket.specs.declared.commit.CommitFault.{CommitFault}
use Rattle.sc_bucket.specs.declared.commit.CommitFault.TheVariants as faults
use Rattle.sc_bucket.specs.Events.{Commits, IsSameButRoom}
use Rattle.sc_collection.specs.Desks.{Held, IsBucketOf, SeesGiven}
use Rattle.sc_collection.proofs.PlaceLemmas.{range-push}
use Rattle.sc_collection.proofs.StopLemmas.{stop_at, stop_is, entry-later, GoesOn-held}
use Rattle.sc_collection.specs.Committing.{CommitsAll, CommitsOne, commit_outcome}

-- the entries that a commit adds: one where it is done
committed-entries : {T : Type 0} (old new : Bucket) (answer : Result T CommitFault) → OnOk answer (Commits old new) → OnErr answer (IsSameButRoom old new)
    → (more : List Entry) × (new.journal.entries ≡ old.journal.entries ++ more) × (length more ≡ cond (is_ok answer) 1 0)
committed-entries old new (Ok done) commits same = (entry.Committed ∷ [], commits.entries, refl)
committed-entries old new (Err fault) commits same = ([], same.entries ∙ sym (append-nil old.journal.entries), refl)

-- what a commit came to at its stop, by what is seen later
commit-outcome : {T : Type 0} (layout : Layout) (old new : Seen) (held : Held) (given : Bucket) (answer : Result T CommitFault)
    → IsBucketOf layout held.number held.bucket → OnOk answer (Commits held.bucket given) → OnErr answer (IsSameButRoom held.bucket given)
    → (answer ≡ Err faults.LogFull → IsFullFor 1 held.bucket.limit held.bucket.first held.bucket.journal.entries)
    → SeesGiven held given old new → (later : Seen) → SeesMore new later
    → IsCommitOutcome layout later (stop_at held.number held.bucket.journal.entries (is_ok answer)) (commit_outcome (result_err answer))
commit-outcome {T} layout old new held given answer of commits same full sees later more = by answer commits same full where
  journal : List Entry
  journal = held.bucket.journal.entries

  after : List Entry
  after = later.journals held.number

  begins : IsPrefix given.journal.entries after
  begins = subst (λ (entries : List Entry). IsPrefix entries after) sees.journal (more.journals held.number)

  by : (one : Result T CommitFault) → OnOk one (Commits held.bucket given) → OnErr one (IsSameButRoom held.bucket given)
      → (one ≡ Err faults.LogFull → IsFullFor 1 held.bucket.limit held.bucket.first journal)
      → IsCommitOutcome layout later (stop_at held.number journal (is_ok one)) (commit_outcome (result_err one))
  by (Ok done) committed stays none = (
    refl,
    entry-later given.journal.entries after (length journal) entry.Committed begins
        (ap (λ (entries : List Entry). slice_get entries (length journal)) committed.entries ∙ slice_get-append_end journal entry.Committed []),
  )
  by (Err faults.LogFull) committed stays none =
      let before : take (length journal) after ≡ journal =
      take-prefix journal after (subst (λ (entries : List Entry). IsPrefix entries after) stays.entries begins) in (
        refl,
        subst (IsFullFor 1 layout.limit layout.first) (sym before)
            (subst (λ n. IsFullFor 1 n layout.first journal) of.limit
            (subst (λ (slices : _). IsFullFor 1 held.bucket.limit slices journal) of.first (none refl))),
      )
  by (Err faults.Memory) committed stays none = refl

-- one hold in which a bucket is committed
pub commits-one : {T : Type 0} (layout : Layout) (old new : View) (held : Held) (given : Bucket) (answer : Result T CommitFault) (place : ℕ) (made : Bool) (fault : Option CommitFault)
    → held.number < layout.buckets → IsBucketOf layout held.number held.bucket → IsPrefix (old.seen.journals held.number) held.bucket.journal.entries
    → OnOk answer (Commits held.bucket given) → OnErr answer (IsSameButRoom held.bucket given)
    → (answer ≡ Err faults.LogFull → IsFullFor 1 held.bucket.limit held.bucket.first held.bucket.journal.entries)
    → SeesGiven held given old.seen new.seen → place ≡ length held.bucket.journal.entries → made ≡ is_ok answer → fault ≡ result_err answer
    → new.stops ≡ old.stops ++ record { lock = held.number; place = place; made = made } ∷ []
    → CommitsOne layout old new held.number fault
commits-one layout old new held given answer place made fault below of begins commits same full sees place_is made_is fault_is kept = record {
  stop = stop;
  lock_is = refl;
  keeps = record {
    goes = subst (λ (one : Stop). GoesOn layout old.seen new.seen (one ∷ [])) at
        (GoesOn-held layout old.seen new.seen held given (is_ok answer) added.0 below begins added.1 added.2 sees);
    kept = kept;
  };
  answered = λ later sees_more.
      subst (λ (one : Option CommitFault). IsCommitOutcome layout later stop (commit_outcome one)) (sym fault_is)
      (subst (λ (one : Stop). IsCommitOutcome layout later one (commit_outcome (result_err answer))) at
      (commit-outcome layout old.seen new.seen held given answer of commits same full sees later sees_more));
}
  where
    stop : Stop
    stop = record { lock = held.number; place = place; made = made }

    added : (entries : List Entry) × (given.journal.entries ≡ held.bucket.journal.entries ++ entries) × (length entries ≡ cond (is_ok answer) 1 0)
    added = committed-entries held.bucket given answer commits same

    at : stop_at held.number held.bucket.journal.entries (is_ok answer) ≡ stop
    at = stop_is held.number place held.bucket.journal.entries made (is_ok answer) place_is made_is

-- no bucket was committed
pub CommitsAll-none : (layout : Layout) (view : View) → CommitsAll layout 0 view view None
CommitsAll-none layout view = record {
  answers = [];
  keeps = Keeps-none layout view;
  answered = λ later more. record { locks = refl; each = All-nil (IsCommitAnswer layout later) };
  worst_is = refl;
}

-- one bucket more was
pub CommitsAll-more : (layout : Layout) (count : ℕ) (old between new : View) (before one fault : Option CommitFault)
    → CommitsAll layout count old between before → CommitsOne layout between new count one
    → commit_outcome fault ≡ worse (commit_outcome before) (commit_outcome one)
    → CommitsAll layout (count + 1) old new fault
CommitsAll-more layout count old between new before one fault far next is = record {
  answers = far.answers ++ answer ∷ [];
  keeps = subst (Keeps layout old new) (sym split)
      (Keeps-then layout old between new (commit_stops far.answers) (next.stop ∷ []) far.keeps next.keeps);
  answered = λ later sees.
      let so_far : AnswersCommits layout later count far.answers =
      far.answered later (Keeps-sees layout between new (next.stop ∷ []) next.keeps later sees) in
      record {
        locks = map-append (λ (each : CommitAnswer). each.stop.lock) far.answers (answer ∷ [])
            ∙ ap (λ (locks : List ℕ). locks ++ next.stop.lock ∷ []) so_far.locks
            ∙ ap (λ n. range_with_len 0 count ++ n ∷ []) next.lock_is ∙ sym more_locks;
        each = All-append (IsCommitAnswer layout later) far.answers (answer ∷ []) so_far.each
            (All-cons (IsCommitAnswer layout later) answer [] (next.answered later sees) (All-nil (IsCommitAnswer layout later)));
      };
  worst_is = fold-append (λ (outcome : CommitOutcome) (each : CommitAnswer). worse outcome each.outcome) committed_now far.answers (answer ∷ [])
      ∙ ap (λ (outcome : CommitOutcome). worse outcome (commit_outcome one)) far.worst_is ∙ sym is;
}
  where
    answer : CommitAnswer
    answer = record { stop = next.stop; outcome = commit_outcome one }

    split : commit_stops (far.answers ++ answer ∷ []) ≡ commit_stops far.answers ++ next.stop ∷ []
    split = map-append (λ (each : CommitAnswer). each.stop) far.answers (answer ∷ [])

    more_locks : range_with_len 0 (count + 1) ≡ range_with_len 0 count ++ count ∷ []
    more_locks =
        let next_is : count + 1 ≡ suc count = omega arith in
        let here : 0 + count ≡ count = omega arith in
        ap (range_with_len 0) next_is ∙ range-push 0 count ∙ ap (λ n. range_with_len 0 count ++ n ∷ []) here
