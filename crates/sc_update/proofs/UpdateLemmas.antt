-- What an update came to: its orders, and the commits after them.
use Rattle.std.proofs.Common.{◌≡◌, ℕ, ◌-◌, Bool, true, false, List, [], ◌∷◌, ◌++◌, length, Option, Some, None, refl, sym, ap, ◌∙◌, subst}
use Rattle.std.specs.Prelude.{All, filter_map, is_some}
use Rattle.std.specs.Option.{option_and_then}
use Rattle.std.specs.List.{cons_option}
use Rattle.std.proofs.lemmas.List.{append-nil}
use Rattle.std.proofs.lemmas.List.Elements.{All-head, All-tail, filter_map-append}
use Rattle.sc_record.specs.declared.ack.Ack.{Ack}
use Rattle.sc_commands.specs.declared.batch.Batch.{Batch}
use Rattle.sc_journal.specs.Journal.{as_write}
use Rattle.sc_journal.specs.Outcomes.{Outcome, accepted, conflict, partial, log_full, out_of_memory}
use Rattle.sc_seen.specs.Seen.{Layout, Seen, SeesMore}
use Rattle.sc_seen.specs.Moments.{View, Keeps}
use Rattle.sc_seen.specs.Batches.{OrderAnswer, AnswersOrders, WritesOnce, ack_made, goes_on, order_stops}
use Rattle.sc_seen.specs.Commits.{CommitOutcome, committed_now, commit_full, commit_out_of_memory, CommitAnswer, IsCommitOutcome, IsCommitAnswer, commit_stops, worst}
use Rattle.sc_seen.specs.declared.stop.Stop.{Stop}
use Rattle.sc_seen.proofs.GoesOnLemmas.{SeesMore-self, Keeps-then, Keeps-sees}
use Rattle.sc_bucket.specs.declared.commit.CommitFault.{CommitFault}
use Rattle.sc_update.specs.declared.end.BatchEnd.{BatchEnd}
use Rattle.sc_update.specs.declared.end.BatchFault.{BatchFault}
use Rattle.sc_update.specs.Updated.{UpdateMoment, UpdateEnd, finished, refused, ran_out, OrdersEnd, CommitsAsked, CommitsEnd, order_fault, commit_fault, reported, Shows, IsUpdated}
use Rattle.sc_collection.specs.Committing.{CommitsAll, commit_outcome}
use Rattle.sc_update.specs.Steps.{AnswersAll}
use Rattle.sc_update.proofs.OnceLemmas.{orders_once, unmade, no_write_made}

-- the stop of a commit made no write
commit_unmade : (layout : Layout) (seen : Seen) (stop : Stop) (outcome : CommitOutcome) → IsCommitOutcome layout seen stop outcome
    → ack_made layout seen stop ≡ None
commit_unmade layout seen stop committed_now is =
    no_write_made layout seen stop stop.made refl (λ made. ap (option_and_then as_write) is.1)
commit_unmade layout seen stop commit_full is = unmade layout seen stop is.0
commit_unmade layout seen stop commit_out_of_memory is = unmade layout seen stop is

-- nor did those of any commits
pub commits_unmade : (layout : Layout) (seen : Seen) (answers : List CommitAnswer) → All (IsCommitAnswer layout seen) answers
    → filter_map (ack_made layout seen) (commit_stops answers) ≡ []
commits_unmade layout seen [] each = refl
commits_unmade layout seen (answer ∷ answers) each =
    ap (λ (ack : Option Ack). cons_option ack (filter_map (ack_made layout seen) (commit_stops answers)))
    (commit_unmade layout seen answer.stop answer.outcome (All-head (IsCommitAnswer layout seen) answer answers each))
    ∙ commits_unmade layout seen answers (All-tail (IsCommitAnswer layout seen) answer answers each)

-- so the writes that an update made are those of its orders
once_committed : (layout : Layout) (seen : Seen) (stops : List Stop) (answers : List OrderAnswer) (commits : List CommitAnswer)
    → WritesOnce layout seen stops answers → All (IsCommitAnswer layout seen) commits → WritesOnce layout seen (stops ++ commit_stops commits) answers
once_committed layout seen stops answers commits once each =
    filter_map-append (ack_made layout seen) stops (commit_stops commits)
    ∙ ap (λ (acks : List Ack). filter_map (ack_made layout seen) stops ++ acks) (commits_unmade layout seen commits each)
    ∙ append-nil (filter_map (ack_made layout seen) stops) ∙ once

-- what is shown is told by the two lists alone
shows_same : (versions : Bool) (answers : List OrderAnswer) (old new : BatchEnd) → new.adds ≡ old.adds → new.deletes ≡ old.deletes
    → Shows versions answers old → Shows versions answers new
shows_same true answers old new adds deleted shows = (adds ∙ shows.0, deleted ∙ shows.1)
shows_same false answers old new adds deleted shows = (adds ∙ shows.0, deleted ∙ shows.1)

-- there was no fault
pub no_fault : (fault : Option BatchFault) → is_some fault ≡ false → fault ≡ None
no_fault None none = refl
no_fault (Some one) none = absurd (cc)

-- orders don't end at an order of which no fault is reported
goes_on_without : (fail : Bool) (place : ℕ) (outcome : Outcome) → order_fault place outcome ≡ None → goes_on fail outcome ≡ true
goes_on_without fail place (accepted version) none = refl
goes_on_without fail place (conflict version) none = absurd (cc)
goes_on_without fail place (partial name) none = absurd (cc)
goes_on_without fail place log_full none = absurd (cc)
goes_on_without fail place out_of_memory none = absurd (cc)

-- orders of which no fault is reported went on to their end
went_on : (batch : Batch) (answers : List OrderAnswer) (how : UpdateEnd) → OrdersEnd batch answers how → reported answers how ≡ None
    → OrdersEnd batch answers (finished committed_now)
went_on batch answers (finished outcome) ends none = ends
went_on batch answers (refused last) ends none =
    absurd (let both : true ≡ false = sym (goes_on_without batch.flags.fail_on_conflict (length answers - 1) last.outcome none) ∙ ends.1 in cc)
went_on batch answers ran_out ends none = absurd (cc)

-- no commits are those of an update that committed nothing
none_committed : (layout : Layout) (seen : Seen) (batch : Batch) (answers : List OrderAnswer) (how : UpdateEnd) (end : BatchEnd)
    → ((outcome : CommitOutcome) → how ≡ finished outcome → outcome ≡ committed_now) → end.fault ≡ reported answers how
    → (end.fault ≡ None → batch.flags.commit ≡ false) → CommitsEnd layout seen batch [] how
none_committed layout seen batch answers (finished outcome) end uncommitted fault idle =
    let none : end.fault ≡ None = fault ∙ ap commit_fault (uncommitted outcome refl) in
    (subst (λ (asked : Bool). CommitsAsked layout seen asked []) (sym (idle none)) refl, uncommitted outcome refl)
none_committed layout seen batch answers (refused last) end uncommitted fault idle = refl
none_committed layout seen batch answers ran_out end uncommitted fault idle = refl

-- an update without commits
pub updated-idle : {C : Type 0} (gives : C → ℕ → C → Type 0) (layout : Layout) (batch : Batch) (old new : UpdateMoment C) (end : BatchEnd)
    → AnswersAll gives layout batch old new end → (end.fault ≡ None → batch.flags.commit ≡ false)
    → IsUpdated gives layout batch old new end
updated-idle gives layout batch old new end all idle = record {
  answers = answers;
  commits = [];
  how = all.how;
  keeps = subst (Keeps layout old.moment.view new.moment.view) same all.answered.keeps;
  timestamps = all.answered.timestamps;
  answered = all.answered.answered;
  ends = λ later more. (all.ends, none_committed layout later batch answers all.how end all.uncommitted all.reports.fault idle);
  once = λ later more. subst (λ (stops : List Stop). WritesOnce layout later stops answers) same
      (orders_once layout later answers (all.answered.answered later more).each all.answered.located);
  notes = all.answered.notes new.moment.view.seen (SeesMore-self new.moment.view.seen);
  unasked = all.answered.unasked;
  reports = all.reports;
}
  where
    answers : List OrderAnswer
    answers = all.answers

    same : order_stops answers ≡ order_stops answers ++ []
    same = sym (append-nil (order_stops answers))

-- an update whose orders went on to the end, and whose buckets were committed then
pub updated-committed : {C : Type 0} (gives : C → ℕ → C → Type 0) (layout : Layout) (batch : Batch) (old between : UpdateMoment C) (new : View) (before end : BatchEnd) (fault : Option CommitFault)
    → AnswersAll gives layout batch old between before → before.fault ≡ None → batch.flags.commit ≡ true
    → CommitsAll layout layout.buckets between.moment.view new fault
    → end.adds ≡ before.adds → end.deletes ≡ before.deletes → end.fault ≡ commit_fault (commit_outcome fault)
    → IsUpdated gives layout batch old (record { moment = record { view = new; clock = between.moment.clock }; reach = between.reach }) end
updated-committed gives layout batch old between new before end fault all none asked far adds deleted told = record {
  answers = answers;
  commits = commits;
  how = finished (worst commits);
  keeps = Keeps-then layout old.moment.view between.moment.view new (order_stops answers) (commit_stops commits) all.answered.keeps far.keeps;
  timestamps = all.answered.timestamps;
  answered = answered;
  ends = λ later more. (
    went_on batch answers all.how all.ends (sym all.reports.fault ∙ none),
    (subst (λ (one : Bool). CommitsAsked layout later one commits) (sym asked) (far.answered later more), refl),
  );
  once = λ later more. once_committed layout later (order_stops answers) answers commits
      (orders_once layout later answers (answered later more).each all.answered.located) (far.answered later more).each;
  notes = all.answered.notes new.seen (Keeps-sees layout between.moment.view new (commit_stops commits) far.keeps new.seen (SeesMore-self new.seen));
  unasked = all.answered.unasked;
  reports = record {
    fault = told ∙ ap commit_fault (sym far.worst_is);
    shown = shows_same batch.flags.versions answers before end adds deleted all.reports.shown;
  };
}
  where
    answers : List OrderAnswer
    answers = all.answers

    commits : List CommitAnswer
    commits = far.answers

    answered : (later : Seen) → SeesMore new.seen later → AnswersOrders layout later batch.flags.fail_on_conflict batch.orders answers
    answered later more = all.answered.answered later (Keeps-sees layout between.moment.view new (commit_stops commits) far.keeps later more)
