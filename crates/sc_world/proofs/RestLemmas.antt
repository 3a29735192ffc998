-- The events that make the entries which a bucket owes, one after another, bring it to rest.
use Rattle.std.proofs.Common.{◌≡◌, inl, inr, ℕ, zero, suc, ◌+◌, ◌≤◌, true, List, [], ◌∷◌, ◌++◌, length, None, All, Contains, refl, sym, ap, ◌∙◌, subst, arith, length-append}
use Rattle.std.specs.Prelude.{IsSome}
use Rattle.std.proofs.lemmas.Bool.{false≢true}
use Rattle.std.proofs.lemmas.List.Elements.{All-nil, All-cons, All-contains, Contains-append_right}
use Rattle.std.proofs.lemmas.Option.{none-some, same_Some}
use Rattle.sc_record.specs.declared.slice.SliceId.{SliceId}
use Rattle.sc_record.specs.Writes.{Write}
use Rattle.sc_record.specs.declared.entry.Entry.{Entry}
use Rattle.sc_record.specs.declared.entry.Entry.TheVariants as entry
use Rattle.sc_cluster.specs.declared.slice.Slice.{Slice}
use Rattle.sc_cluster.specs.Changes.{Change, after, IsInactive}
use Rattle.sc_journal.specs.Journal.{write_at, is_settled}
use Rattle.sc_journal.specs.Splits.{map_after, open_split, owed}
use Rattle.sc_journal.specs.Legal.{MayFollow, IsLegal}
use Rattle.sc_journal.specs.Laws.{IsJournalAtRest}
use Rattle.sc_journal.proofs.LegalLemmas.{IsLegal-push}
use Rattle.sc_journal.proofs.RestLemmas.{owed_to_rest, owed_is, OwesLess, owes_less, owes_nothing_at_rest}
use Rattle.sc_journal.proofs.SplitLemmas.{map_after-push, map_after-left, open_split-push, open_split-left, LeavesSlices-settled}
use Rattle.sc_bucket.specs.Sound.{IsInPhase, IsSound}
use Rattle.sc_bucket.specs.declared.bucket.Bucket.{Bucket}
use Rattle.sc_bucket.specs.declared.phase.Phase.{Phase}
use Rattle.sc_bucket.specs.declared.phase.Phase.TheVariants as phases
use Rattle.sc_handover.specs.Conditions.{split_of}
use Rattle.sc_world.specs.declared.event.Event.{Event}
use Rattle.sc_world.specs.declared.event.Event.TheVariants as events
use Rattle.sc_world.specs.Steps.{Can, IsDone, IsRefused, FindsNoMemory}
use Rattle.sc_world.specs.Runs.{IsPassed, Runs, EventsRunOut}
use Rattle.sc_world.specs.Rests.{is_closing, BucketsComeToRest}

-- the bucket has this journal, from this first map on, and its map and its phase are those after it
record HasHistory (first : List Slice) (journal : List Entry) (b : Bucket) : Type 0 where
  pub first_is : b.first ≡ first
  pub entries : b.journal.entries ≡ journal
  pub map_is : b.map ≡ map_after first journal
  pub split : split_of b.phase ≡ open_split journal

-- a sound one has
sound_history : (b : Bucket) → IsSound b → HasHistory b.first b.journal.entries b
sound_history b sound = record {
  first_is = refl;
  entries = refl;
  map_is = sound.journal.map_is;
  split = by b.phase sound.phase;
} where
  by : (phase : Phase) → IsInPhase b phase → split_of phase ≡ open_split b.journal.entries
  by phases.Idle is = sym is.idle
  by (phases.Building parent) is = sym is.begun
  by (phases.Recovering parent) is = sym is.0.begun

-- The event makes the entry: it may come to a bucket with this history, it is done then, and the journal gets the entry.
record MakesEntry (first : List Slice) (journal : List Entry) (one : Entry) (event : Event) : Type 0 where
  pub close : is_closing event ≡ true
  pub can : (b : Bucket) → HasHistory first journal b → Can b event
  pub done : (old : Bucket) (added : List Write) (new : Bucket) → HasHistory first journal old → IsDone old event added new
      → HasHistory first (journal ++ one ∷ []) new

-- one that settles a write
makes_settled : (first : List Slice) (journal : List Entry) (place : ℕ) → MayFollow first journal (entry.Settled place)
    → MakesEntry first journal (entry.Settled place) (events.Settle place)
makes_settled first journal place may = record {
  close = refl;
  can = λ b has. (
    subst (λ entries. IsSome (write_at entries place)) (sym has.entries) may.written,
    ap (λ entries. is_settled entries place) has.entries ∙ may.once,
  );
  done = λ old added new has is. record {
    first_is = is.1.name.first ∙ has.first_is;
    entries = is.1.entries ∙ ap (λ entries. entries ++ entry.Settled place ∷ []) has.entries;
    map_is = is.1.map_is ∙ has.map_is ∙ sym (map_after-left first journal (entry.Settled place) (LeavesSlices-settled place));
    split =
        ap split_of is.1.split.phase ∙ has.split
        ∙ sym (open_split-left journal (entry.Settled place) (LeavesSlices-settled place));
  };
}

-- one that gives a split up
makes_failed : (first : List Slice) (journal : List Entry) (parent : SliceId) → MayFollow first journal (entry.Failed parent)
    → MakesEntry first journal (entry.Failed parent) events.Abort
makes_failed first journal parent may = record {
  close = refl;
  can = λ b has. (parent, has.split ∙ may);
  done = by;
} where
  by : (old : Bucket) (added : List Write) (new : Bucket) → HasHistory first journal old → IsDone old events.Abort added new
      → HasHistory first (journal ++ entry.Failed parent ∷ []) new
  by old added new has (none, (other, opened, is)) =
      let same : other ≡ parent = same_Some other parent (sym opened ∙ has.split ∙ may) in
      record {
        first_is = is.name.first ∙ has.first_is;
        entries =
            is.entries ∙ ap (λ (id : SliceId). old.journal.entries ++ entry.Failed id ∷ []) same
            ∙ ap (λ entries. entries ++ entry.Failed parent ∷ []) has.entries;
        map_is =
            is.map_is ∙ ap (λ slices. after slices (Change.Failed other)) has.map_is
            ∙ sym (map_after-push first journal (entry.Failed parent) (Change.Failed parent) refl);
        split = ap split_of is.phase_is ∙ sym (open_split-push journal (entry.Failed parent));
      }

-- one that drops a slice
makes_dropped : (first : List Slice) (journal : List Entry) (slice : SliceId) → MayFollow first journal (entry.Dropped slice)
    → MakesEntry first journal (entry.Dropped slice) (events.Drop slice)
makes_dropped first journal slice may = record {
  close = refl;
  can = λ b has.
      (idle b.phase (has.split ∙ may.idle), subst (λ slices. IsInactive slices slice) (sym has.map_is) may.inactive);
  done = λ old added new has is. record {
    first_is = is.1.name.first ∙ has.first_is;
    entries = is.1.entries ∙ ap (λ entries. entries ++ entry.Dropped slice ∷ []) has.entries;
    map_is =
        is.1.map_is ∙ ap (λ slices. after slices (Change.Dropped slice)) has.map_is
        ∙ sym (map_after-push first journal (entry.Dropped slice) (Change.Dropped slice) refl);
    split = ap split_of is.1.phase_is ∙ has.split ∙ sym (open_split-push journal (entry.Dropped slice));
  };
} where
  idle : (phase : Phase) → split_of phase ≡ None → phase ≡ phases.Idle
  idle phases.Idle none = refl
  idle (phases.Building parent) none = absurd (none-some parent (sym none))
  idle (phases.Recovering parent) none = absurd (none-some parent (sym none))

-- each entry that is owed is made by an event
makes_owed : (first : List Slice) (journal : List Entry) (one : Entry) → OwesLess first journal one
    → (event : Event) × MakesEntry first journal one event
makes_owed first journal (entry.Settled place) owes = (events.Settle place, makes_settled first journal place owes.may)
makes_owed first journal (entry.Failed parent) owes = (events.Abort, makes_failed first journal parent owes.may)
makes_owed first journal (entry.Dropped slice) owes = (events.Drop slice, makes_dropped first journal slice owes.may)
makes_owed first journal (entry.Write cell) owes = absurd (false≢true owes.closing)
makes_owed first journal entry.Committed owes = absurd (false≢true owes.closing)
makes_owed first journal (entry.Begun parent subs) owes = absurd (false≢true owes.closing)
makes_owed first journal (entry.Switched parent) owes = absurd (false≢true owes.closing)
makes_owed first journal (entry.Down core) owes = absurd (false≢true owes.closing)
makes_owed first journal (entry.Up core) owes = absurd (false≢true owes.closing)
makes_owed first journal (entry.Led core) owes = absurd (false≢true owes.closing)

-- such an event is not refused
never_refused : (old : Bucket) (event : Event) (new : Bucket) → is_closing event ≡ true → IsRefused old event new → ⊥
never_refused old (events.Settle place) new close refused = refused
never_refused old events.Abort new close refused = refused
never_refused old (events.Drop slice) new close refused = refused
never_refused old (events.Accept order now) new close refused = false≢true close
never_refused old (events.DeliverNth k) new close refused = refused
never_refused old (events.Deliver place) new close refused = refused
never_refused old events.Commit new close refused = false≢true close
never_refused old (events.Detach core) new close refused = refused
never_refused old (events.Rejoin core) new close refused = false≢true close
never_refused old (events.Lead core) new close refused = refused
never_refused old (events.Begin plan) new close refused = false≢true close
never_refused old (events.Feed core) new close refused = refused
never_refused old (events.StartReplay core) new close refused = refused
never_refused old (events.Replay core) new close refused = refused
never_refused old events.Ready new close refused = refused
never_refused old (events.Grow core) new close refused = refused
never_refused old events.Switch new close refused = refused

-- nor does memory run out at it
never_out : (old : Bucket) (event : Event) (new : Bucket) → is_closing event ≡ true → FindsNoMemory old event new → ⊥
never_out old (events.Settle place) new close out = out
never_out old events.Abort new close out = out
never_out old (events.Drop slice) new close out = out
never_out old (events.Accept order now) new close out = false≢true close
never_out old (events.DeliverNth k) new close out = out
never_out old (events.Deliver place) new close out = out
never_out old events.Commit new close out = false≢true close
never_out old (events.Detach core) new close out = out
never_out old (events.Rejoin core) new close out = false≢true close
never_out old (events.Lead core) new close out = out
never_out old (events.Begin plan) new close out = false≢true close
never_out old (events.Feed core) new close out = out
never_out old (events.StartReplay core) new close out = out
never_out old (events.Replay core) new close out = out
never_out old events.Ready new close out = out
never_out old (events.Grow core) new close out = false≢true close
never_out old events.Switch new close out = out

-- so a list of them doesn't run out of memory
never_runs_out : (old : Bucket) (closing : List Event) (added : List Write) (new : Bucket)
    → All (λ (event : Event). is_closing event ≡ true) closing → ¬ EventsRunOut old closing added new
never_runs_out old closing added new close out =
    let here : Contains (out.before ++ out.event ∷ out.after) out.event =
    Contains-append_right out.before (out.event ∷ out.after) out.event (0, omega arith, refl) in
    let there : Contains closing out.event = subst (λ (these : List Event). Contains these out.event) (sym out.parts) here in
    never_out out.between out.event new (All-contains (λ (event : Event). is_closing event ≡ true) closing out.event close there) out.out

-- where the event comes the journal gets the entry
passed_makes : (first : List Slice) (journal : List Entry) (one : Entry) (event : Event) → MakesEntry first journal one event
    → (old : Bucket) (added : List Write) (new : Bucket) → HasHistory first journal old → IsPassed old event added new
    → HasHistory first (journal ++ one ∷ []) new
passed_makes first journal one event makes old added new has (inl (cannot, none, same)) = absurd (cannot (makes.can old has))
passed_makes first journal one event makes old added new has (inr (can, inl done)) = makes.done old added new has done
passed_makes first journal one event makes old added new has (inr (can, inr (none, refused))) =
    absurd (never_refused old event new makes.close refused)

-- a bucket with this history has these entries more, after which its journal is at rest
record IsRested (first : List Slice) (journal : List Entry) (count : ℕ) (new : Bucket) : Type 0 where
  pub first_is : new.first ≡ first
  pub longer : length new.journal.entries ≡ length journal + count
  pub at_rest : IsJournalAtRest first new.journal.entries

-- these events bring each bucket with this history to rest
record Closing (first : List Slice) (journal : List Entry) (closing : List Event) : Type 0 where
  pub close : All (λ (event : Event). is_closing event ≡ true) closing
  pub few : length closing ≤ owed_to_rest first journal
  pub rested : (old : Bucket) (added : List Write) (new : Bucket) → HasHistory first journal old → Runs old closing added new
      → IsRested first journal (length closing) new

-- none where nothing is left to be done
none_closing : (first : List Slice) (journal : List Entry) → owed_to_rest first journal ≡ 0 → Closing first journal []
none_closing first journal nothing = record {
  close = All-nil (λ (event : Event). is_closing event ≡ true);
  few = omega arith;
  rested = λ old added new has runs.
      let same : new.journal.entries ≡ journal = ap (λ (b : Bucket). b.journal.entries) runs.1 ∙ has.entries in
      record {
        first_is = ap (λ (b : Bucket). b.first) runs.1 ∙ has.first_is;
        longer = let alike = ap length same in omega (arith, alike);
        at_rest = subst (IsJournalAtRest first) (sym same) ((owes_nothing_at_rest first journal).0 (omega (arith, nothing, owed_is first journal)));
      };
}

-- one, and those that the rest wants
more_closing : (first : List Slice) (journal : List Entry) (one : Entry) (event : Event) (closing : List Event)
    → OwesLess first journal one → MakesEntry first journal one event → Closing first (journal ++ one ∷ []) closing
    → Closing first journal (event ∷ closing)
more_closing first journal one event closing owes makes rest = record {
  close = All-cons (λ (e : Event). is_closing e ≡ true) event closing makes.close rest.close;
  few = let less = owes.less in let few = rest.few in omega (arith, less, few);
  rested = λ old added new has runs.
      let (between, start, later, passed, runs_on, is) = runs in
      let done = rest.rested between later new (passed_makes first journal one event makes old start between has passed) runs_on in
      let longer = done.longer in
      record {
        first_is = done.first_is;
        longer = omega (arith, longer, length-append journal (one ∷ []));
        at_rest = done.at_rest;
      };
}

-- So there are events that bring it to rest.
closing_from : (n : ℕ) (first : List Slice) (journal : List Entry) → owed_to_rest first journal ≤ n → IsLegal first journal
    → (closing : List Event) × Closing first journal closing
closing_from zero first journal most legal = ([], none_closing first journal (omega (arith, most)))
closing_from (suc n) first journal most legal = by (closing_from n first) (owed_to_rest first journal) refl where
  by : ((longer : List Entry) → owed_to_rest first longer ≤ n → IsLegal first longer → (closing : List Event) × Closing first longer closing)
      → (m : ℕ) → owed_to_rest first journal ≡ m → (closing : List Event) × Closing first journal closing
  by later zero is = ([], none_closing first journal is)
  by later (suc m) is =
      let (one, owes) = owes_less first journal (omega (arith, is)) in
      let (event, makes) = makes_owed first journal one owes in
      let less = owes.less in
      let (closing, rest) =
      later (journal ++ one ∷ []) (omega (arith, less, most)) (IsLegal-push first journal one legal owes.may) in
      (event ∷ closing, more_closing first journal one event closing owes makes rest)

pub buckets_come_to_rest : BucketsComeToRest
buckets_come_to_rest old sound =
    let (closing, all) = closing_from (owed_to_rest old.first old.journal.entries) old.first old.journal.entries (omega arith) sound.journal.legal in
    let has = sound_history old sound in
    let few : length closing ≤ owed old.first old.journal.entries =
    let least = all.few in omega (arith, least, owed_is old.first old.journal.entries) in (
      closing,
      record {
        close = all.close;
        few = few;
        in_memory = λ added new. never_runs_out old closing added new all.close;
        within = λ added new runs.
            let longer = (all.rested old added new has runs).longer in
            let within = sound.journal.within in
            let owes = sound.journal.owed_is in
            omega (arith, longer, few, within, owes);
        at_rest = λ added new runs.
            let done = all.rested old added new has runs in
            subst (λ first. IsJournalAtRest first new.journal.entries) (sym done.first_is) done.at_rest;
      },
    )
