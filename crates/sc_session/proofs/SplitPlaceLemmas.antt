-- Where a split begins and ends in a journal.
use Rattle.std.proofs.Common.{◌≡◌, ℕ, zero, suc, ◌+◌, ◌-◌, ◌<◌, ◌≤◌, Bool, true, false, cond, List, [], ◌∷◌, ◌++◌, length, take, drop, map, find, slice_get, Some, All, refl, sym, ap, ◌∙◌, arith, append_assoc, length-append}
use Rattle.std.proofs.lemmas.List.{take-append-drop, take-append-le}
use Rattle.std.proofs.lemmas.List.Elements.{All-nil, All-cons}
use Rattle.sc_record.specs.declared.slice.SubSlice.{SubSlice}
use Rattle.sc_record.specs.declared.entry.Entry.{Entry}
use Rattle.sc_record.specs.declared.entry.Entry.TheVariants as entry
use Rattle.sc_cluster.specs.declared.plan.SplitPlan.{SplitPlan}
use Rattle.sc_journal.proofs.ListLemmas.{slice_get-append_end}
use Rattle.sc_seen.specs.Seen.{Layout, Seen}
use Rattle.sc_seen.specs.Commits.{CommitAnswer}
use Rattle.sc_seen.specs.declared.stop.Stop.{Stop}
use Rattle.sc_seen.proofs.GoesOnLemmas.{SeesMore-self}
use Rattle.sc_board.specs.Splits.{AskedSplit}
use Rattle.sc_board.specs.declared.fault.BoardFault.{BoardFault}
use Rattle.sc_board.specs.declared.fault.BoardFault.TheVariants as faults
use Rattle.sc_collection.specs.declared.commits.Commits.{Commits}
use Rattle.sc_split.specs.declared.end.SplitEnd.{SplitEnd}
use Rattle.sc_split.specs.declared.end.SplitEnd.TheVariants as ends
use Rattle.sc_split.specs.Splits.{SplitMoment, Course, refused, given_up, done, IsSwitchedIn, is_of_split, refusal, HasCause, IsAnswered, LeavesBuckets}
use Rattle.sc_session.specs.SplitLaws.{ComesBetween, SwitchesBetween, DoneSplitsSwitch}
use Rattle.sc_session.specs.SplitRefusalLaws.{is_done}

-- an element, with what comes before it, of which the test finds none, and what comes after it
abbrev pub Parts : {A : Type 0} → (A → Bool) → List A → A → Type 0
Parts {A} p xs y = (before after : List A) × (xs ≡ before ++ y ∷ after) × All (λ (x : A). p x ≡ false) before

-- what is found
pub find-parts : {A : Type 0} (p : A → Bool) (xs : List A) (y : A) → find p xs ≡ Some y → Parts p xs y
find-parts p [] y is = absurd (cc)
find-parts {A} p (x ∷ xs) y is = by (find-parts p xs y) (p x) refl is where
  by : (find p xs ≡ Some y → Parts p xs y) → (b : Bool) → p x ≡ b → cond b (Some x) (find p xs) ≡ Some y → Parts p (x ∷ xs) y
  by later true passes found = let same : x ≡ y = cc in ([], xs, ap (λ (z : A). z ∷ xs) same, All-nil (λ (z : A). p z ≡ false))
  by later false fails found =
      let rest = later found in
      (x ∷ rest.0, rest.1, ap (λ (zs : List A). x ∷ zs) rest.2, All-cons (λ (z : A). p z ≡ false) x rest.0 fails rest.3)

-- the first of two parts, and as many of the second as are left
take-over : {A : Type 0} (xs ys : List A) (n : ℕ) → length xs ≤ n → take n (xs ++ ys) ≡ xs ++ take (n - length xs) ys
take-over [] ys n over = let same : n ≡ n - 0 = omega arith in ap (λ k. take k ys) same
take-over (x ∷ xs) ys zero over = absurd (omega (arith, over))
take-over (x ∷ xs) ys (suc n) over =
    let same : n - length xs ≡ suc n - length (x ∷ xs) = omega arith in
    ap (λ zs. x ∷ zs) (take-over xs ys n (omega (arith, over)) ∙ ap (λ k. xs ++ take k ys) same)

module _ (plan : SplitPlan) (before during further : List Entry) where
  -- the entry that begins the split, and the one that switches it
  abbrev begun : Entry
  begun = entry.Begun plan.parent plan.subs

  abbrev switched : Entry
  switched = entry.Switched plan.parent

  -- all up to the switch
  abbrev head : List Entry
  head = (before ++ begun ∷ during) ++ switched ∷ []

  length-head : length head ≡ length before + length during + 2
  length-head = omega (arith, length-append (before ++ begun ∷ during) (switched ∷ []), length-append before (begun ∷ during))

  comes_between : (journal : List Entry) → journal ≡ head ++ further → All (λ (one : Entry). is_of_split one ≡ false) during
      → (from to : ℕ) → from ≤ length before → length before + length during + 1 < to → ComesBetween plan (take from journal) (take to journal)
  comes_between journal is next from to early late = record {
    earlier = drop from before;
    during = during;
    further = take (to - length head) further;
    after_is = ap (take to) is ∙ take-over head further to (omega (arith, length-head, late))
        ∙ append_assoc (before ++ begun ∷ during) (switched ∷ []) (take (to - length head) further)
        ∙ ap (λ (j : List Entry). (j ++ begun ∷ during) ++ switched ∷ take (to - length head) further) begins;
    next = next;
  }
    where
      whole : journal ≡ before ++ begun ∷ (during ++ switched ∷ further)
      whole = is ∙ append_assoc (before ++ begun ∷ during) (switched ∷ []) further
          ∙ append_assoc before (begun ∷ during) (switched ∷ further)

      begins : before ≡ take from journal ++ drop from before
      begins = sym (take-append-drop from before)
          ∙ ap (λ (j : List Entry). j ++ drop from before)
          (sym (ap (take from) whole ∙ take-append-le from before (begun ∷ (during ++ switched ∷ further)) early))

  -- so the split comes in the journal, and in what goes on from it
  begins_at : (journal : List Entry) → journal ≡ head ++ further → slice_get journal (length before) ≡ Some begun
  begins_at journal is =
      ap (λ (j : List Entry). slice_get j (length before))
      (is ∙ append_assoc (before ++ begun ∷ during) (switched ∷ []) further ∙ append_assoc before (begun ∷ during) (switched ∷ further))
      ∙ slice_get-append_end before begun (during ++ switched ∷ further)

  ends_at : (journal : List Entry) → journal ≡ head ++ further → slice_get journal (length before + length during + 1) ≡ Some switched
  ends_at journal is =
      let counted : length before + length during + 1 ≡ length (before ++ begun ∷ during) =
      omega (arith, length-append before (begun ∷ during)) in
      ap (slice_get journal) counted
      ∙ ap (λ (j : List Entry). slice_get j (length (before ++ begun ∷ during))) (is ∙ append_assoc (before ++ begun ∷ during) (switched ∷ []) further)
      ∙ slice_get-append_end (before ++ begun ∷ during) switched further

-- a split that is switched in a journal comes so in it, and in all that goes on from it
switches : (plan : SplitPlan) (seen journal : List Entry) → IsSwitchedIn plan (length seen) journal → SwitchesBetween plan seen journal
switches plan seen journal (place, rest, begins, grown, found) =
    let parts = find-parts is_of_split rest (entry.Switched plan.parent) found in
    let first : List Entry = begins.before ++ entry.Begun plan.parent plan.subs ∷ parts.0 in
    let grouped : journal ≡ (first ++ entry.Switched plan.parent ∷ []) ++ parts.1 =
    begins.journal_is ∙ ap (λ (j : List Entry). begins.before ++ entry.Begun plan.parent plan.subs ∷ j) parts.2
    ∙ sym (append_assoc begins.before (entry.Begun plan.parent plan.subs ∷ parts.0) (entry.Switched plan.parent ∷ parts.1))
    ∙ sym (append_assoc first (entry.Switched plan.parent ∷ []) parts.1) in
    let at : length begins.before ≡ place = begins.place_is in
    record {
      begun = length begins.before;
      switched = length begins.before + length parts.0 + 1;
      not_seen = omega (arith, at, grown);
      begins = begins_at plan begins.before parts.0 parts.1 journal grouped;
      ends = ends_at plan begins.before parts.0 parts.1 journal grouped;
      between = λ later more. comes_between plan begins.before parts.0 (parts.1 ++ more.0) later
          (sym more.1 ∙ ap (λ (j : List Entry). j ++ more.0) grouped ∙ append_assoc (first ++ entry.Switched plan.parent ∷ []) parts.1 more.0) parts.3;
    }

-- no refusal says that a split was done
refused_is_not_done : (fault : BoardFault) → is_done (refusal fault) ≡ false
refused_is_not_done faults.UnknownShard = refl
refused_is_not_done (faults.Running shard) = refl
refused_is_not_done (faults.NotActive state) = refl
refused_is_not_done faults.RangeTooSmall = refl
refused_is_not_done faults.BadRanges = refl
refused_is_not_done faults.TooManySlices = refl
refused_is_not_done faults.LogFull = refl
refused_is_not_done faults.Memory = refl

-- a split that did not begin was not done
pub not_done_unbegun : (layout : Layout) (seen : Seen) (asked : AskedSplit) (first : Stop) (end : SplitEnd) → IsAnswered layout seen asked first refused end
    → is_done end ≡ false
not_done_unbegun layout seen asked first end answered = ap is_done answered.end_is ∙ refused_is_not_done answered.fault

-- how a split went that was done
record WentDone (layout : Layout) (old new : Seen) (subs : List (List ℕ)) (course : Course) : Type 0 where
  plan : SplitPlan
  answers : List CommitAnswer
  course_is : course ≡ done plan answers
  subs_are : subs ≡ map (λ (sub : SubSlice). sub.name) plan.subs
  buckets : LeavesBuckets layout.buckets (done plan answers) old new

went_done : (layout : Layout) (asked : AskedSplit) (old new : SplitMoment) (subs : List (List ℕ)) (commits : Commits) (first : Stop) (course : Course)
    → IsAnswered layout new.view.seen asked first course (ends.Done subs commits) → HasCause layout course old new (ends.Done subs commits)
    → LeavesBuckets layout.buckets course old.view.seen new.view.seen → WentDone layout old.view.seen new.view.seen subs course
went_done layout asked old new subs commits first refused answered cause buckets =
    let none : true ≡ false = not_done_unbegun layout new.view.seen asked first (ends.Done subs commits) answered in absurd (cc)
went_done layout asked old new subs commits first (given_up plan recovered started) answered cause buckets = absurd cause
went_done layout asked old new subs commits first (done plan answers) answered cause buckets = record {
  plan = plan;
  answers = answers;
  course_is = refl;
  subs_are = names answered.2;
  buckets = buckets;
}
  where
    names : {others : List (List ℕ)} {commits other : Commits} → ends.Done subs commits ≡ ends.Done others other → subs ≡ others
    names same = cc

pub done_splits_switch : DoneSplitsSwitch
done_splits_switch layout asked old new subs commits split =
    let went = went_done layout asked old new subs commits split.first split.course
    (split.answered new.view.seen (SeesMore-self new.view.seen)) split.cause split.buckets in (
      went.plan,
      went.answers,
      went.course_is,
      went.subs_are,
      λ lock is_bucket. switches went.plan (old.view.seen.journals lock) (new.view.seen.journals lock) (went.buckets lock is_bucket),
    )
