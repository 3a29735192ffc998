-- What a split that was refused leaves of the board, of the slices, and of what gets and searches answer.
use Rattle.std.proofs.Common.{◌≡◌, ℕ, ◌<◌, ◌≤◌, inl, inr, Bool, true, false, List, [], ◌∷◌, ◌++◌, length, take, Option, Some, None, All, refl, sym, ap, ◌∙◌, subst, arith, append_assoc, length-append}
use Rattle.std.specs.List.{filter, filter_map}
use Rattle.std.proofs.lemmas.List.{append-nil, take_all, take_at}
use Rattle.std.proofs.lemmas.List.Elements.{All-head, All-tail}
use mathlib.Core.List.{IsPrefix}
use Rattle.sc_hash.specs.declared.range.Range.{Range}
use Rattle.sc_record.specs.Writes.{is_of, Write}
use Rattle.sc_record.specs.declared.slice.SliceId.{SliceId}
use Rattle.sc_record.specs.declared.entry.Entry.{Entry}
use Rattle.sc_record.specs.declared.entry.Entry.TheVariants as entry
use Rattle.sc_admin.specs.Status.{status_text}
use Rattle.sc_cluster.specs.declared.plan.SplitPlan.{SplitPlan}
use Rattle.sc_cluster.specs.declared.slice.Slice.{Slice}
use Rattle.sc_cluster.specs.Changes.{Change}
use Rattle.sc_cluster.specs.Plans.{IsPlan}
use Rattle.sc_cluster.specs.Histories.{after_all}
use Rattle.sc_cluster.proofs.UndoLemmas.{undoes_a_failed_split}
use Rattle.sc_eval.specs.Criteria.{Criterion}
use Rattle.sc_journal.specs.Journal.{as_write, writes, last_of}
use Rattle.sc_journal.specs.Committed.{commits, committed}
use Rattle.sc_journal.specs.Legal.{MayBeSplit, MayFollow, IsLegal}
use Rattle.sc_journal.specs.Splits.{map_change_of, map_after, split_after, open_split}
use Rattle.sc_journal.proofs.ListLemmas.{append-cons}
use Rattle.sc_journal.proofs.JournalLemmas.{writes-append}
use Rattle.sc_journal.proofs.CommittedLemmas.{committed-push_other, committed-push_commit}
use Rattle.sc_journal.proofs.LegalLemmas.{IsLegal-prefix}
use Rattle.sc_journal.proofs.SplitLemmas.{map_after-append, open_split-push}
use Rattle.sc_seen.specs.Board.{board_map}
use Rattle.sc_seen.specs.Seen.{Layout, Seen, AreLegal}
use Rattle.sc_seen.specs.declared.board.BoardEntry.{BoardEntry}
use Rattle.sc_seen.specs.declared.board.BoardEntry.TheVariants as board
use Rattle.sc_seen.specs.declared.stop.Stop.{Stop}
use Rattle.sc_seen.proofs.BoardLemmas.{board_map-append, failed_leaves_the_map}
use Rattle.sc_seen.proofs.GoesOnLemmas.{SeesMore-self}
use Rattle.sc_board.specs.Splits.{AskedSplit}
use Rattle.sc_fanout.specs.Searches.{IsFoundIn, IsInRoute}
use Rattle.sc_split.specs.declared.end.SplitEnd.{SplitEnd}
use Rattle.sc_split.specs.Splits.{Course, refused, given_up, done, noted_by, BeginsAt, IsFailedIfBegun, is_of_split, IsAnswered, LeavesBuckets, LeavesBoard}
use Rattle.sc_session.specs.Answers.{status_reply}
use Rattle.sc_session.specs.SplitLaws.{Journals, seen_in_journals, FindsOver}
use Rattle.sc_session.specs.SplitRefusalLaws.{is_done, IsGivenUpIn, IsWithout, FailsWhereBegun, GoesOnWithout, IsAsIfNotAsked, at_end_of_board, AreAnsweredAlike, RefusedSplitsLeaveNothing}
use Rattle.sc_session.proofs.SplitJournalLemmas.{writes-without, shown_alike}
use Rattle.sc_session.proofs.SplitPlaceLemmas.{Parts, find-parts}
use Rattle.sc_session.proofs.SplitOrderLemmas.{orders_alike}
use Rattle.sc_session.proofs.SplitSearchLemmas.{found_in, found_over, shows_alike}

-- ---- journals with the same writes, of which the same were committed
record AreAlike (one other : List Entry) : Type 0 where
  writes_are : writes one ≡ writes other
  committed_are : writes (committed one) ≡ writes (committed other)

-- so they are with one entry more
alike-push : (one other : List Entry) (more : Entry) → AreAlike one other → AreAlike (one ++ more ∷ []) (other ++ more ∷ [])
alike-push one other more alike = record {
  writes_are = writes-append one (more ∷ []) ∙ ap (λ (ws : List Write). ws ++ writes (more ∷ [])) alike.writes_are
      ∙ sym (writes-append other (more ∷ []));
  committed_are = by (commits more) refl;
}
  where
    by : (b : Bool) → commits more ≡ b → writes (committed (one ++ more ∷ [])) ≡ writes (committed (other ++ more ∷ []))
    by true is = ap writes (committed-push_commit one more is) ∙ alike.writes_are ∙ sym (ap writes (committed-push_commit other more is))
    by false is = ap writes (committed-push_other one more is) ∙ alike.committed_are ∙ sym (ap writes (committed-push_other other more is))

-- and with several
alike-append : (one other more : List Entry) → AreAlike one other → AreAlike (one ++ more) (other ++ more)
alike-append one other [] alike =
    subst (AreAlike (one ++ [])) (sym (append-nil other)) (subst (λ (j : List Entry). AreAlike j other) (sym (append-nil one)) alike)
alike-append one other (entry ∷ more) alike =
    subst (AreAlike (one ++ entry ∷ more)) (append-cons other entry more)
    (subst (λ (j : List Entry). AreAlike j ((other ++ entry ∷ []) ++ more)) (append-cons one entry more)
    (alike-append (one ++ entry ∷ []) (other ++ entry ∷ []) more (alike-push one other entry alike)))

-- an entry that commits and is no write is as a commit
alike-commit : (journal : List Entry) (one : Entry) → as_write one ≡ None → commits one ≡ true
    → AreAlike (journal ++ one ∷ []) (journal ++ entry.Committed ∷ [])
alike-commit journal one none is = record {
  writes_are = writes-without journal one [] none ∙ sym (writes-without journal entry.Committed [] refl);
  committed_are = ap writes (committed-push_commit journal one is ∙ sym (committed-push_commit journal entry.Committed refl));
}

-- one that neither commits nor is a write is as none
alike-nothing : (one other : List Entry) (more : Entry) → as_write more ≡ None → commits more ≡ false → AreAlike one other
    → AreAlike (one ++ more ∷ []) other
alike-nothing one other more none is alike = record {
  writes_are = writes-without one more [] none ∙ ap writes (append-nil one) ∙ alike.writes_are;
  committed_are = ap writes (committed-push_other one more is) ∙ alike.committed_are;
}

-- ---- a journal in which a split was given up
-- entries that neither begin nor end a split, while one is open, change no slice
pub no_changes : (first : List Slice) (front during : List Entry) (parent : SliceId) → IsLegal first (front ++ during)
    → open_split front ≡ Some parent → All (λ (one : Entry). is_of_split one ≡ false) during → filter_map map_change_of during ≡ []
no_changes first front [] parent legal is_open none = refl
no_changes first front (one ∷ during) parent legal is_open none =
    by one (legal front one during refl) (All-head (λ (e : Entry). is_of_split e ≡ false) one during none)
    (λ is. no_changes first (front ++ one ∷ []) during parent (subst (IsLegal first) (sym (append-cons front one during)) legal)
    (open_split-push front one ∙ is) (All-tail (λ (e : Entry). is_of_split e ≡ false) one during none))
  where
    by : (one : Entry) → MayFollow first front one → is_of_split one ≡ false
        → (split_after (open_split front) one ≡ Some parent → filter_map map_change_of during ≡ [])
        → filter_map map_change_of (one ∷ during) ≡ []
    by (entry.Write cell) may other rest = rest is_open
    by (entry.Settled place) may other rest = rest is_open
    by entry.Committed may other rest = rest is_open
    by (entry.Begun parent subs) may other rest = absurd (cc)
    by (entry.Switched parent) may other rest = absurd (cc)
    by (entry.Failed parent) may other rest = absurd (cc)
    by (entry.Dropped slice) may other rest = let both : Some parent ≡ None = sym is_open ∙ may.idle in absurd (cc)
    by (entry.Down core) may other rest = rest is_open
    by (entry.Up core) may other rest = rest is_open
    by (entry.Led core) may other rest = rest is_open

module _ (first : List Slice) (plan : SplitPlan) (seen journal other : List Entry) (given : IsGivenUpIn plan seen journal other) where
  abbrev begun : Entry
  begun = entry.Begun plan.parent plan.subs

  abbrev failed : Entry
  failed = entry.Failed plan.parent

  -- the same of it was written and committed
  given_up_alike : AreAlike journal other
  given_up_alike =
      subst (AreAlike journal) (sym given.other_is)
      (subst (λ (j : List Entry). AreAlike j ((given.earlier ++ entry.Committed ∷ given.during) ++ given.further)) (sym parts)
      (alike-append ((given.earlier ++ begun ∷ given.during) ++ failed ∷ []) (given.earlier ++ entry.Committed ∷ given.during) given.further
      (alike-nothing (given.earlier ++ begun ∷ given.during) (given.earlier ++ entry.Committed ∷ given.during) failed refl refl
      (subst (AreAlike (given.earlier ++ begun ∷ given.during)) (append-cons given.earlier entry.Committed given.during)
      (subst (λ (j : List Entry). AreAlike j ((given.earlier ++ entry.Committed ∷ []) ++ given.during)) (append-cons given.earlier begun given.during)
      (alike-append (given.earlier ++ begun ∷ []) (given.earlier ++ entry.Committed ∷ []) given.during
      (alike-commit given.earlier begun refl refl)))))))
    where
      parts : journal ≡ ((given.earlier ++ begun ∷ given.during) ++ failed ∷ []) ++ given.further
      parts = given.journal_is ∙ sym (append_assoc (given.earlier ++ begun ∷ given.during) (failed ∷ []) given.further)

  -- and the slices are the same
  given_up_slices : IsLegal first journal → map_after first journal ≡ map_after first other
  given_up_slices legal =
      ap (map_after first) given.journal_is
      ∙ map_after-append first (given.earlier ++ begun ∷ given.during) (failed ∷ given.further)
      ∙ ap (λ (slices : List Slice). map_after slices (failed ∷ given.further)) while_open
      ∙ ap (λ (slices : List Slice). map_after slices given.further) undone
      ∙ ap (λ (slices : List Slice). map_after slices given.further) (sym without)
      ∙ sym (map_after-append first (given.earlier ++ entry.Committed ∷ given.during) given.further)
      ∙ sym (ap (map_after first) given.other_is)
    where
      slices : List Slice
      slices = map_after first given.earlier

      legal_parts : IsLegal first ((given.earlier ++ begun ∷ given.during) ++ failed ∷ given.further)
      legal_parts = subst (IsLegal first) given.journal_is legal

      legal_begun : IsLegal first (given.earlier ++ begun ∷ given.during)
      legal_begun = IsLegal-prefix first (given.earlier ++ begun ∷ given.during) (failed ∷ given.further) legal_parts

      may : MayBeSplit first given.earlier plan.parent plan.subs
      may = legal_begun given.earlier begun given.during refl

      nothing : filter_map map_change_of given.during ≡ []
      nothing = no_changes first (given.earlier ++ begun ∷ []) given.during plan.parent
          (subst (IsLegal first) (sym (append-cons given.earlier begun given.during)) legal_begun) (open_split-push given.earlier begun) given.next

      while_open : map_after first (given.earlier ++ begun ∷ given.during) ≡ after_all slices (Change.Begun plan.parent plan.subs ∷ [])
      while_open = map_after-append first given.earlier (begun ∷ given.during)
          ∙ ap (λ (changes : List Change). after_all slices (Change.Begun plan.parent plan.subs ∷ changes)) nothing

      undone : after_all slices (Change.Begun plan.parent plan.subs ∷ Change.Failed plan.parent ∷ []) ≡ slices
      undone = undoes_a_failed_split slices plan.parent plan.subs may.plan

      without : map_after first (given.earlier ++ entry.Committed ∷ given.during) ≡ slices
      without = map_after-append first given.earlier (entry.Committed ∷ given.during)
          ∙ ap (after_all slices) nothing

-- ---- what is answered
-- the same slices, writes and commits of a bucket
record AnswerAlike (first : List Slice) (one other : List Entry) : Type 0 where
  alike : AreAlike one other
  slices : map_after first one ≡ map_after first other

answer_alike-self : (first : List Slice) (one other : List Entry) → other ≡ one → AnswerAlike first one other
answer_alike-self first one other same =
    subst (AnswerAlike first one) (sym same) (record { alike = record { writes_are = refl; committed_are = refl }; slices = refl })

answer_alike-back : (first : List Slice) (one other : List Entry) → AnswerAlike first one other → AnswerAlike first other one
answer_alike-back first one other answers = record {
  alike = record { writes_are = sym answers.alike.writes_are; committed_are = sym answers.alike.committed_are };
  slices = sym answers.slices;
}

-- so they are where both go on by the same entries
answer_alike-append : (first : List Slice) (one other more : List Entry) → AnswerAlike first one other
    → AnswerAlike first (one ++ more) (other ++ more)
answer_alike-append first one other more answers = record {
  alike = alike-append one other more answers.alike;
  slices = map_after-append first one more ∙ ap (λ (slices : List Slice). map_after slices more) answers.slices
      ∙ sym (map_after-append first other more);
}

-- a journal, and the one as if a split that went so had not come
without_alike : (first : List Slice) (course : Course) (seen journal other : List Entry) → IsLegal first journal
    → IsWithout course seen journal other → AnswerAlike first journal other
without_alike first refused seen journal other legal is = answer_alike-self first journal other is
without_alike first (given_up plan recovered started) seen journal other legal (inl none) = answer_alike-self first journal other none.1
without_alike first (given_up plan recovered started) seen journal other legal (inr given) = record {
  alike = given_up_alike first plan seen journal other given;
  slices = given_up_slices first plan seen journal other given legal;
}
without_alike first (done plan answers) seen journal other legal is = absurd is

later_alike : (first : List Slice) (course : Course) (seen journal later other : List Entry) → IsLegal first later
    → GoesOnWithout course seen journal later other → AnswerAlike first later other
later_alike first course seen journal later other legal goes =
    subst (AnswerAlike first later) (sym goes.other_is)
    (subst (λ (j : List Entry). AnswerAlike first j (goes.without ++ goes.more)) (sym goes.later_is)
    (answer_alike-append first journal goes.without goes.more
    (without_alike first course seen journal goes.without
    (IsLegal-prefix first journal goes.more (subst (IsLegal first) goes.later_is legal)) goes.is)))

-- the same is found of both
found_alike : (first : List Slice) (one other : List Entry) (criterion : Criterion) (route : Option Range) (write : Write)
    → AnswerAlike first one other → IsFoundIn first one criterion route write → IsFoundIn first other criterion route write
found_alike first one other criterion route write answers found = record {
  shown = shown_alike one other write (ap (filter (is_of write.id)) answers.alike.committed_are) found.shown;
  matched = found.matched;
  in_route = subst (λ (slices : List Slice). IsInRoute slices route write) answers.slices found.in_route;
}

finds_alike : (layout : Layout) (one other : Journals) (criterion : Criterion) (route : Option Range) (write : Write)
    → ((lock : ℕ) → lock < layout.buckets → AnswerAlike layout.first (one lock) (other lock))
    → FindsOver layout one criterion route write → FindsOver layout other criterion route write
finds_alike layout one other criterion route write alike finds =
    let found = found_in layout one criterion route write finds in
    found_over layout other criterion route write
    (found.0, found.1, found_alike layout.first (one found.0) (other found.0) criterion route write (alike found.0 found.1) found.2)

-- ---- the board
-- what a split that was refused noted leaves the board's map
noted_leaves : (layout : Layout) (asked : AskedSplit) (seen : Seen) (first : Stop) (course : Course) (end : SplitEnd) (before : List BoardEntry)
    → IsAnswered layout seen asked first course end → is_done end ≡ false → before ≡ take first.place seen.board
    → board_map layout.first (before ++ noted_by course) ≡ board_map layout.first before
noted_leaves layout asked seen first refused end before answered not_done is = ap (board_map layout.first) (append-nil before)
noted_leaves layout asked seen first (given_up plan recovered started) end before answered not_done is = by recovered where
  undone : (board_map layout.first (before ++ board.Begun plan ∷ board.Failed plan.parent ∷ []) ≡ board_map layout.first before)
      × (board_map layout.first (before ++ board.Begun plan ∷ board.Recovering plan.parent ∷ board.Failed plan.parent ∷ [])
      ≡ board_map layout.first before)
  undone = failed_leaves_the_map layout.first before plan
      (subst (λ (entries : List BoardEntry). IsPlan (board_map layout.first entries) plan.parent plan.subs) (sym is) answered.plan_is.plan_is)

  by : (recovered : Bool) → board_map layout.first (before ++ noted_by (given_up plan recovered started)) ≡ board_map layout.first before
  by true = undone.1
  by false = undone.0
noted_leaves layout asked seen first (done plan answers) end before answered not_done is =
    let none : true ≡ false = sym (ap is_done answered.2) ∙ not_done in absurd (cc)

-- of two lists with the same entries after them the longer one has the same of it as the shorter
same_start : {A : Type 0} (xs ys zs ws : List A) → xs ++ zs ≡ ys ++ ws → length xs ≡ length ys → xs ≡ ys
same_start xs ys zs ws same count =
    sym (take_at xs zs (length xs) refl) ∙ ap (take (length xs)) same ∙ take_at ys ws (length xs) (sym count)

status_is : (layout : Layout) (seen : Seen) → status_reply layout seen (at_end_of_board layout seen)
    ≡ record { status = 200; body = status_text (board_map layout.first seen.board) layout.nodes }
status_is layout seen =
    let all : take (length seen.board) seen.board ≡ seen.board = take_all (length seen.board) seen.board (omega arith) in
    ap (λ (entries : List BoardEntry). record { status = 200; body = status_text (board_map layout.first entries) layout.nodes }) all

-- the status is the one without the entries that the split noted
status_alike : (layout : Layout) (asked : AskedSplit) (old new later other : Seen) (first : Stop) (course : Course) (end : SplitEnd)
    → IsAnswered layout new asked first course end → is_done end ≡ false → LeavesBoard layout first course old new
    → IsAsIfNotAsked layout course old new later other
    → status_reply layout later (at_end_of_board layout later) ≡ status_reply layout other (at_end_of_board layout other)
status_alike layout asked old new later other first course end answered not_done leaves as_if =
    status_is layout later
    ∙ ap (λ (slices : List Slice). record { status = 200; body = status_text slices layout.nodes }) slices
    ∙ sym (status_is layout other)
  where
    same : as_if.before ≡ leaves.before
    same = same_start as_if.before leaves.before (noted_by course) (noted_by course) (sym as_if.noted ∙ leaves.board_is)
        (let one : length new.board ≡ length (as_if.before ++ noted_by course) = ap length as_if.noted in
        let two : length new.board ≡ length (leaves.before ++ noted_by course) = ap length leaves.board_is in
        omega (arith, one, two, length-append as_if.before (noted_by course), length-append leaves.before (noted_by course)))

    at_stop : as_if.before ≡ take first.place new.board
    at_stop = same ∙ sym (ap (take first.place) leaves.board_is ∙ take_at leaves.before (noted_by course) first.place leaves.place)

    slices : board_map layout.first later.board ≡ board_map layout.first other.board
    slices = ap (board_map layout.first) (as_if.later_is ∙ ap (λ (entries : List BoardEntry). entries ++ as_if.more) as_if.noted)
        ∙ board_map-append layout.first (as_if.before ++ noted_by course) as_if.more
        ∙ ap (λ (slices : List Slice). board_map slices as_if.more)
        (noted_leaves layout asked new first course end as_if.before answered not_done at_stop)
        ∙ sym (board_map-append layout.first as_if.before as_if.more)
        ∙ ap (board_map layout.first) (sym as_if.other_is)

-- ---- where the split began
-- of two beginnings of a list the shorter begins the longer
begins-within : {A : Type 0} (xs ys zs : List A) → IsPrefix xs (ys ++ zs) → length xs ≤ length ys → IsPrefix xs ys
begins-within [] ys zs begins short = (ys, refl)
begins-within (x ∷ xs) [] zs begins short = absurd (omega (arith, short))
begins-within (x ∷ xs) (y ∷ ys) zs begins short =
    let is : x ∷ (xs ++ begins.0) ≡ y ∷ (ys ++ zs) = begins.1 in
    let first : x ≡ y = cc in
    let others : xs ++ begins.0 ≡ ys ++ zs = cc in
    let rest = begins-within xs ys zs (begins.0, others) (omega (arith, short)) in
    (rest.0, ap (λ w. w ∷ (xs ++ rest.0)) first ∙ ap (λ (ws : List _). y ∷ ws) rest.1)

-- wherever it began it failed
failed_where_begun : (plan : SplitPlan) (seen journal : List Entry) → IsPrefix seen journal → IsFailedIfBegun plan (length seen) journal
    → (place : ℕ) (later : List Entry) → BeginsAt plan journal place later → length seen ≤ place
    → (other : List Entry) × IsGivenUpIn plan seen journal other
failed_where_begun plan seen journal grown fails place later begins after =
    let parts : Parts is_of_split later (entry.Failed plan.parent) =
    find-parts is_of_split later (entry.Failed plan.parent) (fails place later begins after) in
    let at : length begins.before ≡ place = begins.place_is in (
      begins.before ++ entry.Committed ∷ parts.0 ++ parts.1,
      record {
        earlier = begins.before;
        during = parts.0;
        further = parts.1;
        went_on = begins-within seen begins.before (entry.Begun plan.parent plan.subs ∷ later) (subst (IsPrefix seen) begins.journal_is grown)
            (omega (arith, at, after));
        journal_is = begins.journal_is
            ∙ ap (λ (j : List Entry). begins.before ++ entry.Begun plan.parent plan.subs ∷ j) parts.2
            ∙ sym (append_assoc begins.before (entry.Begun plan.parent plan.subs ∷ parts.0) (entry.Failed plan.parent ∷ parts.1));
        next = parts.3;
        other_is = refl;
      },
    )

fails_where_begun : (layout : Layout) (asked : AskedSplit) (old new : Seen) (first : Stop) (course : Course) (end : SplitEnd)
    → IsAnswered layout new asked first course end → is_done end ≡ false → LeavesBuckets layout.buckets course old new
    → ((lock : ℕ) → IsPrefix (old.journals lock) (new.journals lock))
    → (lock : ℕ) → lock < layout.buckets → FailsWhereBegun course (old.journals lock) (new.journals lock)
fails_where_begun layout asked old new first refused end answered not_done leaves grown lock is_bucket = leaves lock
fails_where_begun layout asked old new first (given_up plan recovered started) end answered not_done leaves grown lock is_bucket =
    failed_where_begun plan (old.journals lock) (new.journals lock) (grown lock) (leaves lock is_bucket)
fails_where_begun layout asked old new first (done plan answers) end answered not_done leaves grown lock is_bucket =
    let none : true ≡ false = sym (ap is_done answered.2) ∙ not_done in absurd (cc)

-- ---- the law
pub refused_splits_leave_nothing : RefusedSplitsLeaveNothing
refused_splits_leave_nothing layout asked old new end split not_done = (
  fails_where_begun layout asked old.view.seen new.view.seen split.first split.course end now not_done split.buckets split.extends.seen,
  λ later other legal as_if. answered_alike later other legal as_if,
)
  where
    now : IsAnswered layout new.view.seen asked split.first split.course end
    now = split.answered new.view.seen (SeesMore-self new.view.seen)

    each : (later other : Seen) → AreLegal layout later → IsAsIfNotAsked layout split.course old.view.seen new.view.seen later other
        → (lock : ℕ) → lock < layout.buckets → AnswerAlike layout.first (later.journals lock) (other.journals lock)
    each later other legal as_if lock is_bucket =
        later_alike layout.first split.course (old.view.seen.journals lock) (new.view.seen.journals lock) (later.journals lock) (other.journals lock)
        (legal.buckets lock is_bucket) (as_if.buckets lock is_bucket)

    answered_alike : (later other : Seen) → AreLegal layout later
        → IsAsIfNotAsked layout split.course old.view.seen new.view.seen later other → AreAnsweredAlike layout later other
    answered_alike later other legal as_if =
        let alike = each later other legal as_if in
        let back : (lock : ℕ) → lock < layout.buckets → AnswerAlike layout.first (other.journals lock) (later.journals lock) =
        λ lock is_bucket. answer_alike-back layout.first (later.journals lock) (other.journals lock) (alike lock is_bucket) in
        record {
          status = status_alike layout asked old.view.seen new.view.seen later other split.first split.course end now not_done split.board as_if;
          slices = λ lock is_bucket. (alike lock is_bucket).slices;
          gets = λ lock is_bucket id. ap (λ (ws : List Write). last_of (filter (is_of id) ws)) (alike lock is_bucket).alike.writes_are;
          searches = λ criterion route page. (
            shows_alike layout (seen_in_journals later.journals) (seen_in_journals other.journals) _ _ page
                (λ write. finds_alike layout later.journals other.journals criterion route write alike)
                (λ write. finds_alike layout other.journals later.journals criterion route write back),
            shows_alike layout (seen_in_journals other.journals) (seen_in_journals later.journals) _ _ page
                (λ write. finds_alike layout other.journals later.journals criterion route write back)
                (λ write. finds_alike layout later.journals other.journals criterion route write alike),
          );
          updates = λ lock is_bucket room room_there order moment outcome more. (
            orders_alike layout (later.journals lock) (other.journals lock) (alike lock is_bucket).alike.writes_are order room room_there
                moment outcome more,
            orders_alike layout (other.journals lock) (later.journals lock) (back lock is_bucket).alike.writes_are order room_there room
                moment outcome more,
          );
        }
