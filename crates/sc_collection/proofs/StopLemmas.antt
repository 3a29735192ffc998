-- One hold of a bucket is one stop.
use Rattle.std.proofs.Common.{◌≡◌, ◌≢◌, ℕ, ◌+◌, ◌<◌, ◌≤◌, Bool, true, false, cond, List, [], ◌∷◌, ◌++◌, length, refl, sym, ap, ◌∙◌, subst, arith, length-append}
use Rattle.std.specs.Prelude.{◌==◌, map, filter, nat_lt, Option, Some, None, slice_get}
use Rattle.std.proofs.lemmas.Bool.Decides.{nat_tests}
use Rattle.std.proofs.lemmas.List.{append-nil}
use Rattle.std.proofs.lemmas.Option.{slice_get_within}
use mathlib.Core.List.{IsPrefix}
use Rattle.sc_record.specs.declared.entry.Entry.{Entry}
use Rattle.sc_seen.specs.Seen.{Layout, Seen, GoesOn, ComeInOrder, place_after, made_at, entries_at}
use Rattle.sc_seen.specs.declared.stop.Stop.{Stop}
use Rattle.sc_bucket.specs.declared.bucket.Bucket.{Bucket}
use Rattle.sc_collection.specs.Desks.{Held, Out, nothing_out, SeesGiven, place_added}
use Rattle.sc_journal.proofs.ListLemmas.{slice_get-append_left}
use Rattle.sc_seen.proofs.ExtendsLemmas.{IsPrefix-self, IsPrefix-then, IsPrefix-length, entries-bucket, NotesBoard-same}

-- an entry stays where it is
pub entry-later : (journal later : List Entry) (place : ℕ) (one : Entry) → IsPrefix journal later → slice_get journal place ≡ Some one
    → slice_get later place ≡ Some one
entry-later journal later place one begins is =
    ap (λ (all : List Entry). slice_get all place) (sym begins.1)
    ∙ slice_get-append_left journal begins.0 place (slice_get_within journal place one is) ∙ is

-- the stop of a hold of a bucket
abbrev pub stop_at : ℕ → List Entry → Bool → Stop
stop_at lock journal made = record { lock = lock; place = length journal; made = made }

pub stop_is : (lock place : ℕ) (journal : List Entry) (made flag : Bool) → place ≡ length journal → made ≡ flag
    → stop_at lock journal flag ≡ record { lock = lock; place = place; made = made }
stop_is lock place journal made flag at is =
    ap (λ n. let one : Stop = record { lock = lock; place = n; made = flag } in one) (sym at)
    ∙ ap (λ b. let one : Stop = record { lock = lock; place = place; made = b } in one) (sym is)

-- the place that was added is that which the stop made
added : (journal more : List Entry) (lock : ℕ) (made : Bool) → nat_lt (length journal) (length more) ≡ made
    → place_added journal more ≡ map (λ (stop : Stop). stop.place) (filter (λ (stop : Stop). stop.made) (stop_at lock journal made ∷ []))
added journal more lock true is = ap (λ b. cond b (length journal ∷ []) []) is
added journal more lock false is = ap (λ b. cond b (length journal ∷ []) []) is

-- what holds of the lock that was held, and of each other
pub at_lock : (P : ℕ → Type 0) (held lock : ℕ) (b : Bool) → (held == lock) ≡ b → P held → (lock ≢ held → P lock) → P lock
at_lock P held lock true is here there = let same : held ≡ lock = grind (arith, nat_tests) in subst P same here
at_lock P held lock false is here there = let other : lock ≢ held = grind (arith, nat_tests) in there other

pub other_lock : (held lock : ℕ) → (held == lock) ≡ false → lock ≢ held
other_lock held lock is = grind (arith, nat_tests)

pub same_lock : (held lock : ℕ) → (held == lock) ≡ true → held ≡ lock
same_lock held lock is = grind (arith, nat_tests)

-- a hold that added an entry where the stop says so
pub GoesOn-held : (layout : Layout) (old new : Seen) (held : Held) (given : Bucket) (made : Bool) (more : List Entry)
    → held.number < layout.buckets → IsPrefix (old.journals held.number) held.bucket.journal.entries
    → given.journal.entries ≡ held.bucket.journal.entries ++ more → length more ≡ cond made 1 0
    → SeesGiven held given old new
    → GoesOn layout old new (stop_at held.number held.bucket.journal.entries made ∷ [])
GoesOn-held layout old new held given made more below begins grown one sees =
    record {
      extends = record {
        seen = λ lock. at_lock (λ (n : ℕ). IsPrefix (old.journals n) (new.journals n)) number lock (number == lock) refl (subst (IsPrefix (old.journals number)) (sym sees.journal) (IsPrefix-then (old.journals number) journal given.journal.entries begins (more, sym grown)))
            (λ other. subst (IsPrefix (old.journals lock)) (sym (sees.others lock other)) (IsPrefix-self (old.journals lock)));
        board = subst (IsPrefix old.board) (sym sees.board) (IsPrefix-self old.board);
        own = λ lock inside. own lock (number == lock) refl;
        notes = NotesBoard-same layout old new (stop ∷ []) board_own none_made;
        ascend = λ lock. ascend lock (number == lock) refl;
        within = (record { lock = omega arith; place = within }, tt);
      };
      last = λ before one after is inside none. last before one after is;
      stays = λ lock inside none. stays lock (number == lock) refl none;
      board = sees.board;
      board_own = board_own;
    }
  where
    number : ℕ
    number = held.number

    journal : List Entry
    journal = held.bucket.journal.entries

    stop : Stop
    stop = stop_at number journal made

    grown_by : length given.journal.entries ≡ length journal + cond made 1 0
    grown_by = ap length grown ∙ length-append journal more ∙ ap (λ n. length journal + n) one

    added_is : (b : Bool) → length given.journal.entries ≡ length journal + cond b 1 0
        → nat_lt (length journal) (length given.journal.entries) ≡ b
    added_is true is = grind (arith, nat_tests)
    added_is false is = grind (arith, nat_tests)

    after_is : (b : Bool) → cond b (length journal + 1) (length journal) ≡ length journal + cond b 1 0
    after_is true = refl
    after_is false = omega arith

    end : place_after stop ≡ length (new.journals number)
    end = after_is made ∙ sym grown_by ∙ ap length (sym sees.journal)

    within : place_after stop ≤ entries_at layout new number
    within = omega (arith, end, entries-bucket layout new number below)

    not_board : (number == layout.buckets) ≡ false
    not_board = grind (arith, nat_tests)

    board_own : new.own layout.buckets ≡ old.own layout.buckets
    board_own = sees.others_own layout.buckets (other_lock number layout.buckets not_board)

    none_made : made_at layout.buckets (stop ∷ []) ≡ []
    none_made = ap (λ b. map (λ (s : Stop). s.place) (filter (λ (s : Stop). s.made) (cond b (stop ∷ []) []))) not_board

    own : (lock : ℕ) (b : Bool) → (number == lock) ≡ b
        → new.own lock ≡ old.own lock ++ map (λ (s : Stop). s.place) (filter (λ (s : Stop). s.made) (cond b (stop ∷ []) []))
    own lock true is =
        let adds : nat_lt (length journal) (length given.journal.entries) ≡ made = added_is made grown_by in
        subst (λ n. new.own n ≡ old.own n ++ map (λ (s : Stop). s.place) (filter (λ (s : Stop). s.made) (stop ∷ []))) (same_lock number lock is)
        (sees.own ∙ ap (λ places. old.own number ++ places) (added journal given.journal.entries number made adds))
    own lock false is = sees.others_own lock (other_lock number lock is) ∙ sym (append-nil (old.own lock))

    ascend : (lock : ℕ) (b : Bool) → (number == lock) ≡ b → ComeInOrder (entries_at layout old lock) (cond b (stop ∷ []) [])
    ascend lock true is = (
      subst (λ n. entries_at layout old n ≤ length journal) (same_lock number lock is)
          (let a : entries_at layout old number ≡ length (old.journals number) = entries-bucket layout old number below in
          let b : length (old.journals number) ≤ length journal = IsPrefix-length (old.journals number) journal begins in omega arith),
      tt,
    )
    ascend lock false is = tt

    last : (before : List Stop) (s : Stop) (after : List Stop) → stop ∷ [] ≡ before ++ s ∷ after
        → place_after s ≡ length (new.journals s.lock)
    last [] s after is =
        let same : stop ≡ s = cc in
        subst (λ (one : Stop). place_after one ≡ length (new.journals one.lock)) same end
    last (x ∷ []) s after is = absurd (cc)
    last (x ∷ y ∷ before) s after is = absurd (cc)

    stays : (lock : ℕ) (b : Bool) → (number == lock) ≡ b → cond b (stop ∷ []) [] ≡ [] → new.journals lock ≡ old.journals lock
    stays lock true is none = absurd (cc)
    stays lock false is none = sees.others lock (other_lock number lock is)

-- a bucket was taken while nothing was out, and given back: nothing is out
pub given-back : (before out after : Out) (held : Option Held) → before ≡ nothing_out → out ≡ record before { bucket = held }
    → after ≡ record out { bucket = None } → after ≡ nothing_out
given-back before out after held none taken given =
    given ∙ ap (λ (o : Out). let back : Out = record o { bucket = None } in back) taken
    ∙ ap (λ (o : Out). let back : Out = record o { bucket = None } in back) none

-- while it is out, it is out alone
pub taken-alone : (before out : Out) (held : Held) → before ≡ nothing_out → out ≡ record before { bucket = Some held }
    → out ≡ record nothing_out { bucket = Some held }
taken-alone before out held none taken = taken ∙ ap (λ (o : Out). let now : Out = record o { bucket = Some held } in now) none
