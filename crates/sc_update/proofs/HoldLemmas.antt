-- What holds that make no entry leave, and a stop after them.
use Rattle.std.proofs.Common.{◌≡◌, ◌≢◌, ◌≤◌, ℕ, Bool, true, false, cond, List, [], ◌∷◌, ◌++◌, length, Option, Some, None, refl, sym, ap, ◌∙◌, subst}
use Rattle.std.specs.Prelude.{◌==◌, All, IsSome, MatchOption}
use Rattle.std.specs.List.{AllByRecursion}
use Rattle.std.proofs.lemmas.List.{append-nil}
use mathlib.Core.List.{IsPrefix}
use Rattle.sc_record.specs.declared.entry.Entry.{Entry}
use Rattle.sc_record.specs.declared.slice.CoreId.{CoreId}
use Rattle.sc_journal.specs.Journal.{write_at}
use Rattle.sc_seen.specs.Seen.{Layout, Seen, Extends, NotesBoard, stops_at, made_at, entries_at}
use Rattle.sc_seen.specs.declared.board.BoardEntry.{BoardEntry}
use Rattle.sc_seen.specs.declared.stop.Stop.{Stop}
use Rattle.sc_bucket.specs.declared.bucket.Bucket.{Bucket}
use Rattle.sc_bucket.specs.Kept.{Sent}
use Rattle.sc_bucket.specs.Sound.{IsSound}
use Rattle.sc_bucket.specs.Events.{DeliversFirst}
use Rattle.sc_collection.specs.Desks.{Held, IsBucketOf, MayReplace, SeesGiven, place_added}
use Rattle.sc_collection.proofs.PlaceLemmas.{place_added-none}
use Rattle.sc_collection.proofs.ReplaceLemmas.{same_may_replace, delivered_may_replace}
use Rattle.sc_update.specs.Steps.{MakeNoEntry}
use Rattle.sc_seen.specs.Seen.{GoesOn}
use Rattle.sc_seen.proofs.ExtendsLemmas.{IsPrefix-self, IsPrefix-then, entries-grow, ascend_earlier}
use Rattle.sc_collection.proofs.StopLemmas.{at_lock, other_lock}
use Rattle.sc_update.proofs.OrderLemmas.{written-later}

-- What a delivery leaves: nothing changed, or the first message of a write was delivered.
abbrev Leaves : Bucket → Bucket → ℕ → Option CoreId → Type 0
Leaves old new place answer = MatchOption answer
    ((new ≡ old) × All (λ (message : Sent). message.place ≢ place) old.flight.messages)
    (λ core. DeliversFirst old place core new)

-- no entry was made
pub delivered-entries : (old new : Bucket) (place : ℕ) (answer : Option CoreId) → Leaves old new place answer
    → new.journal.entries ≡ old.journal.entries
delivered-entries old new place None leaves = ap (λ (bucket : Bucket). bucket.journal.entries) leaves.0
delivered-entries old new place (Some core) leaves = leaves.delivers.entries

-- the bucket may be given back
pub MayReplace-delivered : (layout : Layout) (held : Held) (given : Bucket) (place : ℕ) (answer : Option CoreId)
    → IsBucketOf layout held.number held.bucket → IsSound given → held.by_keeper ≡ false → Leaves held.bucket given place answer
    → MayReplace layout held given
MayReplace-delivered layout held given place None is_of sound by_pass leaves = same_may_replace layout held given is_of sound by_pass leaves.0
MayReplace-delivered layout held given place (Some core) is_of sound by_pass leaves =
    delivered_may_replace layout held given is_of sound by_pass leaves.at leaves.message leaves.delivers

-- nothing was held
pub MakeNoEntry-none : (seen : Seen) (lock : ℕ) → MakeNoEntry seen seen lock
MakeNoEntry-none seen lock = record {
  journal = IsPrefix-self (seen.journals lock);
  others = λ other is. refl;
  board = refl;
  own = λ other. refl;
}

-- holds after others
pub MakeNoEntry-then : (old between new : Seen) (lock : ℕ) → MakeNoEntry old between lock → MakeNoEntry between new lock → MakeNoEntry old new lock
MakeNoEntry-then old between new lock one two = record {
  journal = IsPrefix-then (old.journals lock) (between.journals lock) (new.journals lock) one.journal two.journal;
  others = λ other is. two.others other is ∙ one.others other is;
  board = two.board ∙ one.board;
  own = λ other. two.own other ∙ one.own other;
}

-- a hold that left the journal as it was
pub MakeNoEntry-held : (old new : Seen) (held : Held) (given : Bucket) → IsPrefix (old.journals held.number) held.bucket.journal.entries
    → given.journal.entries ≡ held.bucket.journal.entries → SeesGiven held given old new → MakeNoEntry old new held.number
MakeNoEntry-held old new held given begins same sees = record {
  journal = subst (IsPrefix (old.journals held.number)) (sym (sees.journal ∙ same)) begins;
  others = sees.others;
  board = sees.board;
  own = λ other. at_lock (λ (n : ℕ). new.own n ≡ old.own n) held.number other (held.number == other) refl here (sees.others_own other);
}
  where
    journal : List Entry
    journal = held.bucket.journal.entries

    here : new.own held.number ≡ old.own held.number
    here =
        sees.own ∙ ap (λ (entries : List Entry). old.own held.number ++ place_added journal entries) same
        ∙ ap (λ places. old.own held.number ++ places) (place_added-none journal) ∙ append-nil (old.own held.number)

-- a write that was seen is in the bucket that is handed out then
pub written-held : (old new : Seen) (lock place : ℕ) (bucket : Bucket) → MakeNoEntry old new lock → IsPrefix (new.journals lock) bucket.journal.entries
    → IsSome (write_at (old.journals lock) place) → IsSome (write_at bucket.journal.entries place)
written-held old new lock place bucket looks begins written =
    written-later (old.journals lock) bucket.journal.entries place
    (IsPrefix-then (old.journals lock) (new.journals lock) bucket.journal.entries looks.journal begins) written

-- of each lock what was seen before is a prefix of what is seen then
MakeNoEntry-begins : (old new : Seen) (lock : ℕ) → MakeNoEntry old new lock → (other : ℕ) → IsPrefix (old.journals other) (new.journals other)
MakeNoEntry-begins old new lock looks other =
    at_lock (λ (n : ℕ). IsPrefix (old.journals n) (new.journals n)) lock other (lock == other) refl looks.journal
    (λ is. subst (IsPrefix (old.journals other)) (sym (looks.others other is)) (IsPrefix-self (old.journals other)))

-- holds of a lock that make no entry, and then a stop at it, are that stop
pub GoesOn-looked : (layout : Layout) (old between new : Seen) (stop : Stop) → MakeNoEntry old between stop.lock
    → GoesOn layout between new (stop ∷ []) → GoesOn layout old new (stop ∷ [])
GoesOn-looked layout old between new stop looks goes =
    record {
      extends = record {
        seen = λ lock. IsPrefix-then (old.journals lock) (between.journals lock) (new.journals lock) (begins lock) (then.seen lock);
        board = subst (λ board. IsPrefix board new.board) looks.board then.board;
        own = λ lock below. then.own lock below ∙ ap (λ places. places ++ made_at lock (stop ∷ [])) (looks.own lock);
        notes = record {
          added = notes.added;
          own = notes.own ∙ ap (λ places. places ++ notes.added) (looks.own layout.buckets);
          after = subst (λ (board : List BoardEntry). AllByRecursion (λ (place : ℕ). length board ≤ place) notes.added) looks.board notes.after;
          within = notes.within;
          made = notes.made;
        };
        ascend = λ lock. ascend_earlier (entries_at layout old lock) (entries_at layout between lock) (stops_at lock (stop ∷ []))
            (entries-grow layout old between begins board lock) (then.ascend lock);
        within = then.within;
      };
      last = goes.last;
      stays = λ lock below none. goes.stays lock below none ∙ same lock (stop.lock == lock) refl none;
      board = goes.board ∙ looks.board;
      board_own = goes.board_own ∙ looks.own layout.buckets;
    }
  where
    then : Extends layout between new (stop ∷ [])
    then = goes.extends

    notes : NotesBoard layout between new (stop ∷ [])
    notes = then.notes

    begins : (lock : ℕ) → IsPrefix (old.journals lock) (between.journals lock)
    begins = MakeNoEntry-begins old between stop.lock looks

    board : IsPrefix old.board between.board
    board = subst (IsPrefix old.board) (sym looks.board) (IsPrefix-self old.board)

    same : (lock : ℕ) (b : Bool) → (stop.lock == lock) ≡ b → cond b (stop ∷ []) [] ≡ [] → between.journals lock ≡ old.journals lock
    same lock true is none = absurd (cc)
    same lock false is none = looks.others lock (other_lock stop.lock lock is)
