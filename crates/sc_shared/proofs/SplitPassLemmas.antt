-- The passes of a thread as others are split off them.
use Rattle.std.proofs.Common.{◌≡◌, ◌≢◌, ◌≤◌, ◌<◌, ◌⊎◌, inl, inr, ℕ, ◌+◌, List, [], ◌∷◌, ◌++◌, length, set, Option, Some, None, slice_get, get_or, Bool, true, false, cond, refl, sym, ap, subst, ◌∙◌, arith}
use Rattle.std.specs.Prelude.{◌==◌}
use Rattle.std.proofs.lemmas.Bool.{cases_eq}
use Rattle.std.proofs.lemmas.List.{length_push, length-set}
use Rattle.std.proofs.lemmas.Option.{slice_get_within, slice_get_past, slice_get_cases, slice_get_read, same_Some}
use Rattle.sc_cluster.proofs.ListLemmas.{All-from_slice_get}
use Rattle.sc_journal.specs.Legal.{IsLegal}
use Rattle.sc_journal.proofs.ListLemmas.{slice_get-append_end, slice_get-append_left}
use Rattle.sc_seen.specs.Board.{IsLegalBoard}
use Rattle.sc_seen.specs.Seen.{AreLegal}
use Rattle.sc_replicas.proofs.FindLemmas.{some_at}
use Rattle.sc_bucket.proofs.SoundLemmas.{All-slice_get}
use Rattle.sc_lock.specs.Tokens.{lock_id, IsPassOf, IsFree, seen, own_places, splits_left}
use Rattle.sc_lock.specs.Calls.{IsNewPassOf}
use Rattle.sc_collection.proofs.SlotLemmas.{slice_get-set_same, slice_get-set_other}
use Rattle.sc_shared.specs.declared.passes.Passes.{Passes}
use Rattle.sc_shared.specs.Passes.{BucketPass, BoardPass, seen_in, seen_by, seen_of, CanSplit}
use Rattle.sc_shared.specs.Passes as passes
use Rattle.sc_shared.specs.Collections.{Locks, BucketLock, layout_of, board_name, SeesTheSame, SeesOthers}
use Rattle.sc_shared.specs.Sharing.{ArePasses}
use Rattle.sc_shared.specs.PassCalls.{AreFreePasses, IsPassSplit, ArePassesSplit}

-- what is said of four that are the same
split_same : {lock lock' : BucketLock} {was was' now now' other other' : BucketPass} → lock ≡ lock' → was ≡ was' → now ≡ now' → other ≡ other'
    → IsPassSplit lock was now other → IsPassSplit lock' was' now' other'
split_same {lock = lock} {was = was} {was' = was'} {now = now} {now' = now'} {other' = other'} same_lock same_was same_now same_other is =
    subst (λ (l : BucketLock). IsPassSplit l was' now' other') same_lock
    (subst (λ (p : BucketPass). IsPassSplit lock p now' other') same_was
    (subst (λ (p : BucketPass). IsPassSplit lock was p other') same_now (subst (IsPassSplit lock was now) same_other is)))

-- what is made of the elements of two lists as long as each other is the same where it is at each place
same_in : {A : Type 0} (f : Option BucketPass → A) (old new : List BucketPass) → length new ≡ length old
    → ((number : ℕ) (was now : BucketPass) → slice_get old number ≡ Some was → slice_get new number ≡ Some now → f (Some now) ≡ f (Some was))
    → (number : ℕ) → f (slice_get new number) ≡ f (slice_get old number)
same_in f old new long each number = by (slice_get_cases new number).1 where
  by : ((now : BucketPass) × (number < length new) × (slice_get new number ≡ Some now) × (get_or new number now ≡ now))
      ⊎ ((length new ≤ number) × (slice_get new number ≡ None)) → f (slice_get new number) ≡ f (slice_get old number)
  by (inl (now, inside, at, same)) =
      let was = some_at old number (omega (arith, inside, long)) in
      ap f at ∙ each number was.0 now was.1 at ∙ ap f (sym was.1)
  by (inr (beyond, at)) = ap f (at ∙ sym (slice_get_past old number (omega (arith, beyond, long))))

-- none yet
pub none_split : (locks : List BucketLock) (old others : List BucketPass) → others ≡ [] → ArePassesSplit 0 locks old old others
none_split locks old others none = record {
  length_is = refl;
  others_are = ap length none;
  each = λ number lock was now other below at_lock at_was at_now at_other. absurd (omega (arith, below));
  rest = λ number from. refl;
}

-- one more
pub one_split : (b : ℕ) (locks : List BucketLock) (old new others : List BucketPass) (lock : BucketLock) (was now other : BucketPass)
    → ArePassesSplit b locks old new others → slice_get locks b ≡ Some lock → slice_get new b ≡ Some was → IsPassSplit lock was now other
    → ArePassesSplit (b + 1) locks old (set new b now) (others ++ other ∷ [])
one_split b locks old new others lock was now other are at_lock at_was is = record {
  length_is = length-set new b now ∙ are.length_is;
  others_are = length_push others other ∙ ap (λ n. n + 1) are.others_are;
  each = each;
  rest = λ number from. slice_get-set_other new b number now (λ same. absurd (omega (arith, from, same))) ∙ are.rest number (omega (arith, from));
} where
  inside : b < length new
  inside = slice_get_within new b was at_was

  each : (number : ℕ) (lock' : BucketLock) (was' now' other' : BucketPass) → number < b + 1 → slice_get locks number ≡ Some lock'
      → slice_get old number ≡ Some was' → slice_get (set new b now) number ≡ Some now' → slice_get (others ++ other ∷ []) number ≡ Some other'
      → IsPassSplit lock' was' now' other'
  each number lock' was' now' other' below at_lock' at_was' at_now' at_other' = by (cases_eq number b) where
    by : (number ≡ b) ⊎ (number ≢ b) → IsPassSplit lock' was' now' other'
    by (inl here) =
        let lock_is : lock ≡ lock' = same_Some lock lock' (sym at_lock ∙ ap (slice_get locks) (sym here) ∙ at_lock') in
        let was_is : was ≡ was' =
        same_Some was was' (sym at_was ∙ are.rest b (omega arith) ∙ ap (slice_get old) (sym here) ∙ at_was') in
        let now_is : now ≡ now' =
        same_Some now now' (sym (slice_get-set_same new b now inside) ∙ ap (slice_get (set new b now)) (sym here) ∙ at_now') in
        let other_is : other ≡ other' =
        same_Some other other' (sym (slice_get-append_end others other []) ∙ ap (slice_get (others ++ other ∷ [])) (are.others_are ∙ sym here) ∙ at_other') in
        split_same lock_is was_is now_is other_is is
    by (inr different) =
        are.each number lock' was' now' other' (omega (arith, below, different)) at_lock' at_was'
        (sym (slice_get-set_other new b number now different) ∙ at_now')
        (sym (slice_get-append_left others (other ∷ []) number (omega (arith, below, different, are.others_are))) ∙ at_other')

-- where one was split off each of the first so many, one is split off the next
module _ (locks : List BucketLock) (old new others : List BucketPass) (b : ℕ) (lock : BucketLock) (was : BucketPass)
    (are : AreFreePasses locks old) (split : ArePassesSplit b locks old new others) (within : b < length locks)
    (at_lock : lock ≡ get_or locks b lock) (at_was : was ≡ get_or new b was) where
  lock_there : slice_get locks b ≡ Some lock
  lock_there = slice_get_read locks (length locks) b lock refl within at_lock

  was_there : slice_get new b ≡ Some was
  was_there = slice_get_read new (length new) b was refl (omega (arith, within, split.length_is, are.count)) at_was

  pub next_split : (now other : BucketPass) → IsPassSplit lock was now other → ArePassesSplit (b + 1) locks old (set new b now) (others ++ other ∷ [])
  next_split now other is = one_split b locks old new others lock was now other split lock_there was_there is

-- ---- all of them
module _ (locks : Locks) (old new other : Passes) (are : ArePasses locks old)
    (split : ArePassesSplit (length locks.buckets) locks.buckets old.buckets.items new.buckets.items other.buckets.items) where
  -- of each number there is a lock, the pass that was, what is left of it, and the other
  one_of : (number : ℕ) → number < length locks.buckets → (lock : BucketLock) × (was : BucketPass) × (now : BucketPass) × (off : BucketPass)
      × (slice_get locks.buckets number ≡ Some lock) × (slice_get old.buckets.items number ≡ Some was)
      × (slice_get new.buckets.items number ≡ Some now) × (slice_get other.buckets.items number ≡ Some off) × IsPassSplit lock was now off
  one_of number within =
      let lock = some_at locks.buckets number within in
      let was = some_at old.buckets.items number (omega (arith, within, are.of_locks.count)) in
      let now = some_at new.buckets.items number (omega (arith, within, are.of_locks.count, split.length_is)) in
      let off = some_at other.buckets.items number (omega (arith, within, split.others_are)) in
      (lock.0, was.0, now.0, off.0, lock.1, was.1, now.1, off.1, split.each number lock.0 was.0 now.0 off.0 within lock.1 was.1 now.1 off.1)

  -- what is left of each is as it was
  now_at : (number : ℕ) (now : BucketPass) → slice_get new.buckets.items number ≡ Some now → (lock : BucketLock) × (was : BucketPass)
      × (off : BucketPass) × (slice_get locks.buckets number ≡ Some lock) × (slice_get old.buckets.items number ≡ Some was) × IsPassSplit lock was now off
  now_at number now at =
      let inside = slice_get_within new.buckets.items number now at in
      let one = one_of number (omega (arith, inside, split.length_is, are.of_locks.count)) in
      (one.0, one.1, one.3, one.4, one.5, subst (λ (p : BucketPass). IsPassSplit one.0 one.1 p one.3) (same_Some one.2 now (sym one.6 ∙ at)) one.8)

  -- and each other is new
  off_at : (number : ℕ) (off : BucketPass) → slice_get other.buckets.items number ≡ Some off → (lock : BucketLock) × (was : BucketPass)
      × (slice_get locks.buckets number ≡ Some lock) × (slice_get old.buckets.items number ≡ Some was) × IsNewPassOf (lock_id lock) (seen was) 0 off
  off_at number off at =
      let inside = slice_get_within other.buckets.items number off at in
      let one = one_of number (omega (arith, inside, split.others_are)) in
      (one.0, one.1, one.4, one.5, subst (IsNewPassOf (lock_id one.0) (seen one.1) 0) (same_Some one.3 off (sym one.7 ∙ at)) one.8.other_is)

  -- what was seen of each bucket, and the places of one's own entries in it
  seen_now : (number : ℕ) → seen_in (slice_get new.buckets.items number) ≡ seen_in (slice_get old.buckets.items number)
  seen_now = same_in seen_in old.buckets.items new.buckets.items split.length_is (λ number was now at_was at.
      let one = now_at number now at in one.5.seen_is ∙ ap seen (same_Some one.1 was (sym one.4 ∙ at_was)))

  seen_off : (number : ℕ) → seen_in (slice_get other.buckets.items number) ≡ seen_in (slice_get old.buckets.items number)
  seen_off = same_in seen_in old.buckets.items other.buckets.items (split.others_are ∙ sym are.of_locks.count) (λ number was off at_was at.
      let one = off_at number off at in one.4.seen_is ∙ ap seen (same_Some one.1 was (sym one.3 ∙ at_was)))

  own_now : (number : ℕ) → passes.own_in (slice_get new.buckets.items number) ≡ passes.own_in (slice_get old.buckets.items number)
  own_now = same_in passes.own_in old.buckets.items new.buckets.items split.length_is (λ number was now at_was at.
      let one = now_at number now at in one.5.own_is ∙ ap own_places (same_Some one.1 was (sym one.4 ∙ at_was)))

  own_off : (number : ℕ) → passes.own_in (slice_get other.buckets.items number) ≡ []
  own_off number = by (slice_get other.buckets.items number) refl where
    by : (off : Option BucketPass) → slice_get other.buckets.items number ≡ off → passes.own_in off ≡ []
    by (Some off) at = (off_at number off at).4.no_places
    by None at = refl

  module _ (board_seen : seen new.board ≡ seen old.board) where
    legal_now : AreLegal (layout_of locks) (seen_of new)
    legal_now = record {
      buckets = λ number within. subst (IsLegal (board_name locks).first) (sym (seen_now number)) (are.of_locks.legal.buckets number within);
      board = subst (IsLegalBoard (board_name locks).first) (sym board_seen) are.of_locks.legal.board;
      others = λ number beyond. seen_now number ∙ are.of_locks.legal.others number beyond;
    }

    pub now_are : IsPassOf (lock_id locks.board) new.board → IsFree new.board → ArePasses locks new
    now_are is free = record {
      of_locks = record {
        count = split.length_is ∙ are.of_locks.count;
        each = λ number lock now at_lock at.
            let one = now_at number now at in
            subst (λ (l : BucketLock). IsPassOf (lock_id l) now) (same_Some one.0 lock (sym one.3 ∙ at_lock)) one.5.is;
        of_board = is;
        legal = legal_now;
      };
      free = record { each = λ number now at. (now_at number now at).5.free; board_is = free };
    }

    pub now_same : own_places new.board ≡ own_places old.board → SeesTheSame (seen_of old) (seen_of new)
    now_same board_own = record {
      journals = seen_now;
      board = board_seen;
      own = λ number. own number (number == length new.buckets.items) (number == length old.buckets.items)
          (ap (λ n. number == n) split.length_is);
    } where
      own : (number : ℕ) (b a : Bool) → b ≡ a → cond b (own_places new.board) (passes.own_in (slice_get new.buckets.items number))
          ≡ cond a (own_places old.board) (passes.own_in (slice_get old.buckets.items number))
      own number true true same = board_own
      own number true false same = absurd (cc)
      own number false true same = absurd (cc)
      own number false false same = own_now number

  pub now_splits : splits_left new.board + 1 ≡ splits_left old.board → (count : ℕ) → CanSplit (count + 1) old → CanSplit count new
  now_splits board count can = record {
    buckets = All-from_slice_get (λ (now : BucketPass). count ≤ splits_left now) new.buckets.items (λ number now at.
        let one = now_at number now at in
        let had = All-slice_get (λ (was : BucketPass). count + 1 ≤ splits_left was) old.buckets.items number one.1 can.buckets one.4 in
        omega (arith, had, one.5.splits));
    board = omega (arith, can.board, board);
  }

  module _ (new_board : IsNewPassOf (lock_id locks.board) (seen old.board) 0 other.board) where
    pub other_sees : SeesOthers (seen_of old) (seen_of other)
    other_sees = record {
      journals = seen_off;
      board = new_board.seen_is;
      own = λ number. own number (number == length other.buckets.items);
    } where
      own : (number : ℕ) (b : Bool) → cond b (own_places other.board) (passes.own_in (slice_get other.buckets.items number)) ≡ []
      own number true = new_board.no_places
      own number false = own_off number

    pub other_are : ArePasses locks other
    other_are = record {
      of_locks = record {
        count = split.others_are;
        each = λ number lock off at_lock at.
            let one = off_at number off at in
            subst (λ (l : BucketLock). IsPassOf (lock_id l) off) (same_Some one.0 lock (sym one.2 ∙ at_lock)) one.4.of_lock;
        of_board = new_board.of_lock;
        legal = record {
          buckets = λ number within. subst (IsLegal (board_name locks).first) (sym (seen_off number)) (are.of_locks.legal.buckets number within);
          board = subst (IsLegalBoard (board_name locks).first) (sym new_board.seen_is) are.of_locks.legal.board;
          others = λ number beyond. seen_off number ∙ are.of_locks.legal.others number beyond;
        };
      };
      free = record { each = λ number off at. (off_at number off at).4.free; board_is = new_board.free };
    }
