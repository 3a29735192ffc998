-- The passes of two threads as they are joined.
use Rattle.std.proofs.Common.{◌≡◌, ◌≢◌, ◌≤◌, ◌<◌, ◌⊎◌, inl, inr, ℕ, ◌+◌, List, [], ◌∷◌, ◌++◌, length, set, Option, Some, None, slice_get, get_or, Bool, true, false, cond, refl, sym, ap, subst, ◌∙◌, arith}
use Rattle.std.specs.Prelude.{◌==◌}
use Rattle.std.proofs.lemmas.Bool.{cases_eq}
use Rattle.std.proofs.lemmas.List.{length-set, length_push}
use Rattle.std.proofs.lemmas.Option.{slice_get_within, slice_get_past, slice_get_cases, slice_get_read, same_Some}
use Rattle.sc_record.specs.declared.entry.Entry.{Entry}
use Rattle.sc_journal.specs.Legal.{IsLegal}
use Rattle.sc_journal.proofs.ListLemmas.{slice_get-append_end, slice_get-append_left}
use Rattle.sc_seen.specs.Board.{IsLegalBoard}
use Rattle.sc_replicas.proofs.FindLemmas.{some_at}
use Rattle.sc_lock.specs.Journal.{AreDisjoint, IsLongest, merged_places}
use Rattle.sc_lock.specs.Tokens.{lock_id, IsPassOf, IsFree, seen, own_places}
use Rattle.sc_collection.proofs.SlotLemmas.{slice_get-set_same, slice_get-set_other}
use Rattle.sc_shared.specs.declared.passes.Passes.{Passes}
use Rattle.sc_shared.specs.Passes.{BucketPass, seen_in, seen_of}
use Rattle.sc_shared.specs.Passes as passes
use Rattle.sc_shared.specs.Collections.{Locks, BucketLock, board_name, SeesBoth}
use Rattle.sc_shared.specs.Sharing.{ArePasses}
use Rattle.sc_shared.specs.PassCalls.{AreFreePasses, IsPassJoined, ArePassesJoined}

-- what is said of four that are the same
joined_same : {lock lock' : BucketLock} {was was' other other' now now' : BucketPass} → lock ≡ lock' → was ≡ was' → other ≡ other' → now ≡ now'
    → IsPassJoined lock was other now → IsPassJoined lock' was' other' now'
joined_same {lock = lock} {was = was} {was' = was'} {other = other} {other' = other'} {now' = now'} same_lock same_was same_other same_now is =
    subst (λ (l : BucketLock). IsPassJoined l was' other' now') same_lock
    (subst (λ (p : BucketPass). IsPassJoined lock p other' now') same_was
    (subst (λ (p : BucketPass). IsPassJoined lock was p now') same_other (subst (IsPassJoined lock was other) same_now is)))

-- none yet
pub none_joined : (locks : List BucketLock) (old from : List BucketPass) → AreFreePasses locks from → ArePassesJoined (length from) locks old from old
none_joined locks old from are = record {
  length_is = refl;
  each = λ number lock was other now beyond at_lock at_was at_other at_now.
      absurd (let inside = slice_get_within from number other at_other in omega (arith, inside, beyond));
  rest = λ number below. refl;
}

-- one more
pub one_joined : (b : ℕ) (locks : List BucketLock) (old from new : List BucketPass) (lock : BucketLock) (was other now : BucketPass)
    → ArePassesJoined (b + 1) locks old from new → slice_get locks b ≡ Some lock → slice_get new b ≡ Some was → slice_get from b ≡ Some other
    → IsPassJoined lock was other now → ArePassesJoined b locks old from (set new b now)
one_joined b locks old from new lock was other now are at_lock at_was at_other is = record {
  length_is = length-set new b now ∙ are.length_is;
  each = each;
  rest = λ number below. slice_get-set_other new b number now (λ same. absurd (omega (arith, below, same))) ∙ are.rest number (omega (arith, below));
} where
  inside : b < length new
  inside = slice_get_within new b was at_was

  each : (number : ℕ) (lock' : BucketLock) (was' other' now' : BucketPass) → b ≤ number → slice_get locks number ≡ Some lock'
      → slice_get old number ≡ Some was' → slice_get from number ≡ Some other' → slice_get (set new b now) number ≡ Some now'
      → IsPassJoined lock' was' other' now'
  each number lock' was' other' now' beyond at_lock' at_was' at_other' at_now' = by (cases_eq number b) where
    by : (number ≡ b) ⊎ (number ≢ b) → IsPassJoined lock' was' other' now'
    by (inl here) =
        let lock_is : lock ≡ lock' = same_Some lock lock' (sym at_lock ∙ ap (slice_get locks) (sym here) ∙ at_lock') in
        let was_is : was ≡ was' =
        same_Some was was' (sym at_was ∙ are.rest b (omega arith) ∙ ap (slice_get old) (sym here) ∙ at_was') in
        let other_is : other ≡ other' =
        same_Some other other' (sym at_other ∙ ap (slice_get from) (sym here) ∙ at_other') in
        let now_is : now ≡ now' =
        same_Some now now' (sym (slice_get-set_same new b now inside) ∙ ap (slice_get (set new b now)) (sym here) ∙ at_now') in
        joined_same lock_is was_is other_is now_is is
    by (inr different) =
        are.each number lock' was' other' now' (omega (arith, beyond, different)) at_lock' at_was' at_other'
        (sym (slice_get-set_other new b number now different) ∙ at_now')

-- where so many are left to be joined, the last of them is joined to that of its number
module _ (locks : List BucketLock) (old from new left rest : List BucketPass) (other : BucketPass) (b : ℕ) (lock : BucketLock) (was : BucketPass)
    (are : AreFreePasses locks old) (are_from : AreFreePasses locks from) (joined : ArePassesJoined (length left) locks old from new)
    (same : (number : ℕ) → number < length left → slice_get left number ≡ slice_get from number) (few : length left ≤ length locks)
    (ends : left ≡ rest ++ other ∷ []) (is : b ≡ length rest) (at_lock : lock ≡ get_or locks b lock) (at_was : was ≡ get_or new b was) where
  long : length left ≡ b + 1
  long = ap length ends ∙ length_push rest other ∙ ap (λ n. n + 1) (sym is)

  lock_there : slice_get locks b ≡ Some lock
  lock_there = slice_get_read locks (length locks) b lock refl (omega (arith, long, few)) at_lock

  was_there : slice_get new b ≡ Some was
  was_there = slice_get_read new (length new) b was refl (omega (arith, long, few, joined.length_is, are.count)) at_was

  old_there : slice_get old b ≡ Some was
  old_there = sym (joined.rest b (omega (arith, long))) ∙ was_there

  other_there : slice_get from b ≡ Some other
  other_there =
      sym (same b (omega (arith, long))) ∙ ap (λ (passes : List BucketPass). slice_get passes b) ends
      ∙ ap (slice_get (rest ++ other ∷ [])) is ∙ slice_get-append_end rest other []

  pub into_is : IsPassOf (lock_id lock) was × IsFree was
  into_is = (are.each b lock was lock_there old_there, are.free b was old_there)

  pub from_is : IsPassOf (lock_id lock) other × IsFree other
  from_is = (are_from.each b lock other lock_there other_there, are_from.free b other other_there)

  pub one_less : (now : BucketPass) → IsPassJoined lock was other now → ArePassesJoined (length rest) locks old from (set new b now)
  one_less now made =
      subst (λ (n : ℕ). ArePassesJoined n locks old from (set new b now)) is
      (one_joined b locks old from new lock was other now (subst (λ (n : ℕ). ArePassesJoined n locks old from new) long joined)
      lock_there was_there other_there made)

  pub rest_same : (number : ℕ) → number < length rest → slice_get rest number ≡ slice_get from number
  rest_same number below =
      sym (slice_get-append_left rest (other ∷ []) number below) ∙ ap (λ (passes : List BucketPass). slice_get passes number) (sym ends)
      ∙ same number (omega (arith, below, long, is))

  pub fewer : length rest ≤ length locks
  fewer = omega (arith, long, few, is)

-- ---- all of them
-- what one of two lists is holds of the longer where it holds of both
of_longest : {E : Type 0} (P : List E → Type 0) (one other both : List E) → IsLongest one other both → P one → P other → P both
of_longest P one other both long of_one of_other = by long.one_of where
  by : (both ≡ one) ⊎ (both ≡ other) → P both
  by (inl same) = subst P (sym same) of_one
  by (inr same) = subst P (sym same) of_other

-- of nothing and nothing nothing is the longest
longest_none : {E : Type 0} → IsLongest {E = E} [] [] []
longest_none = record { one_of = inl refl; first_is_prefix = ([], refl); second_is_prefix = ([], refl) }

-- nothing is in nothing
disjoint_none : AreDisjoint [] []
disjoint_none place one other = absurd (omega (arith, one.1))

module _ (locks : Locks) (into from new : Passes) (are_into : ArePasses locks into) (are_from : ArePasses locks from)
    (joined : ArePassesJoined 0 locks.buckets into.buckets.items from.buckets.items new.buckets.items) where
  -- what is true of the passes of each number, and where there are none
  by_number : (P : Option BucketPass → Option BucketPass → Option BucketPass → Type 0) → P None None None
      → ((number : ℕ) (lock : BucketLock) (was other now : BucketPass) → slice_get locks.buckets number ≡ Some lock
      → slice_get new.buckets.items number ≡ Some now → IsPassJoined lock was other now → P (Some was) (Some other) (Some now))
      → (number : ℕ) → P (slice_get into.buckets.items number) (slice_get from.buckets.items number) (slice_get new.buckets.items number)
  by_number P none each number = by (slice_get_cases locks.buckets number).1 where
    by : ((lock : BucketLock) × (number < length locks.buckets) × (slice_get locks.buckets number ≡ Some lock) × (get_or locks.buckets number lock ≡ lock))
        ⊎ ((length locks.buckets ≤ number) × (slice_get locks.buckets number ≡ None))
        → P (slice_get into.buckets.items number) (slice_get from.buckets.items number) (slice_get new.buckets.items number)
    by (inl (lock, inside, at, same)) =
        let was = some_at into.buckets.items number (omega (arith, inside, are_into.of_locks.count)) in
        let other = some_at from.buckets.items number (omega (arith, inside, are_from.of_locks.count)) in
        let now = some_at new.buckets.items number (omega (arith, inside, are_into.of_locks.count, joined.length_is)) in
        let is = each number lock was.0 other.0 now.0 at now.1
        (joined.each number lock was.0 other.0 now.0 (omega arith) at was.1 other.1 now.1) in
        subst (λ (one : Option BucketPass). P one (slice_get from.buckets.items number) (slice_get new.buckets.items number)) (sym was.1)
        (subst (λ (one : Option BucketPass). P (Some was.0) one (slice_get new.buckets.items number)) (sym other.1)
        (subst (P (Some was.0) (Some other.0)) (sym now.1) is))
    by (inr (beyond, at)) =
        let was = slice_get_past into.buckets.items number (omega (arith, beyond, are_into.of_locks.count)) in
        let other = slice_get_past from.buckets.items number (omega (arith, beyond, are_from.of_locks.count)) in
        let now = slice_get_past new.buckets.items number (omega (arith, beyond, are_into.of_locks.count, joined.length_is)) in
        subst (λ (one : Option BucketPass). P one (slice_get from.buckets.items number) (slice_get new.buckets.items number)) (sym was)
        (subst (λ (one : Option BucketPass). P None one (slice_get new.buckets.items number)) (sym other)
        (subst (P None None) (sym now) none))

  longest : (number : ℕ) → IsLongest (seen_in (slice_get into.buckets.items number)) (seen_in (slice_get from.buckets.items number))
      (seen_in (slice_get new.buckets.items number))
  longest = by_number (λ was other now. IsLongest (seen_in was) (seen_in other) (seen_in now)) longest_none
      (λ number lock was other now at_lock at is. is.seen_is)

  disjoint : (number : ℕ) → AreDisjoint (passes.own_in (slice_get into.buckets.items number)) (passes.own_in (slice_get from.buckets.items number))
  disjoint = by_number (λ was other now. AreDisjoint (passes.own_in was) (passes.own_in other)) disjoint_none
      (λ number lock was other now at_lock at is. is.disjoint)

  own_is : (number : ℕ) → passes.own_in (slice_get new.buckets.items number)
      ≡ merged_places (passes.own_in (slice_get into.buckets.items number)) (passes.own_in (slice_get from.buckets.items number))
  own_is = by_number (λ was other now. passes.own_in now ≡ merged_places (passes.own_in was) (passes.own_in other)) refl
      (λ number lock was other now at_lock at is. is.own_is)

  -- what is known of each pass that came of it
  known : (number : ℕ) (now : BucketPass) → slice_get new.buckets.items number ≡ Some now
      → (lock : BucketLock) × (slice_get locks.buckets number ≡ Some lock) × IsPassOf (lock_id lock) now × IsFree now
  known number now at =
      let within = slice_get_within new.buckets.items number now at in
      let inside : number < length locks.buckets = omega (arith, within, are_into.of_locks.count, joined.length_is) in
      let lock = some_at locks.buckets number inside in
      let was = some_at into.buckets.items number (omega (arith, inside, are_into.of_locks.count)) in
      let other = some_at from.buckets.items number (omega (arith, inside, are_from.of_locks.count)) in
      let is = joined.each number lock.0 was.0 other.0 now (omega arith) lock.1 was.1 other.1 at in
      (lock.0, lock.1, is.is, is.free)

  module _ (board_seen : IsLongest (seen into.board) (seen from.board) (seen new.board)) where
    pub joined_are : IsPassOf (lock_id locks.board) new.board → IsFree new.board → ArePasses locks new
    joined_are is free = record {
      of_locks = record {
        count = joined.length_is ∙ are_into.of_locks.count;
        each = λ number lock now at_lock at.
            let one = known number now at in
            subst (λ (l : BucketLock). IsPassOf (lock_id l) now) (same_Some one.0 lock (sym one.1 ∙ at_lock)) one.2;
        of_board = is;
        legal = record {
          buckets = λ number within. of_longest (IsLegal (board_name locks).first) _ _ _ (longest number)
              (are_into.of_locks.legal.buckets number within) (are_from.of_locks.legal.buckets number within);
          board = of_longest (IsLegalBoard (board_name locks).first) _ _ _ board_seen are_into.of_locks.legal.board are_from.of_locks.legal.board;
          others = λ number beyond. of_longest (λ (entries : List Entry). entries ≡ []) _ _ _ (longest number)
              (are_into.of_locks.legal.others number beyond) (are_from.of_locks.legal.others number beyond);
        };
      };
      free = record { each = λ number now at. (known number now at).3; board_is = free };
    }

    pub joined_sees : AreDisjoint (own_places into.board) (own_places from.board)
        → own_places new.board ≡ merged_places (own_places into.board) (own_places from.board) → SeesBoth (seen_of into) (seen_of from) (seen_of new)
    joined_sees board_disjoint board_own = record {
      journals = longest;
      board = board_seen;
      disjoint = λ number. disjoint_by number (number == length into.buckets.items) (number == length from.buckets.items)
          (ap (λ n. number == n) (are_into.of_locks.count ∙ sym are_from.of_locks.count));
      own = λ number. own_by number (number == length into.buckets.items) (number == length from.buckets.items) (number == length new.buckets.items)
          (ap (λ n. number == n) (are_into.of_locks.count ∙ sym are_from.of_locks.count)) (ap (λ n. number == n) joined.length_is);
    } where
      disjoint_by : (number : ℕ) (a b : Bool) → a ≡ b
          → AreDisjoint (cond a (own_places into.board) (passes.own_in (slice_get into.buckets.items number)))
          (cond b (own_places from.board) (passes.own_in (slice_get from.buckets.items number)))
      disjoint_by number true true same = board_disjoint
      disjoint_by number true false same = absurd (cc)
      disjoint_by number false true same = absurd (cc)
      disjoint_by number false false same = disjoint number

      own_by : (number : ℕ) (a b d : Bool) → a ≡ b → d ≡ a
          → cond d (own_places new.board) (passes.own_in (slice_get new.buckets.items number))
          ≡ merged_places (cond a (own_places into.board) (passes.own_in (slice_get into.buckets.items number)))
          (cond b (own_places from.board) (passes.own_in (slice_get from.buckets.items number)))
      own_by number true true true same also = board_own
      own_by number false false false same also = own_is number
      own_by number true false d same also = absurd (cc)
      own_by number false true d same also = absurd (cc)
      own_by number true true false same also = absurd (cc)
      own_by number false false true same also = absurd (cc)
