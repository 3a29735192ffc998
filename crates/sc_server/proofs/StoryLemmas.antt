-- What several have seen of one collection, as their passes are joined one after another.
use Rattle.std.proofs.Common.{◌≡◌, ◌≢◌, inl, ℕ, zero, suc, Bool, true, false, cond, ltb, List, [], ◌∷◌, Option, Some, None, slice_get, refl, sym, subst, arith}
use Rattle.std.specs.List.{Contains}
use Rattle.std.proofs.lemmas.Option.{same_Some}
use Rattle.sc_seen.specs.Seen.{Layout, Seen, SeesMore, AreLegal}
use Rattle.sc_seen.proofs.ExtendsLemmas.{IsPrefix-then, IsPrefix-self}
use Rattle.sc_lock.specs.Journal.{AreDisjoint, inserted, merged_places}
use Rattle.sc_shared.specs.Collections.{SeesBoth}
use Rattle.sc_shared.specs.declared.passes.Passes.{Passes}
use Rattle.sc_server.specs.Crews.{seen_with}
use Rattle.sc_server.specs.Serving.{IsOneStory}

-- ---- what stands in merged lists
later : (x place : ℕ) (places : List ℕ) → Contains places place → Contains (x ∷ places) place
later x place places (k, within, is) = (suc k, omega (arith, within), is)

-- the one that was inserted
here_inserted : (places : List ℕ) (place : ℕ) → Contains (inserted places place) place
here_inserted [] place = (0, omega arith, refl)
here_inserted (x ∷ places) place = by (ltb place x) (here_inserted places place) where
  by : (b : Bool) → Contains (inserted places place) place → Contains (cond b (place ∷ x ∷ places) (x ∷ inserted places place)) place
  by true more = (0, omega arith, refl)
  by false more = later x place (inserted places place) more

-- and those among which it was
still_inserted : (places : List ℕ) (place other : ℕ) → Contains places other → Contains (inserted places place) other
still_inserted [] place other (k, within, is) = absurd (omega (arith, within))
still_inserted (x ∷ places) place other has = by (ltb place x) has (λ more. still_inserted places place other more) where
  by : (b : Bool) → Contains (x ∷ places) other → (Contains places other → Contains (inserted places place) other)
      → Contains (cond b (place ∷ x ∷ places) (x ∷ inserted places place)) other
  by true has more = later place other (x ∷ places) has
  by false (zero, within, is) more = (0, omega arith, is)
  by false (suc k, within, is) more = later x other (inserted places place) (more (k, omega (arith, within), is))

first_merged : (ones others : List ℕ) (place : ℕ) → Contains ones place → Contains (merged_places ones others) place
first_merged ones [] place has = has
first_merged ones (x ∷ others) place has = still_inserted (merged_places ones others) x place (first_merged ones others place has)

second_merged : (ones others : List ℕ) (place : ℕ) → Contains others place → Contains (merged_places ones others) place
second_merged ones [] place (k, within, is) = absurd (omega (arith, within))
second_merged ones (x ∷ others) place (zero, within, is) =
    subst (Contains (inserted (merged_places ones others) x)) is (here_inserted (merged_places ones others) x)
second_merged ones (x ∷ others) place (suc k, within, is) =
    still_inserted (merged_places ones others) x place (second_merged ones others place (k, omega (arith, within), is))

-- ---- what is joined
-- these are beginnings of what is seen, whose entries are one's own now, and no entry is of two of them
pub record AreJoined (parts : List Seen) (now : Seen) : Type 0 where
  pub beginnings : (i : ℕ) (part : Seen) → slice_get parts i ≡ Some part → SeesMore part now
  pub has : (i : ℕ) (part : Seen) → slice_get parts i ≡ Some part → (lock place : ℕ) → Contains (part.own lock) place → Contains (now.own lock) place
  pub apart : (i j : ℕ) (one other : Seen) → i ≢ j → slice_get parts i ≡ Some one → slice_get parts j ≡ Some other
      → (lock : ℕ) → AreDisjoint (one.own lock) (other.own lock)

pub none_joined : (now : Seen) → AreJoined [] now
none_joined now = record {
  beginnings = λ i part at. absurd (cc);
  has = λ i part at. absurd (cc);
  apart = λ i j one other different at. absurd (cc);
}

-- one more was joined
pub one_more_joined : (part : Seen) (parts : List Seen) (now both : Seen) → AreJoined parts now → SeesBoth now part both → AreJoined (part ∷ parts) both
one_more_joined part parts now both are joined = record { beginnings = beginnings; has = has; apart = apart } where
  beginnings : (i : ℕ) (one : Seen) → slice_get (part ∷ parts) i ≡ Some one → SeesMore one both
  beginnings zero one at =
      subst (λ (seen : Seen). SeesMore seen both) (same_Some part one at)
      (record { journals = λ lock. (joined.journals lock).second_is_prefix; board = joined.board.second_is_prefix })
  beginnings (suc i) one at =
      let before = are.beginnings i one at in
      record {
        journals = λ lock.
            IsPrefix-then (one.journals lock) (now.journals lock) (both.journals lock) (before.journals lock) (joined.journals lock).first_is_prefix;
        board = IsPrefix-then one.board now.board both.board before.board joined.board.first_is_prefix;
      }

  has : (i : ℕ) (one : Seen) → slice_get (part ∷ parts) i ≡ Some one → (lock place : ℕ) → Contains (one.own lock) place → Contains (both.own lock) place
  has zero one at lock place in_it =
      subst (λ (places : List ℕ). Contains places place) (sym (joined.own lock)) (second_merged (now.own lock) (part.own lock) place
      (subst (λ (seen : Seen). Contains (seen.own lock) place) (sym (same_Some part one at)) in_it))
  has (suc i) one at lock place in_it =
      subst (λ (places : List ℕ). Contains places place) (sym (joined.own lock))
      (first_merged (now.own lock) (part.own lock) place (are.has i one at lock place in_it))

  apart : (i j : ℕ) (one other : Seen) → i ≢ j → slice_get (part ∷ parts) i ≡ Some one → slice_get (part ∷ parts) j ≡ Some other
      → (lock : ℕ) → AreDisjoint (one.own lock) (other.own lock)
  apart zero zero one other different at_one at_other lock place in_one in_other = absurd (different refl)
  apart zero (suc j) one other different at_one at_other lock place in_one in_other =
      joined.disjoint lock place (are.has j other at_other lock place in_other)
      (subst (λ (seen : Seen). Contains (seen.own lock) place) (sym (same_Some part one at_one)) in_one)
  apart (suc i) zero one other different at_one at_other lock place in_one in_other =
      joined.disjoint lock place (are.has i one at_one lock place in_one)
      (subst (λ (seen : Seen). Contains (seen.own lock) place) (sym (same_Some part other at_other)) in_other)
  apart (suc i) (suc j) one other different at_one at_other lock place in_one in_other =
      are.apart i j one other (λ same. different (omega (arith, same))) at_one at_other lock place in_one in_other

-- all were joined
pub all_joined : (layout : Layout) (parts : List Seen) (now : Seen) → AreLegal layout now → AreJoined parts now → IsOneStory layout parts now
all_joined layout parts now legal are = record { legal = legal; beginnings = are.beginnings; apart = are.apart }

-- ---- passes that are not there
-- they have seen nothing, which adds nothing
pub nothing_joined : (worked : Option Passes) (now : Seen) → ((passes : Passes) → worked ≡ Some passes → ⊥) → SeesBoth now (seen_with worked) now
nothing_joined None now none = record {
  journals = λ lock. record { one_of = inl refl; first_is_prefix = IsPrefix-self (now.journals lock); second_is_prefix = (now.journals lock, refl) };
  board = record { one_of = inl refl; first_is_prefix = IsPrefix-self now.board; second_is_prefix = (now.board, refl) };
  disjoint = λ lock place in_one (k, within, is). absurd (omega (arith, within));
  own = λ lock. refl;
}
nothing_joined (Some passes) now none = absurd (none passes refl)
