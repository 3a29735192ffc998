-- What the calls of a lock ask for and leave, as facts that stand together.
use Rattle.std.specs.Prelude.{◌≡◌, ◌⊎◌, ℕ, List, [], Some}
use mathlib.Core.List.{IsPrefix}
use Rattle.sc_lock.specs.declared.kept.Kept.{Ghosts as Kept}
use Rattle.sc_lock.specs.declared.lock.Lock.{Lock}
use Rattle.sc_lock.specs.declared.pass.Pass.{Pass}
use Rattle.sc_lock.specs.declared.keeper.Keeper.{Keeper}
use Rattle.sc_lock.specs.Journal.{OwnsPlaceOf, MayAppend, GrowsByAtMostOne}
use Rattle.sc_lock.specs.Tokens.{LockId, SeatToken, lock_name, seat_seen, seat_places, seat_part, seat_weight, IsPassOf, IsFree, seen, own_places, splits_left, IsKeeperOf, IsFreeKeeper, keeper_seen, keeper_places, keeper_part}

module _ {K E P : Type 0} where
  -- a new pass of the lock, which is free: it has seen this journal, has no entries, and may have so many passes split off it
  pub record IsNewPassOf (lock : LockId K) (journal : List E) (splits : ℕ) (pass : Pass K E P) : Type 0 where
    pub of_lock : IsPassOf lock pass
    pub free : IsFree pass
    pub seen_is : seen pass ≡ journal
    pub no_places : own_places pass ≡ []
    pub splits_are : splits_left pass ≡ splits

  -- the new keeper of the lock, which is free: it has seen this journal, has no entries, and left this part
  pub record IsNewKeeperOf (lock : LockId K) (journal : List E) (part : P) (keeper : Keeper K E P) : Type 0 where
    pub of_lock : IsKeeperOf lock keeper
    pub free : IsFreeKeeper keeper
    pub seen_is : keeper_seen keeper ≡ journal
    pub no_places : keeper_places keeper ≡ []
    pub part_is : keeper_part keeper ≡ Some part

  -- the seat knows what it knew, and has its weight
  pub record SeatKnowsTheSame (before after : SeatToken K E P) : Type 0 where
    pub seen_is : seat_seen after ≡ seat_seen before
    pub places_are : seat_places after ≡ seat_places before
    pub part_is : seat_part after ≡ seat_part before
    pub weight_is : seat_weight after ≡ seat_weight before

  -- the pass knows what it knew, and has its splits
  pub record PassKnowsTheSame (before after : Pass K E P) : Type 0 where
    pub seen_is : seen after ≡ seen before
    pub places_are : own_places after ≡ own_places before
    pub splits_are : splits_left after ≡ splits_left before

  -- the keeper knows what it knew
  pub record KeeperKnowsTheSame (before after : Keeper K E P) : Type 0 where
    pub seen_is : keeper_seen after ≡ keeper_seen before
    pub places_are : keeper_places after ≡ keeper_places before
    pub part_is : keeper_part after ≡ keeper_part before

module _ {K E P : Type 0} (kept : Kept K E P) where
  open kept use {journal, sound, step, name, owned}

  -- What a holder finds that has seen this much of the journal and has these places in it: a sound value of the lock's name, whose
  -- journal begins so; and no entry has come since where the journal's owned place is one of these.
  pub record IsFoundBy (lock : Lock K E P) (seen : List E) (places : List ℕ) (x : K) : Type 0 where
    pub is_sound : sound x
    pub name_is : name x ≡ lock_name name lock
    pub seen_is_prefix : IsPrefix seen (journal x)
    pub owner : OwnsPlaceOf owned seen places → journal x ≡ seen

  -- What a holder with these places may give back in place of x: a sound value, which is x or comes from it by one step that adds
  -- an entry at most, and adds none after the owned place of another.
  pub record MayBeGiven (places : List ℕ) (x y : K) : Type 0 where
    pub is_sound : sound y
    pub one_step : (y ≡ x) ⊎ step x y
    pub grows : GrowsByAtMostOne (journal x) (journal y)
    pub owner : MayAppend owned places (journal x) (journal y)
