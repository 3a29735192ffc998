-- The locks of a new collection.
use Rattle.std.proofs.Common.{◌≡◌, ◌≤◌, ◌<◌, ◌⊎◌, inl, inr, ℕ, ◌+◌, ◌^◌, List, [], ◌∷◌, ◌++◌, length, map, Option, Some, None, slice_get, All, suc, refl, sym, ap, subst, ◌∙◌, ◌≢◌, arith, cond, true, false, Bool}
use Rattle.std.specs.Prelude.{◌==◌}
use Rattle.std.specs.Option.{option_map, unwrap_or}
use Rattle.std.proofs.lemmas.Bool.{cases_eq}
use Rattle.std.proofs.lemmas.List.{length_push, length-map}
use Rattle.std.proofs.lemmas.Option.{slice_get_within, slice_get-map, same_Some, none-some}
use Rattle.sc_record.specs.declared.entry.Entry.{Entry}
use Rattle.sc_router.specs.Route.{IsBucketCount}
use Rattle.sc_cluster.specs.declared.slice.Slice.{Slice}
use Rattle.sc_cluster.proofs.ListLemmas.{All-from_slice_get}
use Rattle.sc_journal.proofs.ListLemmas.{slice_get-append_end, slice_get-append_left}
use Rattle.sc_journal.specs.Legal.{IsLegal}
use Rattle.sc_journal.proofs.LegalLemmas.{IsLegal-none}
use Rattle.sc_seen.specs.declared.board.BoardEntry.{BoardEntry}
use Rattle.sc_seen.specs.Board.{board_map, IsLegalBoard}
use Rattle.sc_seen.specs.Seen.{opened_at, Opened, nothing_opened, AreLegal}
use Rattle.sc_seen.proofs.BoardLemmas.{IsLegalBoard-none}
use Rattle.sc_bucket.specs.declared.bucket.Bucket.{Bucket}
use Rattle.sc_replicas.proofs.FindLemmas.{some_at}
use Rattle.sc_keeper.specs.declared.part.Part.{Part}
use Rattle.sc_keeper.specs.Part.{part_of, keeper_entries}
use Rattle.sc_lock.specs.Tokens.{LockId, lock_id, lock_name, badge_lock, IsPassOf, own_places, splits_left, IsKeeperOf, IsFreeKeeper, keeper_seen}
use Rattle.sc_lock.specs.Calls.{IsNewPassOf, IsNewKeeperOf}
use Rattle.sc_board.specs.declared.board.Board.{Board}
use Rattle.sc_board.specs.Boards.{IsSoundBoard}
use Rattle.sc_collection.specs.Desks.{IsAtRest}
use Rattle.sc_collection.specs.Shapes.{SeesOpened}
use Rattle.sc_collection.proofs.RestLemmas.{SeesNothing}
use Rattle.sc_shared.specs.declared.numbered.Numbered.{Numbered}
use Rattle.sc_shared.specs.declared.keepers.Keepers.{Keepers}
use Rattle.sc_shared.specs.declared.passes.Passes.{Passes}
use Rattle.sc_shared.specs.declared.collection.NewLock.{NewLock}
use Rattle.sc_shared.specs.declared.collection.NewLocks.{NewLocks}
use Rattle.sc_shared.specs.Buckets.{BucketName, name_of}
use Rattle.sc_shared.specs.Keepers.{BucketKeeper, entries_at_places, no_part, part_of_keeper, own_of_keeper, keeping_of, AreKeepers}
use Rattle.sc_shared.specs.Boards.{BoardName, board_name_of, AreHome, IsSoundKept}
use Rattle.sc_shared.specs.Passes.{BucketPass, BoardPass, seen_in, seen_by, CanSplit}
use Rattle.sc_shared.specs.Passes as passes
use Rattle.sc_shared.specs.Collections.{Locks, BucketLock, BoardLock, layout_of, board_name, AreLocks, AreOfLocks, AreFree}
use Rattle.sc_shared.specs.NewLocks.{IsNewLock, IsNumber, AreNewLocks}

-- the name of the bucket of this number
abbrev named_so : (number buckets : ℕ) → List Slice → ℕ → BucketName
named_so number buckets first limit = record { number = number; buckets = buckets; first = first; limit = limit }

-- a lock round a new bucket
pub new_lock_is : (number buckets : ℕ) (first : List Slice) (limit : ℕ) (bucket : Bucket) (new : NewLock)
    → bucket.first ≡ first → bucket.limit ≡ limit → bucket.journal.entries ≡ []
    → IsAtRest 0 [] first (part_of bucket) (keeper_entries bucket.journal.entries)
    → lock_name name_of new.lock ≡ named_so number buckets bucket.first bucket.limit
    → IsNewPassOf (lock_id new.lock) bucket.journal.entries (2 ^ 31) new.pass
    → IsNewKeeperOf (lock_id new.lock) bucket.journal.entries (part_of bucket) new.keeper
    → badge_lock new.badge ≡ lock_id new.lock → IsNewLock (named_so number buckets first limit) new
new_lock_is number buckets first limit bucket new begins limited empty rest name pass keeper badge = record {
  named = name ∙ (λ i. named_so number buckets (begins i) (limited i));
  pass = subst (λ (journal : List Entry). IsNewPassOf (lock_id new.lock) journal (2 ^ 31) new.pass) empty pass;
  keeper = keeper.of_lock;
  free = keeper.free;
  no_entries = keeper.no_places;
  left = (part_of bucket, keeper.part_is, subst (IsAtRest 0 [] first (part_of bucket)) (ap keeper_entries empty) rest);
  badge = badge;
}

-- ---- one lock more
-- the same record by its parts
same_new : (new other : NewLock) → new.lock ≡ other.lock → new.pass ≡ other.pass → new.keeper ≡ other.keeper → new.badge ≡ other.badge
    → new ≡ other
same_new new other lock pass keeper badge = λ i. record { lock = lock i; pass = pass i; keeper = keeper i; badge = badge i }

-- what is at a place before the end of a longer list
earlier : {X : Type 0} (xs : List X) (y : X) (number : ℕ) (x : X) → number < length xs → slice_get (xs ++ y ∷ []) number ≡ Some x
    → slice_get xs number ≡ Some x
earlier xs y number x before at = sym (slice_get-append_left xs (y ∷ []) number before) ∙ at

-- and at its end
ending : {X : Type 0} (xs : List X) (y : X) (number : ℕ) (x : X) → number ≡ length xs → slice_get (xs ++ y ∷ []) number ≡ Some x → y ≡ x
ending xs y number x end at =
    same_Some y x (sym (slice_get-append_end xs y []) ∙ ap (λ (n : ℕ). slice_get (xs ++ y ∷ []) n) (sym end) ∙ at)

-- the lists after one lock more
pub record Grown (old : NewLocks) (new : NewLock) (grown : NewLocks) : Type 0 where
  pub locks : grown.locks.items ≡ old.locks.items ++ new.lock ∷ []
  pub passes : grown.passes.items ≡ old.passes.items ++ new.pass ∷ []
  pub keepers : grown.keepers.items ≡ old.keepers.items ++ new.keeper ∷ []
  pub badges : grown.badges.items ≡ old.badges.items ++ new.badge ∷ []

at_in : {X : Type 0} (xs ys : List X) (number : ℕ) (x : X) → ys ≡ xs → slice_get ys number ≡ Some x → slice_get xs number ≡ Some x
at_in {X = X} xs ys number x same at = ap (λ (zs : List X). slice_get zs number) (sym same) ∙ at

pub one_more : (buckets : ℕ) (first : List Slice) (limit count : ℕ) (old : NewLocks) (new : NewLock) (grown : NewLocks)
    → AreNewLocks buckets first limit count old → IsNewLock (named_so count buckets first limit) new → Grown old new grown
    → AreNewLocks buckets first limit (count + 1) grown
one_more buckets first limit count old new grown are is to = record {
  locks_are = ap length to.locks ∙ length_push old.locks.items new.lock ∙ ap (λ n. n + 1) are.locks_are;
  passes_are = ap length to.passes ∙ length_push old.passes.items new.pass ∙ ap (λ n. n + 1) are.passes_are;
  keepers_are = ap length to.keepers ∙ length_push old.keepers.items new.keeper ∙ ap (λ n. n + 1) are.keepers_are;
  badges_are = ap length to.badges ∙ length_push old.badges.items new.badge ∙ ap (λ n. n + 1) are.badges_are;
  each = each;
} where
  each : (number : ℕ) (one : NewLock) → IsNumber grown number one → IsNewLock (named_so number buckets first limit) one
  each number one at = by (cases_eq number count) where
    lock : slice_get (old.locks.items ++ new.lock ∷ []) number ≡ Some one.lock
    lock = at_in _ _ number one.lock to.locks at.lock

    pass : slice_get (old.passes.items ++ new.pass ∷ []) number ≡ Some one.pass
    pass = at_in _ _ number one.pass to.passes at.pass

    keeper : slice_get (old.keepers.items ++ new.keeper ∷ []) number ≡ Some one.keeper
    keeper = at_in _ _ number one.keeper to.keepers at.keeper

    badge : slice_get (old.badges.items ++ new.badge ∷ []) number ≡ Some one.badge
    badge = at_in _ _ number one.badge to.badges at.badge

    within : number < count + 1
    within = let inside = slice_get_within (old.locks.items ++ new.lock ∷ []) number one.lock lock in
        omega (arith, inside, length_push old.locks.items new.lock, are.locks_are)

    by : (number ≡ count) ⊎ (number ≢ count) → IsNewLock (named_so number buckets first limit) one
    by (inl end) =
        let same : new ≡ one = same_new new one
        (ending old.locks.items new.lock number one.lock (end ∙ sym are.locks_are) lock)
        (ending old.passes.items new.pass number one.pass (end ∙ sym are.passes_are) pass)
        (ending old.keepers.items new.keeper number one.keeper (end ∙ sym are.keepers_are) keeper)
        (ending old.badges.items new.badge number one.badge (end ∙ sym are.badges_are) badge) in
        subst (λ (n : ℕ). IsNewLock (named_so n buckets first limit) one) (sym end)
        (subst (IsNewLock (named_so count buckets first limit)) same is)
    by (inr other) = are.each number one (record {
      lock = earlier old.locks.items new.lock number one.lock (omega (arith, other, within, are.locks_are)) lock;
      pass = earlier old.passes.items new.pass number one.pass (omega (arith, other, within, are.passes_are)) pass;
      keeper = earlier old.keepers.items new.keeper number one.keeper (omega (arith, other, within, are.keepers_are)) keeper;
      badge = earlier old.badges.items new.badge number one.badge (omega (arith, other, within, are.badges_are)) badge;
    })

-- none yet
pub none_yet : (buckets : ℕ) (first : List Slice) (limit : ℕ) (locks : NewLocks) → locks.locks.items ≡ [] → locks.passes.items ≡ []
    → locks.keepers.items ≡ [] → locks.badges.items ≡ [] → AreNewLocks buckets first limit 0 locks
none_yet buckets first limit locks no_locks no_passes no_keepers no_badges = record {
  locks_are = ap length no_locks;
  passes_are = ap length no_passes;
  keepers_are = ap length no_keepers;
  badges_are = ap length no_badges;
  each = λ number new at. absurd (none-some new.lock (ap (λ (xs : List BucketLock). slice_get xs number) (sym no_locks) ∙ at.lock));
}

-- the name of a new board whose first map and limit are these
abbrev pub new_name : List Slice → ℕ → List (LockId Numbered) → Opened → BoardName
new_name first limit locks opened = record { first = first; limit = limit; locks = locks; opened = opened }

pub board_named : (first other : List Slice) (limit most : ℕ) (locks : List (LockId Numbered)) (opened : Opened) (name : BoardName)
    → name ≡ new_name other most locks opened → other ≡ first → most ≡ limit → opened ≡ nothing_opened
    → name ≡ new_name first limit locks nothing_opened
board_named first other limit most locks opened name is begins limited none =
    is ∙ (λ i. new_name (begins i) (limited i) locks (none i))

-- ---- the locks of all buckets
-- what is made of the elements of two lists, where it is the same at each place
same_maps : {X Y Z : Type 0} (f : X → Z) (g : Y → Z) (xs : List X) (ys : List Y) → length xs ≡ length ys
    → ((number : ℕ) (x : X) (y : Y) → slice_get xs number ≡ Some x → slice_get ys number ≡ Some y → f x ≡ g y) → map f xs ≡ map g ys
same_maps f g [] [] long each = refl
same_maps f g [] (y ∷ ys) long each = absurd (omega (arith, long))
same_maps f g (x ∷ xs) [] long each = absurd (omega (arith, long))
same_maps f g (x ∷ xs) (y ∷ ys) long each =
    let first = each 0 x y refl refl in
    let rest = same_maps f g xs ys (omega (arith, long)) (λ number a b at_a at_b. each (suc number) a b at_a at_b) in
    λ i. first i ∷ rest i

-- where nothing was seen, what was seen is legal
legal_nothing : (locks : Locks) (passes : List BucketPass) (board : BoardPass) → SeesNothing (seen_by passes board)
    → AreLegal (layout_of locks) (seen_by passes board)
legal_nothing locks passes board sees = record {
  buckets = λ lock within. subst (IsLegal (board_name locks).first) (sym (sees.journals lock)) (IsLegal-none (board_name locks).first);
  board = subst (IsLegalBoard (board_name locks).first) (sym sees.board) (IsLegalBoard-none (board_name locks).first);
  others = λ lock beyond. sees.journals lock;
}

module _ (buckets : ℕ) (first : List Slice) (limit : ℕ) (made : NewLocks) (new : AreNewLocks buckets first limit buckets made) where
  -- there is a lock of each number
  found : (number : ℕ) → number < buckets → (one : NewLock) × IsNumber made number one
  found number within =
      let lock = some_at made.locks.items number (omega (arith, new.locks_are, within)) in
      let pass = some_at made.passes.items number (omega (arith, new.passes_are, within)) in
      let keeper = some_at made.keepers.items number (omega (arith, new.keepers_are, within)) in
      let badge = some_at made.badges.items number (omega (arith, new.badges_are, within)) in (
        record { lock = lock.0; pass = pass.0; keeper = keeper.0; badge = badge.0 },
        record { lock = lock.1; pass = pass.1; keeper = keeper.1; badge = badge.1 },
      )

  -- the badges are of the locks
  pub same_locks : map badge_lock made.badges.items ≡ map lock_id made.locks.items
  same_locks = same_maps badge_lock lock_id made.badges.items made.locks.items (new.badges_are ∙ sym new.locks_are) (λ number badge lock at_badge at_lock.
      let within = slice_get_within made.locks.items number lock at_lock in
      let one = found number (omega (arith, within, new.locks_are)) in
      let is = new.each number one.0 one.1 in
      ap badge_lock (same_Some badge one.0.badge (sym at_badge ∙ one.1.badge)) ∙ is.badge
      ∙ ap lock_id (same_Some one.0.lock lock (sym one.1.lock ∙ at_lock)))

  -- each keeper is that of the lock of its number
  pub new_keepers : AreKeepers (map badge_lock made.badges.items) made.keepers.items
  new_keepers = record {
    count = new.keepers_are ∙ sym (length-map made.badges.items badge_lock ∙ new.badges_are);
    each = each;
    free = λ number keeper at.
        let within = slice_get_within made.keepers.items number keeper at in
        let one = found number (omega (arith, within, new.keepers_are)) in
        subst IsFreeKeeper (same_Some one.0.keeper keeper (sym one.1.keeper ∙ at)) (new.each number one.0 one.1).free;
  } where
    each : (number : ℕ) (lock : LockId Numbered) (keeper : BucketKeeper) → slice_get (map badge_lock made.badges.items) number ≡ Some lock
        → slice_get made.keepers.items number ≡ Some keeper → IsKeeperOf lock keeper
    each number lock keeper at_lock at =
        let within = slice_get_within made.keepers.items number keeper at in
        let one = found number (omega (arith, within, new.keepers_are)) in
        let is = new.each number one.0 one.1 in
        let there : slice_get (map badge_lock made.badges.items) number ≡ Some (badge_lock one.0.badge) =
        slice_get-map badge_lock made.badges.items number ∙ ap (option_map badge_lock) one.1.badge in
        let same : badge_lock one.0.badge ≡ lock = same_Some (badge_lock one.0.badge) lock (sym there ∙ at_lock) in
        subst (IsKeeperOf lock) (same_Some one.0.keeper keeper (sym one.1.keeper ∙ at))
        (subst (λ (id : LockId Numbered). IsKeeperOf id one.0.keeper) (sym is.badge ∙ same) is.keeper)

  -- each keeper left its bucket at rest
  pub new_rest : (number : ℕ) → number < buckets → IsAtRest 0 [] first ((keeping_of made.keepers.items).part number) ((keeping_of made.keepers.items).own number)
  new_rest number within =
      let one = found number within in
      let is = new.each number one.0 one.1 in
      let part : (keeping_of made.keepers.items).part number ≡ is.left.0 =
      ap (λ (keeper : Option BucketKeeper). unwrap_or (part_of_keeper keeper) no_part) one.1.keeper
      ∙ ap (λ (part : Option Part). unwrap_or part no_part) is.left.1 in
      let own : (keeping_of made.keepers.items).own number ≡ [] =
      ap own_of_keeper one.1.keeper ∙ ap (entries_at_places (keeper_seen one.0.keeper)) is.no_entries in
      subst (λ (entries : List Entry). IsAtRest 0 [] first ((keeping_of made.keepers.items).part number) entries) (sym own)
      (subst (λ (left : Part). IsAtRest 0 [] first left []) (sym part) is.left.2)

  -- a new board with these keepers is as its lock is to keep it
  pub new_board_is : (board : Board Keepers) (opened : Opened) → IsSoundBoard board → board.first ≡ first → board.journal.entries ≡ []
      → board.keepers ≡ Some (record { keepers = made.keepers }) → opened ≡ nothing_opened
      → IsSoundKept (record { board = board; badges = made.badges; opened = opened })
  new_board_is board opened sound begins empty has none = record {
    sound = sound;
    home = λ keepers there.
        let same : record { keepers = made.keepers } ≡ keepers = same_Some (record { keepers = made.keepers }) keepers (sym has ∙ there) in
        subst (AreHome (record { board = board; badges = made.badges; opened = opened })) same (record {
          keepers_are = new_keepers;
          rest = λ number inside.
              let within : number < buckets = omega (arith, inside, length-map made.badges.items badge_lock, new.badges_are) in
              subst (λ (were : Opened). IsRest were.board board.first board.journal.entries number) (sym none)
              (subst (λ (entries : List BoardEntry). IsRest 0 board.first entries number) (sym empty)
              (subst (λ (slices : List Slice). IsRest 0 slices [] number) (sym begins) (new_rest number within)));
        });
  } where
    IsRest : ℕ → List Slice → List BoardEntry → ℕ → Type 0
    IsRest from slices entries number =
        IsAtRest from entries (board_map slices entries) ((keeping_of made.keepers.items).part number) ((keeping_of made.keepers.items).own number)

  -- what is known of a pass by its number
  pass_at : (number : ℕ) (pass : BucketPass) → slice_get made.passes.items number ≡ Some pass
      → (lock : BucketLock) × (slice_get made.locks.items number ≡ Some lock) × IsNewPassOf (lock_id lock) [] (2 ^ 31) pass
  pass_at number pass at =
      let within = slice_get_within made.passes.items number pass at in
      let one = found number (omega (arith, within, new.passes_are)) in
      (one.0.lock, one.1.lock, subst (IsNewPassOf (lock_id one.0.lock) [] (2 ^ 31)) (same_Some one.0.pass pass (sym one.1.pass ∙ at)) (new.each number one.0 one.1).pass)

  module _ (board : BoardLock) (nodes : ℕ)
      (name_is : lock_name board_name_of board ≡ new_name first limit (map badge_lock made.badges.items) nothing_opened) where
    -- the locks of the collection
    abbrev all : Locks
    all = record { buckets = made.locks.items; board = board; nodes = nodes }

    -- nothing was opened
    pub none_opened : (layout_of all).opened ≡ nothing_opened
    none_opened = ap (λ (name : BoardName). name.opened) name_is

    pub new_are_locks : IsBucketCount buckets → 1 ≤ nodes → AreLocks all first
    new_are_locks counted from =
        let first_is : first ≡ (board_name all).first = sym (ap (λ (name : BoardName). name.first) name_is) in
        let limit_is : limit ≡ (board_name all).limit = sym (ap (λ (name : BoardName). name.limit) name_is) in
        record {
          count = subst IsBucketCount (sym new.locks_are) counted;
          nodes = from;
          first_is = first_is;
          named = λ number lock at.
              let within = slice_get_within made.locks.items number lock at in
              let one = found number (omega (arith, within, new.locks_are)) in
              let named : lock_name name_of lock ≡ named_so number buckets first limit =
              ap (lock_name name_of) (same_Some lock one.0.lock (sym at ∙ one.1.lock)) ∙ (new.each number one.0 one.1).named in
              named ∙ (λ i. named_so number (sym new.locks_are i) (first_is i) (limit_is i));
          badges = ap (λ (name : BoardName). name.locks) name_is ∙ same_locks;
        }

    -- and the first passes
    module _ (pass : BoardPass) (is : IsNewPassOf (lock_id board) [] (2 ^ 31) pass) where
      nothing_seen : SeesNothing (seen_by made.passes.items pass)
      nothing_seen = record {
        journals = λ lock. journals lock (slice_get made.passes.items lock) refl;
        board = is.seen_is;
        own = λ lock. own lock (lock == length made.passes.items) (slice_get made.passes.items lock) refl;
      } where
        journals : (lock : ℕ) (one : Option BucketPass) → slice_get made.passes.items lock ≡ one → seen_in one ≡ []
        journals lock None at = refl
        journals lock (Some one) at = (pass_at lock one at).2.seen_is

        own : (lock : ℕ) (b : Bool) (one : Option BucketPass) → slice_get made.passes.items lock ≡ one
            → cond b (own_places pass) (passes.own_in one) ≡ []
        own lock true one at = is.no_places
        own lock false None at = refl
        own lock false (Some one) at = (pass_at lock one at).2.no_places

      pub new_sees : SeesOpened (layout_of all).opened (seen_by made.passes.items pass)
      new_sees = record {
        journals = λ lock. ap (λ (journal : List Entry). length journal) (nothing_seen.journals lock)
            ∙ sym (ap (λ (one : Opened). opened_at one lock) none_opened);
        board = ap (λ (entries : List BoardEntry). length entries) nothing_seen.board ∙ sym (ap (λ (one : Opened). one.board) none_opened);
        own = nothing_seen.own;
      }

      pub new_of_locks : AreOfLocks all made.passes.items pass
      new_of_locks = record {
        count = new.passes_are ∙ sym new.locks_are;
        each = λ number lock one at_lock at.
            let known = pass_at number one at in
            subst (λ (of : BucketLock). IsPassOf (lock_id of) one) (same_Some known.0 lock (sym known.1 ∙ at_lock)) known.2.of_lock;
        of_board = is.of_lock;
        legal = legal_nothing all made.passes.items pass nothing_seen;
      }

      pub new_free : AreFree made.passes.items pass
      new_free = record { each = λ number one at. (pass_at number one at).2.free; board_is = is.free }

      pub new_splits : (both : Passes) → both.buckets.items ≡ made.passes.items → both.board ≡ pass → CanSplit (2 ^ 31) both
      new_splits both same_buckets same_board = record {
        buckets = subst (All (λ (one : BucketPass). 2 ^ 31 ≤ splits_left one)) (sym same_buckets)
            (All-from_slice_get (λ (one : BucketPass). 2 ^ 31 ≤ splits_left one) made.passes.items (λ number one at.
            let left = (pass_at number one at).2.splits_are in omega (arith, left)));
        board = let left : splits_left both.board ≡ 2 ^ 31 = ap splits_left same_board ∙ is.splits_are in omega (arith, left);
      }
