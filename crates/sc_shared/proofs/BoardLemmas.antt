-- What a hold and a give of the board leave of a thread's desk.
use Rattle.std.proofs.Common.{◌≡◌, ◌≢◌, ◌⊎◌, inl, inr, ◌<◌, ℕ, Bool, true, false, cond, List, [], ◌∷◌, ◌++◌, length, Option, Some, None, slice_get, refl, sym, ap, ◌∙◌, subst, arith}
use Rattle.std.specs.Prelude.{◌==◌, nat_lt, map, Contains}
use Rattle.std.specs.Option.{option_map}
use Rattle.std.proofs.lemmas.List.{append-nil, length-map, length_push}
use Rattle.std.proofs.lemmas.Option.{none-some, same_Some, slice_get-map}
use Rattle.std.proofs.lemmas.Bool.Decides.{nat_tests}
use Rattle.sc_cluster.specs.declared.slice.Slice.{Slice}
use Rattle.sc_seen.specs.declared.board.BoardEntry.{BoardEntry}
use Rattle.sc_seen.specs.Board.{board_map, running_split}
use Rattle.sc_seen.specs.Seen.{Opened, Layout}
use Rattle.sc_board.specs.declared.board.Board.{Board}
use Rattle.sc_board.specs.Boards.{IsSoundBoard}
use Rattle.sc_lock.specs.Journal.{places_after}
use Rattle.sc_lock.specs.Tokens.{LockId, lock_id, badge_lock, handed, seen, own_places, IsKeeperOf}
use Rattle.sc_collection.specs.Desks.{Keeping, StillFit, IsBoardOf, MayReplaceBoard, SeesBoardGiven, IsAtRest, AreAtRest, place_added}
use Rattle.sc_shared.specs.declared.numbered.Numbered.{Numbered}
use Rattle.sc_shared.specs.declared.board.KeptBoard.{KeptBoard}
use Rattle.sc_shared.specs.declared.keepers.Keepers.{Keepers}
use Rattle.sc_shared.specs.declared.shared.TakenBucket.{TakenBucket}
use Rattle.sc_shared.specs.declared.shared.TakenBoard.{TakenBoard}
use Rattle.sc_shared.specs.Keepers.{BucketKeeper, BucketLocks, AreKeepers, keeping_of}
use Rattle.sc_shared.specs.Boards.{BoardName, board_name_of, layout_of_board, AreHome, IsSoundKept, BoardFollows}
use Rattle.sc_shared.specs.Passes.{BucketPass, BoardPass, own_in, seen_by, seen_of}
use Rattle.sc_shared.specs.Collections.{BucketLock, Locks, board_name, layout_of, ids_of, AreLocks}
use Rattle.sc_shared.specs.Sharing.{SharedState, held_of, held_in, handed_entries, Fit, IsTakenBoard, IsShared}

-- no bucket is out where none is handed out
none_is_out : (bucket : Option TakenBucket) → held_in bucket ≡ None → bucket ≡ None
none_is_out None none = refl
none_is_out (Some taken) none = absurd (none-some (held_of taken) (sym none))

-- a board is out where its entries are
pub board_is_out : (board : Option TakenBoard) (entries : List BoardEntry) → handed_entries board ≡ Some entries
    → (taken : TakenBoard) × (board ≡ Some taken)
board_is_out (Some taken) entries at = (taken, refl)
board_is_out None entries at = absurd (none-some entries at)

-- which lock has a number
id_at : (locks : List BucketLock) (number : ℕ) (lock : BucketLock) → slice_get locks number ≡ Some lock
    → slice_get (ids_of locks) number ≡ Some (lock_id lock)
id_at locks number lock at = slice_get-map lock_id locks number ∙ ap (option_map lock_id) at

-- what has a number among the locks' ids is of the lock that has it
lock_of_id : (locks : List BucketLock) (number : ℕ) (id : LockId Numbered) → slice_get (ids_of locks) number ≡ Some id
    → (lock : BucketLock) × (slice_get locks number ≡ Some lock) × (lock_id lock ≡ id)
lock_of_id locks number id at = by (slice_get locks number) refl where
  by : (one : Option BucketLock) → slice_get locks number ≡ one
      → (lock : BucketLock) × (slice_get locks number ≡ Some lock) × (lock_id lock ≡ id)
  by (Some lock) there = (lock, there, same_Some (lock_id lock) id (sym (id_at locks number lock there) ∙ at))
  by None there = absurd (none-some id (sym (slice_get-map lock_id locks number ∙ ap (option_map lock_id) there) ∙ at))

-- while no bucket is out the keepers of the locks fit
fit_of_keepers : (desk : SharedState) (keepers : List BucketKeeper) → desk.bucket ≡ None
    → AreKeepers (ids_of desk.locks.buckets) keepers → Fit desk keepers
fit_of_keepers desk keepers none are = record {
  count = are.count ∙ length-map desk.locks.buckets lock_id;
  each = λ number lock keeper at here. are.each number (lock_id lock) keeper (id_at desk.locks.buckets number lock at) here;
  free = λ number keeper here away. are.free number keeper here;
  taken = λ taken keeper out by here. absurd (none-some taken (sym none ∙ out));
}

-- and those that fit are the locks'
keepers_of_fit : (desk : SharedState) (keepers : List BucketKeeper) → desk.bucket ≡ None → Fit desk keepers
    → AreKeepers (ids_of desk.locks.buckets) keepers
keepers_of_fit desk keepers none fit = record {
  count = fit.count ∙ sym (length-map desk.locks.buckets lock_id);
  each = λ number id keeper at here.
      let lock = lock_of_id desk.locks.buckets number id at in
      subst (λ (one : LockId Numbered). IsKeeperOf one keeper) lock.2 (fit.each number lock.0 keeper lock.1 here);
  free = λ number keeper here. fit.free number keeper here (λ out. none-some out.0 (sym none ∙ out.1));
}

-- keepers fit as long as the locks and the bucket that is out are the same
fits_on : (old new : SharedState) (keepers : List BucketKeeper) → new.locks ≡ old.locks → new.bucket ≡ old.bucket
    → Fit old keepers → Fit new keepers
fits_on old new keepers locks bucket fit =
    subst (λ (one : Option TakenBucket). Fit (record new { bucket = one }) keepers) (sym bucket)
    (subst (λ (one : Locks). Fit (record new { locks = one; bucket = old.bucket }) keepers) (sym locks)
    (record { count = fit.count; each = fit.each; free = fit.free; taken = fit.taken }))

-- and what they keep is as it was
pub still_fit : (old new : SharedState) → new.locks ≡ old.locks → new.bucket ≡ old.bucket → (keepers : Keepers)
    → Fit old keepers.keepers.items
    → StillFit (Fit new keepers.keepers.items) (keeping_of keepers.keepers.items) (keeping_of keepers.keepers.items)
still_fit old new locks bucket keepers fit = (
  fits_on old new keepers.keepers.items locks bucket fit,
  record { part = λ number. refl; own = λ number. refl },
)

-- whether buckets are at rest goes by how many there are, by their first map and by what was opened
rest_of_layout : (one other : Layout) (entries : List BoardEntry) (keeping : Keeping) → one.buckets ≡ other.buckets
    → one.first ≡ other.first → one.opened ≡ other.opened → AreAtRest one entries keeping → AreAtRest other entries keeping
rest_of_layout one other entries keeping buckets first opened rest number within =
    subst (λ (were : Opened). IsAtRest were.board entries (board_map other.first entries) (keeping.part number) (keeping.own number)) opened
    (subst (λ (slices : List Slice). IsAtRest one.opened.board entries (board_map slices entries) (keeping.part number) (keeping.own number))
    first (rest number (subst (λ (count : ℕ). number < count) (sym buckets) within)))

-- a board with a badge of each lock, the layout's first map and what was opened, while no bucket is out
module _ (desk : SharedState) (none : desk.bucket ≡ None) (kept : KeptBoard)
    (badges : map badge_lock kept.badges.items ≡ ids_of desk.locks.buckets)
    (first : kept.board.first ≡ (board_name desk.locks).first) (opened : kept.opened ≡ (board_name desk.locks).opened) (keepers : Keepers) where
  buckets : length (map badge_lock kept.badges.items) ≡ length desk.locks.buckets
  buckets = ap (λ (ids : BucketLocks). length ids) badges ∙ length-map desk.locks.buckets lock_id

  -- the keepers that are home fit, and each bucket is as the board says
  fit_of_home : AreHome kept keepers
      → Fit desk keepers.keepers.items
      × AreAtRest (layout_of desk.locks) kept.board.journal.entries (keeping_of keepers.keepers.items)
  fit_of_home home = (
    fit_of_keepers desk keepers.keepers.items none
        (subst (λ (ids : BucketLocks). AreKeepers ids keepers.keepers.items) badges home.keepers_are),
    rest_of_layout (layout_of_board (board_name_of kept)) (layout_of desk.locks) kept.board.journal.entries
        (keeping_of keepers.keepers.items) buckets first opened home.rest,
  )

  -- and keepers that fit, each of whose buckets is so, are home
  home_of_fit : Fit desk keepers.keepers.items
      → AreAtRest (layout_of desk.locks) kept.board.journal.entries (keeping_of keepers.keepers.items) → AreHome kept keepers
  home_of_fit fit rest = record {
    keepers_are = subst (λ (ids : BucketLocks). AreKeepers ids keepers.keepers.items) (sym badges)
        (keepers_of_fit desk keepers.keepers.items none fit);
    rest = rest_of_layout (layout_of desk.locks) (layout_of_board (board_name_of kept)) kept.board.journal.entries
        (keeping_of keepers.keepers.items) (sym buckets) (sym first) (sym opened) rest;
  }

-- the board of a desk out of which no bucket is: the keepers that it has fit the desk that it is taken from, and each bucket is as it says
pub board_is_found : (locks : Locks) (first : List Slice) (desk new : SharedState) (kept : KeptBoard) → AreLocks locks first
    → locks ≡ desk.locks → new.locks ≡ desk.locks → new.bucket ≡ desk.bucket → held_in desk.bucket ≡ None
    → board_name_of kept ≡ board_name locks → IsSoundKept kept → (keepers : Keepers) → kept.board.keepers ≡ Some keepers
    → Fit new keepers.keepers.items
    × AreAtRest (layout_of desk.locks) kept.board.journal.entries (keeping_of keepers.keepers.items)
board_is_found locks first desk new kept are opened same_locks same_bucket none named sound keepers has =
    (fits_on desk new keepers.keepers.items same_locks same_bucket found.0, found.1)
  where
    name : board_name_of kept ≡ board_name desk.locks
    name = named ∙ ap board_name opened

    badges : (board_name desk.locks).locks ≡ ids_of desk.locks.buckets
    badges = subst (λ (one : Locks). (board_name one).locks ≡ ids_of one.buckets) opened are.badges

    found : Fit desk keepers.keepers.items
        × AreAtRest (layout_of desk.locks) kept.board.journal.entries (keeping_of keepers.keepers.items)
    found = fit_of_home desk (none_is_out desk.bucket none) kept (ap (λ (one : BoardName). one.locks) name ∙ badges)
        (ap (λ (one : BoardName). one.first) name) (ap (λ (one : BoardName). one.opened) name) keepers (sound.home keepers has)

-- of the board's lock the places of the board's pass are one's own
own_of_board : (passes : List BucketPass) (board : BoardPass) (lock : ℕ) → length passes ≡ lock
    → (seen_by passes board).own lock ≡ own_places board
own_of_board passes board lock count =
    let same : (lock == length passes) ≡ true = grind (arith, nat_tests) in
    ap (λ b. cond b (own_places board) (own_in (slice_get passes lock))) same

-- and of another that of its own
own_of_other : (passes : List BucketPass) (board : BoardPass) (lock : ℕ) → lock ≢ length passes
    → (seen_by passes board).own lock ≡ own_in (slice_get passes lock)
own_of_other passes board lock other =
    let no : (lock == length passes) ≡ false = grind (arith, nat_tests) in
    ap (λ b. cond b (own_places board) (own_in (slice_get passes lock))) no

-- places with more at their end, or without
places_or_more : (b : Bool) (places more : List ℕ) → cond b (places ++ more) places ≡ places ++ cond b more []
places_or_more true places more = refl
places_or_more false places more = sym (append-nil places)

-- the places after a give are those before with the one that was added
places_after_give : (places : List ℕ) (before after : List BoardEntry)
    → places_after places before after ≡ places ++ place_added before after
places_after_give places before after =
    places_or_more (nat_lt (length before) (length after)) places (length before ∷ [])

-- no list is itself with one more
not_longer : (entries : List BoardEntry) (one : BoardEntry) → entries ≡ entries ++ one ∷ [] → ⊥
not_longer entries one same =
    let longer : length entries ≡ length (entries ++ one ∷ []) = ap (λ (list : List BoardEntry). length list) same in
    omega (arith, length_push entries one)

-- what is asked of a board that is given back
pub record MayGiveBoard (desk : SharedState) (board : Board Keepers) : Type 0 where
  pub sound : IsSoundBoard board
  pub is_of : IsBoardOf (layout_of desk.locks) board.first board.limit
  pub is_out : (entries : List BoardEntry) × (handed_entries desk.board ≡ Some entries)
      × MayReplaceBoard (layout_of desk.locks) (seen_of desk.passes) entries board.journal.entries
  pub no_bucket : held_in desk.bucket ≡ None
  pub rest : (keepers : Keepers) → board.keepers ≡ Some keepers
      → Fit desk keepers.keepers.items
      × AreAtRest (layout_of desk.locks) board.journal.entries (keeping_of keepers.keepers.items)

-- this board is given back in the place of the one that is out
module _ (desk : SharedState) (is : IsShared desk) (named : (board_name desk.locks).locks ≡ ids_of desk.locks.buckets)
    (board : Board Keepers) (may : MayGiveBoard desk board) (taken : TakenBoard) (out : desk.board ≡ Some taken) where
  -- the entries that were handed out
  abbrev held : List BoardEntry
  held = (handed taken.turn).board.journal.entries

  -- the board with what stood beside it
  abbrev given : KeptBoard
  given = record { board = board; badges = taken.badges; opened = taken.opened }

  was_taken : IsTakenBoard desk taken
  was_taken = is.board taken out

  -- the entries that are out are those
  are_held : (entries : List BoardEntry) → handed_entries desk.board ≡ Some entries → held ≡ entries
  are_held entries at = same_Some held entries (sym (ap handed_entries out) ∙ at)

  may_replace : MayReplaceBoard (layout_of desk.locks) (seen_of desk.passes) held board.journal.entries
  may_replace = subst
      (λ (entries : List BoardEntry).
      MayReplaceBoard (layout_of desk.locks) (seen_of desk.passes) entries board.journal.entries)
      (sym (are_held may.is_out.0 may.is_out.1)) may.is_out.2

  count : length desk.passes.buckets.items ≡ length desk.locks.buckets
  count = is.passes.count

  own_is : (seen_of desk.passes).own (length desk.locks.buckets) ≡ own_places desk.passes.board
  own_is = own_of_board desk.passes.buckets.items desk.passes.board (length desk.locks.buckets) count

  -- it is the lock's
  name_is : board_name_of given ≡ board_name desk.locks
  name_is =
      ap (λ (first : List Slice). name first board.limit (map badge_lock taken.badges.items) taken.opened) may.is_of.first_is
      ∙ ap (λ (limit : ℕ). name (board_name desk.locks).first limit (map badge_lock taken.badges.items) taken.opened) may.is_of.limit_is
      ∙ ap (λ (ids : BucketLocks). name (board_name desk.locks).first (board_name desk.locks).limit ids taken.opened)
      (was_taken.badges ∙ sym named)
      ∙ ap (name (board_name desk.locks).first (board_name desk.locks).limit (board_name desk.locks).locks) was_taken.opened
    where
      name : List Slice → ℕ → BucketLocks → Opened → BoardName
      name first limit locks opened = record { first = first; limit = limit; locks = locks; opened = opened }

  given_is_sound : IsSoundKept given
  given_is_sound = record {
    sound = may.sound;
    home = λ keepers has.
        let rest = may.rest keepers has in
        home_of_fit desk (none_is_out desk.bucket may.no_bucket) given was_taken.badges may.is_of.first_is was_taken.opened keepers rest.0 rest.1;
  }

  given_grows : (board.journal.entries ≡ held) ⊎ ((one : BoardEntry) × (board.journal.entries ≡ held ++ one ∷ []))
  given_grows = by may_replace where
    by : MayReplaceBoard (layout_of desk.locks) (seen_of desk.passes) held board.journal.entries
        → (board.journal.entries ≡ held) ⊎ ((one : BoardEntry) × (board.journal.entries ≡ held ++ one ∷ []))
    by (inl same) = inl same
    by (inr (one, is_one, own)) = inr (one, is_one)

  given_follows : BoardFollows (handed taken.turn) given
  given_follows = record { grows = given_grows; name = was_taken.name ∙ sym name_is }

  -- an entry is added to a split that runs by whom it is of alone
  given_by_owner : (one : BoardEntry) (place : ℕ) → board.journal.entries ≡ held ++ one ∷ [] → running_split held ≡ Some place
      → Contains (own_places desk.passes.board) place
  given_by_owner one place more runs = by may_replace where
    by : MayReplaceBoard (layout_of desk.locks) (seen_of desk.passes) held board.journal.entries
        → Contains (own_places desk.passes.board) place
    by (inl same) = absurd (not_longer held one (sym same ∙ more))
    by (inr (other, is_other, own)) = subst (λ (places : List ℕ). Contains places place) own_is (own place runs)

  -- what is seen then
  given_is_seen : (pass : BoardPass) → seen pass ≡ board.journal.entries
      → own_places pass ≡ places_after (own_places desk.passes.board) held board.journal.entries
      → (entries : List BoardEntry) → handed_entries desk.board ≡ Some entries
      → SeesBoardGiven (layout_of desk.locks) entries board.journal.entries (seen_of desk.passes)
      (seen_by desk.passes.buckets.items pass)
  given_is_seen pass seen_is places entries at = subst
      (λ (before : List BoardEntry).
      SeesBoardGiven (layout_of desk.locks) before board.journal.entries (seen_of desk.passes)
      (seen_by desk.passes.buckets.items pass))
      (are_held entries at) (record {
        board = seen_is;
        journals = λ lock. refl;
        own =
            own_of_board desk.passes.buckets.items pass (length desk.locks.buckets) count ∙ places
            ∙ places_after_give (own_places desk.passes.board) held board.journal.entries
            ∙ ap (λ (before : List ℕ). before ++ place_added held board.journal.entries) (sym own_is);
        others_own = λ lock other.
            let no : lock ≢ length desk.passes.buckets.items = λ same. other (same ∙ count) in
            own_of_other desk.passes.buckets.items pass lock no
            ∙ sym (own_of_other desk.passes.buckets.items desk.passes.board lock no);
      })

-- What a give of the board leaves: the lock gets a sound board of its name, which comes from what was handed out by one entry at most,
-- and by its owner; and what is seen then.
pub record IsBoardGive (was desk : SharedState) (taken : TakenBoard) (board : Board Keepers) : Type 0 where
  pub sound : IsSoundKept (record { board = board; badges = taken.badges; opened = taken.opened })
  pub follows : BoardFollows (handed taken.turn) (record { board = board; badges = taken.badges; opened = taken.opened })
  pub owner : (one : BoardEntry) (place : ℕ) → board.journal.entries ≡ (handed taken.turn).board.journal.entries ++ one ∷ []
      → running_split (handed taken.turn).board.journal.entries ≡ Some place → Contains (own_places was.passes.board) place
  pub sees : (pass : BoardPass) → seen pass ≡ board.journal.entries
      → own_places pass
      ≡ places_after (own_places was.passes.board) (handed taken.turn).board.journal.entries board.journal.entries
      → (entries : List BoardEntry) → handed_entries desk.board ≡ Some entries
      → SeesBoardGiven (layout_of desk.locks) entries board.journal.entries (seen_of desk.passes)
      (seen_by was.passes.buckets.items pass)

-- the board is given back to its lock
pub board_is_given : (locks : Locks) (first : List Slice) (was desk : SharedState) (taken : TakenBoard) (board : Board Keepers)
    → AreLocks locks first → locks ≡ was.locks → was ≡ desk → IsShared was → was.board ≡ Some taken → MayGiveBoard desk board
    → IsBoardGive was desk taken board
board_is_given locks first was desk taken board are opened view is out may = record {
  sound = given_is_sound was is named board may_give taken out;
  follows = given_follows was is named board may_give taken out;
  owner = given_by_owner was is named board may_give taken out;
  sees = λ pass seen_is places. subst
      (λ (one : SharedState). (entries : List BoardEntry) → handed_entries one.board ≡ Some entries
      → SeesBoardGiven (layout_of one.locks) entries board.journal.entries (seen_of one.passes)
      (seen_by was.passes.buckets.items pass))
      view (given_is_seen was is named board may_give taken out pass seen_is places);
} where
  named : (board_name was.locks).locks ≡ ids_of was.locks.buckets
  named = subst (λ (one : Locks). (board_name one).locks ≡ ids_of one.buckets) opened are.badges

  may_give : MayGiveBoard was board
  may_give = subst (λ (one : SharedState). MayGiveBoard one board) (sym view) may
