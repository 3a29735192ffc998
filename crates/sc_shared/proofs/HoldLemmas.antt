-- What a hold of a bucket leaves of a thread's desk.
use Rattle.std.proofs.Common.{◌≡◌, ◌≢◌, ◌⊎◌, inl, inr, ◌<◌, ℕ, Bool, true, false, true≢false, cond, List, length, Option, Some, None, slice_get, refl, sym, ap, ◌∙◌, subst}
use Rattle.std.proofs.Math.Path.{fun_ext}
use Rattle.std.specs.Prelude.{◌==◌}
use Rattle.std.specs.List.{AllByRecursion}
use Rattle.std.proofs.lemmas.List.{length-set}
use Rattle.std.proofs.lemmas.Option.{none-some, same_Some, slice_get_within}
use mathlib.Core.List.{IsPrefix}
use Rattle.sc_record.specs.Writes.{Write}
use Rattle.sc_record.specs.declared.entry.Entry.{Entry}
use Rattle.sc_router.specs.Route.{bucket_of}
use Rattle.sc_journal.specs.Journal.{writes}
use Rattle.sc_seen.specs.declared.board.BoardEntry.{BoardEntry}
use Rattle.sc_seen.specs.Seen.{Layout, Seen, AreLegal}
use Rattle.sc_bucket.specs.declared.bucket.Bucket.{Bucket}
use Rattle.sc_bucket.specs.Sound.{IsSound}
use Rattle.sc_lock.specs.Tokens.{lock_id, IsPassOf, IsFree, IsTurnOf, seen, own_places, handed}
use Rattle.sc_lock.specs.Calls.{PassKnowsTheSame}
use Rattle.sc_collection.specs.Desks.{Out, IsBucketOf}
use Rattle.sc_collection.proofs.SlotLemmas.{slice_get-set_same, slice_get-set_other}
use Rattle.sc_collection.proofs.DeskLemmas.{same_or_other}
use Rattle.sc_shared.specs.declared.numbered.Numbered.{Numbered}
use Rattle.sc_shared.specs.declared.passes.Passes.{Passes}
use Rattle.sc_shared.specs.declared.shared.TakenBucket.{TakenBucket}
use Rattle.sc_shared.specs.declared.shared.TakenBoard.{TakenBoard}
use Rattle.sc_shared.specs.Buckets.{BucketName, name_of, IsSoundNumbered}
use Rattle.sc_shared.specs.Boards.{board_name_of}
use Rattle.sc_shared.specs.Keepers.{BucketKeeper}
use Rattle.sc_shared.specs.Passes.{BucketPass, BoardPass, seen_in, own_in, seen_of}
use Rattle.sc_shared.specs.Collections.{Locks, BucketLock, layout_of, bucket_name, AreOfLocks}
use Rattle.sc_shared.specs.Holding.{BucketTurn, Changes, ChangesPass, IsFreeAt, IsBucketHandedOut, IsHeld}
use Rattle.sc_shared.specs.Sharing.{SharedState, shared_of, held_in, handed_entries, out_of, IsOutTo, Fit, IsTakenBucket, IsTakenBoard, IsShared}

-- one of a list was changed
module _ {A : Type 0} {old new : List A} {number : ℕ} {before after : A} (changes : Changes old new number before after) where
  -- it is there now
  pub changed_at : slice_get new number ≡ Some after
  changed_at =
      ap (λ (all : List A). slice_get all number) changes.is
      ∙ slice_get-set_same old number after (slice_get_within old number before changes.was)

  -- the others are as they were
  pub unchanged_at : (k : ℕ) → k ≢ number → slice_get new k ≡ slice_get old k
  unchanged_at k other = ap (λ (all : List A). slice_get all k) changes.is ∙ slice_get-set_other old number k after other

  -- and as many
  pub changed_count : length new ≡ length old
  changed_count = ap length changes.is ∙ length-set old number after

  -- what holds of it and of the others holds of each
  pub changed_each : (P : ℕ → A → Type 0) → P number after → ((k : ℕ) (x : A) → k ≢ number → slice_get old k ≡ Some x → P k x)
      → (k : ℕ) (x : A) → slice_get new k ≡ Some x → P k x
  changed_each P here others k x at = by (same_or_other k number) where
    by : (k ≡ number) ⊎ (k ≢ number) → P k x
    by (inl same) =
        let is : after ≡ x = same_Some after x (sym changed_at ∙ ap (slice_get new) (sym same) ∙ at) in
        subst (λ (n : ℕ). P n x) (sym same) (subst (P number) is here)
    by (inr other) = others k x other (sym (unchanged_at k other) ∙ at)

  -- what is read of it as before is read of each as before
  pub changed_same : {B : Type 0} (f : Option A → B) → f (Some after) ≡ f (Some before)
      → (k : ℕ) → f (slice_get new k) ≡ f (slice_get old k)
  changed_same f same k = by (same_or_other k number) where
    by : (k ≡ number) ⊎ (k ≢ number) → f (slice_get new k) ≡ f (slice_get old k)
    by (inl is) =
        ap (λ (n : ℕ). f (slice_get new n)) is ∙ ap f changed_at ∙ same ∙ sym (ap f changes.was)
        ∙ ap (λ (n : ℕ). f (slice_get old n)) (sym is)
    by (inr other) = ap f (unchanged_at k other)

-- a sound bucket with the name of this number is the one of it
pub named_is_of : (layout : Layout) (number : ℕ) (kept : Numbered) → IsSoundNumbered kept → name_of kept ≡ bucket_name layout number
    → IsBucketOf layout number kept.bucket
named_is_of layout number kept sound named = record {
  first = ap (λ (name : BucketName). name.first) named;
  limit = ap (λ (name : BucketName). name.limit) named;
  ids = subst (λ (name : BucketName). AllByRecursion (λ (write : Write). bucket_of write.id name.buckets ≡ name.number) (writes kept.bucket.journal.entries))
      named sound.ids;
}

-- what was seen, by its parts
abbrev of_parts : (ℕ → List Entry) → List BoardEntry → (ℕ → List ℕ) → Seen
of_parts journals board own = record { journals = journals; board = board; own = own }

-- the places of one's own entries, by the number of buckets
abbrev own_by : ℕ → List ℕ → List ℕ → ℕ → List ℕ
own_by count of_board of_bucket lock = cond (lock == count) of_board of_bucket

-- one pass was changed
module _ {locks : Locks} {number : ℕ} {old new : Passes} {before after : BucketPass} (changes : ChangesPass locks number old new before after) where
  -- what the places of one's own entries are, where the pass has those that it had
  pub own_kept : own_places after ≡ own_places before → (lock : ℕ) → (seen_of new).own lock ≡ (seen_of old).own lock
  own_kept same lock =
      ap (λ (n : ℕ). own_by n (own_places new.board) (own_in (slice_get new.buckets.items lock)) lock) (changed_count changes.bucket)
      ∙ ap (λ (pass : BoardPass). own_by (length old.buckets.items) (own_places pass) (own_in (slice_get new.buckets.items lock)) lock) changes.board
      ∙ ap (λ (of_bucket : List ℕ). own_by (length old.buckets.items) (own_places old.board) of_bucket lock)
      (changed_same changes.bucket own_in same lock)

  -- and where it has others, at every other lock
  pub own_other : (lock : ℕ) → lock ≢ number → (seen_of new).own lock ≡ (seen_of old).own lock
  own_other lock other =
      ap (λ (n : ℕ). own_by n (own_places new.board) (own_in (slice_get new.buckets.items lock)) lock) (changed_count changes.bucket)
      ∙ ap (λ (pass : BoardPass). own_by (length old.buckets.items) (own_places pass) (own_in (slice_get new.buckets.items lock)) lock) changes.board
      ∙ ap (λ (pass : Option BucketPass). own_by (length old.buckets.items) (own_places old.board) (own_in pass) lock)
      (unchanged_at changes.bucket lock other)

  -- the board is as it was
  pub board_kept : (seen_of new).board ≡ (seen_of old).board
  board_kept = ap (λ (pass : BoardPass). seen pass) changes.board

  -- a pass that knows what it knew leaves all that was seen
  pub seen_kept : PassKnowsTheSame before after → seen_of new ≡ seen_of old
  seen_kept same =
      ap (λ (journals : ℕ → List Entry). of_parts journals (seen_of new).board (seen_of new).own)
      (fun_ext (changed_same changes.bucket seen_in same.seen_is))
      ∙ ap (λ (board : List BoardEntry). of_parts (seen_of old).journals board (seen_of new).own) board_kept
      ∙ ap (λ (own : ℕ → List ℕ). of_parts (seen_of old).journals (seen_of old).board own) (fun_ext (own_kept same.places_are))

  -- the passes are of the locks still
  pub of_locks_kept : AreOfLocks locks old.buckets.items old.board → AreLegal (layout_of locks) (seen_of new)
      → AreOfLocks locks new.buckets.items new.board
  of_locks_kept are legal = record {
    count = changed_count changes.bucket ∙ are.count;
    each = λ k lock pass lock_at pass_at.
        changed_each changes.bucket (λ (n : ℕ) (one : BucketPass). (l : BucketLock) → slice_get locks.buckets n ≡ Some l → IsPassOf (lock_id l) one)
        changes.of_lock (λ n one other at l l_at. are.each n l one l_at at) k pass pass_at lock lock_at;
    of_board = subst (IsPassOf (lock_id locks.board)) (sym changes.board) are.of_board;
    legal = legal;
  }

-- a bucket is out of none only where none is
pub none_held : (bucket : Option TakenBucket) → held_in bucket ≡ None → bucket ≡ None
none_held None at = refl
none_held (Some taken) at = absurd (none-some _ (sym at))

-- so is it by the fields of the desk
pub slot_is_empty : (locks : Locks) (passes : Passes) (slot : Option TakenBucket) (board : Option TakenBoard) (desk : SharedState)
    → shared_of locks passes slot board ≡ desk → (out_of desk).bucket ≡ None → slot ≡ None
slot_is_empty locks passes slot board desk view none =
    none_held slot (ap (λ (one : SharedState). (out_of one).bucket) view ∙ none)

-- the bucket that is out
abbrev pub taken_of : ℕ → Bool → BucketTurn → TakenBucket
taken_of number by_keeper turn = record { number = number; by_keeper = by_keeper; turn = turn; slot = tt }

-- the pass of each bucket is free while none is out
pub is_free_at : (desk : SharedState) (number : ℕ) → IsShared desk → desk.bucket ≡ None → IsFreeAt desk.passes.buckets.items number
is_free_at desk number is none pass at =
    is.free number pass at (λ (out : IsOutTo false desk.bucket number). none-some out.0 (sym none ∙ out.1))

-- the board that is out is out still, where its pass is as it was
pub board_out_still : (locks : Locks) (passes new : Passes) (was now : Option TakenBucket) (board : Option TakenBoard) → new.board ≡ passes.board
    → IsShared (shared_of locks passes was board) → (one : TakenBoard) → board ≡ Some one → IsTakenBoard (shared_of locks new now board) one
board_out_still locks passes new was now board same is one at =
    let out : IsTakenBoard (shared_of locks passes was board) one = is.board one at in
    record {
      name = out.name;
      badges = out.badges;
      opened = out.opened;
      turn = subst (λ (pass : BoardPass). IsTurnOf board_name_of pass one.turn) (sym same) out.turn;
    }

-- What a hold leaves of a desk.
pub record LeavesHold (old new : SharedState) (number : ℕ) (by_keeper : Bool) (bucket : Bucket) : Type 0 where
  pub is : IsShared new
  pub sound : IsSound bucket
  pub is_of : IsBucketOf (layout_of old.locks) number bucket
  pub extends : IsPrefix ((seen_of old.passes).journals number) bucket.journal.entries
  pub out : out_of new ≡ record (out_of old) { bucket = Some (record { number = number; bucket = bucket; by_keeper = by_keeper }) }
  pub seen_is : seen_of new.passes ≡ seen_of old.passes
  pub legal : AreLegal (layout_of new.locks) (seen_of new.passes)
  pub locks : new.locks ≡ old.locks

-- where a bucket was handed out, and the pass knows what it knew, the desk has it out
module _ (locks : Locks) (passes new : Passes) (board : Option TakenBoard) (number : ℕ) (by_keeper : Bool) (bucket : Bucket) (turn : BucketTurn)
    (before after : BucketPass) (changes : ChangesPass locks number passes new before after) (same : PassKnowsTheSame before after)
    (handed_out : IsBucketHandedOut locks number bucket turn) (extends : IsPrefix (seen before) bucket.journal.entries)
    (is : IsShared (shared_of locks passes None board)) (within : number < length locks.buckets) where
  abbrev pub taken : TakenBucket
  taken = taken_of number by_keeper turn

  abbrev pub old_desk : SharedState
  old_desk = shared_of locks passes None board

  abbrev pub new_desk : SharedState
  new_desk = shared_of locks new (Some taken) board

  none_was_out : (by : Bool) (k : ℕ) → IsOutTo by None k → ⊥
  none_was_out by k out = none-some out.0 out.1

  legal_now : AreLegal (layout_of locks) (seen_of new)
  legal_now = subst (AreLegal (layout_of locks)) (sym (seen_kept changes same)) is.passes.legal

  taken_now : (by_keeper ≡ false → IsTurnOf name_of after turn) → IsTakenBucket new_desk taken
  taken_now turn_is = record {
    within = within;
    sound = handed_out.sound;
    name = handed_out.name;
    extends = subst (λ (entries : List Entry). IsPrefix entries (handed turn).bucket.journal.entries)
        (sym (ap seen_in (changed_at changes.bucket) ∙ same.seen_is))
        (subst (λ (one : Bucket). IsPrefix (seen before) one.journal.entries) (sym handed_out.bucket_is) extends);
    turn = λ by_pass pass at. subst (λ (one : BucketPass). IsTurnOf name_of one turn)
        (same_Some after pass (sym (changed_at changes.bucket) ∙ at)) (turn_is by_pass);
  }

  shared_now : (by_keeper ≡ false → IsTurnOf name_of after turn) → ((IsOutTo false (Some taken) number → ⊥) → IsFree after)
      → IsShared new_desk
  shared_now turn_is free = record {
    passes = of_locks_kept changes is.passes legal_now;
    free = λ k pass at. changed_each changes.bucket (λ (n : ℕ) (one : BucketPass). (IsOutTo false (Some taken) n → ⊥) → IsFree one)
        free (λ n one other there not_out. is.free n one there (none_was_out false n)) k pass at;
    bucket = λ one at. subst (IsTakenBucket new_desk) (same_Some taken one at) (taken_now turn_is);
    board_free = λ none. subst (λ (pass : BoardPass). IsFree pass) (sym changes.board) (is.board_free none);
    board = board_out_still locks passes new None (Some taken) board changes.board is;
  }

  out_now : out_of new_desk ≡ record (out_of old_desk) { bucket = Some (record { number = number; bucket = bucket; by_keeper = by_keeper }) }
  out_now = ap out_with handed_out.bucket_is where
    out_with : Bucket → Out
    out_with one = record { bucket = Some (record { number = number; bucket = one; by_keeper = by_keeper }); board = handed_entries board }

  pub leaves_hold : (by_keeper ≡ false → IsTurnOf name_of after turn) → ((IsOutTo false (Some taken) number → ⊥) → IsFree after)
      → LeavesHold old_desk new_desk number by_keeper bucket
  leaves_hold turn_is free = record {
    is = shared_now turn_is free;
    sound = subst IsSound handed_out.bucket_is handed_out.sound.sound;
    is_of = subst (IsBucketOf (layout_of locks) number) handed_out.bucket_is
        (named_is_of (layout_of locks) number (handed turn) handed_out.sound handed_out.name);
    extends = subst (λ (pass : Option BucketPass). IsPrefix (seen_in pass) bucket.journal.entries) (sym changes.bucket.was) extends;
    out = out_now;
    seen_is = seen_kept changes same;
    legal = legal_now;
    locks = refl;
  }

-- the keepers of a desk fit still where a pass has a bucket out
pub fit_held : (locks : Locks) (passes new : Passes) (board : Option TakenBoard) (number : ℕ) (turn : BucketTurn) (keepers : List BucketKeeper)
    → Fit (shared_of locks passes None board) keepers → Fit (shared_of locks new (Some (taken_of number false turn)) board) keepers
fit_held locks passes new board number turn keepers fit = record {
  count = fit.count;
  each = fit.each;
  free = λ k keeper at not_out. fit.free k keeper at (λ (out : IsOutTo true None k). none-some out.0 out.1);
  taken = λ one keeper at by_keeper there.
      absurd (true≢false (sym by_keeper ∙ sym (ap (λ (t : TakenBucket). t.by_keeper) (same_Some (taken_of number false turn) one at))));
}

-- What a hold by a pass leaves of a desk, whose keepers fit still.
pub record IsHold (old new : SharedState) (number : ℕ) (bucket : Bucket) : Type 0 where
  pub leaves : LeavesHold old new number false bucket
  pub keepers : (keepers : List BucketKeeper) → Fit old keepers → Fit new keepers

-- a bucket that was taken by its pass is out of the desk
pub held_is_hold : (locks : Locks) (passes new : Passes) (slot now : Option TakenBucket) (board : Option TakenBoard) (desk : SharedState)
    (number : ℕ) (bucket : Bucket) (turn : BucketTurn)
    → shared_of locks passes slot board ≡ desk → IsShared (shared_of locks passes slot board) → (out_of desk).bucket ≡ None
    → number < length desk.locks.buckets → IsHeld locks number passes new bucket turn → now ≡ Some (taken_of number false turn)
    → IsHold desk (shared_of locks new now board) number bucket
held_is_hold locks passes new slot now board desk number bucket turn view is none within held full =
    subst (λ (one : Option TakenBucket). IsHold desk (shared_of locks new one board) number bucket) (sym full)
    (subst (λ (one : SharedState). IsHold one (shared_of locks new (Some (taken_of number false turn)) board) number bucket) by_none
    (record {
      leaves = leaves_hold locks passes new board number false bucket turn held.before held.after held.pass held.same held.out held.extends
          (subst (λ (one : Option TakenBucket). IsShared (shared_of locks passes one board)) empty is)
          (subst (λ (one : SharedState). number < length one.locks.buckets) (sym view) within)
          (λ by_pass. held.turn_is) (λ not_out. absurd (not_out (taken_of number false turn, refl, refl, refl)));
      keepers = λ keepers fit. fit_held locks passes new board number turn keepers fit;
    }))
  where
    empty : slot ≡ None
    empty = slot_is_empty locks passes slot board desk view none

    by_none : shared_of locks passes None board ≡ desk
    by_none = ap (λ (one : Option TakenBucket). shared_of locks passes one board) (sym empty) ∙ view
