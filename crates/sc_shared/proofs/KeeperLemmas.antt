-- What a hold and a give of a bucket by its keeper leave of a thread's desk and of the keepers.
use Rattle.std.proofs.Common.{◌≡◌, inl, inr, ◌<◌, ℕ, zero, suc, true, false, true≢false, All, List, [], ◌∷◌, ◌++◌, length, Option, Some, None, slice_get, unwrap_or, refl, sym, ap, ◌∙◌, subst, arith}
use Rattle.std.proofs.lemmas.List.{append-nil}
use Rattle.std.proofs.lemmas.List.Elements.{All-head, All-tail}
use Rattle.std.proofs.lemmas.Option.{none-some, same_Some}
use mathlib.Core.List.{IsPrefix}
use Rattle.sc_record.specs.declared.entry.Entry.{Entry}
use Rattle.sc_journal.specs.Legal.{IsLegal}
use Rattle.sc_journal.proofs.ListLemmas.{slice_get-append_end, slice_get-append_left}
use Rattle.sc_seen.specs.Seen.{AreLegal}
use Rattle.sc_seen.proofs.ExtendsLemmas.{IsPrefix-then}
use Rattle.sc_bucket.specs.declared.bucket.Bucket.{Bucket}
use Rattle.sc_keeper.specs.declared.part.Part.{Part}
use Rattle.sc_keeper.specs.Part.{part_of}
use Rattle.sc_keeper.specs.Laws.{AddsAtMost}
use Rattle.sc_keeper.proofs.PassLemmas.{keeper_adds_no_pass_entry}
use Rattle.sc_lock.specs.Journal.{ArePlacesIn, places_after}
use Rattle.sc_lock.specs.Tokens.{lock_id, IsKeeperOf, IsFreeKeeper, keeper_seen, keeper_places, handed}
use Rattle.sc_collection.specs.Desks.{Held, KeeperMayReplace, SeesKeeperGiven, KeepsOn, KeepsGiven}
use Rattle.sc_collection.proofs.PlaceLemmas.{place_added-none, place_added-push}
use Rattle.sc_shared.specs.declared.passes.Passes.{Passes}
use Rattle.sc_shared.specs.declared.shared.TakenBucket.{TakenBucket}
use Rattle.sc_shared.specs.declared.shared.TakenBoard.{TakenBoard}
use Rattle.sc_shared.specs.Keepers.{BucketKeeper, with_entry, entries_at_places, no_part, part_of_keeper, own_of_keeper, keeping_of}
use Rattle.sc_shared.specs.Passes.{seen_of}
use Rattle.sc_shared.specs.Collections.{Locks, BucketLock, layout_of}
use Rattle.sc_shared.specs.Holding.{BucketTurn, IsFreeAt, HasKeeperAt, IsFreeKeeperAt, IsTurnAtKeeper, IsHeldByKeeper, IsGivenByKeeper}
use Rattle.sc_shared.specs.Sharing.{SharedState, shared_of, held_of, out_of, IsOutTo, IsTakenBy, Fit, IsShared}
use Rattle.sc_shared.proofs.HoldLemmas.{changed_at, unchanged_at, changed_count, changed_each, changed_same, own_kept, board_kept, slot_is_empty, taken_of, LeavesHold, leaves_hold}
use Rattle.sc_shared.proofs.GiveLemmas.{places_after_added, bucket_is_legal, held_is, number_is, view_full, is_full, given_is_shared, given_journal, given_others, given_legal}

-- a list has something at each place within it
pub one_there : {A : Type 0} (xs : List A) (i : ℕ) → i < length xs → (x : A) × (slice_get xs i ≡ Some x)
one_there [] i within = absurd (omega arith)
one_there (x ∷ xs) zero within = (x, refl)
one_there (x ∷ xs) (suc i) within = one_there xs i (omega arith)

-- the entries at places of a journal's beginning are those of the journal
entries_at_same : {E : Type 0} (begun journal : List E) (places : List ℕ) → All (λ (p : ℕ). p < length begun) places → IsPrefix begun journal
    → entries_at_places journal places ≡ entries_at_places begun places
entries_at_same begun journal [] inside begins = refl
entries_at_same {E = E} begun journal (place ∷ places) inside begins =
    let here : slice_get journal place ≡ slice_get begun place =
    ap (λ (all : List E). slice_get all place) (sym begins.1)
    ∙ slice_get-append_left begun begins.0 place (All-head (λ (p : ℕ). p < length begun) place places inside) in
    ap (λ (one : Option E). with_entry one (entries_at_places journal places)) here
    ∙ ap (with_entry (slice_get begun place))
    (entries_at_same begun journal places (All-tail (λ (p : ℕ). p < length begun) place places inside) begins)

with_entry-append : {E : Type 0} (one : Option E) (xs ys : List E) → with_entry one (xs ++ ys) ≡ with_entry one xs ++ ys
with_entry-append None xs ys = refl
with_entry-append (Some x) xs ys = refl

-- those at more places follow
entries_at-append : {E : Type 0} (journal : List E) (places more : List ℕ)
    → entries_at_places journal (places ++ more) ≡ entries_at_places journal places ++ entries_at_places journal more
entries_at-append journal [] more = refl
entries_at-append journal (place ∷ places) more =
    ap (with_entry (slice_get journal place)) (entries_at-append journal places more)
    ∙ with_entry-append (slice_get journal place) (entries_at_places journal places) (entries_at_places journal more)

-- an event of a keeper adds what it makes to the keeper's own entries
own_given_by_keeper : (begun held given : List Entry) (places : List ℕ) → ArePlacesIn places begun → IsPrefix begun held
    → AddsAtMost true held given
    → (made : List Entry) × (given ≡ held ++ made) × (entries_at_places given (places_after places held given) ≡ entries_at_places begun places ++ made)
own_given_by_keeper begun held given places are begins (inl same) = (
  [],
  same ∙ sym (append-nil held),
  ap (λ (all : List Entry). entries_at_places all (places_after places held all)) same
      ∙ ap (entries_at_places held)
      (places_after_added places held held ∙ ap (λ (more : List ℕ). places ++ more) (place_added-none held) ∙ append-nil places)
      ∙ entries_at_same begun held places are.inside begins ∙ sym (append-nil (entries_at_places begun places)),
)
own_given_by_keeper begun held given places are begins (inr (one, by_keeper, is)) = (
  one ∷ [],
  is,
  ap (λ (all : List Entry). entries_at_places all (places_after places held all)) is
      ∙ ap (entries_at_places (held ++ one ∷ []))
      (places_after_added places held (held ++ one ∷ []) ∙ ap (λ (more : List ℕ). places ++ more) (place_added-push held one))
      ∙ entries_at-append (held ++ one ∷ []) places (length held ∷ [])
      ∙ ap (λ (own : List Entry). own ++ entries_at_places (held ++ one ∷ []) (length held ∷ []))
      (entries_at_same begun (held ++ one ∷ []) places are.inside (IsPrefix-then begun held (held ++ one ∷ []) begins (one ∷ [], refl)))
      ∙ ap (λ (last : Option Entry). entries_at_places begun places ++ with_entry last []) (slice_get-append_end held one []),
)

-- the keeper of this number is there, and of its lock
pub has_keeper_at : (desk : SharedState) (keepers : List BucketKeeper) (number : ℕ) → Fit desk keepers → number < length desk.locks.buckets
    → HasKeeperAt desk.locks keepers number
has_keeper_at desk keepers number fit within = record {
  there = one_there keepers number (subst (λ (n : ℕ). number < n) (sym fit.count) within);
  of_lock = λ keeper at lock lock_at. fit.each number lock keeper lock_at at;
}

-- it is free while no bucket is out
pub is_free_keeper_at : (desk : SharedState) (keepers : List BucketKeeper) (number : ℕ) → Fit desk keepers → desk.bucket ≡ None
    → IsFreeKeeperAt keepers number
is_free_keeper_at desk keepers number fit none keeper at =
    fit.free number keeper at (λ (out : IsOutTo true desk.bucket number). none-some out.0 (sym none ∙ out.1))

-- the part that a keeper left, or that of which there is nothing
part_left : Option BucketKeeper → Part
part_left keeper = unwrap_or (part_of_keeper keeper) no_part

-- the bucket's keeper took it
module _ (locks : Locks) (passes new : Passes) (board : Option TakenBoard) (number : ℕ) (bucket : Bucket) (turn : BucketTurn)
    (keepers keepers_new : List BucketKeeper)
    (held : IsHeldByKeeper locks number (record { passes = passes; keepers = keepers }) (record { passes = new; keepers = keepers_new }) bucket turn)
    (within : number < length locks.buckets) (fit : Fit (shared_of locks passes None board) keepers) where
  abbrev pub taken : TakenBucket
  taken = taken_of number true turn

  -- its places are inside what it had seen
  places_inside : ArePlacesIn (keeper_places held.keeper_before) (keeper_seen held.keeper_before)
  places_inside =
      let lock = one_there locks.buckets number within in
      (fit.each number lock.0 held.keeper_before lock.1 held.keeper.bucket.was).seat.own

  pub held_keeps : KeepsOn (keeping_of keepers) (keeping_of keepers_new)
  held_keeps = record {
    part = changed_same held.keeper.bucket (λ (one : Option BucketKeeper). unwrap_or (part_of_keeper one) no_part)
        (ap (λ (part : Option Part). unwrap_or part no_part) held.part);
    own = changed_same held.keeper.bucket own_of_keeper
        (ap (entries_at_places (keeper_seen held.keeper_after)) held.places
        ∙ entries_at_same (keeper_seen held.keeper_before) (keeper_seen held.keeper_after) (keeper_places held.keeper_before)
        places_inside.inside held.learns);
  }

  pub held_part : part_of bucket ≡ (keeping_of keepers).part number
  held_part =
      sym (ap (λ (one : Option BucketKeeper). unwrap_or (part_of_keeper one) no_part) held.keeper.bucket.was
      ∙ ap (λ (part : Option Part). unwrap_or part no_part) held.left)

  taken_by : (keeper : BucketKeeper) → slice_get keepers_new number ≡ Some keeper → IsTakenBy keeper taken
  taken_by keeper there =
      subst (λ (one : BucketKeeper). IsTakenBy one taken)
      (same_Some held.keeper_after keeper (sym (changed_at held.keeper.bucket) ∙ there)) (record {
        turn = held.turn_is;
        extends = subst (λ (one : Bucket). IsPrefix (keeper_seen held.keeper_after) one.journal.entries) (sym held.out.bucket_is)
            held.keeper_extends;
      })

  pub held_fits : Fit (shared_of locks new (Some taken) board) keepers_new
  held_fits = record {
    count = changed_count held.keeper.bucket ∙ fit.count;
    each = λ k lock keeper lock_at at. changed_each held.keeper.bucket
        (λ (n : ℕ) (one : BucketKeeper). (l : BucketLock) → slice_get locks.buckets n ≡ Some l → IsKeeperOf (lock_id l) one)
        held.keeper.of_lock (λ n one other there l l_at. fit.each n l one l_at there) k keeper at lock lock_at;
    free = changed_each held.keeper.bucket (λ (n : ℕ) (one : BucketKeeper). (IsOutTo true (Some taken) n → ⊥) → IsFreeKeeper one)
        (λ not_out. absurd (not_out (taken, refl, refl, refl)))
        (λ n one other there not_out. fit.free n one there (λ (out : IsOutTo true None n). none-some out.0 out.1));
    taken = λ one keeper full by_keeper at.
        subst (λ (t : TakenBucket). slice_get keepers_new t.number ≡ Some keeper → IsTakenBy keeper t) (same_Some taken one full)
        (taken_by keeper) at;
  }

-- What a hold by a keeper leaves of a desk and of the keepers.
pub record IsKeeperHold (old new : SharedState) (number : ℕ) (bucket : Bucket) (keepers keepers_new : List BucketKeeper) : Type 0 where
  pub leaves : LeavesHold old new number true bucket
  pub part : part_of bucket ≡ (keeping_of keepers).part number
  pub fits : Fit new keepers_new
  pub keeps : KeepsOn (keeping_of keepers) (keeping_of keepers_new)

-- a bucket that its keeper took is out of the desk
pub held_is_keeper_hold : (locks : Locks) (passes new : Passes) (slot now : Option TakenBucket) (board : Option TakenBoard) (desk : SharedState)
    (number : ℕ) (bucket : Bucket) (turn : BucketTurn) (keepers keepers_new : List BucketKeeper)
    → shared_of locks passes slot board ≡ desk → IsShared (shared_of locks passes slot board) → (out_of desk).bucket ≡ None
    → number < length desk.locks.buckets → Fit desk keepers
    → IsHeldByKeeper locks number (record { passes = passes; keepers = keepers }) (record { passes = new; keepers = keepers_new }) bucket turn
    → now ≡ Some (taken_of number true turn)
    → IsKeeperHold desk (shared_of locks new now board) number bucket keepers keepers_new
held_is_keeper_hold locks passes new slot now board desk number bucket turn keepers keepers_new view is none within fit held full =
    subst (λ (one : Option TakenBucket). IsKeeperHold desk (shared_of locks new one board) number bucket keepers keepers_new) (sym full)
    (subst (λ (one : SharedState). IsKeeperHold one (shared_of locks new (Some (taken_of number true turn)) board) number bucket keepers keepers_new)
    by_none (record {
      leaves = leaves_hold locks passes new board number true bucket turn held.before held.after held.pass held.same held.out held.extends
          (subst (λ (one : Option TakenBucket). IsShared (shared_of locks passes one board)) empty is) inside
          (λ by_pass. absurd (true≢false by_pass)) (λ not_out. held.free);
      part = held_part locks passes new board number bucket turn keepers keepers_new held inside fits;
      fits = held_fits locks passes new board number bucket turn keepers keepers_new held inside fits;
      keeps = held_keeps locks passes new board number bucket turn keepers keepers_new held inside fits;
    }))
  where
    empty : slot ≡ None
    empty = slot_is_empty locks passes slot board desk view none

    by_none : shared_of locks passes None board ≡ desk
    by_none = ap (λ (one : Option TakenBucket). shared_of locks passes one board) (sym empty) ∙ view

    inside : number < length locks.buckets
    inside = subst (λ (one : SharedState). number < length one.locks.buckets) (sym view) within

    fits : Fit (shared_of locks passes None board) keepers
    fits = subst (λ (one : SharedState). Fit one keepers) (sym by_none) fit

-- What a give by a keeper leaves of a desk and of the keepers.
pub record IsKeeperGive (old new : SharedState) (held : Held) (given : Bucket) (keepers keepers_new : List BucketKeeper) : Type 0 where
  pub is : IsShared new
  pub sees : SeesKeeperGiven held given (seen_of old.passes) (seen_of new.passes)
  pub keeping : KeepsGiven held given (keeping_of keepers) (keeping_of keepers_new)
  pub fits : Fit new keepers_new
  pub out : out_of new ≡ record (out_of old) { bucket = None }
  pub legal : AreLegal (layout_of new.locks) (seen_of new.passes)
  pub locks : new.locks ≡ old.locks

-- a keeper gave back the bucket that is out
module _ (locks : Locks) (passes new : Passes) (board : Option TakenBoard) (taken : TakenBucket) (given : Bucket)
    (keepers keepers_new : List BucketKeeper) (is : IsShared (shared_of locks passes (Some taken) board))
    (gives : IsGivenByKeeper locks taken.number (record { passes = passes; keepers = keepers }) (record { passes = new; keepers = keepers_new })
    taken.turn given) (fit : Fit (shared_of locks passes (Some taken) board) keepers) (by_keeper : taken.by_keeper ≡ true)
    (adds : AddsAtMost true (handed taken.turn).bucket.journal.entries given.journal.entries) where
  given_by_keeper_sees : SeesKeeperGiven (held_of taken) given (seen_of passes) (seen_of new)
  given_by_keeper_sees = record {
    journal = given_journal locks passes new board taken gives.before gives.after gives.pass is given.journal.entries gives.seen_is;
    others = given_others locks passes new board taken gives.before gives.after gives.pass is;
    board = board_kept gives.pass;
    own = own_kept gives.pass gives.places;
  }

  given_by_keeper_keeps : KeepsGiven (held_of taken) given (keeping_of keepers) (keeping_of keepers_new)
  given_by_keeper_keeps =
      let lock = one_there locks.buckets taken.number (is.bucket taken refl).within in
      let own =
      own_given_by_keeper (keeper_seen gives.keeper_before) (handed taken.turn).bucket.journal.entries given.journal.entries
      (keeper_places gives.keeper_before) (fit.each taken.number lock.0 gives.keeper_before lock.1 gives.keeper.bucket.was).seat.own
      (fit.taken taken gives.keeper_before refl by_keeper gives.keeper.bucket.was).extends adds in
      record {
        part = ap (λ (one : Option BucketKeeper). unwrap_or (part_of_keeper one) no_part) (changed_at gives.keeper.bucket)
            ∙ ap (λ (part : Option Part). unwrap_or part no_part) gives.part;
        others = λ k other. ap (λ (one : Option BucketKeeper). unwrap_or (part_of_keeper one) no_part) (unchanged_at gives.keeper.bucket k other);
        made = own.0;
        added = own.1;
        own = ap own_of_keeper (changed_at gives.keeper.bucket)
            ∙ ap (λ (all : List Entry). entries_at_places all (keeper_places gives.keeper_after)) gives.keeper_seen_is
            ∙ ap (entries_at_places given.journal.entries) gives.keeper_places_are ∙ own.2
            ∙ ap (λ (before : List Entry). before ++ own.0) (sym (ap own_of_keeper gives.keeper.bucket.was));
        others_own = λ k other. ap own_of_keeper (unchanged_at gives.keeper.bucket k other);
      }

  given_by_keeper_fits : Fit (shared_of locks new None board) keepers_new
  given_by_keeper_fits = record {
    count = changed_count gives.keeper.bucket ∙ fit.count;
    each = λ k lock keeper lock_at at. changed_each gives.keeper.bucket
        (λ (n : ℕ) (one : BucketKeeper). (l : BucketLock) → slice_get locks.buckets n ≡ Some l → IsKeeperOf (lock_id l) one)
        gives.keeper.of_lock (λ n one other there l l_at. fit.each n l one l_at there) k keeper at lock lock_at;
    free = λ k keeper at not_out. changed_each gives.keeper.bucket (λ (n : ℕ) (one : BucketKeeper). IsFreeKeeper one) gives.keeper_free
        (λ n one other there. fit.free n one there (λ (out : IsOutTo true (Some taken) n).
        other (sym out.2 ∙ sym (ap (λ (t : TakenBucket). t.number) (same_Some taken out.0 out.1))))) k keeper at;
    taken = λ one keeper full by at. absurd (none-some one full);
  }

  pub given_by_keeper : IsLegal (layout_of locks).first given.journal.entries
      → IsKeeperGive (shared_of locks passes (Some taken) board) (shared_of locks new None board) (held_of taken) given keepers keepers_new
  given_by_keeper legal = record {
    is = given_is_shared locks passes new board taken gives.before gives.after gives.pass is gives.free legal_now;
    sees = given_by_keeper_sees;
    keeping = given_by_keeper_keeps;
    fits = given_by_keeper_fits;
    out = refl;
    legal = legal_now;
    locks = refl;
  } where
    legal_now : AreLegal (layout_of locks) (seen_of new)
    legal_now = given_legal locks passes new board taken gives.before gives.after gives.pass is given.journal.entries gives.seen_is legal

-- what is known of the bucket that is out to its keeper, by the fields of the desk
module _ (locks : Locks) (passes : Passes) (slot : Option TakenBucket) (board : Option TakenBoard) (desk : SharedState) (held : Held)
    (taken : TakenBucket) (number : ℕ) (keepers : List BucketKeeper) (view : shared_of locks passes slot board ≡ desk)
    (is : IsShared (shared_of locks passes slot board)) (out : (out_of desk).bucket ≡ Some held) (at : held.number ≡ number)
    (full : slot ≡ Some taken) (by_keeper : held.by_keeper ≡ true) (fit : Fit desk keepers) where
  taken_by_keeper : taken.by_keeper ≡ true
  taken_by_keeper = ap (λ (one : Held). one.by_keeper) (held_is locks passes slot board desk held taken number view is out at full) ∙ by_keeper

  fit_full : Fit (shared_of locks passes (Some taken) board) keepers
  fit_full =
      subst (λ (one : SharedState). Fit one keepers) (sym (view_full locks passes slot board desk held taken number view is out at full)) fit

  number_same : taken.number ≡ number
  number_same = number_is locks passes slot board desk held taken number view is out at full

  is_taken : IsShared (shared_of locks passes (Some taken) board)
  is_taken = is_full locks passes slot board desk held taken number view is out at full

  -- its pass is free
  pub out_free : IsFreeAt passes.buckets.items number
  out_free pass there =
      is_taken.free number pass there (λ (other : IsOutTo false (Some taken) number).
      true≢false (sym taken_by_keeper ∙ ap (λ (t : TakenBucket). t.by_keeper) (same_Some taken other.0 other.1) ∙ other.3))

  -- and the turn is the keeper's
  pub out_keeper_turn : IsTurnAtKeeper keepers number taken.turn
  out_keeper_turn keeper there =
      (fit_full.taken taken keeper refl taken_by_keeper (ap (slice_get keepers) number_same ∙ there)).turn

  -- a bucket that its keeper gave back is out of the desk no more
  pub given_is_keeper_give : (new : Passes) (now : Option TakenBucket) (given : Bucket) (keepers_new : List BucketKeeper)
      → KeeperMayReplace (layout_of desk.locks) held given → now ≡ None
      → IsGivenByKeeper locks number (record { passes = passes; keepers = keepers }) (record { passes = new; keepers = keepers_new }) taken.turn given
      → IsKeeperGive desk (shared_of locks new now board) held given keepers keepers_new
  given_is_keeper_give new now given keepers_new may empty gives =
      subst (λ (one : Option TakenBucket). IsKeeperGive desk (shared_of locks new one board) held given keepers keepers_new) (sym empty)
      (subst (λ (one : Held). IsKeeperGive desk (shared_of locks new None board) one given keepers keepers_new)
      (held_is locks passes slot board desk held taken number view is out at full)
      (subst (λ (one : SharedState). IsKeeperGive one (shared_of locks new None board) (held_of taken) given keepers keepers_new)
      (view_full locks passes slot board desk held taken number view is out at full)
      (given_by_keeper locks passes new board taken given keepers keepers_new is_taken
      (subst (λ (n : ℕ). IsGivenByKeeper locks n (record { passes = passes; keepers = keepers })
      (record { passes = new; keepers = keepers_new }) taken.turn given) (sym number_same) gives)
      fit_full taken_by_keeper
      (subst (λ (one : Held). AddsAtMost true one.bucket.journal.entries given.journal.entries)
      (sym (held_is locks passes slot board desk held taken number view is out at full))
      (keeper_adds_no_pass_entry held.bucket given may.event))
      (subst (λ (one : SharedState). IsLegal (layout_of one.locks).first given.journal.entries) (sym view)
      (bucket_is_legal (layout_of desk.locks) held.number given may.sound may.is_of)))))
