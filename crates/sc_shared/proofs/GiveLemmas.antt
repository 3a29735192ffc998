-- What a give of a bucket leaves of a thread's desk.
use Rattle.std.proofs.Common.{◌≡◌, ◌≢◌, ◌⊎◌, inl, inr, ◌≤◌, ◌<◌, ℕ, Bool, true, false, true≢false, cond, ltb, List, [], ◌∷◌, ◌++◌, length, Option, Some, None, slice_get, refl, sym, ap, ◌∙◌, subst, arith}
use Rattle.std.specs.Prelude.{◌==◌}
use Rattle.std.proofs.lemmas.Bool.Decides.{nat_tests}
use Rattle.std.proofs.lemmas.List.{append-nil}
use Rattle.std.proofs.lemmas.Option.{none-some, same_Some, slice_get_within}
use mathlib.Core.List.{IsPrefix}
use Rattle.sc_record.specs.declared.entry.Entry.{Entry}
use Rattle.sc_cluster.specs.declared.slice.Slice.{Slice}
use Rattle.sc_journal.specs.Legal.{IsLegal}
use Rattle.sc_seen.specs.Board.{IsLegalBoard}
use Rattle.sc_seen.specs.Seen.{Layout, Seen, AreLegal}
use Rattle.sc_bucket.specs.declared.bucket.Bucket.{Bucket}
use Rattle.sc_bucket.specs.Sound.{IsSound}
use Rattle.sc_lock.specs.Journal.{places_after}
use Rattle.sc_lock.specs.Tokens.{IsFree, seen, own_places, handed}
use Rattle.sc_collection.specs.Desks.{Held, IsBucketOf, MayReplace, SeesGiven, place_added}
use Rattle.sc_collection.proofs.DeskLemmas.{same_or_other}
use Rattle.sc_shared.specs.declared.passes.Passes.{Passes}
use Rattle.sc_shared.specs.declared.shared.TakenBucket.{TakenBucket}
use Rattle.sc_shared.specs.declared.shared.TakenBoard.{TakenBoard}
use Rattle.sc_shared.specs.Buckets.{name_of}
use Rattle.sc_shared.specs.Keepers.{BucketKeeper}
use Rattle.sc_shared.specs.Passes.{BucketPass, BoardPass, seen_in, own_in, seen_of}
use Rattle.sc_shared.specs.Collections.{Locks, layout_of, bucket_name}
use Rattle.sc_shared.specs.Holding.{ChangesPass, IsTurnAtPass, ExtendsPassAt, IsGiven}
use Rattle.sc_shared.specs.Sharing.{SharedState, shared_of, held_of, held_in, out_of, IsOutTo, Fit, IsTakenBucket, IsShared}
use Rattle.sc_shared.proofs.HoldLemmas.{changed_at, unchanged_at, changed_each, board_kept, own_other, of_locks_kept, board_out_still}

-- the places after a give are those before it and that which was added
pub places_after_added : {E : Type 0} (places : List ℕ) (old new : List E) → places_after places old new ≡ places ++ place_added old new
places_after_added places old new = by (ltb (length old) (length new)) where
  by : (more : Bool) → cond more (places ++ length old ∷ []) places ≡ places ++ cond more (length old ∷ []) []
  by true = refl
  by false = sym (append-nil places)

-- of a bucket the places of its pass are one's own
pub own_at_bucket : (passes : Passes) (number : ℕ) → number < length passes.buckets.items
    → (seen_of passes).own number ≡ own_in (slice_get passes.buckets.items number)
own_at_bucket passes number within =
    let other : (number == length passes.buckets.items) ≡ false = grind (arith, nat_tests) in
    ap (λ (b : Bool). cond b (own_places passes.board) (own_in (slice_get passes.buckets.items number))) other

-- what was seen stays legal where of one bucket a legal journal is seen
pub legal_given : (layout : Layout) (old new : Seen) (number : ℕ) (entries : List Entry) → AreLegal layout old → number < layout.buckets
    → IsLegal layout.first entries → new.journals number ≡ entries → ((lock : ℕ) → lock ≢ number → new.journals lock ≡ old.journals lock)
    → new.board ≡ old.board → AreLegal layout new
legal_given layout old new number entries legal within is_legal here others board = record {
  buckets = λ lock below. by lock below (same_or_other lock number);
  board = subst (IsLegalBoard layout.first) (sym board) legal.board;
  others = λ lock past. others lock (outside lock past) ∙ legal.others lock past;
} where
  by : (lock : ℕ) → lock < layout.buckets → (lock ≡ number) ⊎ (lock ≢ number) → IsLegal layout.first (new.journals lock)
  by lock below (inl same) =
      subst (λ (n : ℕ). IsLegal layout.first (new.journals n)) (sym same) (subst (IsLegal layout.first) (sym here) is_legal)
  by lock below (inr other) = subst (IsLegal layout.first) (sym (others lock other)) (legal.buckets lock below)

  outside : (lock : ℕ) → layout.buckets ≤ lock → lock ≢ number
  outside lock past same = omega arith

-- a bucket of this number that is sound has a legal journal
pub bucket_is_legal : (layout : Layout) (number : ℕ) (bucket : Bucket) → IsSound bucket → IsBucketOf layout number bucket
    → IsLegal layout.first bucket.journal.entries
bucket_is_legal layout number bucket sound is_of =
    subst (λ (first : List Slice). IsLegal first bucket.journal.entries) is_of.first sound.journal.legal

-- a bucket that is out has its turn
pub slot_is_full : (locks : Locks) (passes : Passes) (slot : Option TakenBucket) (board : Option TakenBoard) (desk : SharedState) (held : Held)
    → shared_of locks passes slot board ≡ desk → (out_of desk).bucket ≡ Some held → (taken : TakenBucket) × (slot ≡ Some taken)
slot_is_full locks passes slot board desk held view out = by slot (ap (λ (one : SharedState). (out_of one).bucket) view ∙ out) where
  by : (one : Option TakenBucket) → held_in one ≡ Some held → (taken : TakenBucket) × (one ≡ Some taken)
  by None at = absurd (none-some held at)
  by (Some taken) at = (taken, refl)

-- no other bucket is out
pub one_is_out : (desk : SharedState) (held other : Held) → (out_of desk).bucket ≡ Some held → (out_of desk).bucket ≡ Some other → held ≡ other
one_is_out desk held other is is_other = same_Some held other (sym is ∙ is_other)

-- what is known of the bucket that is out, by the fields of the desk
module _ (locks : Locks) (passes : Passes) (slot : Option TakenBucket) (board : Option TakenBoard) (desk : SharedState) (held : Held)
    (taken : TakenBucket) (number : ℕ) (view : shared_of locks passes slot board ≡ desk) (is : IsShared (shared_of locks passes slot board))
    (out : (out_of desk).bucket ≡ Some held) (at : held.number ≡ number) (full : slot ≡ Some taken) where
  pub held_is : held_of taken ≡ held
  held_is =
      same_Some (held_of taken) held (ap held_in (sym full) ∙ ap (λ (one : SharedState). (out_of one).bucket) view ∙ out)

  pub number_is : taken.number ≡ number
  number_is = ap (λ (one : Held). one.number) held_is ∙ at

  pub view_full : shared_of locks passes (Some taken) board ≡ desk
  view_full = ap (λ (one : Option TakenBucket). shared_of locks passes one board) (sym full) ∙ view

  pub is_full : IsShared (shared_of locks passes (Some taken) board)
  is_full = subst (λ (one : Option TakenBucket). IsShared (shared_of locks passes one board)) full is

  taken_is : IsTakenBucket (shared_of locks passes (Some taken) board) taken
  taken_is = is_full.bucket taken refl

  pub out_within : number < length locks.buckets
  out_within = subst (λ (n : ℕ). n < length locks.buckets) number_is taken_is.within

  pub out_named : name_of (handed taken.turn) ≡ bucket_name (layout_of locks) number
  out_named = subst (λ (n : ℕ). name_of (handed taken.turn) ≡ bucket_name (layout_of locks) n) number_is taken_is.name

  pub out_turn : held.by_keeper ≡ false → IsTurnAtPass passes.buckets.items number taken.turn
  out_turn by_pass =
      subst (λ (n : ℕ). IsTurnAtPass passes.buckets.items n taken.turn) number_is
      (taken_is.turn (ap (λ (one : Held). one.by_keeper) held_is ∙ by_pass))

  pub out_extends : ExtendsPassAt passes.buckets.items number taken.turn
  out_extends pass there =
      subst (λ (one : Option BucketPass). IsPrefix (seen_in one) (handed taken.turn).bucket.journal.entries)
      (ap (slice_get passes.buckets.items) number_is ∙ there) taken_is.extends

-- what a give leaves of the passes and of what is out of a desk, whoever had the bucket
module _ (locks : Locks) (passes new : Passes) (board : Option TakenBoard) (taken : TakenBucket) (before after : BucketPass)
    (changes : ChangesPass locks taken.number passes new before after) (is : IsShared (shared_of locks passes (Some taken) board)) where
  pub given_is_shared : IsFree after → AreLegal (layout_of locks) (seen_of new) → IsShared (shared_of locks new None board)
  given_is_shared free legal = record {
    passes = of_locks_kept changes is.passes legal;
    free = λ k pass at not_out. changed_each changes.bucket (λ (n : ℕ) (one : BucketPass). IsFree one) free
        (λ n one other there. is.free n one there (λ (out : IsOutTo false (Some taken) n).
        other (sym out.2 ∙ sym (ap (λ (t : TakenBucket). t.number) (same_Some taken out.0 out.1))))) k pass at;
    bucket = λ one at. absurd (none-some one at);
    board_free = λ none. subst (λ (pass : BoardPass). IsFree pass) (sym changes.board) (is.board_free none);
    board = board_out_still locks passes new (Some taken) None board changes.board is;
  }

  pub given_journal : (entries : List Entry) → seen after ≡ entries → (seen_of new).journals taken.number ≡ entries
  given_journal entries seen_is = ap seen_in (changed_at changes.bucket) ∙ seen_is

  pub given_others : (lock : ℕ) → lock ≢ taken.number → (seen_of new).journals lock ≡ (seen_of passes).journals lock
  given_others lock other = ap seen_in (unchanged_at changes.bucket lock other)

  pub given_legal : (entries : List Entry) → seen after ≡ entries → IsLegal (layout_of locks).first entries
      → AreLegal (layout_of locks) (seen_of new)
  given_legal entries seen_is legal =
      legal_given (layout_of locks) (seen_of passes) (seen_of new) taken.number entries is.passes.legal (is.bucket taken refl).within legal
      (given_journal entries seen_is) given_others (board_kept changes)

  pub own_given : (seen_of new).own taken.number ≡ own_places after
  own_given =
      own_at_bucket new taken.number (slice_get_within new.buckets.items taken.number after (changed_at changes.bucket))
      ∙ ap own_in (changed_at changes.bucket)

  pub own_before : (seen_of passes).own taken.number ≡ own_places before
  own_before =
      own_at_bucket passes taken.number (slice_get_within passes.buckets.items taken.number before changes.bucket.was)
      ∙ ap own_in changes.bucket.was

-- What a give by a pass leaves of a desk, whose keepers fit still.
pub record IsGive (old new : SharedState) (held : Held) (given : Bucket) : Type 0 where
  pub is : IsShared new
  pub sees : SeesGiven held given (seen_of old.passes) (seen_of new.passes)
  pub out : out_of new ≡ record (out_of old) { bucket = None }
  pub legal : AreLegal (layout_of new.locks) (seen_of new.passes)
  pub locks : new.locks ≡ old.locks
  pub keepers : (keepers : List BucketKeeper) → Fit old keepers → Fit new keepers

-- a pass gave back the bucket that is out
module _ (locks : Locks) (passes new : Passes) (board : Option TakenBoard) (taken : TakenBucket) (given : Bucket)
    (is : IsShared (shared_of locks passes (Some taken) board)) (gives : IsGiven locks taken.number passes new taken.turn given) where
  given_by_pass_sees : SeesGiven (held_of taken) given (seen_of passes) (seen_of new)
  given_by_pass_sees = record {
    journal = given_journal locks passes new board taken gives.before gives.after gives.pass is given.journal.entries gives.seen_is;
    others = given_others locks passes new board taken gives.before gives.after gives.pass is;
    board = board_kept gives.pass;
    own =
        own_given locks passes new board taken gives.before gives.after gives.pass is ∙ gives.places
        ∙ places_after_added (own_places gives.before) (handed taken.turn).bucket.journal.entries given.journal.entries
        ∙ ap (λ (places : List ℕ). places ++ place_added (handed taken.turn).bucket.journal.entries given.journal.entries)
        (sym (own_before locks passes new board taken gives.before gives.after gives.pass is));
    others_own = own_other gives.pass;
  }

  fit_given : taken.by_keeper ≡ false → (keepers : List BucketKeeper) → Fit (shared_of locks passes (Some taken) board) keepers
      → Fit (shared_of locks new None board) keepers
  fit_given by_pass keepers fit = record {
    count = fit.count;
    each = fit.each;
    free = λ k keeper at not_out. fit.free k keeper at (λ (out : IsOutTo true (Some taken) k).
        true≢false (sym out.3 ∙ sym (ap (λ (t : TakenBucket). t.by_keeper) (same_Some taken out.0 out.1)) ∙ by_pass));
    taken = λ one keeper at by_keeper there. absurd (none-some one at);
  }

  pub given_by_pass : IsLegal (layout_of locks).first given.journal.entries → taken.by_keeper ≡ false
      → IsGive (shared_of locks passes (Some taken) board) (shared_of locks new None board) (held_of taken) given
  given_by_pass legal by_pass = record {
    is = given_is_shared locks passes new board taken gives.before gives.after gives.pass is gives.free legal_now;
    sees = given_by_pass_sees;
    out = refl;
    legal = legal_now;
    locks = refl;
    keepers = fit_given by_pass;
  } where
    legal_now : AreLegal (layout_of locks) (seen_of new)
    legal_now = given_legal locks passes new board taken gives.before gives.after gives.pass is given.journal.entries gives.seen_is legal

-- a bucket that its pass gave back is out of the desk no more
pub given_is_give : (locks : Locks) (passes new : Passes) (slot now : Option TakenBucket) (board : Option TakenBoard) (desk : SharedState)
    (held : Held) (taken : TakenBucket) (number : ℕ) (given : Bucket)
    → shared_of locks passes slot board ≡ desk → IsShared (shared_of locks passes slot board) → (out_of desk).bucket ≡ Some held
    → held.number ≡ number → slot ≡ Some taken → MayReplace (layout_of desk.locks) held given → now ≡ None
    → IsGiven locks number passes new taken.turn given → IsGive desk (shared_of locks new now board) held given
given_is_give locks passes new slot now board desk held taken number given view is out at full may empty gives =
    subst (λ (one : Option TakenBucket). IsGive desk (shared_of locks new one board) held given) (sym empty)
    (subst (λ (one : Held). IsGive desk (shared_of locks new None board) one given)
    (held_is locks passes slot board desk held taken number view is out at full)
    (subst (λ (one : SharedState). IsGive one (shared_of locks new None board) (held_of taken) given)
    (view_full locks passes slot board desk held taken number view is out at full)
    (given_by_pass locks passes new board taken given (is_full locks passes slot board desk held taken number view is out at full)
    (subst (λ (n : ℕ). IsGiven locks n passes new taken.turn given)
    (sym (number_is locks passes slot board desk held taken number view is out at full)) gives)
    (subst (λ (one : SharedState). IsLegal (layout_of one.locks).first given.journal.entries) (sym view)
    (bucket_is_legal (layout_of desk.locks) held.number given may.sound may.is_of))
    (ap (λ (one : Held). one.by_keeper) (held_is locks passes slot board desk held taken number view is out at full) ∙ may.not_keeper))))
