-- What is so of the buckets once the slice is dropped from one more.
use Rattle.std.proofs.Common.{◌≢◌, ℕ, ◌+◌, ◌<◌, ◌≤◌, List, [], ◌∷◌, ◌++◌, sym, ap, ◌∙◌, subst, arith, below_more}
use mathlib.Core.List.{IsPrefix}
use Rattle.sc_record.specs.declared.slice.SliceId.{SliceId}
use Rattle.sc_record.specs.declared.entry.Entry.{Entry}
use Rattle.sc_record.specs.declared.entry.Entry.TheVariants as entry
use Rattle.sc_seen.specs.Seen.{Seen}
use Rattle.sc_keeper.specs.declared.part.Part.{Part}
use Rattle.sc_keeper.specs.Events.{PartDrops}
use Rattle.sc_keeper.specs.Conditions.{MayDrop}
use Rattle.sc_collection.specs.Known.{Known, OfBuckets, IsSameIn, KeepsBoard}
use Rattle.sc_admin.specs.Dropping.{IsDroppedIn}

-- the board stays over two steps
pub board_then : (old now new : Seen) → KeepsBoard old now → KeepsBoard now new → KeepsBoard old new
board_then old now new one two =
    record { board = two.board ∙ one.board; own = λ lock. two.own lock ∙ one.own lock }

-- a bucket stays over two steps
same_then : (old now new : Known) (b : ℕ) → IsSameIn old now b → IsSameIn now new b → IsSameIn old new b
same_then old now new b one two = record {
  journal = two.journal ∙ one.journal;
  part_is = two.part_is ∙ one.part_is;
  own = two.own ∙ one.own;
}

-- where the slice was dropped before it stays so
dropped_before : (slice : SliceId) (old now new : Known) (b : ℕ) → IsSameIn now new b → IsDroppedIn slice old now b → IsDroppedIn slice old new b
dropped_before slice old now new b same was = record {
  before = was.before;
  went_on = was.went_on;
  journal = same.journal ∙ was.journal;
  own = same.own ∙ was.own;
  part = subst (PartDrops (old.keeping.part b) slice) (sym same.part_is) was.part;
}

-- where it is dropped now all was as it had been
dropped_now : (slice : SliceId) (old now new : Known) (b : ℕ) → IsSameIn old now b → IsDroppedIn slice now new b → IsDroppedIn slice old new b
dropped_now slice old now new b same is = record {
  before = is.before;
  went_on = subst (λ (journal : List Entry). IsPrefix journal is.before) same.journal is.went_on;
  journal = is.journal;
  own = is.own ∙ ap (λ (own : List Entry). own ++ entry.Dropped slice ∷ []) same.own;
  part = subst (λ (part : Part). PartDrops part slice (new.keeping.part b)) same.part_is is.part;
}

-- it may be dropped from the next
pub may_here : (slice : SliceId) (old now : Known) (b n : ℕ) → b < n → OfBuckets b n (IsSameIn old now)
    → OfBuckets 0 n (λ b. MayDrop (old.keeping.part b) slice) → MayDrop (now.keeping.part b) slice
may_here slice old now b n below same may =
    let here : b ≤ b = omega arith in
    let first : 0 ≤ b = omega arith in
    subst (λ (part : Part). MayDrop part slice) (sym (same b here below).part_is) (may b first below)

module _ (slice : SliceId) (old now new : Known) (b n : ℕ) (below : b < n) (others : (other : ℕ) → other ≢ b → IsSameIn now new other)
    (same : OfBuckets b n (IsSameIn old now)) where
  -- the slice is dropped from one more
  pub one_more : OfBuckets 0 b (IsDroppedIn slice old now) → IsDroppedIn slice now new b → OfBuckets 0 (b + 1) (IsDroppedIn slice old new)
  one_more before here k low within =
      let start : b ≤ b = omega arith in
      below_more (IsDroppedIn slice old new) b
      (λ (other : ℕ) (earlier : other < b). let first : 0 ≤ other = omega arith in
      dropped_before slice old now new other (others other (apart other earlier)) (before other first earlier))
      (dropped_now slice old now new b (same b start below) here) k within
    where
      apart : (k : ℕ) → k < b → k ≢ b
      apart k earlier is = omega (arith, earlier, is)

  -- and those after it are as they were
  pub rest_same : OfBuckets (b + 1) n (IsSameIn old new)
  rest_same k low within =
      let from : b ≤ k = omega arith in
      same_then old now new k (same k from within) (others k (apart k low))
    where
      apart : (k : ℕ) → b + 1 ≤ k → k ≢ b
      apart k low is = omega (arith, low, is)
