-- How much is still to be fed and to be replayed in a bucket, and that each piece leaves less.
use Rattle.std.proofs.Common.{◌≡◌, ◌⊎◌, inl, inr, ◌<◌, ◌≤◌, ℕ, zero, suc, ◌+◌, ◌-◌, true, false, List, [], ◌∷◌, Some, slice_get, sym, ap, ◌∙◌, subst, arith}
use Rattle.std.specs.Prelude.{slice_set, nat_le}
use Rattle.std.proofs.lemmas.Bool.Decides.{leb_tells}
use Rattle.sc_record.specs.declared.slice.CoreId.{CoreId}
use Rattle.sc_replica.specs.Core.{replay_limit}
use Rattle.sc_handover.specs.Made.{feed_limit}
use Rattle.sc_keeper.specs.declared.part.CorePart.{CorePart}
use Rattle.sc_keeper.specs.declared.part.FeedPart.{FeedPart}
use Rattle.sc_keeper.specs.declared.part.Part.{Part}
use Rattle.sc_keeper.specs.Events.{PartFeeds, PartReplays, replayed_part}

-- what is not at most a number is above it
not_le : (a b : ℕ) → false ≡ nat_le a b → b < a
not_le a b is = by (leb_tells a b) where
  by : ((nat_le a b ≡ true) × (a ≤ b)) ⊎ ((nat_le a b ≡ false) × (b < a)) → b < a
  by (inl most) = let both : false ≡ true = is ∙ most.0 in absurd (cc)
  by (inr above) = above.1

-- the sum of the amounts
abbrev pub total : {X : Type 0} → (X → ℕ) → List X → ℕ
total amount [] = 0
total amount (x ∷ xs) = amount x + total amount xs

-- it falls where one amount does
total-set : {X : Type 0} (amount : X → ℕ) (xs : List X) (at : ℕ) (x y : X) → slice_get xs at ≡ Some x → amount y < amount x
    → total amount (slice_set xs at y) < total amount xs
total-set amount [] at x y found less = absurd (cc)
total-set amount (first ∷ xs) zero x y found less =
    let same : first ≡ x = cc in
    omega (arith, less, ap amount same)
total-set amount (first ∷ xs) (suc at) x y found less = omega (arith, total-set amount xs at x y found less)

-- how many rows a feed has still to look at
abbrev pub rows_left : FeedPart → ℕ
rows_left feed = feed.rows - feed.next

-- how many rows are still to be looked at
abbrev pub rows_left_in : Part → ℕ
rows_left_in part = total rows_left part.feeds

-- how many writes are still to be replayed
abbrev pub writes_left_in : Part → ℕ
writes_left_in part = total (λ (core : CorePart). core.left) part.cores

-- a piece of a feed that is not the last leaves fewer rows
pub fewer_rows : (old new : Part) (name : CoreId) → PartFeeds old name false new → rows_left_in new < rows_left_in old
unfolding feed_limit
fewer_rows old new name fed =
    subst (λ feeds. total rows_left feeds < rows_left_in old) (sym fed.feeds_are)
    (total-set rows_left old.feeds fed.feed_at fed.feed (record fed.feed { next = fed.feed.next + feed_limit }) fed.feed_found less)
  where
    less : fed.feed.rows - (fed.feed.next + feed_limit) < fed.feed.rows - fed.feed.next
    less =
        let not_last = not_le fed.feed.rows (fed.feed.next + feed_limit) fed.done in
        omega (arith, not_last)

-- a piece of a buffer that is not the last leaves fewer writes
pub fewer_writes : (old new : Part) (name : CoreId) → PartReplays old name false new → writes_left_in new < writes_left_in old
unfolding replay_limit
fewer_writes old new name replays =
    subst (λ cores. total (λ (core : CorePart). core.left) cores < writes_left_in old) (sym replays.changed.cores_are)
    (total-set (λ (core : CorePart). core.left) old.cores replays.changed.core_at replays.changed.core
    (replayed_part false replays.changed.core) replays.changed.core_found less)
  where
    less : replays.changed.core.left - replay_limit < replays.changed.core.left
    less =
        let not_last = not_le replays.changed.core.left replay_limit replays.done in
        omega (arith, not_last)
