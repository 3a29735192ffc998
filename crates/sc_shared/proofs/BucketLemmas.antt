-- What the calls of a bucket's lock ask for and leave.
use Rattle.std.proofs.Common.{◌≡◌, ◌⊎◌, inl, inr, ◌<◌, ℕ, Bool, List, [], ◌∷◌, length, get_or, Some, slice_get, refl, sym, ap, ◌∙◌, subst}
use Rattle.std.proofs.lemmas.Option.{same_Some, slice_get_read}
use Rattle.std.specs.List.{AllByRecursion}
use mathlib.Core.List.{IsPrefix}
use Rattle.sc_record.specs.declared.entry.Entry.{Entry}
use Rattle.sc_record.specs.Writes.{Write}
use Rattle.sc_router.specs.Route.{bucket_of}
use Rattle.sc_cluster.specs.declared.slice.Slice.{Slice}
use Rattle.sc_journal.specs.Journal.{writes}
use Rattle.sc_seen.specs.Seen.{Layout}
use Rattle.sc_seen.proofs.ExtendsLemmas.{IsPrefix-then, IsPrefix-self}
use Rattle.sc_bucket.specs.declared.bucket.Bucket.{Bucket}
use Rattle.sc_bucket.specs.Sound.{IsSound}
use Rattle.sc_handover.specs.AnyEvent.{IsEvent}
use Rattle.sc_keeper.specs.Laws.{AddsAtMost}
use Rattle.sc_lock.specs.Journal.{IsLongest, GrowsByAtMostOne}
use Rattle.sc_lock.specs.Tokens.{lock_id, lock_name, IsPassOf, IsKeeperOf, handed}
use Rattle.sc_lock.proofs.PrefixLemmas.{IsPrefix-whole, length-IsPrefix}
use Rattle.sc_collection.specs.Desks.{IsBucketOf}
use Rattle.sc_shared.specs.declared.numbered.Numbered.{Numbered}
use Rattle.sc_shared.specs.Buckets.{BucketName, name_of, IsSoundNumbered, Follows}
use Rattle.sc_shared.specs.Keepers.{BucketKeeper}
use Rattle.sc_shared.specs.Passes.{BucketPass}
use Rattle.sc_shared.specs.Collections.{Locks, BucketLock, bucket_name, AreLocks}
use Rattle.sc_shared.specs.Holding.{BucketTurn, IsPassAt, IsKeeperAt, IsBucketHandedOut}

-- what was read of a list is there
pub found_in : {A : Type 0} (items all : List A) (i : ℕ) (one : A) → items ≡ all → i < length all → one ≡ get_or items i one
    → slice_get all i ≡ Some one
found_in {A = A} items all i one same within is =
    subst (λ (xs : List A). slice_get xs i ≡ Some one) same
    (slice_get_read items (length items) i one refl (subst (λ (xs : List A). i < length xs) (sym same) within) is)

-- a pass of the lock that stands there is one of the lock of this number
pub is_pass_at : (locks : Locks) (number : ℕ) (lock : BucketLock) (pass : BucketPass) → slice_get locks.buckets number ≡ Some lock
    → IsPassOf (lock_id lock) pass → IsPassAt locks number pass
is_pass_at locks number lock pass there is other other_there =
    subst (λ (one : BucketLock). IsPassOf (lock_id one) pass) (same_Some lock other (sym there ∙ other_there)) is

-- and its keeper the keeper
pub is_keeper_at : (locks : Locks) (number : ℕ) (lock : BucketLock) (keeper : BucketKeeper) → slice_get locks.buckets number ≡ Some lock
    → IsKeeperOf (lock_id lock) keeper → IsKeeperAt locks number keeper
is_keeper_at locks number lock keeper there is other other_there =
    subst (λ (one : BucketLock). IsKeeperOf (lock_id one) keeper) (same_Some lock other (sym there ∙ other_there)) is

-- a sound value with the lock's name that was handed out is the bucket of this number
pub is_handed_out : (locks : Locks) (first : List Slice) (number : ℕ) (lock : BucketLock) (kept : Numbered) (turn : BucketTurn)
    → AreLocks locks first → slice_get locks.buckets number ≡ Some lock → IsSoundNumbered kept → name_of kept ≡ lock_name name_of lock
    → handed turn ≡ kept → IsBucketHandedOut locks number kept.bucket turn
is_handed_out locks first number lock kept turn are there sound named is = record {
  bucket_is = ap (λ (one : Numbered). one.bucket) is;
  sound = subst IsSoundNumbered (sym is) sound;
  name = ap name_of is ∙ named ∙ are.named number lock there;
}

-- a bucket with its number
abbrev pub numbered : ℕ → ℕ → Bucket → Numbered
numbered number buckets bucket = record { number = number; buckets = buckets; bucket = bucket }

-- What a lock asks of what is given back.
pub record IsGivable (held given : Numbered) : Type 0 where
  pub sound : IsSoundNumbered given
  pub follows : Follows held given
  pub grows : GrowsByAtMostOne held.bucket.journal.entries given.bucket.journal.entries

-- a bucket of this number that came by one event may be given back
pub is_givable : (layout : Layout) (number buckets : ℕ) (held : Numbered) (given : Bucket) → buckets ≡ layout.buckets
    → name_of held ≡ bucket_name layout number → IsSound given → IsBucketOf layout number given → IsEvent held.bucket given
    → GrowsByAtMostOne held.bucket.journal.entries given.journal.entries → IsGivable held (numbered number buckets given)
is_givable layout number buckets held given count named sound is_of event grows = record {
  sound = record {
    sound = sound;
    ids = subst (λ (n : ℕ). AllByRecursion (λ (write : Write). bucket_of write.id n ≡ number) (writes given.journal.entries)) (sym count) is_of.ids;
  };
  follows = record { event = event; name = named ∙ sym same };
  grows = grows;
} where
  with_count : ℕ → BucketName
  with_count n = record { number = number; buckets = n; first = given.first; limit = given.limit }

  with_first : List Slice → BucketName
  with_first first = record { number = number; buckets = layout.buckets; first = first; limit = given.limit }

  with_limit : ℕ → BucketName
  with_limit limit = record { number = number; buckets = layout.buckets; first = layout.first; limit = limit }

  same : name_of (numbered number buckets given) ≡ bucket_name layout number
  same = ap with_count count ∙ ap with_first is_of.first ∙ ap with_limit is_of.limit

-- what adds an entry at most grows by one at most
pub adds_grows : (of_keeper : Bool) (old new : List Entry) → AddsAtMost of_keeper old new → GrowsByAtMostOne old new
adds_grows of_keeper old new (inl same) = inl same
adds_grows of_keeper old new (inr (one, is_of, is)) = inr (one, is)

-- and the first is a beginning of the second
adds_prefix : (of_keeper : Bool) (old new : List Entry) → AddsAtMost of_keeper old new → IsPrefix old new
adds_prefix of_keeper old new (inl same) = subst (IsPrefix old) (sym same) (IsPrefix-self old)
adds_prefix of_keeper old new (inr (one, is_of, is)) = (one ∷ [], sym is)

-- who had seen a beginning of what was handed out has then seen what was given back
pub longest_is_given : (of_keeper : Bool) (begun held given longest : List Entry) → IsPrefix begun held → AddsAtMost of_keeper held given
    → IsLongest begun given longest → longest ≡ given
longest_is_given of_keeper begun held given longest begins adds is = by is.one_of where
  inside : IsPrefix begun given
  inside = IsPrefix-then begun held given begins (adds_prefix of_keeper held given adds)

  by : (longest ≡ begun) ⊎ (longest ≡ given) → longest ≡ given
  by (inr same) = same
  by (inl same) =
      IsPrefix-whole longest given (subst (λ (one : List Entry). IsPrefix one given) (sym same) inside)
      (length-IsPrefix given longest is.second_is_prefix)
