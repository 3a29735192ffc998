-- What the buckets find, a list for each, and all of it in order.
use Rattle.std.specs.Prelude.{◌≡◌, ℕ, ◌≤◌, ◌^◌, List, length, take}
use Rattle.std.specs.Cmp.Lexicographic.{slice_cmp}
use Rattle.std.specs.List.{flat_map}
use Rattle.std.specs.List.Sorted.{IsPermutation, IsSortedByKey}
use Rattle.std.specs.Ordering.{nat_cmp}
use Rattle.sc_record.specs.Writes.{Write, AscendById}

-- the writes may be what one bucket finds: their ids ascend, and there are at most 2^24
pub record AreFound (writes : List Write) : Type 0 where
  pub ascend : AscendById writes
  pub bounded : length writes ≤ 2 ^ 24

-- all that the buckets find
abbrev pub all_of : List (List Write) → List Write
all_of lists = flat_map (λ (writes : List Write). writes) lists

-- all writes, ascending by the bytes of their ids
pub record SortsById (all sorted : List Write) : Type 0 where
  pub same : IsPermutation all sorted
  pub ascend : IsSortedByKey (λ (write : Write). write.id) (slice_cmp nat_cmp) sorted

-- all writes in order begin as these do, as far as the first `most`
pub record IsStartOf (all : List Write) (most : ℕ) (kept : List Write) : Type 0 where
  pub sorted : List Write
  pub order : SortsById all sorted
  pub start : take most kept ≡ take most sorted
