-- Which slices of a bucket a search looks at by its route, and the searchers that it takes of them.
use Rattle.std.specs.Prelude.{◌≡◌, ◌&&◌, Bool, true, int_le, List, [], ◌∷◌, ◌++◌, Option, Some, None, ⊤}
use Rattle.sc_hash.specs.declared.range.Range.{Range}
use Rattle.sc_record.specs.declared.entry.Entry.{Entry}
use Rattle.sc_cluster.specs.declared.slice.Slice.{Slice}
use Rattle.sc_cluster.specs.Slices.{is_active}
use Rattle.sc_replicas.specs.Searchers.{searcher_rows}
use Rattle.sc_replicas.specs.declared.standing.Searcher.{Searcher}
use Rattle.sc_bucket.specs.Searchers.{ShowsCommitted}

-- whether a search looks at slices of this range: it has no route, or some hash is in both
abbrev pub asks_for : Option Range → Range → Bool
asks_for None range = true
asks_for (Some route) range = int_le range.min route.max && int_le route.min range.max

-- the slice is active, and the search looks at it
abbrev pub is_asked : Option Range → Slice → Bool
is_asked route slice = is_active slice && asks_for route slice.range

-- the searcher is that of the slice
pub record IsOfSlice (journal : List Entry) (slice : Slice) (searcher : Searcher) : Type 0 where
  pub range_is : searcher.range ≡ slice.range
  pub shows : ShowsCommitted journal slice (searcher_rows searcher)

-- the searchers are those of the slices, in order
abbrev pub AreOfSlices : List Entry → List Slice → List Searcher → Type 0
AreOfSlices journal [] [] = ⊤
AreOfSlices journal [] (searcher ∷ searchers) = ⊥
AreOfSlices journal (slice ∷ slices) [] = ⊥
AreOfSlices journal (slice ∷ slices) (searcher ∷ searchers) = IsOfSlice journal slice searcher × AreOfSlices journal slices searchers

-- the searchers are the old ones and, after them, some of which this holds
pub record AddsSearchers (these : List Searcher → Type 0) (old new : List Searcher) : Type 0 where
  pub more : List Searcher
  pub added : new ≡ old ++ more
  pub are : these more
