-- The searcher of a slice: its rows, and the same rows at another place.
use Rattle.std.specs.Prelude.{◌≡◌, ℕ, List, map, All}
use Rattle.std.specs.Arc.{arc_value}
use Rattle.sc_hash.specs.Range.{IsWithin}
use Rattle.sc_hash.specs.declared.range.Range.{Range}
use Rattle.sc_record.specs.declared.slice.SliceId.{SliceId}
use Rattle.sc_record.specs.Writes.{Write}
use Rattle.sc_snapshot.specs.Rows.{AreRows, SnapshotState}
use Rattle.sc_replicas.specs.declared.standing.Standing.{Standing}
use Rattle.sc_replicas.specs.declared.standing.Searcher.{Searcher}

-- the rows that a searcher looks at
abbrev pub standing_rows : Standing → List Write
standing_rows searcher = (arc_value searcher.snapshot).rows

-- the rows that a share of a searcher looks at
abbrev pub searcher_rows : Searcher → List Write
searcher_rows searcher = (arc_value searcher.snapshot).rows

-- a searcher as contracts see it
pub record StandingState : Type 0 where
  pub slice : SliceId
  pub range : Range
  pub snapshot : SnapshotState

abbrev pub standing_of : Standing → StandingState
standing_of searcher = record { slice = searcher.slice; range = searcher.range; snapshot = arc_value searcher.snapshot }

-- a searcher with the same rows at this place
abbrev pub moved_to : ℕ → StandingState → StandingState
moved_to place searcher = record searcher { snapshot = record { place = place; rows = searcher.snapshot.rows } }

-- the new searchers are the old ones at this place
abbrev pub AreMoved : ℕ → List Standing → List Standing → Type 0
AreMoved place old new = map standing_of new ≡ map (λ (searcher : Standing). moved_to place (standing_of searcher)) old

-- the searcher's rows have hashes of its range alone
pub record HasOwnRows (searcher : Standing) : Type 0 where
  pub rows : AreRows (standing_rows searcher)
  pub within : All (λ (row : Write). IsWithin searcher.range.min searcher.range.max row.hash) (standing_rows searcher)
