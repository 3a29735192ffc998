-- What is known of a collection by who keeps its buckets, and when it is the same of a bucket or of the board.
use Rattle.std.specs.Prelude.{◌≡◌, ◌≤◌, ◌<◌, ℕ}
use Rattle.sc_seen.specs.Seen.{Seen}
use Rattle.sc_collection.specs.Desks.{Keeping}

-- what is known of a collection: what was seen of it, and what the keepers of its buckets keep
pub record Known : Type 0 where
  pub seen : Seen
  pub keeping : Keeping

-- what is known by what was seen and by what is kept
abbrev pub known_of : Seen → Keeping → Known
known_of seen keeping = record { seen = seen; keeping = keeping }

-- it is so of each bucket from one on, and before another
abbrev pub OfBuckets : (from to : ℕ) → (ℕ → Type 0) → Type 0
OfBuckets from to IsSo = (b : ℕ) → from ≤ b → b < to → IsSo b

-- of the bucket of this number the same was seen, and the same is kept
pub record IsSameIn (old new : Known) (b : ℕ) : Type 0 where
  pub journal : new.seen.journals b ≡ old.seen.journals b
  pub part_is : new.keeping.part b ≡ old.keeping.part b
  pub own : new.keeping.own b ≡ old.keeping.own b

-- of the board the same was seen, and no entry more is one's own
pub record KeepsBoard (old new : Seen) : Type 0 where
  pub board : new.board ≡ old.board
  pub own : (lock : ℕ) → new.own lock ≡ old.own lock
