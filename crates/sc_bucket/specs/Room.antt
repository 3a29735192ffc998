-- Whether a bucket's journal has room for more entries beside those that it owes.
use Rattle.std.specs.Prelude.{ℕ}
use Rattle.sc_journal.specs.Splits.{Basis, HasRoomFor, IsFullFor}
use Rattle.sc_bucket.specs.declared.bucket.Bucket.{Bucket}

-- what its journal is based on
abbrev pub basis : Bucket → Basis
basis b = record { first = b.first; limit = b.limit }

-- there is room for so many entries
abbrev pub BucketHasRoom : ℕ → Bucket → Type 0
BucketHasRoom wanted b = HasRoomFor wanted b.limit b.first b.journal.entries

-- there is not
abbrev pub BucketIsFull : ℕ → Bucket → Type 0
BucketIsFull wanted b = IsFullFor wanted b.limit b.first b.journal.entries
