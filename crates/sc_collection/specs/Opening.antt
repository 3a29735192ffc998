-- How many entries the journals of a collection had when it was opened.
use Rattle.std.specs.Prelude.{ℕ, List, [], ◌∷◌, length, map}
use Rattle.sc_seen.specs.declared.board.BoardEntry.{BoardEntry}
use Rattle.sc_seen.specs.Seen.{Opened, nothing_opened}
use Rattle.sc_bucket.specs.declared.bucket.Bucket.{Bucket}

-- by the number of the board's entries and then those of the buckets, in order; where none is told it is a new collection
abbrev pub opened_by : List (Unit {0} × ℕ) → Opened
opened_by [] = nothing_opened
opened_by (board ∷ buckets) = record { journals = map (λ (bucket : Unit {0} × ℕ). bucket.1) buckets; board = board.1 }

-- the number of the bucket's entries
abbrev pub entry_count : Bucket → ℕ
entry_count bucket = length bucket.journal.entries

-- those of these buckets, and of a board with these entries
abbrev pub opened_with : List Bucket → List BoardEntry → Opened
opened_with buckets entries = record { journals = map entry_count buckets; board = length entries }
