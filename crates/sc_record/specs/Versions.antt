-- Versions of documents (Solr Reference Guide, "Optimistic Concurrency").
use Rattle.std.specs.Prelude.{ℕ, ◌*◌, ◌-◌, ◌^◌, min, ℤ, pos, negsuc, neg_ℤ, ◌+ℤ◌, Option, Some, None, Bool, ◌||◌, ◌&&◌, int_lt}
use Rattle.std.specs.Ordering.{int_eq}
use Rattle.std.specs.Int.{int_max}
use Rattle.sc_record.specs.Writes.{Write}

-- a version as it is shown: that of a write without a document, a deletion, is negative
abbrev pub signed : {A : Type 0} → Option A → ℤ → ℤ
signed (Some doc) version = version
signed None version = neg_ℤ version

-- a write's version as it is shown
abbrev pub shown_version : Write → ℤ
shown_version w = signed w.doc w.version

-- the version that is found of an id whose last write this is: -1 where there is none
abbrev pub found_version : Option Write → ℤ
found_version None = negsuc 0
found_version (Some w) = shown_version w

-- a condition is met by the version that is found: 0 by any, 1 by that of any document, one below 0 by that of none, and
-- each by itself
abbrev pub meets : ℤ → ℤ → Bool
meets condition found =
    int_eq condition (pos 0) || int_eq condition found
    || (int_lt condition (pos 0) && int_lt found (pos 0)) || (int_eq condition (pos 1) && int_lt (pos 0) found)

-- the last timestamp, in milliseconds, that versions keep apart: a later one counts as it
abbrev pub last_timestamp : ℕ
last_timestamp = 2 ^ 42 - 1

-- how many versions a millisecond has
abbrev pub versions_a_millisecond : ℕ
versions_a_millisecond = 2 ^ 20

-- the version of a write at this timestamp (milliseconds), after a clock: the greater of the timestamp's and the clock's next
abbrev pub version_after : ℕ → ℤ → ℤ
version_after now clock = int_max (pos (min now last_timestamp * versions_a_millisecond)) (clock +ℤ pos 1)

-- the greatest version that a timestamp gives
abbrev pub last_timed_version : ℕ
last_timed_version = last_timestamp * versions_a_millisecond
