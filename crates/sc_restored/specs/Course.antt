-- What one entry of a journal makes of a map.
use Rattle.std.specs.Prelude.{◌≡◌, List, Some, None, Option}
use Rattle.sc_record.specs.declared.entry.Entry.{Entry}
use Rattle.sc_cluster.specs.declared.slice.Slice.{Slice}
use Rattle.sc_cluster.specs.Changes.{Change, after, MayChange}
use Rattle.sc_journal.specs.Splits.{map_change_of}

-- the map allows what the entry does to it
abbrev pub Allows : List Slice → Entry → Type 0
Allows slices one = (change : Change) → map_change_of one ≡ Some change → MayChange slices change

-- the map after a change, if there is one
abbrev pub after_change : Option Change → List Slice → List Slice
after_change None slices = slices
after_change (Some change) slices = after slices change

-- the map after the entry
abbrev pub changed_by : Entry → List Slice → List Slice
changed_by one slices = after_change (map_change_of one) slices
