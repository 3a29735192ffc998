-- A journal is the list of what happened to a bucket, oldest first.
use Rattle.std.specs.Prelude.{ℕ, ℤ, ◌-◌, ◌==◌, Bool, false, not, ◌&&◌, List, length, map, filter, filter_map, slice_get, is_some, Option, Some, None}
use Rattle.std.specs.List.{list_any, enumerate_from}
use Rattle.std.specs.Option.{option_and_then}
use Rattle.std.specs.Arc.{arc_value}
use Rattle.sc_record.specs.Versions.{found_version}
use Rattle.sc_record.specs.Writes.{is_of, Write}
use Rattle.sc_record.specs.declared.entry.Entry.{Entry}
use Rattle.sc_record.specs.declared.entry.Entry.TheVariants as entry

-- the write that an entry is, if it is one
abbrev pub as_write : Entry → Option Write
as_write (entry.Write cell) = Some (arc_value cell)
as_write _ = None

-- the write at a place of a journal, where there is one
abbrev pub write_at : List Entry → ℕ → Option Write
write_at journal place = option_and_then as_write (slice_get journal place)

-- the writes of a journal
abbrev pub writes : List Entry → List Write
writes journal = filter_map as_write journal

-- the writes of an id
abbrev pub writes_of : List Entry → List ℕ → List Write
writes_of journal id = filter (is_of id) (writes journal)

-- the last of a list, where there is one
abbrev pub last_of : {A : Type 0} → List A → Option A
last_of items = slice_get items (length items - 1)

-- the last write of an id, where there is one
abbrev pub last_write : List Entry → List ℕ → Option Write
last_write journal id = last_of (writes_of journal id)

-- the version that is found of an id: -1 where it was never written, and that of a deletion as its negative
abbrev pub found : List Entry → List ℕ → ℤ
found journal id = found_version (last_write journal id)

-- the entry settles the write at the place: it says that the write was delivered to every other core that had to take it,
-- or that the core is gone or down; it is made before the update is answered
abbrev pub settles : ℕ → Entry → Bool
settles place (entry.Settled settled) = settled == place
settles place _ = false

-- an entry settles the write at the place
abbrev pub is_settled : List Entry → ℕ → Bool
is_settled journal place = list_any (settles place) journal

-- the entry at the place is a write that no entry of the journal settles
abbrev pub is_unsettled : List Entry → ℕ × Entry → Bool
is_unsettled journal (place, one) = is_some (as_write one) && not (is_settled journal place)

-- the places of the writes that no entry settles, ascending
abbrev pub unsettled : List Entry → List ℕ
unsettled journal = map (λ (at : ℕ × Entry). at.0) (filter (is_unsettled journal) (enumerate_from 0 journal))
