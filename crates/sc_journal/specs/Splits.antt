-- What a journal says of its bucket's slices, the entries that it has still to get, and its room for others.
use Rattle.std.specs.Prelude.{ℕ, ◌+◌, ◌≤◌, ◌<◌, List, length, map, fold, filter_map, count_by, Option, Some, None}
use Rattle.std.specs.List.{flat_map}
use Rattle.sc_record.specs.declared.slice.SliceId.{SliceId}
use Rattle.sc_record.specs.declared.slice.SubSlice.{SubSlice}
use Rattle.sc_record.specs.declared.entry.Entry.{Entry}
use Rattle.sc_record.specs.declared.entry.Entry.TheVariants as entry
use Rattle.sc_cluster.specs.declared.slice.Slice.{Slice}
use Rattle.sc_cluster.specs.Changes.{Change, begun_slice}
use Rattle.sc_cluster.specs.Histories.{after_all}
use Rattle.sc_journal.specs.Journal.{unsettled}
use Rattle.sc_cluster.specs.Slices.{is_inactive}
use Rattle.sc_journal.specs.Down.{follower_keys, count_up}

-- how an entry changes the bucket's map of slices, if it does
abbrev pub map_change_of : Entry → Option Change
map_change_of (entry.Begun parent subs) = Some (Change.Begun parent subs)
map_change_of (entry.Switched parent) = Some (Change.Switched parent)
map_change_of (entry.Failed parent) = Some (Change.Failed parent)
map_change_of (entry.Dropped slice) = Some (Change.Dropped slice)
map_change_of _ = None

-- the map after a journal, from the first map on
abbrev pub map_after : List Slice → List Entry → List Slice
map_after first journal = after_all first (filter_map map_change_of journal)

-- the slice that is being split after an entry, if there is one; the other is the one before it
abbrev pub split_after : Option SliceId → Entry → Option SliceId
split_after split (entry.Begun parent subs) = Some parent
split_after split (entry.Switched parent) = None
split_after split (entry.Failed parent) = None
split_after split _ = split

-- the slice whose split is open in a journal: the last entry that begins or ends one begins it
abbrev pub open_split : List Entry → Option SliceId
open_split journal = fold split_after None journal

-- what an open split has still to get: its end, and that of its parent
abbrev pub owed_by_split : Option SliceId → ℕ
owed_by_split None = 0
owed_by_split (Some parent) = 2

-- How many entries a journal has still to get at most, whose first map is this: one that settles each write that is not settled,
-- those of an open split, one that drops each inactive slice, and one that says of each follower that it is down.
abbrev pub owed : List Slice → List Entry → ℕ
owed first journal =
    length (unsettled journal) + owed_by_split (open_split journal) + count_by is_inactive (map_after first journal)
    + count_up (map_after first journal) journal

-- what a journal is based on: the map with which it begins, and how many entries it may have
pub record Basis : Type 0 where
  pub first : List Slice
  pub limit : ℕ

-- the journal has room for so many entries more, beside those that it owes
abbrev pub HasRoomFor : ℕ → ℕ → List Slice → List Entry → Type 0
HasRoomFor wanted limit first journal = length journal + owed first journal + wanted ≤ limit

-- it has none for so many
abbrev pub IsFullFor : ℕ → ℕ → List Slice → List Entry → Type 0
IsFullFor wanted limit first journal = limit < length journal + owed first journal + wanted

-- the followers of the slices that a split makes
abbrev pub new_followers : List SubSlice → ℕ
new_followers subs = length (flat_map follower_keys (map begun_slice subs))

-- how many entries a split takes: that it begins, its end and that of its parent, and one of each follower of its slices
abbrev pub entries_of_split : List SubSlice → ℕ
entries_of_split subs = 3 + new_followers subs
