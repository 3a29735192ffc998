-- What is kept of a journal: all that its next entry depends on.
use Rattle.std.specs.Prelude.{◌≡◌, ℕ, ◌+◌, ◌<◌, ◌^◌, ℤ, Bool, not, ◌&&◌, List, [], ◌∷◌, ◌++◌, length, map, Option, is_some, ⊤}
use Rattle.std.specs.List.{list_any}
use Rattle.std.specs.Option.{option_map}
use Rattle.std.specs.BTreeMap.{get}
use Rattle.std.specs.BTreeSet.{contains}
use Rattle.std.specs.Cmp.Lexicographic.{slice_cmp}
use Rattle.std.specs.Ordering.{nat_cmp}
use Rattle.sc_record.specs.Writes.{Write}
use Rattle.sc_record.specs.declared.slice.CoreId.{CoreId}
use Rattle.sc_record.specs.declared.entry.Entry.{Entry}
use Rattle.sc_record.specs.Names.{key_of_core, is_key}
use Rattle.sc_cluster.specs.declared.slice.Slice.{Slice}
use Rattle.sc_cluster.specs.Slices.{forming}
use Rattle.sc_cluster.specs.Map.{IsMap}
use Rattle.sc_journal.specs.Journal.{writes, last_write, write_at, is_settled}
use Rattle.sc_journal.specs.Down.{is_down}
use Rattle.sc_journal.specs.Splits.{map_after, open_split}
use Rattle.sc_journal.specs.Legal.{MayFollow, IsLegal}
use Rattle.sc_legal.specs.declared.kept.Kept.{Kept}

-- the core of this name is among the cores
abbrev pub is_among : ℕ × ℕ → List CoreId → Bool
is_among key cores = list_any (λ core. is_key key (key_of_core core)) cores

-- the version of the last write of an id
abbrev pub last_version : List Entry → List ℕ → Option ℤ
last_version journal id = option_map (λ (write : Write). write.version) (last_write journal id)

-- a write that no entry settles is at the place
abbrev pub is_unsettled_at : List Entry → ℕ → Bool
is_unsettled_at journal place = is_some (write_at journal place) && not (is_settled journal place)

-- the entries that a log notes
abbrev pub entries_of : List (Entry × ⊤) → List Entry
entries_of items = map (λ (item : Entry × ⊤). item.0) items

-- this is kept of the journal, where the first map is this
pub record IsKept (first : List Slice) (journal : List Entry) (kept : Kept) : Type 0 where
  pub map_is : kept.map ≡ map_after first journal
  pub split_is : kept.split ≡ open_split journal
  pub newest_is : (id : List ℕ) → get (slice_cmp nat_cmp) kept.newest id ≡ last_version journal id
  pub writes_are : kept.writes ≡ length (writes journal)
  pub unsettled_is : (place : ℕ) → contains nat_cmp kept.unsettled place ≡ is_unsettled_at journal place
  pub down_is : (key : ℕ × ℕ) → is_among key kept.down ≡ is_down journal key
  pub entries_are : kept.entries ≡ length journal

-- the journal is legal, it begins with the map of a cluster in which no split is open, and this is kept of it
pub record IsChecked (first : List Slice) (journal : List Entry) (kept : Kept) : Type 0 where
  pub begins : IsMap first
  pub idle : forming first ≡ []
  pub legal : IsLegal first journal
  pub kept_is : IsKept first journal kept

-- the entry may follow a legal journal of which this is kept, and which has not 2^64 - 1 entries yet
abbrev pub MayCome : Kept → Entry → Type 0
MayCome kept one = (first : List Slice) × (journal : List Entry) × IsChecked first journal kept × MayFollow first journal one
    × (length journal + 1 < 2 ^ 64)

-- of whatever journal something was kept, the same is kept of it
abbrev pub Stays : Kept → Kept → Type 0
Stays old new = (first : List Slice) (journal : List Entry) → IsKept first journal old → IsKept first journal new

-- of whatever legal journal something was kept, the new is kept of it with the entry, which may follow it
abbrev pub Notes : Entry → Kept → Kept → Type 0
Notes one old new = (first : List Slice) (journal : List Entry) → IsLegal first journal → MayFollow first journal one
    → IsKept first journal old → IsKept first (journal ++ one ∷ []) new
