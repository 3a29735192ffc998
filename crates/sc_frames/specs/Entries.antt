-- The bytes of the entries of a journal. Numbers are little-endian, and an entry begins with the byte of its kind.
use Rattle.std.specs.Prelude.{◌≡◌, ◌≢◌, ℕ, ℤ, List, [], ◌∷◌, ◌++◌, length, Option, Some, None}
use Rattle.std.specs.Int.{w16, w32, w64, to_le_bytes, cast_unsigned}
use Rattle.std.specs.List.{flat_map, AllByRecursion}
use Rattle.sc_values.specs.declared.field.Field.{Field}
use Rattle.sc_spelling.specs.Spellings.{spelling}
use Rattle.sc_frames.specs.Stored.{Stored, StoredSub, FitsEntry, write, settled, committed, begun, switched, failed, dropped, down, up, led}

-- the bytes of an id and a version
abbrev pub write_head : List ℕ → ℤ → List ℕ
write_head id version = to_le_bytes w16 (length id) ++ (id ++ to_le_bytes w64 (cast_unsigned w64 version))

-- the bytes of a write: with a document, or a deletion
abbrev pub spelling_of_write : List ℕ → ℤ → Option (List Field) → List ℕ
spelling_of_write id version (Some fields) = 1 ∷ (write_head id version ++ spelling fields)
spelling_of_write id version None = 2 ∷ write_head id version

-- the bytes of a slice that a split makes after its name: its range, its replicas and its node
unfoldable pub after_name : ℤ → ℤ → ℕ → ℕ → List ℕ
after_name min max replicas node =
    to_le_bytes w32 (cast_unsigned w32 min) ++ (to_le_bytes w32 (cast_unsigned w32 max) ++ (replicas ∷ to_le_bytes w32 node))

-- the bytes of a slice that a split makes
abbrev pub spelling_of_sub : StoredSub → List ℕ
spelling_of_sub sub =
    to_le_bytes w32 sub.id ++ (to_le_bytes w32 (length sub.name) ++ (sub.name ++ after_name sub.min sub.max sub.replicas sub.node))

-- the bytes of the slices of a split: its parent, their number, and each
abbrev pub spelling_of_split : ℕ → List StoredSub → List ℕ
spelling_of_split parent subs = to_le_bytes w32 parent ++ (to_le_bytes w32 (length subs) ++ flat_map spelling_of_sub subs)

-- the bytes of a core's name
abbrev pub spelling_of_core : ℕ → ℕ → List ℕ
spelling_of_core slice replica = to_le_bytes w32 slice ++ replica ∷ []

-- the bytes of an entry: its kind, and what belongs to it
abbrev pub spelling_of_entry : Stored → List ℕ
spelling_of_entry (write id version doc) = spelling_of_write id version doc
spelling_of_entry (settled place) = 3 ∷ to_le_bytes w64 place
spelling_of_entry committed = 4 ∷ []
spelling_of_entry (begun parent subs) = 5 ∷ spelling_of_split parent subs
spelling_of_entry (switched parent) = 6 ∷ to_le_bytes w32 parent
spelling_of_entry (failed parent) = 7 ∷ to_le_bytes w32 parent
spelling_of_entry (dropped slice) = 8 ∷ to_le_bytes w32 slice
spelling_of_entry (down slice replica) = 9 ∷ spelling_of_core slice replica
spelling_of_entry (up slice replica) = 10 ∷ spelling_of_core slice replica
spelling_of_entry (led slice replica) = 11 ∷ spelling_of_core slice replica

-- the body of a frame is one entry or more
pub record AreEntries (body : List ℕ) (entries : List Stored) : Type 0 where
  pub some : entries ≢ []
  pub fit : AllByRecursion FitsEntry entries
  pub spelt : body ≡ flat_map spelling_of_entry entries
