-- An entry of a journal by its values, and which entries have bytes.
use Rattle.std.specs.Prelude.{ℕ, ◌^◌, ◌<◌, ◌≤◌, ℤ, pos, ◌<ℤ◌, ◌≤ℤ◌, List, map, length, Option, Some, None, IsTrue, FitsSigned, ⊤}
use Rattle.std.specs.Arc.{arc_value}
use Rattle.std.specs.Int.{w32, w64}
use Rattle.std.specs.List.{AllByRecursion}
use Rattle.std.specs.Str.{is_utf8}
use Rattle.sc_values.specs.declared.field.Field.{Field}
use Rattle.sc_record.specs.declared.slice.SubSlice.{SubSlice}
use Rattle.sc_record.specs.Writes.{Write}
use Rattle.sc_record.specs.declared.entry.Entry.{Entry}
use Rattle.sc_record.specs.declared.entry.Entry.TheVariants as entry
use Rattle.sc_record.specs.Ids.{id_limit}
use Rattle.sc_values.specs.Fields.{IsDocument}

-- a slice that a split makes, by its numbers and its name
pub record StoredSub : Type 0 where
  pub id : ℕ
  pub name : List ℕ
  pub min : ℤ
  pub max : ℤ
  pub replicas : ℕ
  pub node : ℕ

-- an entry by its values: where its write lies in memory, its hash and its terms are left out, since they are computed
pub data Stored : Type 0 where
  write : (id : List ℕ) (version : ℤ) (doc : Option (List Field)) → Stored
  settled : (place : ℕ) → Stored
  committed : Stored
  begun : (parent : ℕ) (subs : List StoredSub) → Stored
  switched : (parent : ℕ) → Stored
  failed : (parent : ℕ) → Stored
  dropped : (slice : ℕ) → Stored
  down : (slice replica : ℕ) → Stored
  up : (slice replica : ℕ) → Stored
  led : (slice replica : ℕ) → Stored

-- a slice that a split makes as it is stored
abbrev pub stored_sub : SubSlice → StoredSub
stored_sub sub = record { id = sub.id.0; name = sub.name; min = sub.min; max = sub.max; replicas = sub.replicas; node = sub.node }

-- a write as it is stored
abbrev pub stored_write : Write → Stored
stored_write w = write w.id w.version w.doc

-- an entry as it is stored
abbrev pub stored : Entry → Stored
stored (entry.Write cell) = stored_write (arc_value cell)
stored (entry.Settled place) = settled place
stored entry.Committed = committed
stored (entry.Begun parent subs) = begun parent.0 (map stored_sub subs)
stored (entry.Switched parent) = switched parent.0
stored (entry.Failed parent) = failed parent.0
stored (entry.Dropped slice) = dropped slice.0
stored (entry.Down core) = down core.slice.0 core.replica
stored (entry.Up core) = up core.slice.0 core.replica
stored (entry.Led core) = led core.slice.0 core.replica

-- a text that names a document
pub record IsIdText (id : List ℕ) : Type 0 where
  pub some : 0 < length id
  pub short : length id ≤ id_limit
  pub utf8 : IsTrue (is_utf8 id)

-- a version of a write
pub record IsVersion (version : ℤ) : Type 0 where
  pub positive : pos 0 <ℤ version
  pub fits : FitsSigned w64 version

-- the fields of a write are those of a document that fits, where it has one
abbrev pub FitsDoc : Option (List Field) → Type 0
FitsDoc None = ⊤
FitsDoc (Some fields) = IsDocument fields

-- a slice that a split makes: it has a range, a replica and a node, and its numbers fit
pub record FitsSub (sub : StoredSub) : Type 0 where
  pub id : sub.id < 2 ^ 32
  pub short : length sub.name < 2 ^ 32
  pub utf8 : IsTrue (is_utf8 sub.name)
  pub min : FitsSigned w32 sub.min
  pub max : FitsSigned w32 sub.max
  pub ordered : sub.min ≤ℤ sub.max
  pub replicated : 0 < sub.replicas
  pub replicas : sub.replicas < 2 ^ 8
  pub placed : 0 < sub.node
  pub node : sub.node < 2 ^ 32

-- the name of a core: its replica is counted from 1, and its numbers fit
pub record FitsCore (slice replica : ℕ) : Type 0 where
  pub small : slice < 2 ^ 32
  pub counted : 0 < replica
  pub short : replica < 2 ^ 8

-- the entry has bytes that tell it
abbrev pub FitsEntry : Stored → Type 0
FitsEntry (write id version doc) = IsIdText id × IsVersion version × FitsDoc doc
FitsEntry (settled place) = place < 2 ^ 64
FitsEntry committed = ⊤
FitsEntry (begun parent subs) = (parent < 2 ^ 32) × (length subs < 2 ^ 32) × AllByRecursion FitsSub subs
FitsEntry (switched parent) = parent < 2 ^ 32
FitsEntry (failed parent) = parent < 2 ^ 32
FitsEntry (dropped slice) = slice < 2 ^ 32
FitsEntry (down slice replica) = FitsCore slice replica
FitsEntry (up slice replica) = FitsCore slice replica
FitsEntry (led slice replica) = FitsCore slice replica
