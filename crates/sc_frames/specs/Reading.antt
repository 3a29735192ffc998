-- Reading from the front of bytes: the entry that is spelled there and the bytes after it, or nothing where none is.
use Rattle.std.specs.Prelude.{◌≡◌, ℕ, zero, suc, Bool, true, false, ◌&&◌, pos, List, [], ◌∷◌, length, Option, Some, None, nat_lt, nat_le, nat_eq, int_lt, int_le, if◌then◌else◌, Result, Ok, Err}
use Rattle.std.specs.Int.{w16, w32, w64, cast_signed}
use Rattle.sc_values.specs.declared.field.Field.{Field}
use Rattle.sc_record.specs.Ids.{id_limit}
use Rattle.sc_spelling.specs.Reading.{◌>>=◌, number_at, text_at, document_at}
use Rattle.sc_frames.specs.Stored.{Stored, StoredSub, write, settled, committed, begun, switched, failed, dropped, down, up, led}
use Rattle.sc_frames.specs.declared.fault.BodyFault.{BodyFault}
use Rattle.sc_frames.specs.declared.fault.BodyFault.TheVariants.{NotEntries}

-- what a function returned, seen by view, is what was to be read, unless memory ran out
abbrev pub Gives : {X Y : Type 0} → (X → Y) → Result X BodyFault → Option Y → Type 0
Gives view (Ok x) read = read ≡ Some (view x)
Gives view (Err fault) read = fault ≡ NotEntries → read ≡ None

-- a byte
abbrev pub byte_at : List ℕ → Option (ℕ × List ℕ)
byte_at [] = None
byte_at (b ∷ rest) = Some (b, rest)

-- a text that may name a document
unfoldable pub id_at : List ℕ → Option (List ℕ × List ℕ)
id_at bytes = do
  id ← text_at w16 bytes
  (if nat_lt 0 (length id.0) && nat_le (length id.0) id_limit then Some id else None)

-- a version, which is above 0
unfoldable pub version_at : List ℕ → Option (ℕ × List ℕ)
version_at bytes = do
  n ← number_at w64 bytes
  (if int_lt (pos 0) (cast_signed w64 n.0) then Some n else None)

-- a document where one is to come
unfoldable pub doc_at : Bool → List ℕ → Option (Option (List Field) × List ℕ)
doc_at false bytes = Some (None, bytes)
doc_at true bytes = do
  fields ← document_at bytes
  Some (Some fields.0, fields.1)

-- a write, with or without a document
unfoldable pub write_at : Bool → List ℕ → Option (Stored × List ℕ)
write_at has_doc bytes = do
  id ← id_at bytes
  version ← version_at id.1
  doc ← doc_at has_doc version.1
  Some (write id.0 (cast_signed w64 version.0) doc.0, doc.1)

-- a slice that a split makes
unfoldable pub sub_at : List ℕ → Option (StoredSub × List ℕ)
sub_at bytes = do
  id ← number_at w32 bytes
  name ← text_at w32 id.1
  min ← number_at w32 name.1
  max ← number_at w32 min.1
  replicas ← byte_at max.1
  node ← number_at w32 replicas.1
  (if int_le (cast_signed w32 min.0) (cast_signed w32 max.0) && nat_lt 0 replicas.0 && nat_lt 0 node.0
      then Some (record { id = id.0; name = name.0; min = cast_signed w32 min.0; max = cast_signed w32 max.0; replicas = replicas.0; node = node.0 }, node.1)
      else None)

-- so many of them
unfoldable pub subs_at : ℕ → List ℕ → Option (List StoredSub × List ℕ)
subs_at zero bytes = Some ([], bytes)
subs_at (suc n) bytes = do
  first ← sub_at bytes
  others ← subs_at n first.1
  Some (first.0 ∷ others.0, others.1)

-- the beginning of a split
unfoldable pub split_at : List ℕ → Option (Stored × List ℕ)
split_at bytes = do
  parent ← number_at w32 bytes
  count ← number_at w32 parent.1
  subs ← subs_at count.0 count.1
  Some (begun parent.0 subs.0, subs.1)

-- an entry that names a slice alone
abbrev pub slice_at : (ℕ → Stored) → List ℕ → Option (Stored × List ℕ)
slice_at made bytes = do
  slice ← number_at w32 bytes
  Some (made slice.0, slice.1)

-- the name of a core, whose replica is counted from 1
unfoldable pub seat_at : List ℕ → Option ((ℕ × ℕ) × List ℕ)
seat_at bytes = do
  slice ← number_at w32 bytes
  replica ← byte_at slice.1
  (if nat_lt 0 replica.0 then Some ((slice.0, replica.0), replica.1) else None)

-- an entry that names a core
abbrev pub core_at : (ℕ → ℕ → Stored) → List ℕ → Option (Stored × List ℕ)
core_at made bytes = do
  seat ← seat_at bytes
  Some (made seat.0.0 seat.0.1, seat.1)

-- an entry that settles a write
abbrev pub place_at : List ℕ → Option (Stored × List ℕ)
place_at bytes = do
  place ← number_at w64 bytes
  Some (settled place.0, place.1)

-- what belongs to an entry of this kind
abbrev pub of_kind : ℕ → List ℕ → Option (Stored × List ℕ)
of_kind kind rest =
    if nat_eq kind 1 then write_at true rest
    else (if nat_eq kind 2 then write_at false rest
    else (if nat_eq kind 3 then place_at rest
    else (if nat_eq kind 4 then Some (committed, rest)
    else (if nat_eq kind 5 then split_at rest
    else (if nat_eq kind 6 then slice_at switched rest
    else (if nat_eq kind 7 then slice_at failed rest
    else (if nat_eq kind 8 then slice_at dropped rest
    else (if nat_eq kind 9 then core_at down rest
    else (if nat_eq kind 10 then core_at up rest
    else (if nat_eq kind 11 then core_at led rest
    else None))))))))))

-- an entry
unfoldable pub entry_at : List ℕ → Option (Stored × List ℕ)
entry_at bytes = do
  kind ← byte_at bytes
  of_kind kind.0 kind.1
