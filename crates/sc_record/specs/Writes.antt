-- What a write is, and writes by their ids.
use Rattle.std.specs.Prelude.{ℕ, ℤ, Bool, List, [], map, find, Option, Some, None}
use Rattle.std.specs.Cmp.Lexicographic.{slice_cmp}
use Rattle.std.specs.List.Sorted.{IsStrictlySortedBy}
use Rattle.std.specs.Ordering.{nat_cmp}
use Rattle.std.specs.Str.{bytes_eq}
use Rattle.sc_values.specs.declared.field.Field.{Field}
use Rattle.sc_record.specs.declared.term.Term.{Term}

-- a write of an id under its version: the id's hash, the document, and the terms that a search finds it by; a deletion has none of either
pub record Write : Type 0 where
  pub id : List ℕ
  pub hash : ℤ
  pub version : ℤ
  pub doc : Option (List Field)
  pub terms : List Term

-- a write of a document
abbrev pub document_write : List ℕ → ℤ → ℤ → List Field → List Term → Write
document_write id hash version fields terms = record { id = id; hash = hash; version = version; doc = Some fields; terms = terms }

-- a deletion
abbrev pub deletion_write : List ℕ → ℤ → ℤ → Write
deletion_write id hash version = record { id = id; hash = hash; version = version; doc = None; terms = [] }

-- the write is of this id
abbrev pub is_of : List ℕ → Write → Bool
is_of id write = bytes_eq write.id id

-- the first write of an id, where there is one
abbrev pub write_of : List Write → List ℕ → Option Write
write_of writes id = find (is_of id) writes

-- the ids ascend by their bytes, so that each stands once
abbrev pub AscendById : List Write → Type 0
AscendById writes = IsStrictlySortedBy (slice_cmp nat_cmp) (map (λ (write : Write). write.id) writes)
