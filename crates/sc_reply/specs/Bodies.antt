-- The bodies of answers (RFC 8259; Solr Reference Guide, "Response Writers").
use Rattle.std.specs.Prelude.{ℕ, pos, Bool, true, ◌&&◌, List, [], ◌∷◌, ◌++◌, length, codes, map, nat_lt, if◌then◌else◌, Option, Some, None, ⊤, IsSome}
use Rattle.std.specs.List.{flat_map, AllByRecursion}
use Rattle.serde_json.specs.Data.{Data, null, boolean, string}
use Rattle.serde_json.specs.Written.{compact_text}
use Rattle.sc_record.specs.declared.ack.Ack.{Ack}
use Rattle.sc_record.specs.Writes.{Write}
use Rattle.sc_json.specs.Documents.{object_of, array_of, whole_number, write_data}

-- ids and shown versions, in a flat list
abbrev pub acks_data : List Ack → Data
acks_data acks = array_of (flat_map (λ (ack : Ack). string ack.id ∷ whole_number ack.version ∷ []) acks)

-- a member of accepted orders, where their versions are to be shown and there are some
abbrev pub acks_member : List ℕ → Bool → List Ack → List (List ℕ × Data)
acks_member key versions acks = if versions && nat_lt 0 (length acks) then (key, acks_data acks) ∷ [] else []

-- the members of what was added and of what was deleted
abbrev pub acks_members : List Ack → List Ack → Bool → List (List ℕ × Data)
acks_members adds deletes versions = acks_member (codes "adds") versions adds ++ acks_member (codes "deletes") versions deletes

-- the member `error`
abbrev pub error_member : ℕ → List ℕ → List ℕ × Data
error_member code message = (codes "error", object_of ((codes "code", whole_number (pos code)) ∷ (codes "msg", string message) ∷ []))

-- the member `responseHeader`
abbrev pub header_member : ℕ → List ℕ × Data
header_member status =
    (codes "responseHeader", object_of ((codes "QTime", whole_number (pos 0)) ∷ (codes "status", whole_number (pos status)) ∷ []))

-- the answer to an update that was done
abbrev pub update_data : List Ack → List Ack → Bool → Data
update_data adds deletes versions = object_of (acks_members adds deletes versions ++ header_member 0 ∷ [])

abbrev pub update_text : List Ack → List Ack → Bool → List ℕ
update_text adds deletes versions = compact_text (update_data adds deletes versions)

-- a refusal, after these orders were accepted
abbrev pub error_data : ℕ → List ℕ → List Ack → List Ack → Bool → Data
error_data code message adds deletes versions = object_of (acks_members adds deletes versions ++ error_member code message ∷ header_member code ∷ [])

abbrev pub error_text : ℕ → List ℕ → List Ack → List Ack → Bool → List ℕ
error_text code message adds deletes versions = compact_text (error_data code message adds deletes versions)

-- the write, where there is one, is no deletion
abbrev pub IsLiveOrNone : Option Write → Type 0
IsLiveOrNone None = ⊤
IsLiveOrNone (Some write) = IsSome write.doc

-- the document of a write; null where there is none
abbrev pub found_data : Option Write → Data
found_data None = null
found_data (Some write) = write_data write

-- the answer to a get of one id
abbrev pub get_data : Option Write → Data
get_data write = object_of ((codes "doc", found_data write) ∷ [])

abbrev pub get_text : Option Write → List ℕ
get_text write = compact_text (get_data write)

-- the writes are no deletions
abbrev pub AreLive : List Write → Type 0
AreLive writes = AllByRecursion (λ (write : Write). IsSome write.doc) writes

-- the member `response`: documents, which stand from this place on among as many that were found
abbrev pub response_member : ℕ → ℕ → List Write → List ℕ × Data
response_member found start writes = (
  codes "response",
  object_of (
      (codes "docs", array_of (map write_data writes)) ∷ (codes "numFound", whole_number (pos found))
      ∷ (codes "numFoundExact", boolean true) ∷ (codes "start", whole_number (pos start)) ∷ []),
)

-- the answer to a get of several ids: the documents of those that are live
abbrev pub ids_data : List Write → Data
ids_data writes = object_of (response_member (length writes) 0 writes ∷ [])

abbrev pub ids_text : List Write → List ℕ
ids_text writes = compact_text (ids_data writes)

-- the answer to a search: a page of what was found
abbrev pub select_data : ℕ → ℕ → List Write → Data
select_data found start writes = object_of (response_member found start writes ∷ header_member 0 ∷ [])

abbrev pub select_text : ℕ → ℕ → List Write → List ℕ
select_text found start writes = compact_text (select_data found start writes)
