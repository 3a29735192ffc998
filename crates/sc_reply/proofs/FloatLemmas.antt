-- No answer has a number but whole ones.
use Rattle.std.proofs.Common.{◌≡◌, ℕ, pos, List, [], ◌∷◌, ◌++◌, length, map, Some, Bool, true, false, cond, codes, refl}
use Rattle.std.specs.List.{flat_map, AllByRecursion}
use Rattle.serde_json.specs.Data.{Data, boolean, string, no_members}
use Rattle.serde_json.specs.View.{items_of}
use Rattle.serde_json.specs.Written.{has_float, items_have_float}
use Rattle.sc_record.specs.declared.ack.Ack.{Ack}
use Rattle.sc_record.specs.Writes.{Write}
use Rattle.sc_json.specs.Documents.{object_of, array_of, whole_number, write_data}
use Rattle.sc_json.proofs.FloatLemmas.{no_float-put_all, no_float-number, no_float-list, no_float-document}
use Rattle.sc_reply.specs.Bodies.{acks_data, acks_member, acks_members, header_member, error_member, update_data, error_data, get_data, response_member, ids_data, select_data}

-- the value of a member is without such a number
abbrev HasNoFloat : List ℕ × Data → Type 0
HasNoFloat member = has_float member.1 ≡ false

no_float-object : (members : List (List ℕ × Data)) → AllByRecursion HasNoFloat members → has_float (object_of members) ≡ false
no_float-object members each = no_float-put_all members no_members each refl

all-append : (xs ys : List (List ℕ × Data)) → AllByRecursion HasNoFloat xs → AllByRecursion HasNoFloat ys → AllByRecursion HasNoFloat (xs ++ ys)
all-append [] ys first later = later
all-append (x ∷ xs) ys first later = (first.0, all-append xs ys first.1 later)

no_float-acks : (acks : List Ack) → items_have_float (items_of (flat_map (λ (ack : Ack). string ack.id ∷ whole_number ack.version ∷ []) acks)) ≡ false
no_float-acks [] = refl
no_float-acks (ack ∷ acks) = rw (no_float-number ack.version) (no_float-acks acks)

where_shown : (key : List ℕ) (acks : List Ack) (shown : Bool) → AllByRecursion HasNoFloat (cond shown ((key, acks_data acks) ∷ []) [])
where_shown key acks true = (no_float-acks acks, tt)
where_shown key acks false = tt

each_acks : (adds deletes : List Ack) (versions : Bool) → AllByRecursion HasNoFloat (acks_members adds deletes versions)
each_acks adds deletes versions =
    all-append (acks_member (codes "adds") versions adds) (acks_member (codes "deletes") versions deletes)
    (where_shown (codes "adds") adds _) (where_shown (codes "deletes") deletes _)

-- the answer to an update
pub no_float-update : (adds deletes : List Ack) (versions : Bool) → has_float (update_data adds deletes versions) ≡ false
no_float-update adds deletes versions =
    no_float-object (acks_members adds deletes versions ++ header_member 0 ∷ [])
    (all-append (acks_members adds deletes versions) (header_member 0 ∷ []) (each_acks adds deletes versions) (refl, tt))

-- a refusal
pub no_float-error : (code : ℕ) (message : List ℕ) (adds deletes : List Ack) (versions : Bool) → has_float (error_data code message adds deletes versions) ≡ false
no_float-error code message adds deletes versions =
    no_float-object (acks_members adds deletes versions ++ error_member code message ∷ header_member code ∷ [])
    (all-append (acks_members adds deletes versions) (error_member code message ∷ header_member code ∷ []) (each_acks adds deletes versions) (refl, (refl, tt)))

no_float-write : (write : Write) → has_float (write_data write) ≡ false
no_float-write write = no_float-document write.id write.version write.doc

-- the answer to a get of one id that has a document
pub no_float-get : (write : Write) → has_float (get_data (Some write)) ≡ false
no_float-get write = no_float-object ((codes "doc", write_data write) ∷ []) (no_float-write write, tt)

no_float-response : (found start : ℕ) (writes : List Write) → HasNoFloat (response_member found start writes)
no_float-response found start writes =
    let docs : has_float (array_of (map write_data writes)) ≡ false = no_float-list Write write_data no_float-write writes in
    no_float-object
    ((codes "docs", array_of (map write_data writes)) ∷ (codes "numFound", whole_number (pos found)) ∷ (codes "numFoundExact", boolean true) ∷ (codes "start", whole_number (pos start)) ∷ [])
    (docs, (refl, (refl, (refl, tt))))

-- the answer to a get of several ids
pub no_float-ids : (writes : List Write) → has_float (ids_data writes) ≡ false
no_float-ids writes = no_float-object (response_member (length writes) 0 writes ∷ []) (no_float-response (length writes) 0 writes, tt)

-- the answer to a search
pub no_float-select : (found start : ℕ) (writes : List Write) → has_float (select_data found start writes) ≡ false
no_float-select found start writes = no_float-object (response_member found start writes ∷ header_member 0 ∷ []) (no_float-response found start writes, (refl, tt))
