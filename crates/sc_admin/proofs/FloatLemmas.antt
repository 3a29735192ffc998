-- No answer has a number but whole ones.
use Rattle.std.proofs.Common.{◌≡◌, ℕ, List, [], ◌∷◌, ◌++◌, map, Bool, true, false, cond, ◌==◌, codes, refl}
use Rattle.std.specs.List.{AllByRecursion, range_with_len}
use Rattle.serde_json.specs.Data.{Data, string, no_members}
use Rattle.serde_json.specs.Written.{has_float}
use Rattle.sc_cluster.specs.declared.slice.Slice.{Slice}
use Rattle.sc_cluster.specs.Slices.{node_of}
use Rattle.sc_hash.specs.Range.{range_text}
use Rattle.sc_json.specs.Documents.{object_of, array_of}
use Rattle.sc_json.proofs.FloatLemmas.{no_float-put_all, no_float-list}
use Rattle.sc_reply.specs.Bodies.{header_member}
use Rattle.sc_collection.specs.declared.commits.Commits.{Commits}
use Rattle.sc_collection.specs.declared.commits.Commits.TheVariants as commits
use Rattle.sc_admin.specs.Splits.{committed_data, split_data}
use Rattle.sc_admin.specs.Status.{state_name, replica_state, node_name, leader_members, replica_member, replicas_data, slice_member, shards_data, collections_data, nodes_data, status_data}

-- the value of a member is without such a number
abbrev HasNoFloat : List ℕ × Data → Type 0
HasNoFloat member = has_float member.1 ≡ false

no_float-object : (members : List (List ℕ × Data)) → AllByRecursion HasNoFloat members → has_float (object_of members) ≡ false
no_float-object members each = no_float-put_all members no_members each refl

all-append : (xs ys : List (List ℕ × Data)) → AllByRecursion HasNoFloat xs → AllByRecursion HasNoFloat ys → AllByRecursion HasNoFloat (xs ++ ys)
all-append [] ys first later = later
all-append (x ∷ xs) ys first later = (first.0, all-append xs ys first.1 later)

all-map : (A : Type 0) (member : A → List ℕ × Data) → ((x : A) → HasNoFloat (member x)) → (xs : List A) → AllByRecursion HasNoFloat (map member xs)
all-map A member each [] = tt
all-map A member each (x ∷ xs) = (each x, all-map A member each xs)

no_float-committed : (committed : Commits) → has_float (committed_data committed) ≡ false
no_float-committed commits.All = refl
no_float-committed commits.LogFull = refl
no_float-committed commits.Memory = refl

-- the answer to a split
pub no_float-split : (subs : List (List ℕ)) (committed : Commits) → has_float (split_data subs committed) ≡ false
no_float-split subs committed =
    no_float-object
    ((codes "committed", committed_data committed) ∷ header_member 0 ∷ (codes "subs", array_of (map string subs)) ∷ [])
    (no_float-committed committed, (refl, (no_float-list (List ℕ) string (λ name. refl) subs, tt)))

where_leads : (leads : Bool) → AllByRecursion HasNoFloat (cond leads ((codes "leader", string (codes "true")) ∷ []) [])
where_leads true = (refl, tt)
where_leads false = tt

no_float-replica : (nodes : ℕ) (slice : Slice) (replica : ℕ) → HasNoFloat (replica_member nodes slice replica)
no_float-replica nodes slice replica =
    no_float-object
    (leader_members replica
    ++ (codes "node_name", string (node_name (node_of slice.node replica nodes)))
    ∷ (codes "state", string (replica_state slice.state)) ∷ [])
    (all-append (leader_members replica)
    ((codes "node_name", string (node_name (node_of slice.node replica nodes))) ∷ (codes "state", string (replica_state slice.state)) ∷ [])
    (where_leads (replica == 1)) (refl, (refl, tt)))

no_float-replicas : (nodes : ℕ) (slice : Slice) → has_float (replicas_data nodes slice) ≡ false
no_float-replicas nodes slice =
    no_float-object (map (replica_member nodes slice) (range_with_len 1 slice.replicas))
    (all-map ℕ (replica_member nodes slice) (no_float-replica nodes slice) (range_with_len 1 slice.replicas))

no_float-slice : (nodes : ℕ) (slice : Slice) → HasNoFloat (slice_member nodes slice)
no_float-slice nodes slice =
    no_float-object
    ((codes "range", string (range_text slice.range.min slice.range.max))
    ∷ (codes "replicas", replicas_data nodes slice)
    ∷ (codes "state", string (state_name slice.state)) ∷ [])
    (refl, (no_float-replicas nodes slice, (refl, tt)))

no_float-shards : (nodes : ℕ) (slices : List Slice) → has_float (shards_data nodes slices) ≡ false
no_float-shards nodes slices =
    no_float-object (map (slice_member nodes) slices) (all-map Slice (slice_member nodes) (no_float-slice nodes) slices)

no_float-collections : (shards : Data) → has_float shards ≡ false → has_float (collections_data shards) ≡ false
no_float-collections shards none =
    no_float-object ((
      codes "docs",
      object_of ((codes "router", object_of ((codes "name", string (codes "compositeId")) ∷ [])) ∷ (codes "shards", shards) ∷ []),
    ) ∷ []) (
      no_float-object
          ((codes "router", object_of ((codes "name", string (codes "compositeId")) ∷ [])) ∷ (codes "shards", shards) ∷ [])
          (refl, (none, tt)),
      tt,
    )

-- the answer that shows the shards
pub no_float-status : (slices : List Slice) (nodes : ℕ) → has_float (status_data slices nodes) ≡ false
no_float-status slices nodes =
    no_float-object
    ((
      codes "cluster",
      object_of (
          (codes "collections", collections_data (shards_data nodes slices)) ∷ (codes "live_nodes", nodes_data nodes) ∷ []),
    )
    ∷ header_member 0 ∷ []) (
      no_float-object
          ((codes "collections", collections_data (shards_data nodes slices)) ∷ (codes "live_nodes", nodes_data nodes) ∷ []) (
            no_float-collections (shards_data nodes slices) (no_float-shards nodes slices),
            (no_float-list ℕ (λ node. string (node_name node)) (λ node. refl) (range_with_len 1 nodes), tt),
          ),
      (refl, tt),
    )
