-- The answer that shows the collection's shards (Solr Reference Guide, "Collections API", CLUSTERSTATUS).
use Rattle.std.specs.Prelude.{ℕ, ◌==◌, List, [], ◌∷◌, ◌++◌, codes, map, if◌then◌else◌}
use Rattle.std.specs.Fmt.{decimal}
use Rattle.std.specs.List.{range_with_len}
use Rattle.serde_json.specs.Data.{Data, string}
use Rattle.serde_json.specs.Written.{compact_text}
use Rattle.sc_hash.specs.Range.{range_text}
use Rattle.sc_cluster.specs.declared.slice.State.{State}
use Rattle.sc_cluster.specs.declared.slice.State.TheVariants as states
use Rattle.sc_cluster.specs.declared.slice.Slice.{Slice}
use Rattle.sc_cluster.specs.Slices.{core_name, node_of}
use Rattle.sc_json.specs.Documents.{object_of, array_of}
use Rattle.sc_reply.specs.Bodies.{header_member}

-- the state of a slice, as Solr names it
abbrev pub state_name : State → List ℕ
state_name states.Active = codes "active"
state_name states.Inactive = codes "inactive"
state_name states.Construction = codes "construction"
state_name states.Recovery = codes "recovery"

-- the state of the replicas of a slice in this state
abbrev pub replica_state : State → List ℕ
replica_state states.Active = codes "active"
replica_state states.Inactive = codes "active"
replica_state states.Construction = codes "recovering"
replica_state states.Recovery = codes "recovering"

-- the name of a node, from 1
abbrev pub node_name : ℕ → List ℕ
node_name node = codes "node" ++ decimal node

-- the mark of the replica that leads, which is the first
abbrev pub leader_members : ℕ → List (List ℕ × Data)
leader_members replica = if replica == 1 then (codes "leader", string (codes "true")) ∷ [] else []

-- a replica, from 1, of a slice, in a cluster of so many nodes
abbrev pub replica_member : ℕ → Slice → ℕ → List ℕ × Data
replica_member nodes slice replica = (
  core_name slice.name replica,
  object_of (
      leader_members replica
      ++ (codes "node_name", string (node_name (node_of slice.node replica nodes)))
      ∷ (codes "state", string (replica_state slice.state)) ∷ []),
)

-- the replicas of a slice, by the names of their cores
abbrev pub replicas_data : ℕ → Slice → Data
replicas_data nodes slice = object_of (map (replica_member nodes slice) (range_with_len 1 slice.replicas))

-- a slice, by its name
abbrev pub slice_member : ℕ → Slice → List ℕ × Data
slice_member nodes slice = (
  slice.name,
  object_of (
      (codes "range", string (range_text slice.range.min slice.range.max))
      ∷ (codes "replicas", replicas_data nodes slice)
      ∷ (codes "state", string (state_name slice.state)) ∷ []),
)

-- the slices, in the order of their names
abbrev pub shards_data : ℕ → List Slice → Data
shards_data nodes slices = object_of (map (slice_member nodes) slices)

-- the one collection, of these shards
abbrev pub collections_data : Data → Data
collections_data shards =
    object_of ((
      codes "docs",
      object_of ((codes "router", object_of ((codes "name", string (codes "compositeId")) ∷ [])) ∷ (codes "shards", shards) ∷ []),
    ) ∷ [])

-- the nodes, in the order of their numbers
abbrev pub nodes_data : ℕ → Data
nodes_data nodes = array_of (map (λ node. string (node_name node)) (range_with_len 1 nodes))

-- the answer that shows these slices, on so many nodes
abbrev pub status_data : List Slice → ℕ → Data
status_data slices nodes =
    object_of ((
      codes "cluster",
      object_of (
          (codes "collections", collections_data (shards_data nodes slices)) ∷ (codes "live_nodes", nodes_data nodes) ∷ []),
    )
    ∷ header_member 0 ∷ [])

abbrev pub status_text : List Slice → ℕ → List ℕ
status_text slices nodes = compact_text (status_data slices nodes)
