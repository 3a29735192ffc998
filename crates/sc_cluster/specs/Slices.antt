-- Slices by their state, and their names (Solr Reference Guide, "SolrCloud Shards and Indexing").
use Rattle.std.specs.Prelude.{ℕ, ◌+◌, ◌-◌, ◌%◌, max, Bool, true, false, List, [], ◌∷◌, ◌++◌, codes, map, filter, ℤ}
use Rattle.std.specs.Fmt.{decimal}
use Rattle.sc_cluster.specs.declared.slice.State.{State}
use Rattle.sc_cluster.specs.declared.slice.State.TheVariants as states
use Rattle.sc_cluster.specs.declared.slice.Slice.{Slice}
use Rattle.sc_hash.specs.Bounds.{bounds}

-- the state is that of a slice that is searched
abbrev pub is_active_state : State → Bool
is_active_state states.Active = true
is_active_state _ = false

-- the state is that of a slice that a split is making, which is sent updates and not searched
abbrev pub is_forming_state : State → Bool
is_forming_state states.Construction = true
is_forming_state states.Recovery = true
is_forming_state _ = false

-- the state is that of a slice whose subs have taken its place
abbrev pub is_inactive_state : State → Bool
is_inactive_state states.Inactive = true
is_inactive_state _ = false

abbrev pub is_active : Slice → Bool
is_active slice = is_active_state slice.state

abbrev pub is_forming : Slice → Bool
is_forming slice = is_forming_state slice.state

abbrev pub is_inactive : Slice → Bool
is_inactive slice = is_inactive_state slice.state

-- the slices that a split is making
abbrev pub forming : List Slice → List Slice
forming slices = filter is_forming slices

-- a slice's range
abbrev pub slice_bounds : Slice → ℤ × ℤ
slice_bounds slice = bounds slice.range

-- the ranges of the active slices
abbrev pub active_ranges : List Slice → List (ℤ × ℤ)
active_ranges slices = map slice_bounds (filter is_active slices)

-- the greatest id of a list of slices
abbrev pub greatest_id : List Slice → ℕ
greatest_id [] = 0
greatest_id (slice ∷ slices) = max slice.id.0 (greatest_id slices)

-- the name of slice i, from 1, of a new collection
abbrev pub first_name : ℕ → List ℕ
first_name i = codes "shard" ++ decimal i

-- what the names of a slice's subs begin with
abbrev pub sub_prefix : List ℕ → List ℕ
sub_prefix parent = parent ++ codes "_"

-- the name of a slice's sub i, from 0
abbrev pub sub_name : List ℕ → ℕ → List ℕ
sub_name parent i = sub_prefix parent ++ decimal i

-- the name of replica k, from 1, of a slice of the collection `docs`
abbrev pub core_name : List ℕ → ℕ → List ℕ
core_name slice k = codes "docs_" ++ slice ++ codes "_replica_n" ++ decimal k

-- the node, from 1, of replica k, from 1, of a slice whose replica 1 is on this node, in a ring of so many nodes
abbrev pub node_of : ℕ → ℕ → ℕ → ℕ
node_of node k nodes = ((node - 1) + (k - 1)) % nodes + 1
