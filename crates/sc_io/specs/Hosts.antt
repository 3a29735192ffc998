-- What starting and stopping a core does to the cores that are started, and what a node that can't be reached leaves.
use Rattle.std.specs.Prelude.{◌≡◌, ℕ, ◌<◌, ◌==◌, Option, Some, IfSome, Bool, not, ◌&&◌, List, [], ◌∷◌, ◌++◌, codes, filter, if◌then◌else◌}
use Rattle.std.specs.Fmt.{decimal}
use Rattle.std.specs.List.{list_any}
use Rattle.std.specs.Str.{bytes_eq}
use Rattle.sc_io.specs.declared.hosts.Host.{Host}

-- this is the core of that name on that node
abbrev pub is_core_on : ℕ → List ℕ → Host → Bool
is_core_on node core host = host.node == node && bytes_eq host.core core

-- the cores with this one, which comes last where it was not among them
abbrev pub with_core : ℕ → List ℕ → List Host → List Host
with_core node core cores =
    if list_any (is_core_on node core) cores then cores else cores ++ record { node = node; core = core } ∷ []

-- the cores without this one
abbrev pub without_core : ℕ → List ℕ → List Host → List Host
without_core node core cores = filter (λ host. not (is_core_on node core host)) cores

-- how often reaching a node has failed, and the nodes that weren't reached, in order, where the hosts tell them
pub record Reached : Type 0 where
  pub faults : ℕ
  pub nodes : Option (List ℕ)

-- reaching this node failed: the count rose, and where the hosts tell the nodes this one comes last
pub record FailsToReach (node : ℕ) (old new : Reached) : Type 0 where
  pub rises : old.faults < new.faults
  pub told : IfSome old.nodes (λ nodes. new.nodes ≡ Some (nodes ++ node ∷ []))

-- the name, in the working folder, of what says that a node is down: `down-2`
abbrev pub down_name : ℕ → List ℕ
down_name node = codes "down-" ++ decimal node

-- the lines of a core's `core.properties` (Solr Reference Guide, "Core Discovery")
abbrev pub core_properties : ℕ → List ℕ → List ℕ
core_properties node core = codes "name=" ++ core ++ codes "\ncollection=docs\nnode=" ++ decimal node ++ codes "\n"

-- nodes, in order, and for how many more there is room
pub record NodesState : Type 0 where
  pub nodes : List ℕ
  pub room : ℕ
