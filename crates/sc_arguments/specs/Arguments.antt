-- What the program's arguments ask for.
use Rattle.std.specs.Prelude.{◌≡◌, ℕ, ◌&&◌, Bool, true, List, [], ◌∷◌, ◌++◌, codes, if◌then◌else◌, Option, Some, None, option_map}
use Rattle.std.specs.Str.{bytes_eq}
use Rattle.sc_collection.specs.declared.shape.Shape.{Shape}
use Rattle.sc_collection.specs.Shapes.{is_shape, IsShape, is_in_range}
use Rattle.sc_arguments.specs.declared.asked.Asked.{Asked}
use Rattle.sc_arguments.specs.declared.asked.Asked.TheVariants as asking
use Rattle.sc_arguments.specs.declared.asked.Script.{Script}
use Rattle.sc_arguments.specs.declared.asked.Server.{Server}
use Rattle.sc_arguments.specs.declared.asked.Demo.{Demo}
use Rattle.sc_arguments.specs.declared.command.Command.{Command}
use Rattle.sc_arguments.specs.declared.command.Command.TheVariants as commands
use Rattle.sc_arguments.specs.Options.{Setting, settings, number_given, number_or, are_options}

-- the names of the options that every command takes
abbrev pub shared_names : List (List ℕ)
shared_names = codes "--nodes" ∷ codes "--shards" ∷ codes "--replicas" ∷ codes "--buckets" ∷ codes "--log-limit" ∷ codes "--clock" ∷ []

-- the names of the options that a command takes
abbrev pub option_names : Command → List (List ℕ)
option_names commands.Script = shared_names
option_names commands.Serve = shared_names ++ codes "--port" ∷ codes "--workers" ∷ codes "--max-connections" ∷ []
option_names commands.Demo = codes "--seed" ∷ codes "--count" ∷ codes "--workers" ∷ []

-- what stands for the options of a shape that are not given: one node, one shard with one replica, and so many buckets, whose journals
-- have at most so many entries
abbrev pub default_nodes : ℕ
default_nodes = 1

abbrev pub default_shards : ℕ
default_shards = 1

abbrev pub default_replicas : ℕ
default_replicas = 1

abbrev pub default_buckets : ℕ
default_buckets = 64

abbrev pub default_log_limit : ℕ
default_log_limit = 1048576

-- the shape that options ask for
abbrev pub shape_of : List Setting → Shape
shape_of given = record {
  nodes = number_or default_nodes (codes "--nodes") given;
  shards = number_or default_shards (codes "--shards") given;
  replicas = number_or default_replicas (codes "--replicas") given;
  buckets = number_or default_buckets (codes "--buckets") given;
  log_limit = number_or default_log_limit (codes "--log-limit") given;
}

-- the script that options ask for; its clock may stand still at any timestamp
abbrev pub script_of : List Setting → Script
script_of given = record { shape = shape_of given; clock = number_given (codes "--clock") given }

-- the most connections that each worker of a server serves: as many as there are numbers for
abbrev pub most_connections : ℕ
most_connections = 4294967295

-- the port of a server, where none is given
abbrev pub default_port : ℕ
default_port = 8983

-- how many workers a server or a demonstration has, where no number is given
abbrev pub default_workers : ℕ
default_workers = 4

-- the server that options ask for: by default each of its workers serves the most connections
abbrev pub server_of : List Setting → Server
server_of given = record {
  shape = shape_of given;
  clock = number_given (codes "--clock") given;
  port = number_or default_port (codes "--port") given;
  workers = number_or default_workers (codes "--workers") given;
  max_connections = number_or most_connections (codes "--max-connections") given;
}

-- the greatest port
abbrev pub greatest_port : ℕ
greatest_port = 65535

-- the most workers of a server or of a demonstration
abbrev pub most_workers : ℕ
most_workers = 64

-- each number of the server is in its range
abbrev pub is_server : Server → Bool
is_server server =
    is_shape server.shape && is_in_range 1 greatest_port server.port && is_in_range 1 most_workers server.workers
    && is_in_range 1 most_connections server.max_connections

-- it is one that can be run
abbrev pub IsServer : Server → Type 0
IsServer server = is_server server ≡ true

-- the seed of a workload and how many orders it has, where they are not given
abbrev pub default_seed : ℕ
default_seed = 1

abbrev pub default_count : ℕ
default_count = 1000

-- the workload that options ask for
abbrev pub demo_of : List Setting → Demo
demo_of given = record {
  seed = number_or default_seed (codes "--seed") given;
  count = number_or default_count (codes "--count") given;
  workers = number_or default_workers (codes "--workers") given;
}

-- the most orders of a demonstration
abbrev pub most_orders : ℕ
most_orders = 100000

-- each number of the workload is in its range; a seed may be any number of 64 bits
abbrev pub is_demo : Demo → Bool
is_demo demo = is_in_range 1 most_orders demo.count && is_in_range 1 most_workers demo.workers

-- it is one that can be made
abbrev pub IsDemo : Demo → Type 0
IsDemo demo = is_demo demo ≡ true

-- the shape of the collection on which a workload is made: that of a collection where no option is given
abbrev pub demo_shape : Shape
demo_shape = record {
  nodes = default_nodes;
  shards = default_shards;
  replicas = default_replicas;
  buckets = default_buckets;
  log_limit = default_log_limit;
}

-- what the options of `script` ask for
abbrev pub script_by : List Setting → Option Script
script_by given = if are_options (option_names commands.Script) given && is_shape (shape_of given) then Some (script_of given) else None

-- what the options of `serve` ask for
abbrev pub server_by : List Setting → Option Server
server_by given = if are_options (option_names commands.Serve) given && is_server (server_of given) then Some (server_of given) else None

-- what the options of `demo` ask for
abbrev pub demo_by : List Setting → Option Demo
demo_by given = if are_options (option_names commands.Demo) given && is_demo (demo_of given) then Some (demo_of given) else None

-- `script`, `serve` or `demo`, and any of its options; no other arguments ask for anything
abbrev pub asked_of : List (List ℕ) → Option Asked
asked_of [] = None
asked_of (command ∷ options) =
    if bytes_eq command (codes "script") then option_map (λ script. asking.Script script) (script_by (settings options))
    else (if bytes_eq command (codes "serve") then option_map (λ server. asking.Serve server) (server_by (settings options))
    else (if bytes_eq command (codes "demo") then option_map (λ demo. asking.Demo demo) (demo_by (settings options)) else None))

-- the shape of the collection that is asked for
abbrev pub shape_asked : Asked → Shape
shape_asked (asking.Script script) = script.shape
shape_asked (asking.Serve server) = server.shape
shape_asked (asking.Demo demo) = demo_shape

-- each number of what is asked for is in its range
abbrev pub IsAsked : Asked → Type 0
IsAsked (asking.Script script) = IsShape script.shape
IsAsked (asking.Serve server) = IsServer server
IsAsked (asking.Demo demo) = IsDemo demo
