-- What the program says to a person.
use Rattle.std.specs.Prelude.{ℕ, ◌==◌, List, ◌++◌, codes, decimal, if◌then◌else◌}
use Rattle.sc_router.specs.Route.{most_buckets}
use Rattle.sc_journal.specs.Limits.{least_journal, greatest_journal}
use Rattle.sc_collection.specs.Shapes.{most_nodes, most_shards, most_replicas}
use Rattle.sc_arguments.specs.Arguments.{most_connections, greatest_port, most_workers, most_orders}
use Rattle.sc_arguments.specs.Arguments.{default_nodes, default_shards, default_replicas, default_buckets, default_log_limit, default_port, default_workers, default_seed, default_count}

-- arguments that the usage gives as an example of `script`
abbrev pub example : List ℕ
example = codes "script --buckets=1 --clock 1000"

-- arguments that the usage gives as an example of `serve`
abbrev pub server_example : List ℕ
server_example = codes "serve --port 8984 --workers=8"

-- arguments that the usage gives as an example of `demo`
abbrev pub demo_example : List ℕ
demo_example = codes "demo --count 100000 --workers 8"

-- the usage: each command, each option with its range and its default, and the examples
abbrev pub usage : List ℕ
usage =
    codes "usage: solr_split script|serve|demo [OPTION VALUE | OPTION=VALUE]...\n"
    ++ codes "script serves one connection over standard input and output, serve those to a port,\n"
    ++ codes "and demo makes a workload by several workers while the shard is split, and tells what came of it. Options of script and serve:\n"
    ++ codes "  --nodes            1 to " ++ decimal most_nodes ++ codes " nodes (" ++ decimal default_nodes ++ codes ")\n"
    ++ codes "  --shards           1 to " ++ decimal most_shards ++ codes " shards (" ++ decimal default_shards ++ codes ")\n"
    ++ codes "  --replicas         1 to " ++ decimal most_replicas ++ codes " replicas of each shard (" ++ decimal default_replicas ++ codes ")\n"
    ++ codes "  --buckets          a power of two from 1 to " ++ decimal most_buckets ++ codes " (" ++ decimal default_buckets ++ codes ")\n"
    ++ codes "  --log-limit        " ++ decimal least_journal ++ codes " to " ++ decimal greatest_journal ++ codes " entries in the journal of a bucket (" ++ decimal default_log_limit ++ codes ");\n"
    ++ codes "                     with R replicas of each of S shards at least " ++ decimal least_journal ++ codes " + S * (R - 1)\n"
    ++ codes "  --clock            a timestamp from 0 to 18446744073709551615, in milliseconds, at which the clock stands still (the machine's clock)\n"
    ++ codes "Options of serve:\n"
    ++ codes "  --port             1 to " ++ decimal greatest_port ++ codes ", the port (" ++ decimal default_port ++ codes ")\n"
    ++ codes "  --workers          1 to " ++ decimal most_workers ++ codes " workers (" ++ decimal default_workers ++ codes ")\n"
    ++ codes "  --max-connections  1 to " ++ decimal most_connections ++ codes " connections that each worker serves (" ++ decimal most_connections ++ codes ")\n"
    ++ codes "Options of demo:\n"
    ++ codes "  --seed             0 to 18446744073709551615, which documents the orders begin with (" ++ decimal default_seed ++ codes ")\n"
    ++ codes "  --count            1 to " ++ decimal most_orders ++ codes " orders (" ++ decimal default_count ++ codes ")\n"
    ++ codes "  --workers          1 to " ++ decimal most_workers ++ codes " workers (" ++ decimal default_workers ++ codes ")\n"
    ++ codes "as in: solr_split " ++ example ++ codes " < requests\n"
    ++ codes "       solr_split " ++ server_example ++ codes "\n"
    ++ codes "       solr_split " ++ demo_example

-- what a status other than 0 means
abbrev pub meaning_of : ℕ → List ℕ
meaning_of status =
    if status == 2 then usage
    else (if status == 3 then codes "the input ended inside a request, or was no request that can be read"
    else (if status == 4 then codes "reading from standard input failed"
    else (if status == 5 then codes "writing to standard output failed"
    else (if status == 7 then codes "opening the port or accepting a connection failed"
    else (if status == 8 then codes "starting a core of the collection failed"
    else codes "out of memory")))))
