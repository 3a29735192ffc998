-- What the examples of the usage ask for.
use Rattle.std.proofs.Common.{◌≡◌, None, Some, refl}
use Rattle.sc_arguments.specs.declared.asked.Asked.TheVariants as asking
use Rattle.sc_arguments.specs.Arguments.{asked_of}
use Rattle.sc_arguments.proofs.Words.{words_of}
use Rattle.solr_split.specs.Usage.{example, server_example, demo_example}

pub example_of_script : asked_of (words_of example) ≡ Some (asking.Script (record {
  shape = record { nodes = 1; shards = 1; replicas = 1; buckets = 1; log_limit = 1048576 };
  clock = Some 1000;
}))
example_of_script = refl

pub example_of_serve : asked_of (words_of server_example) ≡ Some (asking.Serve (record {
  shape = record { nodes = 1; shards = 1; replicas = 1; buckets = 64; log_limit = 1048576 };
  clock = None;
  port = 8984;
  workers = 8;
  max_connections = 4294967295;
}))
example_of_serve = refl

pub example_of_demo : asked_of (words_of demo_example) ≡ Some (asking.Demo (record { seed = 1; count = 100000; workers = 8 }))
example_of_demo = refl
