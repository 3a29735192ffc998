-- Arguments at the borders of each range, and what they ask for.
use Rattle.std.proofs.Common.{◌≡◌, ℕ, ◌^◌, ◌-◌, List, [], ◌∷◌, ◌++◌, map, Option, Some, None, refl}
use Rattle.std.specs.Prelude.{codes}
use Rattle.sc_arguments.specs.declared.asked.Asked.{Asked}
use Rattle.sc_arguments.specs.declared.asked.Asked.TheVariants as asking
use Rattle.sc_arguments.specs.Arguments.{asked_of}
use Rattle.sc_arguments.proofs.Words.{words_of}

-- the script of these numbers
abbrev script : (nodes shards replicas buckets log_limit : ℕ) → Option ℕ → Option Asked
script nodes shards replicas buckets log_limit clock = Some (asking.Script (record {
  shape = record { nodes = nodes; shards = shards; replicas = replicas; buckets = buckets; log_limit = log_limit };
  clock = clock;
}))

-- the server of these numbers, with the shape that a collection has by default
abbrev server : (port workers max_connections : ℕ) → Option ℕ → Option Asked
server port workers max_connections clock = Some (asking.Serve (record {
  shape = record { nodes = 1; shards = 1; replicas = 1; buckets = 64; log_limit = 1048576 };
  clock = clock;
  port = port;
  workers = workers;
  max_connections = max_connections;
}))

-- the workload of these numbers
abbrev demo : (seed count workers : ℕ) → Option Asked
demo seed count workers = Some (asking.Demo (record { seed = seed; count = count; workers = workers }))

-- The defaults, the least numbers and the greatest ones.

pub script_alone : asked_of (words_of (codes "script")) ≡ script 1 1 1 64 1048576 None
script_alone = refl

pub serve_alone : asked_of (words_of (codes "serve")) ≡ server 8983 4 4294967295 None
serve_alone = refl

pub demo_alone : asked_of (words_of (codes "demo")) ≡ demo 1 1000 4
demo_alone = refl

pub least_demo : asked_of (words_of (codes "demo --count=1 --seed 0 --workers=1")) ≡ demo 0 1 1
least_demo = refl

pub greatest_demo : asked_of (words_of (codes "demo --workers 64 --count=100000 --seed 18446744073709551615")) ≡ demo (2 ^ 64 - 1) 100000 64
greatest_demo = refl

pub first_timestamp : asked_of (words_of (codes "script --clock 0")) ≡ script 1 1 1 64 1048576 (Some 0)
first_timestamp = refl

pub twenty_digits : asked_of (words_of (codes "script --clock=00000000000000001000")) ≡ script 1 1 1 64 1048576 (Some 1000)
twenty_digits = refl

pub least_numbers : asked_of (words_of (codes "script --nodes=1 --shards=1 --replicas 1 --buckets=1 --log-limit=16")) ≡ script 1 1 1 1 16 None
least_numbers = refl

pub least_limit_of_two_replicas : asked_of (words_of (codes "script --replicas 2 --log-limit 17")) ≡ script 1 1 2 64 17 None
least_limit_of_two_replicas = refl

pub least_limit_of_most_followers : asked_of (words_of (codes "script --shards=64 --replicas=4 --log-limit=208")) ≡ script 1 64 4 64 208 None
least_limit_of_most_followers = refl

pub greatest_numbers : asked_of (words_of (codes "script --nodes=16 --shards 64 --replicas=4 --buckets=256 --log-limit 16777216 --clock=18446744073709551615"))
    ≡ script 16 64 4 256 16777216 (Some (2 ^ 64 - 1))
greatest_numbers = refl

pub both_forms : asked_of (words_of (codes "serve --port 8984 --workers=8")) ≡ server 8984 8 4294967295 None
both_forms = refl

pub least_server : asked_of (words_of (codes "serve --port=1 --workers 1 --max-connections=1 --clock 0")) ≡ server 1 1 1 (Some 0)
least_server = refl

pub greatest_server : asked_of (words_of (codes "serve --max-connections 4294967295 --workers=64 --port 00000000000000065535")) ≡ server 65535 64 4294967295 None
greatest_server = refl

pub server_of_most_shards : asked_of (words_of (codes "serve --workers=2 --nodes=16 --shards 64 --replicas=4 --buckets=256 --log-limit 208 --port=80 --clock 5"))
    ≡ Some (asking.Serve (record {
      shape = record { nodes = 16; shards = 64; replicas = 4; buckets = 256; log_limit = 208 };
      clock = Some 5;
      port = 80;
      workers = 2;
      max_connections = 4294967295;
    }))
server_of_most_shards = refl

-- Options of any command that ask for nothing: an option's name, value or number is not of the usage, or it comes twice.
abbrev refused_options : List (List ℕ)
refused_options =
    codes " " ∷ codes " --" ∷ codes " --help" ∷ codes " --version" ∷ codes " 1" ∷ codes " -- --nodes 1" ∷ codes " --node 1" ∷ codes " nodes 1"
    ∷ codes " --replicas=0" ∷ codes " --replicas 5" ∷ codes " --replicas="
    ∷ codes " --replicas 1 --replicas=2" ∷ codes " --nodes=1 --nodes=2" ∷ codes " --clock 1 --clock=1"
    ∷ codes " --clock" ∷ codes " --clock " ∷ codes " --clock=" ∷ codes " --clock +1" ∷ codes " --clock =1"
    ∷ codes " --clock=1=1" ∷ codes " --clock 18446744073709551616" ∷ codes " --clock 000000000000000000001"
    ∷ codes " --nodes=0" ∷ codes " --nodes=17" ∷ codes " --shards=0" ∷ codes " --shards=65"
    ∷ codes " --buckets=0" ∷ codes " --buckets=3" ∷ codes " --buckets=512"
    ∷ codes " --log-limit=15" ∷ codes " --log-limit=16777217" ∷ codes " --replicas 2 --log-limit 16"
    ∷ codes " --shards=64 --replicas=4 --log-limit=207" ∷ []

pub refused_by_script : map (λ options. asked_of (words_of (codes "script" ++ options))) refused_options ≡ map (λ options. None) refused_options
refused_by_script = refl

pub refused_by_demo : map (λ options. asked_of (words_of (codes "demo" ++ options))) refused_options ≡ map (λ options. None) refused_options
refused_by_demo = refl

pub refused_by_serve : map (λ options. asked_of (words_of (codes "serve" ++ options))) refused_options ≡ map (λ options. None) refused_options
refused_by_serve = refl

-- None of these lines asks for anything: the command is none, or it takes no such option, or a number of its own is out of its range.
abbrev refused_lines : List (List ℕ)
refused_lines =
    codes "" ∷ codes "Script" ∷ codes "Serve" ∷ codes "script=1" ∷ codes "--" ∷ codes "--help" ∷ codes "--version" ∷ codes "-- script" ∷ codes "--clock 1 script"
    ∷ codes "script --port 1" ∷ codes "script --workers=1" ∷ codes "script --max-connections 1"
    ∷ codes "serve --port 0" ∷ codes "serve --port=65536" ∷ codes "serve --port 80 --port=81" ∷ codes "serve --port"
    ∷ codes "serve --workers 0" ∷ codes "serve --workers=65" ∷ codes "serve --max-connections=0" ∷ codes "serve --max-connections 4294967296"
    ∷ codes "demo --count 0" ∷ codes "demo --count=100001" ∷ codes "demo --workers=0" ∷ codes "demo --workers 65" ∷ codes "demo --seed=18446744073709551616"
    ∷ codes "demo --clock 1" ∷ codes "demo --shards=2" ∷ codes "demo --seed 1 --seed=2" ∷ codes "demo --count" ∷ codes "serve --seed=1" ∷ codes "script --count 1" ∷ []

pub lines_that_ask_for_nothing : map (λ line. asked_of (words_of line)) refused_lines ≡ map (λ line. None) refused_lines
lines_that_ask_for_nothing = refl

pub no_arguments : asked_of [] ≡ None
no_arguments = refl

pub space_after_number : asked_of (codes "script" ∷ codes "--clock" ∷ codes "1 " ∷ []) ≡ None
space_after_number = refl
