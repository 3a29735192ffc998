-- The first entry of a file: of which collection, and which of its buckets, the file is.
use Rattle.std.specs.Prelude.{ℕ, ◌&&◌, List, ◌∷◌, ◌++◌, length, Option, Some, None, nat_eq, if◌then◌else◌}
use Rattle.std.specs.Int.{w32, w64, to_le_bytes}
use Rattle.sc_spelling.specs.Reading.{◌>>=◌, number_at}
use Rattle.sc_frames.specs.Reading.{byte_at}
use Rattle.sc_frames.specs.declared.head.Head.{Head}

-- the bytes of the first entry: the kind 0, and the numbers of the shape and of the bucket
abbrev pub spelling_of_head : Head → List ℕ
spelling_of_head head =
    0 ∷ (to_le_bytes w32 head.nodes ++ (to_le_bytes w32 head.shards ++ (head.replicas ∷ (to_le_bytes w32 head.buckets
    ++ (to_le_bytes w64 head.log_limit ++ to_le_bytes w32 head.bucket)))))

-- the first entry, of which there is all and no more
unfoldable pub head_at : List ℕ → Option Head
head_at bytes = do
  kind ← byte_at bytes
  nodes ← number_at w32 kind.1
  shards ← number_at w32 nodes.1
  replicas ← byte_at shards.1
  buckets ← number_at w32 replicas.1
  log_limit ← number_at w64 buckets.1
  bucket ← number_at w32 log_limit.1
  (if nat_eq kind.0 0 && nat_eq (length bucket.1) 0
      then Some (record { nodes = nodes.0; shards = shards.0; replicas = replicas.0; buckets = buckets.0; log_limit = log_limit.0; bucket = bucket.0 })
      else None)
