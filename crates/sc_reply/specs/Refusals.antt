-- Why a request is refused: the status (RFC 9110, section 15) and the message of each refusal.
use Rattle.std.specs.Prelude.{ℕ, ℤ, List, ◌++◌, codes, decimal}
use Rattle.std.specs.Fmt.{signed_decimal}
use Rattle.sc_record.specs.Ids.{id_limit}
use Rattle.sc_record.specs.Orders.{order_limit}
use Rattle.sc_cluster.specs.Limits.{most_slices}

-- why a request is refused, with the names and the numbers that its message shows
pub data Refusal : Type 0 where
  bad_head : Refusal
  too_large : Refusal
  not_found : Refusal
  method_not_allowed : Refusal
  encoded_body : Refusal
  no_length : Refusal
  bad_json : Refusal
  bad_shape : (at : ℕ) → Refusal
  too_many : Refusal
  no_id : Refusal
  id_too_long : Refusal
  unknown_field : (name : List ℕ) → Refusal
  wrong_value : (name : List ℕ) → Refusal
  partial : (name : List ℕ) → Refusal
  conflict : (id : List ℕ) (expected actual : ℤ) → Refusal
  log_full : Refusal
  log_failed : Refusal
  bad_query : (at : ℕ) → Refusal
  too_many_matches : Refusal
  bad_param : (name : List ℕ) → Refusal
  unknown_shard : Refusal
  running : (shard : List ℕ) → Refusal
  shard_state : (state : List ℕ) → Refusal
  range_too_small : Refusal
  bad_ranges : Refusal
  too_many_slices : Refusal
  host_fault : (core : List ℕ) → Refusal
  stopped : Refusal
  unknown_core : Refusal
  core_is_leader : Refusal
  no_candidate : Refusal
  behind : (bucket : ℕ) → Refusal
  memory : Refusal

-- the status of a refusal
abbrev pub refusal_status : Refusal → ℕ
refusal_status bad_head = 400
refusal_status too_large = 413
refusal_status not_found = 404
refusal_status method_not_allowed = 405
refusal_status encoded_body = 415
refusal_status no_length = 411
refusal_status bad_json = 400
refusal_status (bad_shape at) = 400
refusal_status too_many = 400
refusal_status no_id = 400
refusal_status id_too_long = 400
refusal_status (unknown_field name) = 400
refusal_status (wrong_value name) = 400
refusal_status (partial name) = 400
refusal_status (conflict id expected actual) = 409
refusal_status log_full = 507
refusal_status log_failed = 500
refusal_status (bad_query at) = 400
refusal_status too_many_matches = 400
refusal_status (bad_param name) = 400
refusal_status unknown_shard = 400
refusal_status (running shard) = 409
refusal_status (shard_state state) = 400
refusal_status range_too_small = 400
refusal_status bad_ranges = 400
refusal_status too_many_slices = 400
refusal_status (host_fault core) = 500
refusal_status stopped = 500
refusal_status unknown_core = 400
refusal_status core_is_leader = 400
refusal_status no_candidate = 400
refusal_status (behind bucket) = 409
refusal_status memory = 503

-- the message of a refusal
abbrev pub message_of : Refusal → List ℕ
message_of bad_head = codes "bad request"
message_of too_large = codes "request is too large"
message_of not_found = codes "not found"
message_of method_not_allowed = codes "method not allowed"
message_of encoded_body = codes "encoded bodies are not read"
message_of no_length = codes "length required"
message_of bad_json = codes "invalid JSON"
message_of (bad_shape at) = codes "unexpected content at command " ++ decimal at
message_of too_many = codes "more than " ++ decimal order_limit ++ codes " commands"
message_of no_id = codes "Document is missing mandatory uniqueKey field: id"
message_of id_too_long = codes "id is longer than " ++ decimal id_limit ++ codes " bytes"
message_of (unknown_field name) = codes "unknown field '" ++ name ++ codes "'"
message_of (wrong_value name) = codes "wrong value for field '" ++ name ++ codes "'"
message_of (partial name) = codes "field '" ++ name ++ codes "' can't take this change"
message_of (conflict id expected actual) =
    codes "version conflict for " ++ (id ++ (codes " expected=" ++ (signed_decimal expected ++ (codes " actual=" ++ signed_decimal actual))))
message_of log_full = codes "update log is full"
message_of log_failed = codes "update log failed"
message_of (bad_query at) = codes "bad query at " ++ decimal at
message_of too_many_matches = codes "query matches more than " ++ decimal order_limit ++ codes " documents"
message_of (bad_param name) = codes "bad parameter '" ++ name ++ codes "'"
message_of unknown_shard = codes "unknown shard"
message_of (running shard) = codes "split of " ++ shard ++ codes " is running"
message_of (shard_state state) = codes "shard is " ++ state
message_of range_too_small = codes "range of shard is too small"
message_of bad_ranges = codes "ranges do not cover the shard"
message_of too_many_slices = codes "more than " ++ decimal most_slices ++ codes " shards"
message_of (host_fault core) = codes "host failed on core " ++ core
message_of stopped = codes "split was stopped"
message_of unknown_core = codes "unknown core"
message_of core_is_leader = codes "core is a leader"
message_of no_candidate = codes "no replica can lead"
message_of (behind bucket) = codes "replica is behind in bucket " ++ decimal bucket
message_of memory = codes "out of memory"
