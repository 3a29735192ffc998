-- The refusal that a cause of the code is.
use Rattle.sc_reply.specs.Refusals as refusals
use Rattle.sc_reply.specs.declared.cause.Cause.{Cause}
use Rattle.sc_reply.specs.declared.cause.Cause.TheVariants as causes

-- the refusal of a cause, whose names are borrowed
abbrev pub refusal_of : Cause → refusals.Refusal
refusal_of causes.NotFound = refusals.not_found
refusal_of causes.MethodNotAllowed = refusals.method_not_allowed
refusal_of causes.EncodedBody = refusals.encoded_body
refusal_of causes.NoLength = refusals.no_length
refusal_of causes.BadJson = refusals.bad_json
refusal_of (causes.BadShape at) = refusals.bad_shape at
refusal_of causes.TooMany = refusals.too_many
refusal_of causes.NoId = refusals.no_id
refusal_of causes.IdTooLong = refusals.id_too_long
refusal_of (causes.UnknownField name) = refusals.unknown_field name.now
refusal_of (causes.WrongValue name) = refusals.wrong_value name.now
refusal_of (causes.Partial name) = refusals.partial name.now
refusal_of (causes.Conflict id expected actual) = refusals.conflict id.now expected actual
refusal_of causes.LogFull = refusals.log_full
refusal_of causes.LogFailed = refusals.log_failed
refusal_of (causes.BadQuery at) = refusals.bad_query at
refusal_of causes.TooManyMatches = refusals.too_many_matches
refusal_of (causes.BadParam name) = refusals.bad_param name.now
refusal_of causes.UnknownShard = refusals.unknown_shard
refusal_of (causes.Running shard) = refusals.running shard.now
refusal_of (causes.ShardState state) = refusals.shard_state state.now
refusal_of causes.RangeTooSmall = refusals.range_too_small
refusal_of causes.BadRanges = refusals.bad_ranges
refusal_of causes.TooManySlices = refusals.too_many_slices
refusal_of (causes.HostFault core) = refusals.host_fault core.now
refusal_of causes.Stopped = refusals.stopped
refusal_of causes.UnknownCore = refusals.unknown_core
refusal_of causes.CoreIsLeader = refusals.core_is_leader
refusal_of causes.NoCandidate = refusals.no_candidate
refusal_of (causes.Behind bucket) = refusals.behind bucket
refusal_of causes.Memory = refusals.memory
