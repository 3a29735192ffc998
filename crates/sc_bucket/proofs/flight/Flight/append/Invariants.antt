-- So far the messages that were taken stand at the end, and each took its room.
use Rattle.std.proofs.Common.{◌≡◌, ◌≤◌, ◌+◌, ◌++◌, length}
use Rattle.std.specs.Vec.{vec_len, vec_capacity}
use Rattle.sc_bucket.proofs.flight.Flight.append.Given as goal

abbrev pub invariant-loop-message : goal.invariant-loop-message
invariant-loop-message l = record {
  items : l.self-inside.messages.items ≡ l.initial.self-inside.messages.items ++ l.yielded;
  left : l.yielded ++ l.message-iterator.rest.items ≡ l.fn.messages.items;
  room : l.self-inside.room + length l.yielded ≡ l.initial.self-inside.room;
  fits : vec_len l.self-inside.messages + l.self-inside.room ≤ vec_capacity l.self-inside.messages;
}
