-- What was there stands at the front, and so many zeros are still to come.
use Rattle.std.proofs.Common.{◌≡◌, ◌+◌, ◌≤◌, take, vec_len}
use Rattle.sc_http.proofs.refill.make_room.Given as goal

abbrev pub decreases-zeros : goal.decreases-zeros
decreases-zeros l = l.left

abbrev pub invariant-zeros : goal.invariant-zeros
invariant-zeros l = record {
  kept : take l.len l.bytes.items ≡ l.fn.bytes.items;
  counted : vec_len l.bytes + l.left ≡ l.len + l.more;
  some : l.len ≤ vec_len l.bytes;
  few : l.left ≤ l.more;
}
