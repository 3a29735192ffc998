-- The heads that were put are those of the keys at the places that were passed, and there is room for those that are left.
use Rattle.std.proofs.Common.{◌≡◌, ◌+◌, ◌-◌, ◌≤◌, length, map, take, vec_len, vec_capacity}
use Rattle.sc_keys.specs.Storing.{keys_at, stored_in}
use Rattle.sc_keys.proofs.keys.heads_at.Given as goal

abbrev pub invariant-copying : goal.invariant-copying
invariant-copying g l = record {
  heads : l.heads.items ≡ map g.K.Key.heading (take l.at (keys_at (stored_in l.pieces) l.places));
  room : vec_len l.heads + length l.places ≤ vec_capacity l.heads + l.at;
  within : l.at ≤ length l.places;
}

abbrev pub decreases-copying : goal.decreases-copying
decreases-copying g l = length l.places - l.at
