-- The key is among those of the pieces that are left, at what is left of the place.
use Rattle.std.proofs.Common.{◌≡◌, ◌-◌, ◌<◌, length, drop, slice_get}
use Rattle.sc_keys.specs.Storing.{stored_in}
use Rattle.sc_keys.proofs.keys.stored_key.Given as goal

abbrev pub invariant-passing : goal.invariant-passing
invariant-passing g l = record {
  left : l.rest < length (stored_in (drop l.at l.pieces));
  same : slice_get (stored_in l.pieces) l.place ≡ slice_get (stored_in (drop l.at l.pieces)) l.rest;
}

abbrev pub decreases-passing : goal.decreases-passing
decreases-passing g l = length l.pieces - l.at
