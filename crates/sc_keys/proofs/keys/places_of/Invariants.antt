-- The places that were put are those of the first keys.
use Rattle.std.proofs.Common.{◌≡◌, take}
use Rattle.sc_keys.specs.Storing.{ArePlaces, keys_at}
use Rattle.sc_keys.proofs.keys.places_of.Given as goal

abbrev pub invariant-loop-at : goal.invariant-loop-at
invariant-loop-at g l = record {
  are_places : ArePlaces l.keys l.places.items;
  keys : keys_at l.keys l.places.items ≡ take l.at l.keys;
}
