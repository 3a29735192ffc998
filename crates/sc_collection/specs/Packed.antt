-- Which stop a trail keeps in eight bytes.
use Rattle.std.specs.Prelude.{◌/◌, ◌%◌, ◌==◌}
use Rattle.sc_seen.specs.declared.stop.Stop.{Stop}
use Rattle.sc_collection.specs.declared.packed.PackedStop.{PackedStop}

-- the stop that was packed: half of its second number is the place, and what is left says whether the hold added an entry
abbrev pub unpacked : PackedStop → Stop
unpacked packed = record {
  lock = packed.lock;
  place = packed.place_and_made / 2;
  made = packed.place_and_made % 2 == 1;
}
