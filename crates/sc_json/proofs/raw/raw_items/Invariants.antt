-- The values that were read are those of the items before the index.
use Rattle.std.proofs.Common.{◌≡◌, map, take}
use Rattle.serde_json.specs.View.{view}
use Rattle.sc_json.specs.RawDocs.{raw_one}
use Rattle.sc_json.proofs.raw.raw_items.Given as goal

abbrev pub invariant-loop-item : goal.invariant-loop-item
invariant-loop-item l = l.values.items ≡ map raw_one (map view (take l.item-index l.items))
