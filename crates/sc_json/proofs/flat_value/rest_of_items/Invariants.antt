-- The values that were read come before those of the items that are left.
use Rattle.std.proofs.Common.{◌≡◌, ℕ, ◌≤◌, length}
use Rattle.sc_json.specs.Flat.{item_depth, items_by}
use Rattle.sc_json.specs.RawDocs.{raw_items}
use Rattle.sc_json.proofs.FlatLemmas.{items_left, with_ones}
use Rattle.sc_json.proofs.flat_value.rest_of_items.Given as goal

abbrev pub invariant-items : goal.invariant-items
invariant-items l =
    (n : ℕ) × (length l.reader ≤ n)
    × (items_by raw_items item_depth l.initial.reader ≡ with_ones l.found (items_left raw_items item_depth n l.reader))
    × (length l.reader ≤ length l.initial.reader)

abbrev pub decreases-items : goal.decreases-items
decreases-items l = length l.reader
