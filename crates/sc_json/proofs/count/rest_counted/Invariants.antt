-- The documents that were counted come before those of the items that are left.
use Rattle.std.proofs.Common.{◌≡◌, ℕ, ◌≤◌, List, length}
use Rattle.sc_schema.specs.declared.raw.RawField.{RawField}
use Rattle.sc_json.specs.Flat.{doc_depth, docs_in, items_by}
use Rattle.sc_json.proofs.FlatLemmas.{items_left, with_docs}
use Rattle.sc_json.proofs.count.rest_counted.Given as goal

abbrev pub invariant-docs : goal.invariant-docs
invariant-docs l =
    (found : List (List RawField)) × (n : ℕ) × (length l.reader ≤ n)
    × (items_by docs_in doc_depth l.initial.reader ≡ with_docs found (items_left docs_in doc_depth n l.reader))
    × (length found ≡ l.count)
    × (length l.reader ≤ length l.initial.reader)

abbrev pub decreases-docs : goal.decreases-docs
decreases-docs l = length l.reader
