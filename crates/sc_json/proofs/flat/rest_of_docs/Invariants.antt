-- The documents that were read come before those of the items that are left.
use Rattle.std.proofs.Common.{◌≡◌, ℕ, ◌≤◌, length, map}
use Rattle.sc_json.specs.Flat.{doc_fields, doc_depth, docs_in, items_by}
use Rattle.sc_json.proofs.FlatLemmas.{items_left, with_docs}
use Rattle.sc_json.proofs.flat.rest_of_docs.Given as goal

abbrev pub invariant-docs : goal.invariant-docs
invariant-docs l =
    (n : ℕ) × (length l.reader ≤ n)
    × (items_by docs_in doc_depth l.initial.reader ≡ with_docs (map doc_fields l.docs) (items_left docs_in doc_depth n l.reader))
    × (length l.reader ≤ length l.initial.reader)

abbrev pub decreases-docs : goal.decreases-docs
decreases-docs l = length l.reader
