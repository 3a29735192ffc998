-- The orders so far, with those of the documents that are left, are all.
use Rattle.std.proofs.Common.{◌≡◌, map}
use Rattle.sc_schema.specs.Documents.{content_of}
use Rattle.sc_commands.proofs.OrderLemmas.{with_left}
use Rattle.sc_commands.proofs.orders.with_docs.Given as goal

abbrev pub invariant-loop-document : goal.invariant-loop-document
invariant-loop-document l = with_left (map content_of l.fn.orders) l.fn.docs.items ≡ with_left (map content_of l.orders) l.document-iterator.rest.items
