-- The values of the list but those that are left were put at the end.
use Rattle.std.proofs.Common.{drop}
use Rattle.sc_schema.proofs.NewDocumentLemmas.{AreValuesSoFar}
use Rattle.sc_schema.proofs.new_document.push_all.Given as goal

abbrev pub invariant-loop-one : goal.invariant-loop-one
invariant-loop-one l = AreValuesSoFar l.kind l.list (drop l.one-index l.list) l.fn.made l.made
