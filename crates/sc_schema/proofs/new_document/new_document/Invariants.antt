-- The fields of the members but those that are left were put at the end.
use Rattle.std.proofs.Common.{drop}
use Rattle.sc_schema.proofs.NewDocumentLemmas.{AreFieldsSoFar}
use Rattle.sc_schema.proofs.new_document.new_document.Given as goal

abbrev pub invariant-loop-field : goal.invariant-loop-field
invariant-loop-field l = AreFieldsSoFar l.fields (drop l.field-index l.fields) l.made
