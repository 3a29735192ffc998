-- The terms of the fields so far, and of the id where its place has come.
use Rattle.sc_schema.specs.Keys.{BuildsSoFar}
use Rattle.sc_schema.proofs.terms.terms_of.Given as goal

abbrev pub invariant-loop-field : goal.invariant-loop-field
invariant-loop-field l = BuildsSoFar l.doc l.field-iterator l.has_id l.initial.terms l.terms
