-- The document that is read is the one that is spelled, and where none is read none is spelled.
use Rattle.std.proofs.Common.{◌≡◌, true, Err, ap, arith, rules}
use Rattle.sc_frames.proofs.DocLemmas.{doc_found, doc_refused}
use Rattle.sc_frames.proofs.write.doc_of.Goals as goal

pub returns-in-Ok : goal.returns-in-Ok
returns-in-Ok c =
    let came : c.args.has_doc ≡ true = search rules in
    rw came (doc_found c.args.bytes.now c.in-Ok.doc c.in-Ok.rest.now c.in-Ok.ensures.found.0 c.in-Ok.ensures.found.1)

pub returns-in-Err-NotFields : goal.returns-in-Err-NotFields
returns-in-Err-NotFields c =
    let came : c.args.has_doc ≡ true = search rules in
    λ same. rw came (doc_refused c.args.bytes.now (λ i. omega (arith, c.type_inv.bytes i)) (c.in-Err-NotFields.ensures.refused (ap Err c.in-Err-NotFields.field-0-is)))
