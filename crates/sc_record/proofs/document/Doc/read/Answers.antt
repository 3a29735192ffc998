-- The bytes before those that are left are the spelling of the document.
use Rattle.std.proofs.Common.{◌≡◌, ◌∙◌, ◌++◌, ℕ, List, ap, ap₂, sym, subst, arith}
use Rattle.sc_values.specs.Fields.{IsDocument}
use Rattle.sc_values.specs.declared.field.Field.{Field}
use Rattle.sc_spelling.specs.Reading.{document_at, read_of, rest_of}
use Rattle.sc_spelling.specs.Spellings.{spelling}
use Rattle.sc_record.proofs.DocumentLemmas.{front_is, back_is, spelling_read}
use Rattle.sc_record.proofs.document.Doc.read.Goals as goal

pub copied-requires : goal.copied-requires
copied-requires c =
    let fields : List Field = c.in-Some.field-0-0 in
    let own : List ℕ = c.split_at.result.0.now in
    let is = front_is c.args.bytes.now (spelling fields) c.in-Some.rest.now own c.in-Some.ensures.found.1 c.split_at.ensures.front in
    record { whole = ap rest_of (ap document_at is ∙ spelling_read fields c.in-Some.ensures.found.0); few = omega (arith, c.if-own-gt-MAX_DOC_LENGTH.false) }

pub returns-in-Ok-clause-found : goal.returns-in-Ok-clause-found
returns-in-Ok-clause-found c =
    let fields : List Field = c.in-Some.field-0-0 in
    let bytes : List ℕ = c.args.bytes.now in
    let own : List ℕ = c.split_at.result.0.now in
    let found = c.in-Some.ensures.found in
    let is = front_is bytes (spelling fields) c.in-Some.rest.now own found.1 c.split_at.ensures.front in
    let rest = back_is bytes (spelling fields) c.in-Some.rest.now c.split_at.result.1.now found.1 c.split_at.ensures.back in
    let made : c.in-Ok.doc ≡ fields = c.in-Ok.ensures ∙ ap read_of (ap document_at is ∙ spelling_read fields found.0) in
    (subst IsDocument (sym made) found.0, found.1 ∙ sym (ap₂ (λ (fs : List Field) (r : List ℕ). spelling fs ++ r) made rest))
