-- The bytes that are kept are the spelling of a document.
use Rattle.std.proofs.Common.{◌∙◌, ℕ, List, ap, subst}
use Rattle.sc_values.specs.Fields.{IsDocument}
use Rattle.sc_spelling.specs.Reading.{document_at, read_of}
use Rattle.sc_record.proofs.document.Doc.fields.Goals as goal

pub returns-clause-document : goal.returns-clause-document
returns-clause-document c =
    subst IsDocument (ap (λ (b : List ℕ). read_of (document_at b)) c.as_slice.ensures.value ∙ c.self.view_is) c.spelled.ensures.document
