-- The bytes that are kept are the spelling of the document.
use Rattle.std.proofs.Common.{◌∙◌, ℕ, List, ap, sym, subst}
use Rattle.sc_spelling.specs.Reading.{document_at, read_of}
use Rattle.sc_spelling.specs.Spellings.{spelling}
use Rattle.sc_record.specs.Documents.{IsWhole}
use Rattle.sc_record.proofs.document.Doc.bytes.Goals as goal

pub returns-clause-value : goal.returns-clause-value
returns-clause-value c =
    c.spelled.ensures.same ∙ c.spelled.ensures.spelling
    ∙ ap (λ (b : List ℕ). spelling (read_of (document_at b))) c.as_slice.ensures.value ∙ ap spelling c.self.view_is

pub returns-clause-document : goal.returns-clause-document
returns-clause-document c = ap (λ (b : List ℕ). read_of (document_at b)) (c.spelled.ensures.same ∙ c.as_slice.ensures.value) ∙ c.self.view_is

pub returns-clause-whole : goal.returns-clause-whole
returns-clause-whole c = subst IsWhole (sym (c.spelled.ensures.same ∙ c.as_slice.ensures.value)) c.self.invariant
