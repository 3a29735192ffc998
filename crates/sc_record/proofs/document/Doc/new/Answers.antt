-- What was pushed is the spelling of a document.
use Rattle.std.proofs.Common.{◌≡◌, ◌∙◌, ◌++◌, ℕ, List, length, ap, arith}
use Rattle.sc_values.specs.Fields.{IsDocument}
use Rattle.sc_values.specs.declared.field.Field.{Field}
use Rattle.sc_spelling.specs.Reading.{document_at, read_of, rest_of}
use Rattle.sc_spelling.specs.Spellings.{spelling}
use Rattle.sc_record.proofs.DocumentLemmas.{spelling_read}
use Rattle.sc_record.proofs.document.Doc.new.Goals as goal

pub invariant_of-result : goal.invariant_of-result
invariant_of-result c =
    let fields : List Field = c.args.fields.now in
    let out : List ℕ = c.push_fields.new.out.items in
    let document : IsDocument fields = record { each = c.requires.each; ascends = c.requires.ascends; fits = c.in_ok-push_fields.ensures.ok.0 } in
    let is : out ≡ spelling fields = c.in_ok-push_fields.ensures.ok.1 ∙ ap (λ (l : List ℕ). l ++ spelling fields) c.in_ok-bytes.ensures.items in
    record {
      whole = ap rest_of (ap document_at is ∙ spelling_read fields document);
      few = omega (arith, ap length is, c.in-Some.ensures, c.if-length-le-MAX_DOC_LENGTH.true);
    }

pub returns : goal.returns
returns c =
    let fields : List Field = c.args.fields.now in
    let out : List ℕ = c.push_fields.new.out.items in
    let document : IsDocument fields = record { each = c.requires.each; ascends = c.requires.ascends; fits = c.in_ok-push_fields.ensures.ok.0 } in
    let is : out ≡ spelling fields = c.in_ok-push_fields.ensures.ok.1 ∙ ap (λ (l : List ℕ). l ++ spelling fields) c.in_ok-bytes.ensures.items in
    ap read_of (ap document_at is ∙ spelling_read fields document)
