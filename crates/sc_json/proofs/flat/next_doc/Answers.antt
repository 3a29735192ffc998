-- An object has begun, and its fields are those of the members up to its end.
use Rattle.std.proofs.Common.{◌≡◌, ◌∷◌, ap, ◌∙◌, arith}
use Rattle.std.proofs.lemmas.Result.{IfOk-weaker}
use Rattle.json.specs.Token.{Token}
use Rattle.json.specs.Reads.{token_of}
use Rattle.sc_json.specs.Flat.{doc_fields, doc_depth, next_by}
use Rattle.sc_json.specs.RawDocs.{raw_fields_of}
use Rattle.sc_json.proofs.FlatLemmas.{object_next}
use Rattle.sc_json.proofs.flat.next_doc.Goals as goal

pub returns-clause-value : goal.returns-clause-value
returns-clause-value c =
    let rest = c.next.new.self in
    let first : c.args.reader.now ≡ Token.begin_object ∷ rest = c.in-Some-BeginObject.ensures.value ∙ ap (λ token. token_of token ∷ rest) c.in-Some-BeginObject.field-0-is in
    IfOk-weaker c.rest_of_members.result _ _
    (λ doc e. ap (next_by raw_fields_of doc_depth) first ∙ object_next doc_depth rest (doc_fields doc) c.rest_of_members.new.reader (omega arith) e) c.rest_of_members.ensures.value
