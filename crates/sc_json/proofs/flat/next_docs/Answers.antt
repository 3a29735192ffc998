-- An array has begun, and its documents are those of the items up to its end.
use Rattle.std.proofs.Common.{◌≡◌, ◌∷◌, Some, map, refl, ap, ◌∙◌, arith}
use Rattle.std.proofs.lemmas.Result.{IfOk-weaker}
use Rattle.json.specs.Token.{Token}
use Rattle.json.specs.Reads.{token_of}
use Rattle.sc_json.specs.Flat.{doc_fields, body_depth, docs_in, docs_of, next_by}
use Rattle.sc_json.proofs.FlatLemmas.{array_next}
use Rattle.sc_json.proofs.flat.next_docs.Goals as goal

pub returns : goal.returns
returns c =
    let rest = c.next.new.self in
    let first : c.args.reader.now ≡ Token.begin_array ∷ rest = c.in-Some-BeginArray.ensures.value ∙ ap (λ token. token_of token ∷ rest) c.in-Some-BeginArray.field-0-is in
    IfOk-weaker c.rest_of_docs.result _ _
    (λ docs e. ap (next_by docs_of body_depth) first ∙ array_next docs_of docs_in (λ found. found) (λ items. refl) body_depth rest (Some (map doc_fields docs)) c.rest_of_docs.new.reader (omega arith) e) c.rest_of_docs.ensures
