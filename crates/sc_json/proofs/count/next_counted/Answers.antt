-- An array has begun, and its documents are counted up to its end.
use Rattle.std.proofs.Common.{◌≡◌, ◌∷◌, Some, refl, ap, ◌∙◌, arith}
use Rattle.std.proofs.lemmas.Result.{IfOk-weaker}
use Rattle.json.specs.Token.{Token}
use Rattle.json.specs.Reads.{token_of}
use Rattle.sc_json.specs.Flat.{body_depth, docs_in, docs_of, next_by}
use Rattle.sc_json.proofs.FlatLemmas.{array_next}
use Rattle.sc_json.proofs.count.next_counted.Goals as goal

pub returns : goal.returns
returns c =
    let rest = c.next.new.self in
    let first : c.args.reader.now ≡ Token.begin_array ∷ rest = c.in-Some-BeginArray.ensures.value ∙ ap (λ token. token_of token ∷ rest) c.in-Some-BeginArray.field-0-is in
    IfOk-weaker c.rest_counted.result _ _
    (λ count counted. (
      counted.0,
      ap (next_by docs_of body_depth) first ∙ array_next docs_of docs_in (λ found. found) (λ items. refl) body_depth rest (Some counted.0) c.rest_counted.new.reader (omega arith) counted.1,
      counted.2,
    )) c.rest_counted.ensures
