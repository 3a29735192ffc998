-- The value is that of the first token.
use Rattle.std.proofs.Common.{◌≡◌, ◌∷◌, ap, ◌∙◌, arith}
use Rattle.std.proofs.lemmas.Result.{IfOk-weaker}
use Rattle.json.specs.Reads.{token_of}
use Rattle.sc_json.specs.Flat.{item_depth, next_by}
use Rattle.sc_json.specs.RawDocs.{raw_one}
use Rattle.sc_json.proofs.FlatLemmas.{one_next}
use Rattle.sc_json.proofs.flat_value.next_one.Goals as goal

pub returns-clause-value : goal.returns-clause-value
returns-clause-value c =
    let token = token_of c.in_ok-token.token in
    let rest = c.next.new.self in
    let first : c.args.reader.now ≡ token ∷ rest = grind arith in
    IfOk-weaker c.one_of.result _ _ (λ one e. ap (next_by raw_one item_depth) first ∙ one_next token one item_depth rest e) c.one_of.ensures
