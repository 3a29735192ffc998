-- The value is that of the first token, or the list of an array that has begun.
use Rattle.std.proofs.Common.{◌≡◌, ◌∷◌, refl, ap, ◌∙◌, arith}
use Rattle.json.specs.Reads.{token_of}
use Rattle.sc_schema.specs.declared.raw.RawFlat.TheVariants.{Many}
use Rattle.sc_schema.specs.declared.raw.RawValue.TheVariants.{Plain}
use Rattle.sc_json.specs.Flat.{member_depth, next_by}
use Rattle.sc_json.specs.RawDocs.{raw_items, raw_value}
use Rattle.sc_json.proofs.FlatLemmas.{array_next, flat_next}
use Rattle.sc_json.proofs.flat_value.next_flat.Goals as goal

pub returns-in_ok-rest_of_items-in-BeginArray-clause-value : goal.returns-in_ok-rest_of_items-in-BeginArray-clause-value
returns-in_ok-rest_of_items-in-BeginArray-clause-value c =
    let rest = c.next.new.self in
    let first : c.args.reader.now ≡ token_of c.in_ok-token.token ∷ rest = grind arith in
    let found = c.in_ok-rest_of_items-in-BeginArray in
    ap (next_by raw_value member_depth) (first ∙ ap (λ token. token_of token ∷ rest) c.in-BeginArray.is)
    ∙ array_next raw_value raw_items (λ ones. Plain (Many ones)) (λ items. refl) member_depth rest found.field-0 c.rest_of_items.new.reader (omega arith) found.ensures.value

pub returns-in_ok-one_of-in_default : goal.returns-in_ok-one_of-in_default
returns-in_ok-one_of-in_default c =
    let rest = c.next.new.self in
    let token = token_of c.in_ok-token.token in
    let first : c.args.reader.now ≡ token ∷ rest = grind arith in
    let found = c.in_ok-one_of-in_default in
    record {
      value = ap (next_by raw_value member_depth) first ∙ flat_next token found.field-0 member_depth rest found.ensures;
      shorter = rw first (omega arith);
    }
