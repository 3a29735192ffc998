-- The key of an only value that is found whole is all that is found in its field.
use Rattle.std.proofs.Common.{◌≡◌, ◌∙◌, false, flat_map, length, sym}
use Rattle.std.proofs.lemmas.Result.{on_ok_weaker}
use Rattle.sc_spelling.specs.Lent.{field_of}
use Rattle.sc_schema.specs.Terms.{keys_of}
use Rattle.sc_schema.specs.Keys.{found_in_field}
use Rattle.sc_schema.proofs.BuildLemmas.{Builds-one, AreKeys-whole}
use Rattle.sc_schema.proofs.terms.push_field.Goals as goal

pub returns : goal.returns
returns c =
    let values = c.args.field.values in
    let off : c.is_found_by_words-split.result ≡ false = c.if-split.false in
    let one : length values ≡ 1 = sym c.len.ensures ∙ c.if-len-ne1.false in
    on_ok_weaker c.push_only.result
    (λ put. Builds-one (found_in_field (field_of c.args.field)) (flat_map (keys_of false) values) c.args.terms.now c.begin.new.self c.push_only.new.terms c.begin.ensures put
    (AreKeys-whole c.args.field.name.now values c.is_found_by_words-split.result c.is_found_by_words-split.ensures off one))
    c.push_only.ensures
