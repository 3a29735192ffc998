-- The documents of a body's text are those of its value.
use Rattle.std.proofs.Common.{length, option_and_then, option_map, Some, ap, sym, ◌∙◌}
use Rattle.serde_json.specs.Read.{read}
use Rattle.sc_json.specs.Flat.{docs_of}
use Rattle.sc_json.proofs.JsonLemmas.{json_of_text}
use Rattle.sc_json.proofs.FlatLemmas.{whole_docs}
use Rattle.sc_json.proofs.count.count_docs.Goals as goal

pub returns-in-Ok-all_counted : goal.returns-in-Ok-all_counted
returns-in-Ok-all_counted c =
    let counted = c.in-Ok-all_counted.ensures in
    ap (λ found. option_map length (option_and_then docs_of found)) (json_of_text c.args.body.now c.in-Ok.ensures.cases.1 ∙ ap read (sym c.in-Ok.ensures.cases.0))
    ∙ ap (option_map length) (whole_docs c.in-Ok.text.now counted.0 counted.1)
    ∙ ap Some counted.2
