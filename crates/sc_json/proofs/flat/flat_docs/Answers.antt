-- The documents of a body's text are those of its value.
use Rattle.std.proofs.Common.{sym, map, option_and_then, ap, ◌∙◌}
use Rattle.serde_json.specs.Read.{read}
use Rattle.sc_json.specs.Flat.{doc_fields, docs_of}
use Rattle.sc_json.proofs.JsonLemmas.{json_of_text}
use Rattle.sc_json.proofs.FlatLemmas.{whole_docs}
use Rattle.sc_json.proofs.flat.flat_docs.Goals as goal

pub returns-in-Ok-all_docs : goal.returns-in-Ok-all_docs
returns-in-Ok-all_docs c =
    ap (option_and_then docs_of) (json_of_text c.args.body.now c.in-Ok.ensures.cases.1 ∙ ap read (sym c.in-Ok.ensures.cases.0))
    ∙ whole_docs c.in-Ok.text.now (map doc_fields c.in-Ok-all_docs.docs) c.in-Ok-all_docs.ensures
