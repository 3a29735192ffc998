-- The text that is written is that of the answer's value.
use Rattle.std.proofs.Common.{ap, map, ◌∙◌}
use Rattle.std.specs.Arc.{arc_value}
use Rattle.std.proofs.lemmas.Result.{IfOk-weaker}
use Rattle.serde_json.proofs.FreeTexts.{text_of_value}
use Rattle.sc_reply.specs.Bodies.{select_data, select_text}
use Rattle.sc_reply.proofs.FloatLemmas.{no_float-select}
use Rattle.sc_reply.proofs.documents.select_body.Goals as goal

pub returns : goal.returns
returns c =
    let found = c.args.found in
    let start = c.args.start in
    let writes = map arc_value c.as_slice.result.now in
    IfOk-weaker c.written.result _ _
    (λ text sent. text_of_value (select_data found start writes) sent.0 text sent.1 sent.2 (no_float-select found start writes)
    ∙ ap (λ docs. select_text found start (map arc_value docs)) c.as_slice.ensures) c.written.ensures
