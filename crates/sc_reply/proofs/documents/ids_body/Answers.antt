-- The text that is written is that of the answer's value.
use Rattle.std.proofs.Common.{ap, map, ◌∙◌}
use Rattle.std.specs.Arc.{arc_value}
use Rattle.std.proofs.lemmas.Result.{IfOk-weaker}
use Rattle.serde_json.proofs.FreeTexts.{text_of_value}
use Rattle.sc_reply.specs.Bodies.{ids_data, ids_text}
use Rattle.sc_reply.proofs.FloatLemmas.{no_float-ids}
use Rattle.sc_reply.proofs.documents.ids_body.Goals as goal

pub returns : goal.returns
returns c =
    let writes = map arc_value c.as_slice.result.now in
    IfOk-weaker c.written.result _ _
    (λ text sent. text_of_value (ids_data writes) sent.0 text sent.1 sent.2 (no_float-ids writes) ∙ ap (λ docs. ids_text (map arc_value docs)) c.as_slice.ensures) c.written.ensures
