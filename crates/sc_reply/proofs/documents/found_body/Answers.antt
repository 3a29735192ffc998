-- The text that is written is that of the answer's value.
use Rattle.std.proofs.Common.{Some}
use Rattle.std.proofs.lemmas.Result.{IfOk-weaker}
use Rattle.serde_json.proofs.FreeTexts.{text_of_value}
use Rattle.sc_reply.specs.Bodies.{get_data}
use Rattle.sc_reply.proofs.FloatLemmas.{no_float-get}
use Rattle.sc_reply.proofs.documents.found_body.Goals as goal

pub returns : goal.returns
returns c =
    let write = c.args.write.now in
    IfOk-weaker c.written.result _ _ (λ text sent. text_of_value (get_data (Some write)) sent.0 text sent.1 sent.2 (no_float-get write)) c.written.ensures
