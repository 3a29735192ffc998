-- The answer has no number but whole ones.
use Rattle.std.proofs.Common.{ap, ◌∙◌}
use Rattle.serde_json.specs.Written.{has_float}
use Rattle.sc_reply.proofs.FloatLemmas.{no_float-error}
use Rattle.sc_reply.proofs.update.error_body.Goals as goal

pub text_of-requires : goal.text_of-requires
text_of-requires c = ap has_float c.in_ok-value.ensures ∙ no_float-error c.args.code c.args.message.now c.args.adds.now c.args.deletes.now c.args.versions
