-- The answer has no number but whole ones.
use Rattle.std.proofs.Common.{ap, ◌∙◌}
use Rattle.serde_json.specs.Written.{has_float}
use Rattle.sc_reply.proofs.FloatLemmas.{no_float-update}
use Rattle.sc_reply.proofs.update.update_body.Goals as goal

pub text_of-requires : goal.text_of-requires
text_of-requires c = ap has_float c.in_ok-value.ensures ∙ no_float-update c.args.adds.now c.args.deletes.now c.args.versions
