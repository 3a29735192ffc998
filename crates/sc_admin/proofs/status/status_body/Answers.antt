-- The answer has no number but whole ones.
use Rattle.std.proofs.Common.{ap, ◌∙◌}
use Rattle.serde_json.specs.Written.{has_float}
use Rattle.sc_admin.proofs.FloatLemmas.{no_float-status}
use Rattle.sc_admin.proofs.status.status_body.Goals as goal

pub text_of-requires : goal.text_of-requires
text_of-requires c = ap has_float c.in_ok-value.ensures ∙ no_float-status c.args.map.now c.args.nodes
