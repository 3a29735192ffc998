-- The answer has no number but whole ones.
use Rattle.std.proofs.Common.{ap, ◌∙◌}
use Rattle.serde_json.specs.Written.{has_float}
use Rattle.sc_admin.proofs.FloatLemmas.{no_float-split}
use Rattle.sc_admin.proofs.split.split_body.Goals as goal

pub text_of-requires : goal.text_of-requires
text_of-requires c = ap has_float c.in_ok-value.ensures ∙ no_float-split c.args.subs.now c.args.committed
