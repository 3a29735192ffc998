-- The tokens are the parts between commas.
use Rattle.std.proofs.Common.{rules}
use Rattle.std.specs.Prelude.{◌==◌}
use Rattle.std.proofs.lemmas.Iterator.Search.{any_from_yields_List}
use Rattle.std.proofs.lemmas.Iterator.Splits.{YieldsList-from_slice_split}
use Rattle.sc_model.specs.Heads.{comma}
use Rattle.sc_http.specs.Lines.{is_close}
use Rattle.sc_http.proofs.lines.says_close.Goals as goal

pub returns : goal.returns
returns c =
    any_from_yields_List is_close _ _ c.any.result c.any.ensures.ran
    (YieldsList-from_slice_split _ (λ b. b == comma) c.args.value.now c.split.ensures.rest c.split.ensures.done c.split.ensures.closure (λ x b q h. search rules))
    (λ x b q h. search rules)
