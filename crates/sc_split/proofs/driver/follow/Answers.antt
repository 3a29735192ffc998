-- The further replicas join once the further cores are started.
use Rattle.std.proofs.Common.{◌∙◌, sym}
use Rattle.std.proofs.lemmas.Result.{on_ok_weaker}
use Rattle.sc_split.proofs.driver.follow.Goals as goal

pub returns-in_err-follow_all-clause-opened : goal.returns-in_err-follow_all-clause-opened
returns-in_err-follow_all-clause-opened g c split all at =
    c.follow_all.ensures.opened split (all ∙ sym c.as_slice.ensures) at

pub returns-clause-opened : goal.returns-clause-opened
returns-clause-opened g c split all at = c.follow_all.ensures.opened split (all ∙ sym c.as_slice.ensures) at

pub returns-clause-whole : goal.returns-clause-whole
returns-clause-whole g c =
    on_ok_weaker c.ask-2.result (λ steady split all at. c.in_ok-follow_all.ensures.whole split (all ∙ sym c.as_slice.ensures) at) c.ask-2.ensures.steady
