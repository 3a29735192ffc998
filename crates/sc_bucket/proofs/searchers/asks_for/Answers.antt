-- A route asks for the slices whose ranges meet its own.
use Rattle.std.proofs.Common.{sym, ap, ◌∙◌}
use Rattle.std.proofs.lemmas.Bool.Decides.{same_from_decides}
use Rattle.sc_bucket.specs.Asked.{asks_for}
use Rattle.sc_bucket.proofs.AskedLemmas.{asks_for-Decides}
use Rattle.sc_bucket.proofs.searchers.asks_for.Goals as goal

pub returns-in-Some : goal.returns-in-Some
returns-in-Some c =
    same_from_decides c.meets.result _ c.meets.ensures (asks_for-Decides c.in-Some.route c.args.range.now)
    ∙ ap (λ r. asks_for r c.args.range.now) (sym c.in-Some.is)
