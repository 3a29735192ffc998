-- `passes_of`: the desk is over this collection, whose home it has.
use Rattle.std.proofs.Common.{sym, ◌∙◌, subst}
use Rattle.std.proofs.lemmas.Option.{same_Some}
use Rattle.sc_shared.specs.Collections.{Locks}
use Rattle.sc_shared.specs.Sharing.{ArePasses}
use Rattle.sc_tests.proofs.collections.passes_of.Goals as goal

pub returns : goal.returns
returns g c = subst (λ (locks : Locks). ArePasses locks c.into_passes.result)
    (same_Some c.args.desk.locks c.args.collection.now (sym c.into_passes.ensures.home ∙ c.requires.home)) c.into_passes.ensures.passes
